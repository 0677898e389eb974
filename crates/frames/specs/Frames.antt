-- FRAMES: what a line holds. To be believed; definitions only.
-- A frame is described by its kind byte, the number of its lead bytes and the number of its texts. A text is a length byte and its bytes.
--   creditor_frame, collection_frame   the two frames of document 01
--   frame_of n                        the frame that line n must hold
--   holds n s                        s is n texts, with nothing after the last
--   texts n s                        the first n texts of s
--   framed f s                       the bytes s are a frame f
--   is_frame f l                      the line l holds a frame f, and LF ends it
--   lead_of f s, texts_of f s   the lead bytes and the texts of a frame's bytes
use Rattle.std.specs.Prelude.{ℕ, zero, suc, ◌+◌, Bool, true, false, ◌&&◌, List, [], ◌∷◌, eqb, leb, length, take, drop}
use Rattle.laws.specs.Bytes.{Bytes}
use Rattle.frames.specs.declared.Frame.{Frame}
use Rattle.frames.specs.Lines.{Line}
use Rattle.frames.specs.Hex.{hex, unhex}
use Rattle.frames.specs.Fields.{creditor_fields, collection_fields, by_line}

-- byte 1, then the texts
abbrev pub creditor_frame : Frame
creditor_frame = record { kind = 1; lead = 0; texts = length creditor_fields }

-- byte 2, scheme, sequence, cents in five bytes, then the texts
abbrev pub collection_frame : Frame
collection_frame = record { kind = 2; lead = 7; texts = length collection_fields }

abbrev pub frame_of : ℕ → Frame
frame_of n = by_line n creditor_frame collection_frame

abbrev pub holds : ℕ → Bytes → Bool
holds zero [] = true
holds zero (b ∷ s) = false
holds (suc n) [] = false
holds (suc n) (b ∷ s) = leb b (length s) && holds n (drop b s)

abbrev pub texts : ℕ → Bytes → List Bytes
texts zero s = []
texts (suc n) [] = []
texts (suc n) (b ∷ s) = take b s ∷ texts n (drop b s)

abbrev pub framed : Frame → Bytes → Bool
framed f [] = false
framed f (k ∷ s) = eqb k f.kind && (leb f.lead (length s) && holds f.texts (drop f.lead s))

abbrev pub is_frame : Frame → Line → Bool
is_frame f l = l.ended && (hex l.bytes && framed f (unhex l.bytes))

-- after the kind byte
abbrev pub lead_of : Frame → Bytes → Bytes
lead_of f s = take f.lead (drop 1 s)

-- after the lead bytes
abbrev pub texts_of : Frame → Bytes → List Bytes
texts_of f s = texts f.texts (drop (1 + f.lead) s)
