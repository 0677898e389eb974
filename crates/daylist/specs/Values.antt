-- THE VALUES of a line, field by field. To be believed; definitions only.
--   collection_lead s      the fields of a collection before its texts, judged: scheme, sequence and cents
--   judged_lead n s        those of line n: of a creditor line none
--   judged_texts fs ts     the texts ts judged as the fields fs
--   judged_fields n s      all fields of line n, of which s are the bytes, in order
--   JudgedLine             good, or the flaw of the first field that breaks its rule, and the number of that field, from 1
--   bad f i                the field i breaks its rule by the flaw f
--   first_bad k js         the first that breaks its rule, by its flaw and its number; k fields stand before js
--   judged_line n s        line n judged: its first field that breaks its rule, numbered from 1, else good
use Rattle.std.specs.Prelude.{ℕ, ◌+◌, List, [], ◌∷◌, ◌++◌, drop, get_or, Result, Err, Ok}
use Rattle.laws.specs.Bytes.{Bytes}
use Rattle.text.specs.Rules.{Judged}
use Rattle.frames.specs.declared.Field.{Field}
use Rattle.profile.specs.declared.Flaw.{Flaw}
use Rattle.daylist.specs.declared.BadField.{BadField}
use Rattle.daylist.specs.Lead.{lead_scheme, lead_sequence, lead_cents}
use Rattle.frames.specs.Fields.{by_line, fields_of, judged_field}
use Rattle.frames.specs.Frames.{frame_of, lead_of, texts_of}

abbrev pub JudgedLine : Type 0
JudgedLine = Result (Unit {0}) BadField

abbrev pub bad : Flaw → ℕ → JudgedLine
bad f i = Err (record { flaw = f; field = i })

abbrev pub collection_lead : Bytes → List Judged
collection_lead s = lead_scheme (get_or s 0 0) ∷ lead_sequence (get_or s 1 0) ∷ lead_cents (drop 2 s) ∷ []

abbrev pub judged_lead : ℕ → Bytes → List Judged
judged_lead n s = by_line n [] (collection_lead s)

abbrev pub judged_texts : List Field → List Bytes → List Judged
judged_texts [] ts = []
judged_texts (f ∷ fs) [] = []
judged_texts (f ∷ fs) (t ∷ ts) = judged_field f t ∷ judged_texts fs ts

abbrev pub judged_fields : ℕ → Bytes → List Judged
judged_fields n s = judged_lead n (lead_of (frame_of n) s) ++ judged_texts (fields_of n) (texts_of (frame_of n) s)

-- the field i, judged j; a good one leaves it to those after it
abbrev pub else : ℕ → Judged → JudgedLine → JudgedLine
else i (Ok n) l = l
else i (Err f) l = bad f i

abbrev pub first_bad : ℕ → List Judged → JudgedLine
first_bad k [] = Ok tt
first_bad k (j ∷ js) = else (k + 1) j (first_bad (k + 1) js)

abbrev pub judged_line : ℕ → Bytes → JudgedLine
judged_line n s = first_bad 0 (judged_fields n s)
