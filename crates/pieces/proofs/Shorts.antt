-- THE TEXTS OF A LINE: where they stand, and how long they are, the length being one byte of the line.
--   byte_small                a byte that two digits stand for is at most 255
--   text-short                a text is at most 255 bytes long
--   text-within, text-is      the part of a text is within the line, and its digits stand for the text
--   text-digits               they are those of its part
--   text-size                 there are two digits for each byte of it
use Prim.Native.Nat.{ℕ, zero, suc, ◌+◌, ◌-◌, ◌*◌, ◌<◌, ◌≤◌}
use native.Mathlib.Omega.{arith}
use mathlib.Core.Bool.{true}
use mathlib.Core.List.{List, [], ◌∷◌}
use mathlib.Core.Path.{◌≡◌, ap}
use lib.ListN.{length, take, drop, get_or, length-take, length-drop}
use Rattle.laws.specs.Bytes.{Bytes}
use Rattle.laws.specs.Lists.{All}
use Rattle.laws.proofs.Counts.{All-drop}
use Rattle.frames.specs.Hex.{unhex}
use Rattle.frames.specs.Frames.{frame_of, framed, texts, texts_of}
use Rattle.frames.specs.Parts.{part_of}
use Rattle.frames.specs.declared.Frame.{Frame}
use Rattle.frames.specs.declared.TextPart.{TextPart}
use Rattle.frames.proofs.Digits.{value-under}
use Rattle.frames.proofs.Parts.{part-within, part-text}
use Rattle.pieces.specs.Texts.{line_text}

pub byte_small : (s : Bytes) → All (λ b. b ≤ 255) (unhex s)
byte_small [] = tt
byte_small (a ∷ []) = tt
byte_small (a ∷ b ∷ s) = (omega (arith, value-under a, value-under b), byte_small s)

texts-short : (n : ℕ) (s : Bytes) → All (λ b. b ≤ 255) s → All (λ t. length t ≤ 255) (texts n s)
texts-short zero s h = tt
texts-short (suc n) [] h = tt
texts-short (suc n) (b ∷ s) h = (omega (arith, length-take b s, h.0), texts-short n (drop b s) (All-drop (λ b. b ≤ 255) b s h.1))

each-short : (ts : List Bytes) (i : ℕ) → All (λ t. length t ≤ 255) ts → length (get_or ts i []) ≤ 255
each-short [] i h = omega arith
each-short (t ∷ ts) zero h = h.0
each-short (t ∷ ts) (suc i) h = each-short ts i h.1

pub text-short : (n i : ℕ) (line : Bytes) → length (line_text n i (unhex line)) ≤ 255
text-short n i line =
    each-short (texts_of (frame_of n) (unhex line)) i
    (texts-short (frame_of n).texts (drop (1 + (frame_of n).lead) (unhex line)) (All-drop (λ b. b ≤ 255) (1 + (frame_of n).lead) (unhex line) (byte_small line)))

-- ─── where a text stands, as a function answers it ───

module _ (n i : ℕ) (line : Bytes) (p : TextPart) (f : Frame) (e : f ≡ frame_of n) (q : p ≡ part_of f i (unhex line)) where
  told : p ≡ part_of (frame_of n) i (unhex line)
  told = rw (← e) q

  size : p.length ≡ length (line_text n i (unhex line)) * 2
  size = ap (λ (x : TextPart). x.length) told

  module _ (h : framed (frame_of n) (unhex line) ≡ true) (l : i < (frame_of n).texts) where
    pub text-within : p.start + p.length ≤ length line
    text-within = rw told (part-within (frame_of n) line h i l)

    pub text-digits : take (p.start + p.length - p.start) (drop p.start line) ≡ take (part_of (frame_of n) i (unhex line)).length (drop (part_of (frame_of n) i (unhex line)).start line)
    text-digits =
        let a : p.start + p.length - p.start ≡ p.length = omega arith in
        rw (a, told)

    pub text-is : unhex (take (p.start + p.length - p.start) (drop p.start line)) ≡ line_text n i (unhex line)
    text-is =
        let a : p.start + p.length - p.start ≡ p.length = omega arith in
        rw (a, told) (part-text (frame_of n) line h i l)

    pub text-size : length (take (p.start + p.length - p.start) (drop p.start line)) ≡ length (unhex (take (p.start + p.length - p.start) (drop p.start line))) * 2
    text-size = omega (arith, size, ap length text-is, length-take (p.start + p.length - p.start) (drop p.start line), length-drop p.start line, text-within)
