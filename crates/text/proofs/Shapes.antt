-- A TEXT OF A FRONT THAT FITS A PATTERN AND A REST OF A CLASS, as an IBAN and a creditor identifier are. The code lends the rest as a part up to the end.
--   front_four                      a front of the marks A, D and N has four of them
--   shaped_longer, shaped-letters   of a text that is shaped: it is longer than the front, and of letters and digits
--   leaves-twice                    the remainder of a rest, and then of the first four after it, is what both leave
use Prim.Native.Nat.{ℕ, ◌-◌, ◌≤◌, ◌<◌, ◌%◌}
use native.Mathlib.Omega.{arith}
use mathlib.Core.Bool.{Bool, true, false, ◌&&◌, ◌||◌, or-true}
use mathlib.Core.List.{◌++◌}
use mathlib.Core.Path.{◌≡◌, sym, ◌∙◌}
use lib.Dec.{T, eqb, leb, leb→le}
use lib.ListN.{length, take, drop, length-drop, take-append-drop}
use lib.Seq.{length-take-le, take-append_seam, drop-append_seam}
use Rattle.laws.specs.Bytes.{Bytes, ascii, between, all, has}
use Rattle.laws.proofs.Tests.{T_true, true-T, and_l, and_r}
use Rattle.laws.proofs.Loops.{drop-part, all_append, all-widen}
use Rattle.marks.specs.Marks.{digit, capital, small, letter_or_digit, mark, fits, spelled_from}
use Rattle.marks.proofs.Classes.{between_low, fits_all}
use Rattle.marks.proofs.Numbers.{remainder_append}
use Rattle.text.specs.Rules.{leaves}
use Rattle.text.specs.Shapes.{shaped, letter_marks, OfLetters}

-- the marks A, D and N stand for letters and digits: 65, 68 and 78
mark-letters : (p c : ℕ) → T (has (ascii "ADN") p) → T (mark p c) → T (letter_or_digit c)
mark-letters p c = go (eqb p 65) (eqb p 68) (eqb p 78) (capital c) (digit c) (eqb p c) (small c)
  where
    go : (a d n k i x l : Bool) → T (a || (d || (n || false))) → T (elim d [ true ↦ i | false ↦ elim a [ true ↦ k | false ↦ elim n [ true ↦ k || i | false ↦ x ] ] ]) → T ((k || i) || l)
    go a true n k i x l m t = rw (T_true i t, or-true k) tt
    go true false n k i x l m t = rw (T_true k t) tt
    go false false true k i x l m t = rw (T_true (k || i) t) tt
    go false false false k i x l m t = absurd m

pub front_four : (p : Bytes) → letter_marks p ≡ true → 4 ≤ length p
front_four p e = leb→le 4 (length p) (and_l (leb 4 (length p)) (all (has (ascii "ADN")) p) (true-T (letter_marks p) e))

module _ (p : Bytes) (m : ℕ) (q : ℕ → Bool) (s : Bytes) where
  module _ (e : shaped p m q s ≡ true) where
    rest_tests : T (between 1 m (length (drop (length p) s)) && all q (drop (length p) s))
    rest_tests = and_r (fits p (take (length p) s)) _ (true-T (shaped p m q s) e)

    pub shaped_longer : length p < length s
    shaped_longer =
        let n = length (drop (length p) s) in
        omega (arith, between_low 1 m n (T_true (between 1 m n) (and_l (between 1 m n) (all q (drop (length p) s)) rest_tests)), length-drop (length p) s)

-- where the class is one of letters and digits
pub shaped-letters :
    (p : Bytes) (m : ℕ) (q : ℕ → Bool) (s : Bytes) → OfLetters q → letter_marks p ≡ true → shaped p m q s ≡ true → all letter_or_digit s ≡ true
shaped-letters p m q s w f e =
    let front = take (length p) s in
    let rest = drop (length p) s in
    let a = fits_all (has (ascii "ADN")) letter_or_digit mark-letters p front (and_r (leb 4 (length p)) (all (has (ascii "ADN")) p) (true-T (letter_marks p) f)) (and_l (fits p front) _ (true-T (shaped p m q s) e)) in
    let b = all-widen q letter_or_digit (λ c t. true-T (letter_or_digit c) (w c (T_true (q c) t))) rest (and_r (between 1 m (length rest)) _ (rest_tests p m q s e)) in
    T_true (all letter_or_digit s) (rw (take-append-drop (length p) s) at (all_append letter_or_digit front rest a b))

pub leaves-twice :
    (s : Bytes) (i : ℕ) → 4 ≤ length s → (l n : ℕ) → l ≡ spelled_from 0 (take (length s - i) (drop i s)) % 97 → n ≡ spelled_from l (take 4 s) % 97 →
    n ≡ leaves (take 4 s ++ drop i s)
leaves-twice s i h l n d e =
    let four : length (take 4 s) ≡ 4 = length-take-le 4 s h in
    rw (rw four at (drop-append_seam (take 4 s) (drop i s)), rw four at (take-append_seam (take 4 s) (drop i s)))
    (rw (drop-part i s) at (rw d at e) ∙ sym (remainder_append 97 0 (drop i s) (take 4 s)))
