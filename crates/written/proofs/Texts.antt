-- A TEXT THAT ITS RULE JUDGES GOOD has no byte `<`, and at most so many bytes.
--   Short n s                        s is clean and has at most n bytes
--   identifier-short, name-short, remittance-short, date-short, time-short, iban-short, bic-short, creditor_identifier_short   a good text of each rule
--   bank-short, remitted_short       a text that may be empty
--   good-clean, good_creditor_clean  the texts of a good collection, and of a good creditor, are clean
use Prim.Native.Nat.{ℕ, ◌+◌, ◌≤◌}
use native.Mathlib.Omega.{arith}
use mathlib.Core.Bool.{Bool, true, false, not, ◌&&◌, ◌||◌}
use mathlib.Core.List.{[], ◌∷◌}
use mathlib.Core.Path.{subst}
use lib.Dec.{T, T_not, leb, leb→le}
use lib.ListN.{length, take, drop, length-append, take-append-drop}
use Rattle.laws.specs.Bytes.{Bytes, ascii, between, all, same}
use Rattle.laws.proofs.Tests.{bool_cases, eqb-cases, and_l, and_r}
use Rattle.laws.proofs.Loops.{agree-length, all_append, all-widen}
use Rattle.marks.specs.Marks.{capital_or_digit, letter_or_digit, letter, mark, fits}
use Rattle.marks.proofs.Classes.{fits_all}
use Rattle.profile.specs.declared.Flaw.{Flaw}
use Rattle.text.specs.Rules.{Judged, must, good, plain, identifier, name, remittance, value_at, real_day, dated, date, clock, time, iban, bic, creditor_identifier}
use Rattle.tree.specs.Form.{in_text}
use Rattle.collections.specs.Listed.{Collection, Creditor}
use Rattle.collections.specs.Good.{empty_or, GoodCollection, GoodCreditor}
use Rattle.written.proofs.Clean.{clean, Clean, CleanCreditor}

pub record Short (n : ℕ) (s : Bytes) : Type 0 where
  pub clean : T (clean s)
  pub most : length s ≤ n

-- ─── tests ───

-- a good judgement comes of a test that held
module _ (b : Bool) (f : Flaw) (j : Judged) where
  held : T (good (must b f j)) → T b
  held = go b
    where
      go : (b : Bool) → T (good (must b f j)) → T b
      go true t = tt
      go false t = t

  behind : T (good (must b f j)) → T (good j)
  behind = go b
    where
      go : (b : Bool) → T (good (must b f j)) → T (good j)
      go true t = t
      go false t = absurd t

-- ─── classes and patterns: 60 is `<` ───

not_60 : (p : ℕ → Bool) → (T (p 60) → ⊥) → (c : ℕ) → T (p c) → T (in_text c)
not_60 p d c t = eqb-cases (λ z. T (not z)) c 60 (λ e. d (subst (λ (b : ℕ). T (p b)) e t)) (λ n. tt)

class_clean : (p : ℕ → Bool) → (T (p 60) → ⊥) → (s : Bytes) → T (all p s) → T (clean s)
class_clean p d = all-widen p in_text (not_60 p d)

-- no mark of the pattern stands for `<`
fits-short : (p s : Bytes) → T (all (λ k. not (mark k 60)) p) → T (fits p s) → Short (length p) s
fits-short p s m t = record {
  clean = fits_all (λ k. not (mark k 60)) in_text (λ k c d. not_60 (mark k) (λ u. T_not (mark k 60) d u) c) p s m t;
  most = omega (arith, agree-length mark p s t);
}

widen : (n m : ℕ) (s : Bytes) → n ≤ m → Short n s → Short m s
widen n m s h a = record { clean = a.clean; most = omega (arith, a.most) }

-- a front and a rest
parts-short : (k n m : ℕ) (s : Bytes) → Short n (take k s) → Short m (drop k s) → Short (n + m) s
parts-short k n m s a b = record {
  clean = rw (take-append-drop k s) at (all_append in_text (take k s) (drop k s) a.clean b.clean);
  most = omega (arith, a.most, b.most, rw (take-append-drop k s) at (length-append (take k s) (drop k s)));
}

-- ─── the rules ───

plain-short : (n : ℕ) (s : Bytes) → T (between 1 n (length s)) → T (all letter s) → Short n s
plain-short n s l t = record { clean = class_clean letter (λ u. u) s t; most = leb→le (length s) n (and_r (leb 1 (length s)) (leb (length s) n) l) }

module _ (s : Bytes) where
  pub identifier-short : T (good (identifier s)) → Short 35 s
  identifier-short t = plain-short 35 s (held (between 1 35 (length s)) _ _ t) (held (all letter s) _ _ (behind (between 1 35 (length s)) _ _ t))

  text-short : (n : ℕ) → T (good (plain n s)) → Short n s
  text-short n t = plain-short n s (held (between 1 n (length s)) _ _ t) (held (all letter s) _ _ (behind (between 1 n (length s)) _ _ t))

  pub name-short : T (good (name s)) → Short 70 s
  name-short = text-short 70

  pub remittance-short : T (good (remittance s)) → Short 140 s
  remittance-short = text-short 140

dated-short : (s : Bytes) → T (dated s) → Short 10 s
dated-short s t = fits-short (ascii "DDDD-DD-DD") s tt (and_l (fits (ascii "DDDD-DD-DD") s) (real_day (value_at 0 4 s) (value_at 5 2 s) (value_at 8 2 s)) t)

clock-short : (s : Bytes) → T (clock s) → Short 9 s
clock-short s t =
    fits-short (ascii "TDD:DD:DD") s tt (and_l (fits (ascii "TDD:DD:DD") s) (between 0 23 (value_at 1 2 s) && (between 0 59 (value_at 4 2 s) && between 0 59 (value_at 7 2 s))) t)

-- a front that fits a pattern, and a rest of a class
shaped-short : (p : Bytes) (k m : ℕ) (q : ℕ → Bool) (s : Bytes) → T (all (λ c. not (mark c 60)) p) → (T (q 60) → ⊥)
    → T (fits p (take k s) && (between 1 m (length (drop k s)) && all q (drop k s))) → Short (length p + m) s
shaped-short p k m q s u d t =
    let r = and_r (fits p (take k s)) (between 1 m (length (drop k s)) && all q (drop k s)) t in
    parts-short k (length p) m s (fits-short p (take k s) u (and_l (fits p (take k s)) (between 1 m (length (drop k s)) && all q (drop k s)) t)) (record {
      clean = class_clean q d (drop k s) (and_r (between 1 m (length (drop k s))) (all q (drop k s)) r);
      most =
          leb→le (length (drop k s)) m (and_r (leb 1 (length (drop k s))) (leb (length (drop k s)) m) (and_l (between 1 m (length (drop k s))) (all q (drop k s)) r));
    })

module _ (s : Bytes) where
  pub date-short : T (good (date s)) → Short 10 s
  date-short t = dated-short s (held (dated s) _ _ t)

  pub time-short : T (good (time s)) → Short 19 s
  time-short t =
      let h = held (dated (take 10 s) && clock (drop 10 s)) _ _ t in
      parts-short 10 10 9 s (dated-short (take 10 s) (and_l (dated (take 10 s)) (clock (drop 10 s)) h))
      (clock-short (drop 10 s) (and_r (dated (take 10 s)) (clock (drop 10 s)) h))

  pub iban-short : T (good (iban s)) → Short 34 s
  iban-short t = shaped-short (ascii "AADD") 4 30 letter_or_digit s tt (λ u. u) (held (fits (ascii "AADD") (take 4 s) && (between 1 30 (length (drop 4 s)) && all letter_or_digit (drop 4 s))) _ _ t)

  pub bic-short : T (good (bic s)) → Short 11 s
  bic-short t =
      let eight = fits (ascii "NNNNAANN") s in
      let eleven = fits (ascii "NNNNAANNNNN") s in
      bool_cases (λ z. T (z || eleven) → Short 11 s) eight (λ u v. widen 8 11 s (omega arith) (fits-short (ascii "NNNNAANN") s tt u)) (λ u v. fits-short (ascii "NNNNAANNNNN") s tt v)
      (and_l (eight || eleven) (not (same s (ascii "NOTPROVIDED"))) (held ((eight || eleven) && not (same s (ascii "NOTPROVIDED"))) _ _ t))

  pub creditor_identifier_short : T (good (creditor_identifier s)) → Short 35 s
  creditor_identifier_short t = shaped-short (ascii "AADDNNN") 7 28 capital_or_digit s tt (λ u. u) (held (fits (ascii "AADDNNN") (take 7 s) && (between 1 28 (length (drop 7 s)) && all capital_or_digit (drop 7 s))) _ _ t)

-- ─── the values of a list ───

-- nothing, or a good text
empty_or_lem : (r : Bytes → Judged) (n : ℕ) → ((s : Bytes) → T (good (r s)) → Short n s) → (s : Bytes) → T (empty_or r s) → Short n s
empty_or_lem r n f [] t = record { clean = tt; most = omega arith }
empty_or_lem r n f (c ∷ s) t = f (c ∷ s) t

pub bank-short : (s : Bytes) → T (empty_or bic s) → Short 11 s
bank-short = empty_or_lem bic 11 bic-short

pub remitted_short : (s : Bytes) → T (empty_or remittance s) → Short 140 s
remitted_short = empty_or_lem remittance 140 remittance-short

pub good-clean : (x : Collection) → GoodCollection x → Clean x
good-clean x h = record {
  date = (date-short x.terms.date h.terms.date).clean;
  end_to_end = (identifier-short x.end_to_end h.end_to_end).clean;
  mandate = (identifier-short x.mandate h.mandate).clean;
  signature_date = (date-short x.signature_date h.signature_date).clean;
  bank = (bank-short x.bank h.bank).clean;
  debtor_name = (name-short x.debtor_name h.debtor_name).clean;
  debtor_account = (iban-short x.debtor_account h.debtor_account).clean;
  remittance = (remitted_short x.remittance h.remittance).clean;
}

pub good_creditor_clean : (cr : Creditor) → GoodCreditor cr → CleanCreditor cr
good_creditor_clean cr h = record {
  message_id = (identifier-short cr.message_id h.message_id).clean;
  creation_time = (time-short cr.creation_time h.creation_time).clean;
  initiating_name = (name-short cr.initiating_name h.initiating_name).clean;
  name = (name-short cr.name h.name).clean;
  account = (iban-short cr.account h.account).clean;
  bank = (bank-short cr.bank h.bank).clean;
  identifier = (creditor_identifier_short cr.identifier h.identifier).clean;
}
