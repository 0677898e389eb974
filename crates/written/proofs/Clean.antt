-- TEXTS WITHOUT THE BYTE `<`: of such a text the tree leaves nothing out.
--   clean s, Clean x, CleanCreditor cr   no byte of the text s is `<`; no text of the collection x, or of the creditor cr, has one
--   decimal-cases, decimal-all           a written number by cases, and what holds of each of its digits
--   keep-clean                           nothing of a clean text is left out
--   digit-clean, decimal-clean, euros-clean, batch_id_clean, scheme-clean, sequence-clean   numbers and words are clean
use Prim.Native.Nat.{ℕ, zero, suc, ◌+◌, ◌≤◌, ◌<◌, ◌/◌, ◌%◌}
use native.Mathlib.Nat.{mod-lt}
use native.Mathlib.Omega.{arith}
use mathlib.Core.Bool.{Bool, true, false}
use mathlib.Core.List.{[], ◌∷◌, ◌++◌}
use mathlib.Core.Path.{◌≡◌, refl, ap}
use lib.Dec.{T, ltb}
use borrow.Author.Tests.{ltb-true, ltb-false, ne_eqb}
use Rattle.laws.specs.Bytes.{Bytes, all}
use Rattle.laws.specs.Lists.{keep}
use Rattle.laws.proofs.Tests.{and_l, and_r, and_both, T_true}
use Rattle.laws.proofs.Loops.{all_append}
use Rattle.put.specs.Numerals.{last_digit, decimal_of, decimal, euros, batch_id}
use Rattle.tree.specs.Form.{in_text}
use Rattle.collections.specs.Listed.{Collection, Creditor}
use Rattle.written.specs.Written.{scheme_word, sequence_word}

-- no byte of s is `<`
abbrev pub clean : Bytes → Bool
clean s = all in_text s

pub keep-clean : (s : Bytes) → T (clean s) → keep in_text s ≡ s
keep-clean [] t = refl
keep-clean (c ∷ s) t =
    rw (T_true (in_text c) (and_l (in_text c) (clean s) t)) (ap {B = Bytes} (λ (l : Bytes). c ∷ l) (keep-clean s (and_r (in_text c) (clean s) t)))

pub record Clean (x : Collection) : Type 0 where
  pub date : T (clean x.terms.date)
  pub end_to_end : T (clean x.end_to_end)
  pub mandate : T (clean x.mandate)
  pub signature_date : T (clean x.signature_date)
  pub bank : T (clean x.bank)
  pub debtor_name : T (clean x.debtor_name)
  pub debtor_account : T (clean x.debtor_account)
  pub remittance : T (clean x.remittance)

pub record CleanCreditor (cr : Creditor) : Type 0 where
  pub message_id : T (clean cr.message_id)
  pub creation_time : T (clean cr.creation_time)
  pub initiating_name : T (clean cr.initiating_name)
  pub name : T (clean cr.name)
  pub account : T (clean cr.account)
  pub bank : T (clean cr.bank)
  pub identifier : T (clean cr.identifier)

-- ─── numbers and words ───

pub digit-clean : (n : ℕ) → T (in_text (last_digit n))
digit-clean n = rw (ne_eqb (48 + n % 10) 60 (λ e. omega (arith, mod-lt n {m = 10} (omega arith)))) tt

-- by cases on whether one digit is left
pub decimal-cases : (P : Bytes → Type 0) (most n : ℕ) → (n < 10 → P (last_digit n ∷ [])) → (10 ≤ n → P (decimal_of most (n / 10) ++ (last_digit n ∷ []))) → P (decimal_of (suc most) n)
unfolding decimal_of
decimal-cases P most n f g = go (ltb n 10) refl
  where
    go : (z : Bool) → ltb n 10 ≡ z → P (elim z [ true ↦ last_digit n ∷ [] | false ↦ decimal_of most (n / 10) ++ (last_digit n ∷ []) ])
    go true e = f (ltb-true n 10 e)
    go false e = g (ltb-false n 10 e)

pub decimal-all : (p : ℕ → Bool) → ((n : ℕ) → T (p (last_digit n))) → (most n : ℕ) → T (all p (decimal_of most n))
unfolding decimal_of
decimal-all p f zero n = tt
decimal-all p f (suc most) n =
    let d : T (all p (last_digit n ∷ [])) = and_both (p (last_digit n)) true (f n) tt in
    decimal-cases (λ s. T (all p s)) most n (λ h. d) (λ h. all_append p (decimal_of most (n / 10)) (last_digit n ∷ []) (decimal-all p f most (n / 10)) d)

pub decimal-clean : (n : ℕ) → T (clean (decimal n))
decimal-clean n = decimal-all in_text digit-clean 20 n

pub euros-clean : (n : ℕ) → T (clean (euros n))
euros-clean n =
    all_append in_text (decimal (n / 100)) (46 ∷ last_digit (n / 10) ∷ last_digit n ∷ []) (decimal-clean (n / 100))
    (and_both (in_text (last_digit (n / 10))) (clean (last_digit n ∷ [])) (digit-clean (n / 10)) (and_both (in_text (last_digit n)) true (digit-clean n) tt))

pub batch_id_clean : (n : ℕ) → T (clean (batch_id n))
batch_id_clean n =
    and_both (in_text (last_digit (n / 100))) (clean (last_digit (n / 10) ∷ last_digit n ∷ [])) (digit-clean (n / 100))
    (and_both (in_text (last_digit (n / 10))) (clean (last_digit n ∷ [])) (digit-clean (n / 10)) (and_both (in_text (last_digit n)) true (digit-clean n) tt))

pub scheme-clean : (n : ℕ) → T (clean (scheme_word n))
scheme-clean zero = tt
scheme-clean (suc zero) = tt
scheme-clean (suc (suc n)) = tt

pub sequence-clean : (n : ℕ) → T (clean (sequence_word n))
sequence-clean zero = tt
sequence-clean (suc zero) = tt
sequence-clean (suc (suc zero)) = tt
sequence-clean (suc (suc (suc zero))) = tt
sequence-clean (suc (suc (suc (suc n)))) = tt
