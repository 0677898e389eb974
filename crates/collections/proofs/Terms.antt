-- TERMS, and terms as numbers.
--   terms_decide   `same_terms` decides equality of terms
--   same_number    good terms are the same exactly where their numbers are
use Prim.Native.Nat.{ℕ, ◌+◌, ◌*◌, ◌≤◌}
use native.Mathlib.Omega.{arith}
use mathlib.Core.Bool.{◌&&◌}
use mathlib.Core.Path.{◌≡◌, ap}
use lib.Dec.{T, eqb, eqb→eq, eqb_refl}
use Rattle.laws.specs.Bytes.{Bytes, same}
use Rattle.laws.proofs.Tests.{and_l, and_r, and_both, true-T, same_test}
use Rattle.laws.proofs.Loops.{same_eq}
use Rattle.text.specs.Rules.{number_told, date}
use Rattle.bundle.specs.Bundle.{Decides}
use Rattle.bundle.proofs.Equality.{bytes_decide, numbers_decide, eq_true}
use Rattle.collections.specs.Listed.{Terms, same_terms}
use Rattle.collections.specs.Numbers.{terms_number}
use Rattle.collections.specs.Good.{GoodTerms}
use Rattle.collections.proofs.Dates.{date-same}

-- terms are their three parts
parts_eq : (a b c d : ℕ) (s t : Bytes) → a ≡ b → c ≡ d → s ≡ t → ◌≡◌ {A = Terms} (record { scheme = a; sequence = c; date = s }) (record { scheme = b; sequence = d; date = t })
parts_eq a b c d s t e f g = rw (e, f, g)

terms_eq : (k j : Terms) → k.scheme ≡ j.scheme → k.sequence ≡ j.sequence → k.date ≡ j.date → k ≡ j
terms_eq k j a b c = parts_eq k.scheme j.scheme k.sequence j.sequence k.date j.date a b c

pub terms_decide : Decides same_terms
terms_decide = record { right = right; self = λ k. and_both (eqb k.scheme k.scheme) _ (eqb_refl k.scheme) (and_both (eqb k.sequence k.sequence) _ (eqb_refl k.sequence) (bytes_decide.self k.date)) }
  where
    right : (k j : Terms) → T (same_terms k j) → k ≡ j
    right k j t =
        let u = and_r (eqb k.scheme j.scheme) (eqb k.sequence j.sequence && same k.date j.date) t in
        terms_eq k j (eqb→eq k.scheme j.scheme (and_l (eqb k.scheme j.scheme) _ t)) (eqb→eq k.sequence j.sequence (and_l (eqb k.sequence j.sequence) (same k.date j.date) u))
        (same_eq k.date j.date (and_r (eqb k.sequence j.sequence) (same k.date j.date) u))

-- a number is made of the day, the scheme and the sequence
unmade : (d e s t q r : ℕ) → s ≤ 1 → t ≤ 1 → q ≤ 3 → r ≤ 3 → (d * 2 + s) * 4 + q ≡ (e * 2 + t) * 4 + r → (d ≡ e) × (s ≡ t) × (q ≡ r)
unmade d e s t q r a b f g h = (omega arith, omega arith, omega arith)

pub same_number : (k j : Terms) → GoodTerms k → GoodTerms j → same_terms k j ≡ eqb (terms_number k) (terms_number j)
same_number k j g h = same_test (same_terms k j) (eqb (terms_number k) (terms_number j)) there back
  where
    there : T (same_terms k j) → T (eqb (terms_number k) (terms_number j))
    there t = true-T _ (eq_true eqb numbers_decide (terms_number k) (terms_number j) (ap terms_number (terms_decide.right k j t)))

    back : T (eqb (terms_number k) (terms_number j)) → T (same_terms k j)
    back t =
        let u = unmade (number_told (date k.date)) (number_told (date j.date)) k.scheme j.scheme k.sequence j.sequence g.scheme h.scheme g.sequence h.sequence (eqb→eq (terms_number k) (terms_number j) t) in
        true-T _ (eq_true same_terms terms_decide k j (terms_eq k j u.1 u.2 (date-same k.date j.date g.date h.date u.0)))
