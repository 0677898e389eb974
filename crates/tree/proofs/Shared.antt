-- Beginnings that two lists of bytes share.
use Rattle.laws.proofs.Tests.{eqb-cases}
use Prim.Native.Nat.{ℕ, zero, suc, ◌+◌, ◌≤◌, zero-le, suc-le-suc}
use native.Mathlib.Nat.{zero-add, suc-add, le_of_suc-le-suc, not-suc-le-zero}
use mathlib.Core.Bool.{true, false}
use mathlib.Core.List.{[], ◌∷◌, ◌++◌, tail}
use mathlib.Core.Path.{◌≡◌, refl, ap, subst}
use mathlib.Core.Logic.{◌≢◌}
use lib.ListN.{length}
use Rattle.laws.specs.Bytes.{Bytes}
use Rattle.tree.specs.Form.{common}

-- the two lists differ, and share at most n bytes
abbrev pub Off : Bytes → Bytes → ℕ → Type 0
Off [] [] n = ⊥
Off [] (b ∷ w) n = Unit {0}
Off (a ∷ s) [] n = Unit {0}
Off (a ∷ s) (b ∷ w) zero = a ≢ b
Off (a ∷ s) (b ∷ w) (suc n) = a ≡ b → Off s w n

-- the two lists share at least n bytes
abbrev pub Shares : Bytes → Bytes → ℕ → Type 0
Shares s w zero = Unit {0}
Shares [] w (suc n) = ⊥
Shares (a ∷ s) [] (suc n) = ⊥
Shares (a ∷ s) (b ∷ w) (suc n) = (a ≡ b) × Shares s w n

pub off_self : (s : Bytes) (n : ℕ) → Off s s n → ⊥
off_self [] n o = o
off_self (a ∷ s) zero o = o refl
off_self (a ∷ s) (suc n) o = off_self s n (o refl)

pub off_neq : (s w : Bytes) (n : ℕ) → Off s w n → s ≢ w
off_neq s w n o e = off_self w n (subst (λ (l : Bytes). Off l w n) e o)

pub off_mono : (s w : Bytes) (n m : ℕ) → n ≤ m → Off s w n → Off s w m
off_mono [] [] n m h o = o
off_mono [] (b ∷ w) n m h o = tt
off_mono (a ∷ s) [] n m h o = tt
off_mono (a ∷ s) (b ∷ w) zero zero h o = o
off_mono (a ∷ s) (b ∷ w) zero (suc m) h o = λ e. absurd (o e)
off_mono (a ∷ s) (b ∷ w) (suc n) zero h o = absurd (not-suc-le-zero h)
off_mono (a ∷ s) (b ∷ w) (suc n) (suc m) h o = λ e. off_mono s w n m (le_of_suc-le-suc h) (o e)

pub off_append : (t s w : Bytes) (n : ℕ) → Off s w n → Off (t ++ s) (t ++ w) (length t + n)
off_append [] s w n o = rw zero-add o
off_append (a ∷ t) s w n o = rw suc-add (λ e. off_append t s w n o)

pub shares_append : (t s w : Bytes) (n : ℕ) → Shares s w n → Shares (t ++ s) (t ++ w) (length t + n)
shares_append [] s w n o = rw zero-add o
shares_append (a ∷ t) s w n o = rw suc-add (refl, shares_append t s w n o)

pub append_cancel : (t s w : Bytes) → t ++ s ≡ t ++ w → s ≡ w
append_cancel [] s w e = e
append_cancel (a ∷ t) s w e = append_cancel t s w (ap tail e)

pub off_common : (s w : Bytes) (n : ℕ) → Off s w n → common s w ≤ n
off_common [] w n o = zero-le
off_common (a ∷ s) [] n o = zero-le
off_common (a ∷ s) (b ∷ w) zero o = eqb-cases (λ z. elim z [ true ↦ suc (common s w) | false ↦ 0 ] ≤ 0) a b (λ e. absurd (o e)) (λ e. zero-le)
off_common (a ∷ s) (b ∷ w) (suc n) o =
    eqb-cases (λ z. elim z [ true ↦ suc (common s w) | false ↦ 0 ] ≤ suc n) a b (λ e. suc-le-suc (off_common s w n (o e))) (λ e. zero-le)

pub shares_common : (s w : Bytes) (n : ℕ) → Shares s w n → n ≤ common s w
shares_common s w zero h = zero-le
shares_common [] w (suc n) h = absurd h
shares_common (a ∷ s) [] (suc n) h = absurd h
shares_common (a ∷ s) (b ∷ w) (suc n) h =
    eqb-cases (λ z. suc n ≤ elim z [ true ↦ suc (common s w) | false ↦ 0 ]) a b (λ e. suc-le-suc (shares_common s w n h.1)) (λ e. absurd (e h.0))
