-- What `eat` and `span` find.
use Prim.Native.Nat.{ℕ, suc, ◌≤◌}
use native.Mathlib.Omega.{arith}
use mathlib.Core.Bool.{Bool, true, false}
use mathlib.Core.List.{[], ◌∷◌, ◌++◌}
use mathlib.Core.Path.{◌≡◌, refl, ap, ap₂, sym}
use lib.Dec.{T}
use lib.ListN.{length, take, drop, length-append, length-drop, take-append-drop}
use lib.Seq.{length-take-le}
use Rattle.laws.proofs.Loops.{all-span, span_le}
use Rattle.laws.specs.Bytes.{Bytes, all, span}
use Rattle.laws.proofs.Tests.{eqb-cases}
use Rattle.tree.specs.Tags.{Eat, Eat.ate, Eat.miss, one_more, eat}
use Rattle.tree.proofs.Shared.{Off, Shares}

-- ─── eat ───

abbrev pub Eaten : Bytes → Bytes → Eat → Type 0
Eaten t s (ate r) = s ≡ t ++ r
Eaten t s (miss n) = Shares s t n × ((x : Bytes) → Off s (t ++ x) n)

eaten-more : (a b : ℕ) (t s : Bytes) → a ≡ b → (m : Eat) → Eaten t s m → Eaten (a ∷ t) (b ∷ s) (one_more m)
eaten-more a b t s e (ate r) h = ap₂ {C = Bytes} (λ (c : ℕ) (l : Bytes). c ∷ l) (sym e) h
eaten-more a b t s e (miss n) h = ((sym e, h.0), λ x d. h.1 x)

pub eaten : (t s : Bytes) → Eaten t s (eat t s)
eaten [] s = refl
eaten (a ∷ t) [] = (tt, λ x. tt)
eaten (a ∷ t) (b ∷ s) =
    eqb-cases (λ z. Eaten (a ∷ t) (b ∷ s) (elim z [ true ↦ one_more (eat t s) | false ↦ miss 0 ])) a b
    (λ e. eaten-more a b t s e (eat t s) (eaten t s)) (λ d. (tt, λ x e. d (sym e)))

-- to go by cases on what `eat` finds
pub eat-cases : (P : Eat → Type 0) (t s : Bytes) → ((r : Bytes) → s ≡ t ++ r → P (ate r))
    → ((n : ℕ) → Shares s t n → ((x : Bytes) → Off s (t ++ x) n) → P (miss n)) → P (eat t s)
eat-cases P t s f g = go (eat t s) (eaten t s)
  where
    go : (m : Eat) → Eaten t s m → P m
    go (ate r) h = f r h
    go (miss n) h = g n h.0 h.1

-- ─── span ───

-- the run that `span` finds
unfoldable pub front : (p : ℕ → Bool) → Bytes → Bytes
front p s = take (span p s) s

pub front-append : (p : ℕ → Bool) (s : Bytes) → s ≡ front p s ++ drop (span p s) s
unfolding front
front-append p s = sym (take-append-drop (span p s) s)

pub front_length : (p : ℕ → Bool) (s : Bytes) → length (front p s) ≡ span p s
unfolding front
front_length p s = length-take-le (span p s) s (span_le p s)

pub front_fits : (p : ℕ → Bool) (s : Bytes) → T (all p (front p s))
unfolding front
front_fits p s = all-span p s

-- fewer bytes are left after a tag and a run
pub shorter : (t r s : Bytes) (k n : ℕ) → 1 ≤ length t → s ≡ t ++ r → length s ≤ suc k → length (drop n r) ≤ k
shorter t r s k n g e h = omega (arith, length-drop n r, length-append t r, ap length e)
