-- AN ANSWER WHOSE ERROR IS MAPPED, in plain variables.
--   mapped       it is a function of the error, where the closure's answers are
--   close-maps   a closing tag that does not stand there: the place is the farthest of two
use Prim.Native.Nat.{ℕ, max}
use mathlib.Core.Path.{◌≡◌, ap, ◌∙◌}
use Rattle.std.specs.Prelude.{Result, Ok, Err, MatchResult, IsErrAnd}
use Rattle.std.proofs.lemmas.Result.{err_from_is_err_and}
use Rattle.laws.specs.Bytes.{Bytes}
use Rattle.plan.specs.Plan.{Found, close_tag, found}
use Rattle.reader.specs.Told.{Gone, closed_by, closed_at}

pub mapped : {X E D : Type 0} (r : Result X E) (z : Result X D) (Q : E → D → Type 0) (g : E → D) → ((e : E) (d : D) → Q e d → d ≡ g e)
    → MatchResult r (λ x. z ≡ Ok x) (λ e. IsErrAnd z (Q e)) → MatchResult r (λ x. z ≡ Ok x) (λ e. z ≡ Err (g e))
mapped (Ok x) z Q g h m = m
mapped (Err e) z Q g h m = let p = err_from_is_err_and z m in p.1 ∙ ap Err (h e p.0 p.2)

pub close-maps : (t s : Bytes) (e far at : ℕ) (x : Found) (z : Gone) → x ≡ found s at (close_tag t e) → MatchResult x (λ p. z ≡ Ok p) (λ p. z ≡ Err (max far p)) → z ≡ closed_at t s e far at
unfolding closed_at
close-maps t s e far at (Ok p) z q m = m ∙ ap (closed_by far) q
close-maps t s e far at (Err p) z q m = m ∙ ap (closed_by far) q
