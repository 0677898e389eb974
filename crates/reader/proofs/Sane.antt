-- WHAT IS STATED IS SMALL: an amount, a scheme and a sequence, whatever the text.
--   amount_le, scheme_le, sequence_le   what a text of the rule states
--   told_sane                           every event that is fit is sane
use Prim.Native.Nat.{ℕ, suc, ◌+◌, ◌≤◌}
use native.Mathlib.Omega.{arith}
use mathlib.Core.Bool.{Bool, true, false, ◌&&◌}
use mathlib.Core.List.{List, [], ◌∷◌}
use mathlib.Core.Path.{◌≡◌, refl}
use borrow.Author.Tests.{leb-true}
use lib.Dec.{leb}
use lib.ListN.{length}
use Rattle.std.specs.Prelude.{Ok}
use Rattle.laws.specs.Bytes.{Bytes, ascii, same}
use Rattle.profile.specs.Limits.{most_cents}
use Rattle.profile.specs.declared.Flaw.TheVariants.{Number}
use Rattle.text.specs.Rules as rules
use Rattle.text.specs.Rules.{must, code_from}
use Rattle.tree.specs.declared.Event.{Event}
use Rattle.message.specs.Message.{text_of, told}
use Rattle.heard.specs.Bounds.{Sane, Fit}

code_le : (n : ℕ) (w : Bytes) (ws : List Bytes) (x : Bytes) → rules.number_told (code_from n (w ∷ ws) x) ≤ n + length ws
code_le n w [] x = go (same x w)
  where
    go : (z : Bool) → rules.number_told (elim z [ true ↦ Ok n | false ↦ code_from (suc n) [] x ]) ≤ n + 0
    go true = omega arith
    go false = omega arith
code_le n w (v ∷ ws) x = go (same x w) (code_le (suc n) v ws x)
  where
    go : (z : Bool) → rules.number_told (code_from (suc n) (v ∷ ws) x) ≤ suc n + length ws → rules.number_told (elim z [ true ↦ Ok n | false ↦ code_from (suc n) (v ∷ ws) x ]) ≤ n + suc (length ws)
    go true h = omega arith
    go false h = omega arith

pub scheme_le : (x : Bytes) → rules.number_told (rules.scheme x) ≤ 1
scheme_le x = code_le 0 (ascii "CORE") (ascii "B2B" ∷ []) x

pub sequence_le : (x : Bytes) → rules.number_told (rules.sequence x) ≤ 3
sequence_le x = code_le 0 (ascii "FRST") (ascii "RCUR" ∷ ascii "OOFF" ∷ ascii "FNAL" ∷ []) x

pub amount_le : (x : Bytes) → rules.number_told (rules.amount x) ≤ most_cents
amount_le x = go (rules.in_euros 9 x) (leb 1 (rules.cents x)) (leb (rules.cents x) most_cents) refl
  where
    go : (a b c : Bool) → leb (rules.cents x) most_cents ≡ c → rules.number_told (must (a && (b && c)) Number (Ok (rules.cents x))) ≤ most_cents
    go true true true e = leb-true (rules.cents x) most_cents e
    go true true false e = omega arith
    go true false c e = omega arith
    go false b c e = omega arith

module _ (s : Bytes) (e : Event) (f : Fit e) where
  pub told_sane : Sane (told s e)
  told_sane = record {
    amount = λ p. rw (f.amount p) (amount_le (text_of s e));
    scheme = λ p. rw (f.scheme p) (omega (arith, scheme_le (text_of s e)));
    sequence = λ p. rw (f.sequence p) (sequence_le (text_of s e));
  }
