-- ONE OF THE WORDS: the first that is the text decides.
--   code-placed   a text is judged by its place among the words
use Prim.Native.Nat.{ℕ, ◌+◌}
use native.Mathlib.Numerals.{add-one}
use mathlib.Core.Bool.{Bool, true, false, cond}
use mathlib.Core.List.{List, [], ◌∷◌, map}
use mathlib.Core.Path.{◌≡◌, refl, ◌∙◌}
use denote.Ref.{Bor}
use Rattle.std.specs.Option.{ok_or}
use Rattle.std.specs.List.{position_from}
use Rattle.std.specs.Prelude.{Option, Some, Ok}
use Rattle.laws.specs.Bytes.{Bytes, same}
use Rattle.profile.specs.declared.Flaw.TheVariants.{Code}
use Rattle.text.specs.Rules.{Judged, code_from}

pub code-placed : (s : Bytes) (n : ℕ) (ws : List (Bor Bytes)) → ok_or (position_from (λ w. same s w.now) n ws) Code ≡ code_from n (map (λ w. w.now) ws) s
code-placed s n [] = refl
code-placed s n (w ∷ ws) = go (same s w.now) _ (code-placed s (n + 1) ws ∙ rw (add-one n))
  where
    go : (b : Bool) (o : Option ℕ) {j : Judged} → ok_or o Code ≡ j → ok_or (cond b (Some n) o) Code ≡ elim b [ true ↦ Ok n | false ↦ j ]
    go true o e = refl
    go false o e = e
