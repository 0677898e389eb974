-- WHAT ONE LOOK AT A TEXT OF A MESSAGE PROMISES. Not to be believed.
--   text_end s at                    where the text ends that starts at the place
--   text_to s at end                 its bytes
--   Plain least longest s at end    it ends there, and is 1 to `longest` bytes of a rank
--   Look, PlainLook, GoodLook       what one look promises: nothing where it says nothing
use Rattle.std.specs.Prelude.{ℕ, ◌+◌, ◌-◌, ◌<◌, ◌≤◌, ◌≡◌, T, take, drop, Option, Some, None, Ok}
use Rattle.laws.specs.Bytes.{Bytes, all, span}
use Rattle.marks.specs.Ranks.{at_least}
use Rattle.text.specs.declared.Rule.{Rule}
use Rattle.text.specs.Rules as rules
use Rattle.tree.specs.Form.{in_text}

abbrev pub text_end : Bytes → ℕ → ℕ
text_end s at = at + span in_text (drop at s)

abbrev pub text_to : Bytes → ℕ → ℕ → Bytes
text_to s at end = take (end - at) (drop at s)

pub record Plain (least longest : ℕ) (s : Bytes) (at end : ℕ) : Type 0 where
  pub run : end ≡ text_end s at
  pub some : at < end
  pub few : end - at ≤ longest
  pub ranks : T (all (at_least least) (text_to s at end))

-- where the text ends, if a look says that it is good
abbrev pub Look : Type 0
Look = Option ℕ

abbrev pub PlainLook : ℕ → ℕ → Bytes → ℕ → Look → Type 0
PlainLook least longest s at (Some end) = Plain least longest s at end
PlainLook least longest s at None = Unit {0}

abbrev pub GoodLook : Rule → Bytes → ℕ → Look → Type 0
GoodLook rule s at (Some end) = (end ≡ text_end s at) × (rules.judged rule (text_to s at end) ≡ Ok 0)
GoodLook rule s at None = Unit {0}
