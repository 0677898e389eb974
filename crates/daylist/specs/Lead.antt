-- THE FIELDS OF A COLLECTION BEFORE ITS TEXTS: scheme, sequence, and cents in five bytes, high first. To be believed; definitions only.
--   high_first s                the number that the bytes are, high first
--   lead_scheme, lead_sequence   a byte judged as a scheme (0, 1) and as a sequence (0 to 3)
--   lead_cents                  five bytes judged as cents
use Rattle.std.specs.Prelude.{ℕ, ◌+◌, ◌*◌, [], ◌∷◌, leb, Ok}
use Rattle.laws.specs.Bytes.{Bytes, between}
use Rattle.profile.specs.Limits.{most_cents}
use Rattle.profile.specs.declared.Flaw.TheVariants.{Number, Code}
use Rattle.text.specs.Rules.{Judged, must}

-- the number v followed by the bytes
abbrev pub high_first_from : ℕ → Bytes → ℕ
high_first_from v [] = v
high_first_from v (b ∷ s) = high_first_from (v * 256 + b) s

abbrev pub high_first : Bytes → ℕ
high_first s = high_first_from 0 s

abbrev pub lead_scheme : ℕ → Judged
lead_scheme b = must (leb b 1) Code (Ok b)

abbrev pub lead_sequence : ℕ → Judged
lead_sequence b = must (leb b 3) Code (Ok b)

abbrev pub lead_cents : Bytes → Judged
lead_cents s = must (between 1 most_cents (high_first s)) Number (Ok (high_first s))
