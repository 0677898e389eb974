use mathlib.Core.Bool.{and-false}
use mathlib.Core.Path.{◌≡◌, sym, ◌∙◌}
use Rattle.laws.specs.Bytes.{Bytes, ascii}
use Rattle.marks.specs.Marks.{fits}
use Rattle.text.specs.Rules.{value_at, real_day}
use Rattle.text.proofs.date.date.Goals as goal
use Rattle.text.proofs.date.date.Goals.{After-is_real_day, Else-not-has_shape}

abbrev shape : Bytes
shape = ascii "DDDD-DD-DD"

-- what `is_real_day` answers, of the parts
real : (c : After-is_real_day) → (let s = c.args.text.now in real_day (value_at 0 4 s) (value_at 5 2 s) (value_at 8 2 s) ≡ c.is_real_day.result)
real c = rw (c.number-day.ensures, c.number-month.ensures, c.number-year.ensures) at (sym c.is_real_day.ensures)

pub returns-then-not-is_real_day : goal.returns-then-not-is_real_day
returns-then-not-is_real_day c = rw (real (goal.at.returns-then-not-is_real_day c).After-is_real_day ∙ c.if-not-is_real_day.true, and-false (fits shape c.args.text.now))

pub returns : goal.returns
returns c =
    rw (
      sym c.has_shape.ensures ∙ c.if-not-has_shape.false,
      real (goal.at.returns c).After-is_real_day ∙ c.if-not-is_real_day.false,
      c.number-day.ensures,
      c.number-month.ensures,
      c.number-year.ensures,
    )
