use Rattle.batched.proofs.Leads.{lead-within, lead-cents}
use Rattle.collections.specs.Listed.{Collection}
use mathlib.Core.Path.{◌∙◌, ap}
use native.Mathlib.Omega.{arith}
use Rattle.batched.proofs.Batches.cents.Goals as goal

pub slice_bounds-cents_of-end : goal.slice_bounds-cents_of-end
slice_bounds-cents_of-end c = lead-within c.args.self.now.list.now c.start_of-start.result c.start_of-start.ensures.holds_frame c.start_of-start.ensures.in_bounds

pub returns-clause-value : goal.returns-clause-value
returns-clause-value c =
    c.cents_of.ensures ∙ lead-cents c.args.self.now.list.now c.start_of-start.result c.start_of-start.ensures.holds_frame
    ∙ ap (λ (x : Collection). x.cents) c.start_of-start.ensures.value

pub returns-clause-upper_bound : goal.returns-clause-upper_bound
returns-clause-upper_bound c =
    omega (
      arith,
      c.cents_of.ensures,
      lead-cents c.args.self.now.list.now c.start_of-start.result c.start_of-start.ensures.holds_frame,
      ap (λ (x : Collection). x.cents) c.start_of-start.ensures.value,
      c.args.self.now.ready.ready.cents c.args.i c.requires,
    )
