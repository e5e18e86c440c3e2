use mathlib.Core.Path.{◌∙◌}
use Rattle.std.proofs.lemmas.Result.{err_from_is_err_and}
use Rattle.common.specs.Refusal.{refused_number}
use Rattle.boundary.proofs.Flat.{fit, unfit}
use Rattle.boundary.proofs.block_tally.Goals as goal

pub returns-in_err-sizes : goal.returns-in_err-sizes
unfolding refused_number
returns-in_err-sizes c =
    let p = err_from_is_err_and c.from_residual.result c.from_residual.ensures.1 in
    rw (p.1, p.2) (unfit _ _ _ _ c.in_err-sizes.field-0.0 c.in_err-sizes.ensures _)

pub returns : goal.returns
unfolding refused_number
returns c = c.tally_of.ensures ∙ fit _ _ _ _ c.in_ok-sizes.ensures _
