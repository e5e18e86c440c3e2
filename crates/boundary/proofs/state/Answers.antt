use mathlib.Core.Path.{ap, refl, ◌∙◌}
use Rattle.std.specs.Prelude.{Ok}
use Rattle.std.proofs.lemmas.Result.{err_from_is_err_and}
use Rattle.common.specs.Refusal.{refused_number}
use Rattle.boundary.proofs.Flat.{sized, fit, unfit}
use Rattle.boundary.proofs.state.Goals as goal

pub returns-in_err-sizes : goal.returns-in_err-sizes
unfolding refused_number
returns-in_err-sizes g c =
    let p = err_from_is_err_and c.from_residual.result c.from_residual.ensures.1 in
    rw (p.1, p.2) (unfit _ _ _ _ c.in_err-sizes.field-0.0 (simp (c.FLOATS.ensures, c.WHOLES.ensures) at c.in_err-sizes.ensures) _)

pub state-requires : goal.state-requires
unfolding refused_number
state-requires g c = sized _ _ _ _ 0 (simp (c.FLOATS.ensures, c.WHOLES.ensures) at c.in_ok-sizes.ensures) refl

pub returns : goal.returns
unfolding refused_number
returns g c = ap Ok c.state.ensures ∙ fit _ _ _ _ (simp (c.FLOATS.ensures, c.WHOLES.ensures) at c.in_ok-sizes.ensures) _
