use mathlib.Core.Path.{refl}
use Rattle.std.proofs.lemmas.Result.{err_from_is_err_and}
use Rattle.common.specs.Refusal.{refused_number}
use Rattle.boundary.proofs.Flat.{tick_sized, fit_tick, unfit_tick}
use Rattle.boundary.proofs.tick_state.Goals as goal

pub returns-in_err-tick_sizes : goal.returns-in_err-tick_sizes
unfolding refused_number
returns-in_err-tick_sizes g c =
    let p = err_from_is_err_and c.from_residual.result c.from_residual.ensures.1 in
    rw (p.1, p.2)
    (unfit_tick _ _ _ _ _ _ _ c.in_err-tick_sizes.field-0.0 (simp (c.FLOATS.ensures, c.WHOLES.ensures, c.SAMPLES.ensures) at c.in_err-tick_sizes.ensures))

pub state-requires : goal.state-requires
unfolding refused_number
state-requires g c =
    let s = tick_sized _ _ _ _ _ _ 0 (simp (c.FLOATS.ensures, c.WHOLES.ensures, c.SAMPLES.ensures) at c.in_ok-tick_sizes.ensures) refl in (s.0, s.1)

pub returns : goal.returns
unfolding refused_number
returns g c =
    fit_tick _ _ _ _ _ _ _ (simp (c.FLOATS.ensures, c.WHOLES.ensures, c.SAMPLES.ensures) at c.in_ok-tick_sizes.ensures) _ c.state.ensures
