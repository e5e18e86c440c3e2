use mathlib.Core.Path.{ap, ◌∙◌}
use Rattle.boundary.proofs.Flat.{kept_stop}
use Rattle.boundary.proofs.Lent.{lent, unlent, kept_changing}
use Rattle.boundary.specs.Flat.{kept_sized}
use Rattle.exports_wavetable.specs.State.{n_floats, n_wholes, state_of, floats_of, wholes_of}
use Rattle.wavetable.specs.Wavetable.{wavetable_reset_of}
use Rattle.exports_wavetable.specs.Calls.{wavetable_reset_at}
use Rattle.exports_wavetable.proofs.gruttisol_wavetable_reset.Goals as goal

pub returns-in-Ok : goal.returns-in-Ok
unfolding wavetable_reset_at
returns-in-Ok c = let f = c.args.floats.now in
    let w = c.args.wholes.now in
    let s = lent n_floats n_wholes state_of f w _ c.in-Ok.ensures in
    c.keep.ensures
    ∙ ap (λ k. kept_sized n_floats n_wholes k f w)
    (kept_changing floats_of wholes_of f w c.in-Ok.wavetable _ _ (c.reset.ensures ∙ ap wavetable_reset_of s))

pub returns-in-Err : goal.returns-in-Err
unfolding wavetable_reset_at
returns-in-Err c =
    kept_stop _ _ _ _ c.in-Err.refused _ (unlent n_floats n_wholes state_of c.args.floats.now c.args.wholes.now _ c.in-Err.ensures) c.number.ensures _
