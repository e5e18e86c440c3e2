use mathlib.Core.Path.{ap, ◌∙◌}
use Rattle.boundary.proofs.Flat.{kept_stop}
use Rattle.boundary.proofs.Lent.{lent, unlent, kept_changing}
use Rattle.boundary.specs.Flat.{kept_sized}
use Rattle.exports_supersaw.specs.State.{n_floats, n_wholes, state_of, floats_of, wholes_of}
use Rattle.supersaw.specs.Supersaw.{supersaw_reset_of}
use Rattle.exports_supersaw.specs.Calls.{supersaw_reset_at}
use Rattle.exports_supersaw.proofs.gruttisol_supersaw_reset.Goals as goal

pub returns-in-Ok : goal.returns-in-Ok
unfolding supersaw_reset_at
returns-in-Ok c =
    let f = c.args.floats.now in
    let w = c.args.wholes.now in
    let held = lent n_floats n_wholes state_of f w _ c.in-Ok.ensures in
    c.keep.ensures
    ∙ ap (λ k. kept_sized n_floats n_wholes k f w)
    (kept_changing floats_of wholes_of f w c.in-Ok.supersaw _ _ (c.reset.ensures ∙ ap supersaw_reset_of held))

pub returns-in-Err : goal.returns-in-Err
unfolding supersaw_reset_at
returns-in-Err c =
    kept_stop _ _ _ _ c.in-Err.refused _ (unlent n_floats n_wholes state_of c.args.floats.now c.args.wholes.now _ c.in-Err.ensures) c.number.ensures _
