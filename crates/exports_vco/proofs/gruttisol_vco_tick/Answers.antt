use mathlib.Core.Path.{◌∙◌}
use Rattle.boundary.proofs.Flat.{heard_stop}
use Rattle.boundary.proofs.Lent.{lent_tick, unlent_tick}
use Rattle.exports_vco.specs.Calls.{vco_tick_at}
use Rattle.exports_vco.specs.State.{n_floats, n_wholes, n_samples, state_of}
use Rattle.exports_vco.proofs.gruttisol_vco_tick.Goals as goal

pub returns-in-Ok : goal.returns-in-Ok
unfolding vco_tick_at
returns-in-Ok c = let a = c.args in
    let s = lent_tick n_floats n_wholes n_samples state_of a.floats.now a.wholes.now a.samples.now _ c.in-Ok.ensures in
    c.hear.ensures ∙ simp (c.tick.ensures, s)

pub returns-in-Err : goal.returns-in-Err
unfolding vco_tick_at
returns-in-Err c = let a = c.args in
    let e = unlent_tick n_floats n_wholes n_samples state_of a.floats.now a.wholes.now a.samples.now _ c.in-Err.ensures in
    heard_stop _ _ _ _ _ _ c.in-Err.refused _ e c.number.ensures _
