use mathlib.Core.Path.{◌∙◌}
use Rattle.boundary.proofs.Lent.{lent_tick, unlent_tick}
use Rattle.exports_karplus_strong.proofs.CallLaws.{heard_zero, sounded_pass, sounded_stop}
use Rattle.exports_karplus_strong.specs.Calls.{karplus_strong_tick_at}
use Rattle.exports_karplus_strong.specs.State.{n_floats, n_wholes, n_samples, state_of}
use Rattle.exports_karplus_strong.proofs.gruttisol_karplus_strong_tick.Goals as goal

pub returns-in-Ok : goal.returns-in-Ok
unfolding karplus_strong_tick_at
returns-in-Ok c = let s = lent_tick n_floats n_wholes n_samples state_of _ _ _ _ c.in-Ok.ensures in
    let t = rw s at c.tick.ensures in
    sounded_pass _ _ _ _ (heard_zero _ _ _ _ c.in-Ok.ensures) _ _ _ (c.hear.ensures ∙ simp t.0) t.1

pub returns-in-Err : goal.returns-in-Err
unfolding karplus_strong_tick_at
returns-in-Err c = sounded_stop _ _ _ _ _ c.in-Err.refused _ (unlent_tick n_floats n_wholes n_samples state_of _ _ _ _ c.in-Err.ensures) c.number.ensures
