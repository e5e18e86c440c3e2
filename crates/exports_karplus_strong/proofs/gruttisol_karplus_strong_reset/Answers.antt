use Rattle.boundary.proofs.Lent.{lent, lent_zero, unlent}
use Rattle.exports_karplus_strong.proofs.CallLaws.{left_pass, left_stop}
use Rattle.exports_karplus_strong.specs.Calls.{karplus_strong_reset_at}
use Rattle.exports_karplus_strong.specs.State.{n_floats, n_wholes, state_of}
use Rattle.exports_karplus_strong.proofs.gruttisol_karplus_strong_reset.Goals as goal

pub returns-in-Ok : goal.returns-in-Ok
unfolding karplus_strong_reset_at
returns-in-Ok c = let s = lent n_floats n_wholes state_of _ _ _ c.in-Ok.ensures in
    let r = rw s at c.reset.ensures in
    left_pass _ _ _ _ (lent_zero n_floats n_wholes state_of _ _ _ c.in-Ok.ensures) _ _ _ _ c.keep.ensures r.0 r.1

pub returns-in-Err : goal.returns-in-Err
unfolding karplus_strong_reset_at
returns-in-Err c = left_stop _ _ _ _ c.in-Err.refused _ (unlent n_floats n_wholes state_of _ _ _ c.in-Err.ensures) c.number.ensures
