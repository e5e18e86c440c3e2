use Rattle.boundary.proofs.Lent.{lent_block, unlent_block}
use Rattle.exports_karplus_strong.proofs.CallLaws.{rung_pass, rung_stop}
use Rattle.exports_karplus_strong.specs.Calls.{karplus_strong_block_at}
use Rattle.exports_karplus_strong.specs.State.{n_floats, n_wholes, state_of}
use Rattle.exports_karplus_strong.proofs.gruttisol_karplus_strong_block.Goals as goal

pub returns-in-Ok : goal.returns-in-Ok
unfolding karplus_strong_block_at
returns-in-Ok c = let s = lent_block n_floats n_wholes state_of _ _ _ _ _ c.in-Ok.ensures in
    rung_pass _ _ _ _ _ _ _ _ _ s.1 _ _ _ _ _ c.keep_block.ensures (rw s.0 at c.block-played.ensures)

pub returns-in-Err : goal.returns-in-Err
unfolding karplus_strong_block_at
returns-in-Err c = rung_stop _ _ _ _ _ _ _ c.in-Err.refused _ (unlent_block n_floats n_wholes state_of _ _ _ _ c.in-Err.ensures) c.number.ensures
