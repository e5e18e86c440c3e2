use Rattle.std.proofs.lemmas.Result.{err_from_is_err_and}
use Rattle.common.specs.Refusal.{refused_number}
use Rattle.karplus_strong.proofs.Parts.{max_len_range, state_passed, refusal_state, refusal_room}
use Rattle.karplus_strong.proofs.KarplusStrong.refusal.Goals as goal

pub returns-in_err-state_refusal : goal.returns-in_err-state_refusal
unfolding refused_number
returns-in_err-state_refusal c = let p = err_from_is_err_and c.from_residual.result c.from_residual.ensures.1 in
    rw (p.1, p.2) (refusal_state _ _ _ c.in_err-state_refusal.ensures)

pub max_len_for-requires : goal.max_len_for-requires
unfolding refused_number
max_len_for-requires c = (state_passed _ c.in_ok-state_refusal.ensures).0

pub room-requires : goal.room-requires
unfolding refused_number
room-requires c = rw c.max_len_for.ensures (max_len_range _ (state_passed _ c.in_ok-state_refusal.ensures).0).1

pub returns : goal.returns
unfolding refused_number
returns c = refusal_room _ _ _ _ c.in_ok-state_refusal.ensures c.max_len_for.ensures c.room.ensures
