use mathlib.Core.Path.{◌∙◌}
use Rattle.common.specs.Refusal.{refused_number}
use Rattle.exports_karplus_strong.proofs.CallLaws.{left_pass, left_stop}
use Rattle.exports_karplus_strong.specs.Calls.{karplus_strong_new_at}
use Rattle.exports_karplus_strong.proofs.gruttisol_karplus_strong_new.Goals as goal

pub returns-in-Ok : goal.returns-in-Ok
unfolding karplus_strong_new_at refused_number
returns-in-Ok c = left_pass _ _ _ _ c.in-Ok.ensures _ _ _ _ c.keep.ensures (c.accepted.ensures ∙ c.new-made.ensures.0) c.new-made.ensures.1

pub returns-in-Err : goal.returns-in-Err
unfolding karplus_strong_new_at refused_number
returns-in-Err c = left_stop _ _ _ _ c.in-Err.refused _ c.in-Err.ensures c.number.ensures
