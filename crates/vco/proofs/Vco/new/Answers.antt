use Rattle.answer.proofs.Calls.{making_made}
use Rattle.vco.specs.Vco.{new_vco, vco_new_of}
use Rattle.vco.proofs.Vco.new.Goals as goal

pub returns : goal.returns
unfolding vco_new_of new_vco
returns c = let edge = c.new.ensures in
    let memo = c.new-2.ensures in
    simp (edge, memo, (simp (edge, memo) at c.refusal.ensures)) (making_made _ _)
