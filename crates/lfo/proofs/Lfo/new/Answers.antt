use Rattle.answer.proofs.Calls.{making_made}
use Rattle.lfo.specs.Lfo.{new_lfo, lfo_new_of}
use Rattle.lfo.proofs.Lfo.new.Goals as goal

pub returns : goal.returns
unfolding lfo_new_of new_lfo
returns c = let edge = c.new.ensures in
    let memo = c.new-2.ensures in
    simp (edge, memo, (simp (edge, memo) at c.refusal.ensures)) (making_made _ _)
