use Rattle.common.proofs.PhaseLaws.{restart_in}
use Rattle.lfo.proofs.Accepted.{accepts}
use Rattle.lfo.specs.Lfo.{lfo_sound_of}
use Rattle.lfo.proofs.Lfo.sound.Goals as goal

pub heard-requires : goal.heard-requires
heard-requires c = rw c.restart-phase.ensures (restart_in _ _ (accepts _ c.requires).1)

pub returns : goal.returns
unfolding lfo_sound_of
returns c =
    let set = c.new.ensures in
    simp (
      c.heard.ensures,
      set.mask,
      set.depth,
      set.numbers,
      c.wrap_phase-wrapped.ensures,
      c.increment-by.ensures,
      c.restart-phase.ensures,
      c.rising-risen.ensures,
      c.recall-freq_memo.ensures,
    )
