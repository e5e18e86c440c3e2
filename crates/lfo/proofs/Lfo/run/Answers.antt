use mathlib.Core.Path.{sym, ◌∙◌}
use lib.ListN.{length}
use Rattle.answer.proofs.Blocks.{held_after, held_marks, held_frames}
use Rattle.common.proofs.PhaseLaws.{restart_in}
use Rattle.lfo.proofs.Accepted.{accepts}
use Rattle.lfo.proofs.Held.{holds}
use Rattle.lfo.specs.Consts.{n_ports}
use Rattle.lfo.proofs.Lfo.run.Goals as goal

pub glide-requires : goal.glide-requires
glide-requires c = let p = c.requires in
    (rw c.restart-start.ensures (restart_in _ _ (accepts _ p.0).1), p.2)

pub returns : goal.returns
returns c = let a = c.args in
    let w = holds a.self a.c a.wanted c.requires.0 in
    let n = length a.marks.now in
    let step = c.increment-step.ensures in
    let at = c.restart-start.ensures in
    let edge = c.rising-risen.ensures in
    let memo = c.recall-freq_memo.ensures in
    let set = c.new.ensures in
    record {
      value = simp (c.glide.ensures.value, step, at, edge, memo) (sym (held_after _ _ _ _ _ _ _ _ w n c.requires.1));
      samples_after = c.glide.ensures.samples_after
          ∙ simp (step, at, edge, memo, set.mask, set.depth, set.numbers) (sym (held_frames _ _ _ _ _ _ _ _ w n_ports n));
      marks_after = c.glide.ensures.marks_after ∙ simp (step, at, edge, memo, set.mask, set.depth, set.numbers) (sym (held_marks _ _ _ _ _ _ _ _ w n));
    }
