use mathlib.Core.Path.{sym, ◌∙◌}
use lib.ListN.{length}
use Rattle.answer.proofs.Blocks.{held_marks, held_frames}
use Rattle.vco.proofs.StateLaws.{unrefused}
use Rattle.vco.proofs.Held.{holds, left}
use Rattle.vco.specs.Consts.{n_ports}
use Rattle.vco.proofs.Vco.run.Goals as goal

pub new-first-requires : goal.new-first-requires
new-first-requires c = (unrefused c.args.self c.requires.0).1

pub returns : goal.returns
returns c = let a = c.args in
    let w = holds a.self a.c a.wanted c.requires.0 in
    let n = length a.marks.now in
    let set = c.new.ensures in
    let first = c.new-first.ensures in
    let edge = c.rising_frac-crossed.ensures in
    let step = c.increment-dt.ensures in
    let memo = c.tuned-freq_memo.ensures in
    record {
      value = simp (c.glide.ensures.value, set.step, first.at, first.before, edge, step, memo) (left a.self a.c a.wanted n c.requires.0 c.requires.1);
      samples_after = c.glide.ensures.samples_after
          ∙ simp (set.width, set.step, set.mask, set.told, first.at, first.before, edge, step, memo) (sym (held_frames _ _ _ _ _ _ _ _ w n_ports n));
      marks_after = c.glide.ensures.marks_after
          ∙ simp (set.width, set.step, set.mask, set.told, first.at, first.before, edge, step, memo) (sym (held_marks _ _ _ _ _ _ _ _ w n));
    }
