use mathlib.Core.Path.{sym, ◌∙◌}
use lib.ListN.{length}
use Rattle.answer.proofs.Blocks.{held_after, held_marks, held_frames}
use Rattle.supersaw.proofs.Held.{holds}
use Rattle.supersaw.proofs.LaneLaws.{accepts}
use Rattle.supersaw.specs.Consts.{n_ports}
use Rattle.supersaw.proofs.Supersaw.run.Goals as goal

pub new-setting-requires : goal.new-setting-requires
new-setting-requires c = (accepts c.args.self c.requires.0).0

pub returns : goal.returns
returns c = let a = c.args in
    let n = length a.marks.now in
    let w = holds a.self a.c c.requires.0 c.lanes.ensures.seven in
    let set = c.new-setting.ensures in
    let first = c.lanes.ensures.eight in
    let memo = c.voct_to_hz-recalled.ensures in
    record {
      value = simp (c.voices.ensures, c.glide-last.ensures.value, set.step, set.mix, set.told, first, memo)
          (sym (held_after _ _ _ _ _ _ _ _ w n c.requires.1));
      samples_after = c.glide-last.ensures.samples_after
          ∙ simp (set.step, set.mix, set.told, first, memo) (sym (held_frames _ _ _ _ _ _ _ _ w n_ports n));
      marks_after = c.glide-last.ensures.marks_after
          ∙ simp (set.step, set.mix, set.told, first, memo) (sym (held_marks _ _ _ _ _ _ _ _ w n));
    }
