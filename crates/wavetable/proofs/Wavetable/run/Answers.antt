use mathlib.Core.Path.{sym, ◌∙◌}
use lib.ListN.{length}
use Rattle.answer.proofs.Blocks.{held_after, held_marks, held_frames}
use Rattle.wavetable.specs.Consts.{n_ports}
use Rattle.wavetable.proofs.Accepted.{pair_fits}
use Rattle.wavetable.proofs.Held.{holds}
use Rattle.wavetable.proofs.Wavetable.run.Goals as goal

pub glide-requires : goal.glide-requires
glide-requires c = (pair_fits _ _ _ _ c.choose-pair.ensures, c.requires.2)

pub returns : goal.returns
returns c = let a = c.args in
    let p = c.requires in
    let w = holds a.self a.c a.bank.now p.0 in
    let n = length a.marks.now in record {
      value = simp (c.glide.ensures.value, c.increment-step.ensures, c.voct_to_hz-freq_memo.ensures, c.restart-first.ensures, c.synced.ensures)
          (sym (held_after _ _ _ _ _ _ _ _ w n p.1));
      samples_after = c.glide.ensures.samples_after
          ∙ simp (
            c.choose-pair.ensures,
            c.increment-step.ensures,
            c.voct_to_hz-freq_memo.ensures,
            c.restart-first.ensures,
            c.synced.ensures,
            c.are_numbers-numbers.ensures,
          ) (sym (held_frames _ _ _ _ _ _ _ _ w n_ports n));
      marks_after = c.glide.ensures.marks_after
          ∙ simp (
            c.choose-pair.ensures,
            c.increment-step.ensures,
            c.voct_to_hz-freq_memo.ensures,
            c.restart-first.ensures,
            c.synced.ensures,
            c.are_numbers-numbers.ensures,
          ) (sym (held_marks _ _ _ _ _ _ _ _ w n));
    }
