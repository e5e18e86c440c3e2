use Rattle.std.proofs.Common.{length, sym, refl, ap, ◌∙◌, le_antisymm, arith}
use Rattle.laws.proofs.Over.{over_none}
use Rattle.answer.specs.Block.{after_ticks}
use Rattle.answer.proofs.Blocks.{one_port, joined_none, frames_more, frames_done, marks_more, marks_done}
use Rattle.karplus_strong.specs.Consts.{n_ports}
use Rattle.karplus_strong.specs.KarplusStrong.{strung}
use Rattle.karplus_strong.specs.declared.KarplusStrong.{KarplusStrong}
use Rattle.karplus_strong.proofs.Parts.{ticked_parts}
use Rattle.karplus_strong.proofs.Held.{heard, moved, turned_ready}
use Rattle.karplus_strong.proofs.KarplusStrong.ring.Goals as goal

pub loop-i-init : goal.loop-i-init
unfolding after_ticks
loop-i-init c = let e = c.to_loop-turning.ensures in record {
  samples_so_far = joined_none _ _;
  marks_so_far = over_none _ _;
  turned = ap (λ s. strung s c.args.line.now) e;
  in_line = rw (ap (λ (s : KarplusStrong). s.len) e) c.requires.1;
}

pub loop-i-preserved : goal.loop-i-preserved
loop-i-preserved c = let s = c.loop-i.invariant in
    let same = c.loop-i.auto in
    let e = ticked_parts (sym (c.turn-ticked.ensures c.args.self)) in
    let told = heard _ _ _ _ _ _ e.0 s.turned in
    let len = (turned_ready _ _ _ _ e.0 c.loop-i.turning.in_line).1 in
    let in_line = s.in_line in
    record {
      samples_so_far =
          rw c.put.ensures.samples_after
          (frames_more n_ports one_port _ _ _ _ (length c.args.marks.now) _ _ _ _ same.marks c.loop-i-test.true (same.samples ∙ c.requires.2)
          s.samples_so_far told);
      marks_so_far = rw c.put.ensures.marks_after (marks_more n_ports one_port _ _ _ _ _ _ _ c.loop-i-test.true s.marks_so_far told);
      turned = moved _ _ _ _ _ _ _ e.0 e.1 s.turned;
      in_line = omega arith;
    }

pub returns-clause-samples_after : goal.returns-clause-samples_after
returns-clause-samples_after c =
    frames_done n_ports one_port _ _ _ _ _ _ _ (le_antisymm c.loop-i.auto.i-end c.loop-i-test.false) c.requires.2 c.loop-i.invariant.samples_so_far

pub returns-clause-marks_after : goal.returns-clause-marks_after
returns-clause-marks_after c =
    marks_done n_ports one_port _ _ _ _ _ _ _ (le_antisymm c.loop-i.auto.i-end c.loop-i-test.false) refl c.loop-i.invariant.marks_so_far
