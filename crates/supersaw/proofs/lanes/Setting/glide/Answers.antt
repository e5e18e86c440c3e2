use mathlib.Core.Path.{refl, ◌∙◌}
use native.Mathlib.Nat.{le_antisymm}
use Rattle.laws.proofs.Over.{over_none}
use Rattle.answer.proofs.Blocks.{two_ports, joined_none, frames_more, frames_done, marks_more, marks_done}
use Rattle.answer.specs.Block.{after_ticks}
use Rattle.supersaw.proofs.Held.{heard, moved}
use Rattle.supersaw.specs.Consts.{n_ports}
use Rattle.supersaw.proofs.lanes.Setting.glide.Goals as goal

pub loop-i-init : goal.loop-i-init
unfolding after_ticks
loop-i-init c = record { samples = joined_none _ _; marks = over_none _ _; phases = refl }

pub loop-i-preserved : goal.loop-i-preserved
loop-i-preserved c = let l = c.loop-i in
    let s = l.invariant in
    let e = c.turn-moved.ensures in
    let t = c.loop-i-test.true in
    let a = heard _ _ _ _ _ _ _ e s.phases in
    record {
      samples = rw c.put.ensures.samples_after (frames_more n_ports two_ports _ _ _ _ _ _ _ _ _ l.auto.marks t (l.auto.samples ∙ c.requires) s.samples a);
      marks = rw c.put.ensures.marks_after (marks_more n_ports two_ports _ _ _ _ _ _ _ t s.marks a);
      phases = moved _ _ _ _ _ _ _ e s.phases;
    }

pub returns-clause-samples_after : goal.returns-clause-samples_after
returns-clause-samples_after c =
    frames_done n_ports two_ports _ _ _ _ _ _ _ (le_antisymm c.loop-i.auto.i-end c.loop-i-test.false) c.requires c.loop-i.invariant.samples

pub returns-clause-marks_after : goal.returns-clause-marks_after
returns-clause-marks_after c = marks_done n_ports two_ports _ _ _ _ _ _ _ (le_antisymm c.loop-i.auto.i-end c.loop-i-test.false) refl c.loop-i.invariant.marks
