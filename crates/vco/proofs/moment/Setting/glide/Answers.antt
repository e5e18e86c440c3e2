use mathlib.Core.Path.{refl, ◌∙◌}
use native.Mathlib.Nat.{le_antisymm}
use Rattle.laws.proofs.Over.{over_none}
use Rattle.answer.specs.Block.{after_ticks}
use Rattle.answer.proofs.Blocks.{four_ports, joined_none, frames_more, frames_done, marks_more, marks_done}
use Rattle.vco.specs.Consts.{n_ports}
use Rattle.vco.proofs.Held.{heard_now, next_now}
use Rattle.vco.proofs.moment.Setting.glide.Goals as goal

pub loop-i-init : goal.loop-i-init
unfolding after_ticks
loop-i-init c = record { samples = joined_none _ _; marks = over_none _ _; held_now = refl }

pub loop-i-preserved : goal.loop-i-preserved
loop-i-preserved c = let s = c.loop-i.invariant in
    let l = c.loop-i in
    let t = c.loop-i-test.true in
    let a = heard_now _ _ _ _ _ _ _ _ _ _ c.heard.ensures l.now.synced s.held_now in
    record {
      samples = rw c.put.ensures.samples_after (frames_more n_ports four_ports _ _ _ _ _ _ _ _ _ l.auto.marks t (l.auto.samples ∙ c.requires) s.samples a);
      marks = rw c.put.ensures.marks_after (marks_more n_ports four_ports _ _ _ _ _ _ _ t s.marks a);
      held_now = next_now _ _ _ _ _ c.next-now.ensures s.held_now;
    }

pub returns-clause-samples_after : goal.returns-clause-samples_after
returns-clause-samples_after c =
    frames_done n_ports four_ports _ _ _ _ _ _ _ (le_antisymm c.loop-i.auto.i-end c.loop-i-test.false) c.requires c.loop-i.invariant.samples

pub returns-clause-marks_after : goal.returns-clause-marks_after
returns-clause-marks_after c = marks_done n_ports four_ports _ _ _ _ _ _ _ (le_antisymm c.loop-i.auto.i-end c.loop-i-test.false) refl c.loop-i.invariant.marks
