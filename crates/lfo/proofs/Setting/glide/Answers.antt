use mathlib.Core.Path.{refl, ◌∙◌}
use native.Mathlib.Nat.{le_antisymm}
use lib.Ieee.{binary64}
use lib.Ieee.Fits.{add-fits}
use Rattle.laws.proofs.Over.{over_none}
use Rattle.answer.specs.Block.{after_ticks}
use Rattle.answer.proofs.Blocks.{six_ports, joined_none, frames_more, frames_done, marks_more, marks_done}
use Rattle.common.proofs.PhaseLaws.{wrap_in}
use Rattle.lfo.specs.Consts.{n_ports}
use Rattle.lfo.proofs.Held.{heard, moved}
use Rattle.lfo.proofs.Setting.glide.Goals as goal

pub loop-i-init : goal.loop-i-init
unfolding after_ticks
loop-i-init c = record { samples = joined_none _ _; marks = over_none _ _; now = refl; in_turn = c.requires.0 }

pub loop-i-preserved : goal.loop-i-preserved
loop-i-preserved c =
    let s = c.loop-i.invariant in
    let l = c.loop-i in
    let t = c.loop-i-test.true in
    let w = c.wrap_phase-wrapped.ensures in
    let a = heard _ _ _ _ _ _ _ _ _ c.heard-heard.ensures w s.now in
    record {
      samples = rw c.put.ensures.samples_after (frames_more n_ports six_ports _ _ _ _ _ _ _ _ _ l.auto.marks t (l.auto.samples ∙ c.requires.1) s.samples a);
      marks = rw c.put.ensures.marks_after (marks_more n_ports six_ports _ _ _ _ _ _ _ t s.marks a);
      now = moved _ _ _ _ _ w s.now;
      in_turn = rw w (wrap_in _ (add-fits binary64 _ _));
    }

pub returns-clause-samples_after : goal.returns-clause-samples_after
returns-clause-samples_after c =
    frames_done n_ports six_ports _ _ _ _ _ _ _ (le_antisymm c.loop-i.auto.i-end c.loop-i-test.false) c.requires.1 c.loop-i.invariant.samples

pub returns-clause-marks_after : goal.returns-clause-marks_after
returns-clause-marks_after c = marks_done n_ports six_ports _ _ _ _ _ _ _ (le_antisymm c.loop-i.auto.i-end c.loop-i-test.false) refl c.loop-i.invariant.marks
