use mathlib.Core.Path.{◌≡◌, refl, ap, ◌∙◌}
use native.Mathlib.Nat.{le_antisymm}
use native.Mathlib.Omega.{arith}
use lib.ListN.{length}
use Rattle.laws.proofs.Over.{over_none}
use Rattle.answer.proofs.Blocks.{one_port, joined_none, frames_more, frames_done, marks_more, marks_done}
use Rattle.answer.specs.Block.{after_ticks}
use Rattle.wavetable.specs.Consts.{n_ports}
use Rattle.wavetable.proofs.Held.{heard, moved}
use Rattle.wavetable.specs.Shortcuts.{held_next}
use Rattle.wavetable.proofs.Wavetable.glide.Goals as goal

pub loop-i-init : goal.loop-i-init
unfolding after_ticks
loop-i-init c = (omega arith, refl, refl, joined_none _ _, over_none _ _, refl)

pub loop-i-preserved : goal.loop-i-preserved
loop-i-preserved c = let s = c.loop-i.invariant in
    let t = c.loop-i-test.true in
    let finite = c.is_finite.ensures in
    let a = heard _ _ _ _ _ _ _ _ _ _ c.heard-told.ensures c.mix-out.ensures finite s.5 in
    let k = c.put.auto in (
      omega arith,
      k.samples ∙ s.1,
      k.marks ∙ s.2,
      rw c.put.ensures.samples_after (frames_more n_ports one_port _ _ _ _ _ _ _ _ _ s.2 t (s.1 ∙ c.requires.1) s.3 a),
      rw c.put.ensures.marks_after (marks_more n_ports one_port _ _ _ _ _ _ _ t s.4 a),
      moved _ _ _ _ _ c.wrap_phase.ensures s.5,
    )

pub shape_of-samples : goal.shape_of-samples
shape_of-samples c = c.loop-i.invariant.1

pub shape_of-marks : goal.shape_of-marks
shape_of-marks c = c.loop-i.invariant.2

pub returns : goal.returns
returns c = let s = c.loop-i.invariant in
    let a = c.args in
    let n : c.loop-i.i ≡ length a.marks.now = le_antisymm s.0 (omega arith) in
    let frames = frames_done n_ports one_port _ _ _ _ _ _ _ n c.requires.1 s.3 in
    record {
      value = s.5 ∙ ap (λ k. after_ticks (held_next a.step) k a.first) n;
      samples_after = frames;
      marks_after = marks_done n_ports one_port _ _ _ _ _ _ _ n refl s.4;
    }
