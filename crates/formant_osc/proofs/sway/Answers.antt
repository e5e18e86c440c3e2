use Rattle.std.proofs.Common.{◌≡◌, refl, ap, length, le_antisymm}
use lib.Ieee.{binary64, fits}
use lib.Ieee.Fits.{add-fits}
use Rattle.answer.specs.Block.{after_ticks}
use Rattle.common.specs.declared.Turns.{Turns}
use Rattle.common.proofs.PhaseLaws.{wrap_in}
use Rattle.laws.proofs.Over.{over_done, over_none, over_more}
use Rattle.laws.proofs.Tests.{of_true}
use Rattle.formant_osc.specs.Shortcuts.{swayed}
use Rattle.formant_osc.proofs.Held.{still_tuned, still_memo, swung, stridden}
use Rattle.formant_osc.proofs.sway.Goals as goal

pub loop-sample-init : goal.loop-sample-init
unfolding after_ticks
loop-sample-init c = record { strides = over_none _ _; swung = refl; tuned = refl; in_range = c.requires.0; same = λ t. refl }

pub tuned-freq_memo-requires : goal.tuned-freq_memo-requires
tuned-freq_memo-requires c = let s = c.loop-sample.invariant in
    let v = c.args.vibrato.v_oct.0 in
    still_tuned _ _ _ _ _ _ _ (of_true (fits binary64 v) c.well_formed.1.0.1.1.0.1.1.0.1) c.is_still-still.ensures c.requires.0 s.in_range c.requires.1 s.same

pub loop-sample-preserved : goal.loop-sample-preserved
loop-sample-preserved c = let s = c.loop-sample.invariant in
    let v = c.args.vibrato.v_oct.0 in
    let t = c.tuned-freq_memo.ensures in
    let still = still_tuned _ _ _ _ _ _ _ (of_true (fits binary64 v) c.well_formed.1.0.1.1.0.1.1.0.1) c.is_still-still.ensures c.requires.0 s.in_range
    c.requires.1 s.same in
    let w = swung _ _ _ _ _ _ _ _ _ _ t c.increment-vibrato_step.ensures c.wrap_of_several.ensures s.swung s.tuned in
    let x = stridden _ _ _ _ _ _ _ _ _ t c.increment.ensures s.swung s.tuned in
    record {
      strides = over_more _ _ _ _ _ c.loop-sample-test.true s.strides (ap (λ (u : Turns). u.0) x);
      swung = w.0;
      tuned = w.1;
      in_range = rw c.wrap_of_several.ensures (wrap_in _ (add-fits binary64 _ _));
      same = still_memo _ _ _ _ _ _ _ still t s.same;
    }

pub returns : goal.returns
unfolding swayed
returns c = let s = c.loop-sample.invariant in
    let n : c.loop-sample.sample-index ≡ length c.args.samples.now = le_antisymm c.loop-sample.auto.sample-index-end c.loop-sample-test.false in
    record { value = simp (s.swung, s.tuned, n); samples_after = over_done _ _ _ _ _ n refl s.strides }
