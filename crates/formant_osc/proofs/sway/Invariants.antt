use Rattle.std.proofs.Common.{◌≡◌, true}
use Rattle.answer.specs.Block.{after_ticks}
use Rattle.common.specs.Tests.{phase_ok}
use Rattle.laws.specs.Lists.{over}
use Rattle.formant_osc.specs.Shortcuts.{drive_next, stride_at}
use Rattle.formant_osc.proofs.sway.Given as goal

abbrev pub invariant-loop-sample : goal.invariant-loop-sample
invariant-loop-sample l = let end = after_ticks (drive_next l.vibrato.v_oct l.vibrato.depth l.sample_rate) l.sample-index l.start in
    record {
      strides : l.samples ≡ over (λ k. (stride_at l.vibrato.v_oct l.vibrato.depth l.sample_rate l.start k).0) l.sample-index l.initial.samples;
      swung : l.vibrato_phase ≡ end.vibrato_phase;
      tuned : l.freq_memo ≡ end.freq_memo;
      in_range : phase_ok l.vibrato_phase ≡ true;
      same : l.still ≡ true → l.freq_memo ≡ l.start.freq_memo;
    }
