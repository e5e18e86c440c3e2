use Rattle.std.proofs.Common.{◌≡◌}
use Rattle.laws.specs.Lists.{over}
use Rattle.formant_osc.specs.Shortcuts.{phase_at, phase_flag_at}
use Rattle.formant_osc.specs.Sound.{glottal_pulse}
use Rattle.formant_osc.proofs.pulse.Given as goal

abbrev pub invariant-loop-i : goal.invariant-loop-i
invariant-loop-i l = let strides = l.initial.samples in
    record {
      pulses : l.samples ≡ over (λ k. glottal_pulse (phase_at strides l.initial.phase k).0) l.i strides;
      flags : l.marks ≡ over (phase_flag_at strides l.initial.phase) l.i l.initial.marks;
      moved : l.phase ≡ phase_at strides l.initial.phase l.i;
    }
