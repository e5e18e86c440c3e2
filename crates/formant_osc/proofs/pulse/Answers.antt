use Rattle.std.proofs.Common.{◌≡◌, ◌<◌, refl, ap, ◌∙◌, length, le_antisymm, arith}
use Rattle.laws.proofs.Over.{over_done, over_none, over_more}
use Rattle.common.specs.declared.Turns.{Turns}
use Rattle.formant_osc.specs.Shortcuts.{phase_at}
use Rattle.formant_osc.specs.Sound.{glottal_pulse}
use Rattle.formant_osc.proofs.Held.{pulse_turn}
use Rattle.formant_osc.proofs.pulse.Goals as goal

pub loop-i-init : goal.loop-i-init
unfolding phase_at
loop-i-init c = record { pulses = over_none _ _; flags = over_none _ _; moved = refl }

pub loop-i-preserved : goal.loop-i-preserved
loop-i-preserved c = let s = c.loop-i.invariant in
    let more : c.loop-i.i < length c.args.samples.now = omega arith in
    let w = pulse_turn _ _ _ _ _ _ _ _ _ _ more s.pulses s.moved c.kept_turns.ensures c.wrap_of_several.ensures c.is_finite.ensures c.flag.ensures in
    record {
      pulses = over_more _ _ _ _ _ more s.pulses (c.glottal_pulse.ensures ∙ ap (λ (p : Turns). glottal_pulse p.0) s.moved);
      flags = over_more _ _ _ _ _ c.loop-i-test.true s.flags w.1;
      moved = w.0;
    }

pub returns : goal.returns
returns c = let s = c.loop-i.invariant in
    let a = c.args in
    let n : c.loop-i.i ≡ length a.marks.now = le_antisymm c.loop-i.auto.i-end c.loop-i-test.false in
    record {
      value = s.moved ∙ ap (phase_at a.samples.now a.start) n;
      samples_after = over_done _ _ _ _ _ n c.requires s.pulses;
      marks_after = over_done _ _ _ _ _ n refl s.flags;
    }
