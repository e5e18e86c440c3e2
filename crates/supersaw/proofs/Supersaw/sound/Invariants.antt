use mathlib.Core.Path.{◌≡◌}
use Rattle.supersaw.specs.Voices.{Voices, voices_of}
use Rattle.supersaw.proofs.Supersaw.sound.Given as goal

abbrev pub invariant-loop-i : goal.invariant-loop-i
invariant-loop-i l =
    let locals : Voices = record { phases = l.phases; sum = l.sum; total_mix = l.total_mix; center_saw = l.center_saw; finite = l.finite } in
    locals ≡ voices_of l.detune l.base_freq l.self.sample_rate l.initial.phases l.i
