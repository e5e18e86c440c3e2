use Rattle.std.proofs.Common.{◌≡◌, ℕ}
use Rattle.answer.specs.Answer.{host_number, volts_of}
use Rattle.answer.specs.declared.Answer.{Answer}
use Rattle.laws.specs.Lists.{over}
use Rattle.formant_osc.specs.Shortcuts.{cells_at, voiced_at}
use Rattle.formant_osc.proofs.voice.Given as goal

abbrev pub invariant-loop-i : goal.invariant-loop-i
invariant-loop-i l = let told : ℕ → Answer = voiced_at l.numbers l.c l.initial.cells l.initial.samples l.initial.marks in
    record {
      heard : l.samples ≡ over (λ k. (volts_of (told k)).p10) l.i l.initial.samples;
      marked : l.marks ≡ over (λ k. host_number (told k)) l.i l.initial.marks;
      rung : l.cells ≡ cells_at l.c l.initial.samples l.initial.cells l.i;
    }
