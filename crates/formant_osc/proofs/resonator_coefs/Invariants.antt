use Rattle.std.proofs.Common.{◌≡◌, ◌*◌}
use Rattle.laws.specs.Lists.{over}
use Rattle.formant_osc.proofs.Parts.{row_cell}
use Rattle.formant_osc.proofs.resonator_coefs.Given as goal

abbrev pub invariant-loop-i : goal.invariant-loop-i
invariant-loop-i l = l.rows ≡ over (row_cell l.vowel l.shift l.sample_rate.0) (3 * l.i) l.initial.rows
