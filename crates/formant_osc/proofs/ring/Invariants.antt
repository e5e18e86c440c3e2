use Rattle.std.proofs.Common.{◌≡◌, ◌*◌}
use Rattle.laws.specs.Lists.{over}
use Rattle.formant_osc.proofs.Parts.{rung_sum, cell_after}
use Rattle.formant_osc.proofs.ring.Given as goal

abbrev pub invariant-loop-i : goal.invariant-loop-i
invariant-loop-i l = record {
  summed : l.sum ≡ rung_sum l.c l.s l.x l.i;
  rung : l.state ≡ over (cell_after l.c l.s l.x) (2 * l.i) l.s;
}
