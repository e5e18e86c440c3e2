use Rattle.std.proofs.Common.{◌≡◌}
use Rattle.laws.specs.Lists.{over}
use Rattle.karplus_strong.specs.Line.{excited_at, level_at}
use Rattle.karplus_strong.proofs.excite.Given as goal

abbrev pub invariant-loop-i : goal.invariant-loop-i
invariant-loop-i l = l.cells ≡ over (excited_at l.n l.brightness l.draws) l.i l.initial.cells

abbrev pub invariant-loop-cell : goal.invariant-loop-cell
invariant-loop-cell l = l.cells ≡ over (level_at l.mean l.initial.cells) l.cell-index l.initial.cells
