-- `control_at`: a test for the mark.
use mir.Syntax.{w32}
use mir.ValLaws.{to_z-of_z}
use Rattle.exports_score.proofs.Cells.{marked, unmarked}
use Rattle.exports_score.proofs.control_at.Goals as goal

pub returns-then-cell-eq-NAN : goal.returns-then-cell-eq-NAN
returns-then-cell-eq-NAN c = marked _ c.ranges.cell c.if-cell-eq-NAN.true

pub returns-else-cell-eq-NAN : goal.returns-else-cell-eq-NAN
returns-else-cell-eq-NAN c = rw (to_z-of_z w32 c.args.cell c.ranges.cell) (unmarked c.args.cell c.ranges.cell c.if-cell-eq-NAN.false)
