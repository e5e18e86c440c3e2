use native.Mathlib.Omega.{arith}
use Rattle.laws.proofs.Over.{over_none, over_more, over_done}
use Rattle.wavetable.proofs.Cells.{plain_cell}
use Rattle.wavetable.specs.Bank.{table_of}
use Rattle.wavetable.proofs.bank.Plain.fill.Goals as goal

pub loop-j-init : goal.loop-j-init
loop-j-init c = over_none _ _

pub loop-j-preserved : goal.loop-j-preserved
loop-j-preserved c = over_more _ _ _ _ _ (omega arith) c.loop-j.invariant (plain_cell _ _ _ c.cell.ensures)

pub returns : goal.returns
unfolding table_of
returns c = over_done _ _ 2048 _ _ (omega arith) c.told-part c.loop-j.invariant
