use Rattle.std.proofs.Common.{refl, le_antisymm}
use Rattle.noise_generator.proofs.PinkLaws.{row_more, rows_done}
use Rattle.noise_generator.proofs.Rowless.sample.Goals as goal

pub loop-i-preserved : goal.loop-i-preserved
loop-i-preserved c = let l = c.loop-i in row_more _ _ l.i _ l.rows l.running_sum _ l.invariant c.bipolar-row.ensures

pub returns-clause-state : goal.returns-clause-state
returns-clause-state c = let l = c.loop-i in
    let last = le_antisymm l.auto.i-end c.loop-i-test.false in
    rows_done _ _ _ l.rows l.running_sum _ _ _ _ last c.changed-i-end.ensures c.next_index-index.ensures refl l.invariant
