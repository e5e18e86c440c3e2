use Rattle.std.proofs.Common.{le_antisymm, arith}
use Rattle.laws.proofs.Over.{over_none}
use Rattle.formant_osc.proofs.Parts.{sum_none, sum_more, two_more, rung_done}
use Rattle.formant_osc.proofs.ring.Goals as goal

pub loop-i-init : goal.loop-i-init
loop-i-init c = record { summed = sum_none _ _ _; rung = over_none _ _ }

pub loop-i-preserved : goal.loop-i-preserved
loop-i-preserved c = let s = c.loop-i.invariant in
    let e = c.resonate-rung.ensures in
    record {
      summed = sum_more _ _ _ _ _ _ e s.summed;
      rung = two_more _ _ _ _ _ _ c.loop-i-test.true (omega arith) e s.rung;
    }

pub returns : goal.returns
returns c = let s = c.loop-i.invariant in rung_done _ _ _ _ _ _ (le_antisymm c.loop-i.auto.i-end c.loop-i-test.false) (omega arith) s.summed s.rung
