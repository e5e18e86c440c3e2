use Rattle.std.proofs.Common.{le_antisymm}
use Rattle.laws.proofs.Over.{over_none}
use Rattle.formant_osc.proofs.Parts.{row_more, rows_done}
use Rattle.formant_osc.proofs.resonator_coefs.Goals as goal

pub loop-i-init : goal.loop-i-init
loop-i-init c = over_none _ _

pub loop-i-preserved : goal.loop-i-preserved
loop-i-preserved c = row_more _ _ _ _ _ _ _ c.loop-i-test.true c.get_formants-freqs.ensures c.one_coef-coef.ensures c.loop-i.invariant

pub returns : goal.returns
returns c = rows_done _ _ _ _ _ (le_antisymm c.loop-i.auto.i-end c.loop-i-test.false) c.loop-i.invariant
