use mathlib.Core.Path.{refl}
use native.Mathlib.Omega.{arith}
use Rattle.exports_noise_generator.proofs.Slices.{rows_more, rows_done}
use Rattle.exports_noise_generator.proofs.put_rows.Goals as goal

pub loop-i-init : goal.loop-i-init
loop-i-init c = refl

pub loop-i-preserved : goal.loop-i-preserved
loop-i-preserved c = rows_more _ _ _ _ _ (omega arith) c.loop-i.invariant

pub returns : goal.returns
returns c = rows_done _ _ c.args.rows _ c.loop-i.i (omega arith) (omega arith) c.loop-i.invariant
