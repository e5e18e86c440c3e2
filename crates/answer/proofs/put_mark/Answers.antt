use mathlib.Core.Path.{sym}
use native.Mathlib.Omega.{arith}
use lib.Seq.{set_out}
use Rattle.answer.proofs.put_mark.Goals as goal

pub returns-else-i-marks : goal.returns-else-i-marks
returns-else-i-marks c = let entered = c.args in sym (set_out entered.marks.now entered.i entered.number (omega arith))
