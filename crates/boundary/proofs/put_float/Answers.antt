use mathlib.Core.Path.{sym}
use lib.Seq.{set_out}
use Rattle.boundary.proofs.put_float.Goals as goal

pub returns-else-i-part : goal.returns-else-i-part
returns-else-i-part c = let a = c.args in sym (set_out a.part.now a.i a.x c.if-i-part.false)
