-- fabs: x above 0 is its own size, and any other is taken off 0.
use lib.Ieee.{binary64, fits}
use Rattle.laws.proofs.Tests.{of_true}
use Rattle.numeric.proofs.BasicLaws.{fabs_kept, fabs_turned}
use Rattle.numeric.proofs.fabs.Goals as goal

pub returns-then-x : goal.returns-then-x
returns-then-x c = fabs_kept c.args.x c.if-x.true

pub returns-else-x : goal.returns-else-x
returns-else-x c = fabs_turned c.args.x (of_true (fits binary64 c.args.x) c.well_formed.0.1) c.if-x.false
