-- floor: the four ways of MagicFloor.
use Rattle.std.proofs.Common.{sym, ◌∙◌}
use lib.Ieee.{binary64, fits}
use Rattle.laws.proofs.Tests.{of_true}
use Rattle.numeric.proofs.MagicFloor.{floor_down, floor_high, floor_low, floor_up}
use Rattle.numeric.proofs.floor.Goals as goal

pub returns-then-x-2 : goal.returns-then-x-2
returns-then-x-2 c = c.pick.ensures ∙ floor_down c.args.x c.if-x.true c.if-x-2.true

pub returns-else-x-2 : goal.returns-else-x-2
returns-else-x-2 c = sym (floor_low c.args.x (of_true (fits binary64 c.args.x) c.well_formed.0.1) c.if-x.true c.if-x-2.false)

pub returns-then-x-3 : goal.returns-then-x-3
returns-then-x-3 c = c.pick-then-x-3.ensures ∙ floor_up c.args.x c.if-x.false c.if-x-3.true

pub returns-else-x-3 : goal.returns-else-x-3
returns-else-x-3 c = sym (floor_high c.args.x (of_true (fits binary64 c.args.x) c.well_formed.0.1) c.if-x.false c.if-x-3.false)
