use native.Mathlib.Omega.{arith}
use Rattle.answer.proofs.Blocks.{room_test}
use Rattle.answer.specs.Block.{room_for}
use Rattle.answer.proofs.Tally.has_room.Goals as goal

pub returns-then-adds_up : goal.returns-then-adds_up
unfolding room_for
returns-then-adds_up c = simp (room_test c.args.self.begun c.args.n (omega arith), c.if-adds_up.true, ← c.adds_up.ensures)

pub returns-else-adds_up : goal.returns-else-adds_up
unfolding room_for
returns-else-adds_up c = simp (c.if-adds_up.false, ← c.adds_up.ensures)
