use mathlib.Core.Path.{◌≡◌}
use Prim.Native.Nat.{◌≤◌}
use lib.ListN.{length}
use Rattle.answer.specs.Block.{many_to, cells_of}
use Rattle.answer.proofs.count_of.Given as goal

abbrev pub invariant-loop-mark : goal.invariant-loop-mark
invariant-loop-mark l = (l.mark-index ≤ length l.marks) × (l.many ≡ many_to l.k (cells_of l.marks) l.mark-index) × (l.many ≤ l.mark-index)
