use mathlib.Core.Path.{refl, ap, ◌∙◌}
use native.Mathlib.Nat.{le_antisymm}
use native.Mathlib.Numerals.{add-one}
use native.Mathlib.Omega.{arith}
use Rattle.answer.proofs.Laws.{at_most_one}
use Rattle.answer.specs.Block.{many_to, cells_of}
use Rattle.answer.proofs.count_of.Goals as goal

pub loop-mark-init : goal.loop-mark-init
unfolding many_to
loop-mark-init c = (omega arith, refl, omega arith)

pub overflow_add-many : goal.overflow_add-many
overflow_add-many c = let o = at_most_one _ _ _ c.one_if-many.ensures in omega arith

pub loop-mark-preserved : goal.loop-mark-preserved
unfolding many_to
loop-mark-preserved c = let s = c.loop-mark.invariant in
    let o = at_most_one _ _ _ c.one_if-many.ensures in
    (omega arith, rw (add-one, s.1, c.one_if-many.ensures), omega arith)

pub returns : goal.returns
returns c = let s = c.loop-mark.invariant in s.1 ∙ ap (λ k. many_to c.args.k (cells_of c.args.marks.now) k) (le_antisymm s.0 c.loop-mark-test.false)
