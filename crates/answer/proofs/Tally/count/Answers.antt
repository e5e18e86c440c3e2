use native.Mathlib.Omega.{arith}
use Rattle.answer.proofs.Laws.{at_most_one}
use Rattle.answer.specs.Tally.{counted}
use Rattle.answer.proofs.Tally.count.Goals as goal

pub overflow_add-result-2 : goal.overflow_add-result-2
overflow_add-result-2 c = omega (arith, at_most_one _ _ _ c.one_if.ensures)

pub overflow_add-result-3 : goal.overflow_add-result-3
overflow_add-result-3 c = omega (arith, at_most_one _ _ _ c.one_if-2.ensures)

pub overflow_add-result-4 : goal.overflow_add-result-4
overflow_add-result-4 c = omega (arith, at_most_one _ _ _ c.one_if-3.ensures)

pub overflow_add-result-5 : goal.overflow_add-result-5
overflow_add-result-5 c = omega (arith, at_most_one _ _ _ c.one_if-4.ensures)

pub overflow_add-result-6 : goal.overflow_add-result-6
overflow_add-result-6 c = omega (arith, at_most_one _ _ _ c.one_if-5.ensures)

pub returns : goal.returns
unfolding counted
returns c = simp (
  c.one_if-5.ensures,
  c.one_if-4.ensures,
  c.one_if-3.ensures,
  c.one_if-2.ensures,
  c.one_if.ensures,
)
