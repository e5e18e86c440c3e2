use borrow.Author.Tests.{eq-eqb, ne_eqb}
use Rattle.answer.specs.Tally.{one_if}
use Rattle.answer.proofs.one_if.Goals as goal

pub returns-then-n-k : goal.returns-then-n-k
unfolding one_if
returns-then-n-k c = simp (eq-eqb _ _ c.if-n-k.true)

pub returns-else-n-k : goal.returns-else-n-k
unfolding one_if
returns-else-n-k c = simp (ne_eqb _ _ c.if-n-k.false)
