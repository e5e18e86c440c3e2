use borrow.Author.Tests.{eq-eqb, ne_eqb}
use Rattle.boundary.specs.Flat.{tally_from}
use Rattle.boundary.proofs.tally_of.Goals as goal

pub returns-else-counts-eq-COUNTS : goal.returns-else-counts-eq-COUNTS
unfolding tally_from
returns-else-counts-eq-COUNTS c = simp (ne_eqb _ _ c.if-counts-eq-COUNTS.false)

pub returns-then-counts-eq-COUNTS : goal.returns-then-counts-eq-COUNTS
unfolding tally_from
returns-then-counts-eq-COUNTS c = simp (eq-eqb _ _ c.if-counts-eq-COUNTS.true)
