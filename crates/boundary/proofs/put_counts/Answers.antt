use borrow.Author.Tests.{eq-eqb, ne_eqb}
use Rattle.boundary.specs.Flat.{counts_put, counts_outcome}
use Rattle.boundary.proofs.put_counts.Goals as goal

pub returns-then-counts-ne-COUNTS : goal.returns-then-counts-ne-COUNTS
unfolding counts_outcome counts_put
returns-then-counts-ne-COUNTS c = (simp (ne_eqb _ _ c.if-counts-ne-COUNTS.true), simp (ne_eqb _ _ c.if-counts-ne-COUNTS.true))

pub returns : goal.returns
unfolding counts_outcome counts_put
returns c = (simp (eq-eqb _ _ c.if-counts-ne-COUNTS.false), simp (eq-eqb _ _ c.if-counts-ne-COUNTS.false) c.store_counts.ensures)
