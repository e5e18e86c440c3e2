use borrow.Author.Tests.{ne_eqb}
use Rattle.answer.specs.Block.{block_refusal_of}
use Rattle.common.specs.Refusal.{refused_number, number_of}
use Rattle.answer.proofs.block_refusal.Goals as goal

pub returns-in-Ok : goal.returns-in-Ok
unfolding refused_number
returns-in-Ok c = simp (c.if-number-eq0.true, ← c.block_outcome.ensures, c.in-Ok.is)

pub returns-in-Err : goal.returns-in-Err
unfolding refused_number
returns-in-Err c = simp (c.number.ensures, c.if-number-eq0.true, ← c.block_outcome.ensures, c.in-Err.is)

pub returns-then-fits : goal.returns-then-fits
unfolding block_refusal_of
returns-then-fits c = simp (ne_eqb _ _ c.if-number-eq0.false, c.if-fits.true, ← c.fits.ensures)

pub returns-else-fits : goal.returns-else-fits
unfolding block_refusal_of number_of
returns-else-fits c = simp (c.number-else-fits.ensures, c.if-fits.false, ← c.fits.ensures)
