use borrow.Author.Tests.{eq-eqb, ne_eqb}
use Rattle.common.specs.Refusal.{number_of, refused_number}
use Rattle.boundary.specs.Flat.{sizes_of}
use Rattle.boundary.proofs.sizes.Goals as goal

pub returns-then-floats-nf : goal.returns-then-floats-nf
unfolding sizes_of refused_number number_of
returns-then-floats-nf c = simp (ne_eqb _ _ c.if-floats-nf.true)

pub returns-then-wholes-nw : goal.returns-then-wholes-nw
unfolding sizes_of refused_number number_of
returns-then-wholes-nw c = simp (eq-eqb _ _ c.if-floats-nf.false, ne_eqb _ _ c.if-wholes-nw.true)

pub returns-else-wholes-nw : goal.returns-else-wholes-nw
unfolding sizes_of refused_number
returns-else-wholes-nw c = simp (eq-eqb _ _ c.if-floats-nf.false, eq-eqb _ _ c.if-wholes-nw.false)
