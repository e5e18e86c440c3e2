-- far: each branch is a case of far_of; what is compared is a number, as turned asks.
use lib.Ieee.{binary64, div, of_bits}
use Rattle.laws.proofs.Number.{le_number}
use Rattle.numeric.specs.Trig.{far_of}
use Rattle.numeric.proofs.far.Goals as goal

pub turned-requires : goal.turned-requires
turned-requires c = (c.requires, le_number c.args.x (of_bits binary64 0x4080000000000000) c.if-x.true)

pub returns-then-x-2 : goal.returns-then-x-2
unfolding far_of of_bits div
returns-then-x-2 c = simp (c.turned.ensures, c.if-x-2.true, c.if-x.true)

pub returns-else-x-2 : goal.returns-else-x-2
unfolding far_of of_bits div
returns-else-x-2 c = simp (c.if-x-2.false, c.if-x.true)

pub returns-else-x : goal.returns-else-x
unfolding far_of of_bits div
returns-else-x c = simp c.if-x.false
