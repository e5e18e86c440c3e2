-- turned: what rest and quadrant_of ensure; the sum with the shift is a number, whose bits are taken.
use lib.Ieee.{of_bits}
use Rattle.laws.proofs.Number.{add_number, mul_number}
use Rattle.numeric.specs.Trig.{shift, shifted_of, turned_of}
use Rattle.numeric.proofs.turned.Goals as goal

pub float_to_bits-q : goal.float_to_bits-q
unfolding of_bits
float_to_bits-q c = add_number _ shift tt (mul_number c.args.x _ tt c.requires.1)

pub returns : goal.returns
unfolding turned_of shifted_of
returns c = simp (c.quadrant_of.ensures, c.rest.ensures)
