-- exp2: each branch is a case of exp2_of; what is compared is a number, as mid asks.
use lib.Ieee.{binary64, div, of_bits}
use Rattle.laws.proofs.Number.{lt_number, sub_number}
use Rattle.laws.specs.Float.{one}
use Rattle.numeric.specs.Power.{exp2_of}
use Rattle.numeric.proofs.exp2.Goals as goal

pub mid-requires : goal.mid-requires
mid-requires c = lt_number c.args.x (of_bits binary64 0x408ff80000000000) c.if-x.true

pub mid-requires-then-x-3 : goal.mid-requires-then-x-3
unfolding of_bits
mid-requires-then-x-3 c = sub_number c.args.x one tt (lt_number c.args.x (of_bits binary64 0x4090000000000000) c.if-x-3.true)

pub returns-then-x-2 : goal.returns-then-x-2
unfolding exp2_of of_bits div
returns-then-x-2 c = simp (c.mid.ensures, c.if-x-2.true, c.if-x.true)

pub returns-else-x-2 : goal.returns-else-x-2
unfolding exp2_of of_bits div
returns-else-x-2 c = simp (c.if-x-2.false, c.if-x.true)

pub returns-then-x-3 : goal.returns-then-x-3
unfolding exp2_of of_bits div
returns-then-x-3 c = simp (c.mid-then-x-3.ensures, c.if-x-3.true, c.if-x.false)

pub returns-then-x-4 : goal.returns-then-x-4
unfolding exp2_of of_bits div
returns-then-x-4 c = simp (c.if-x-4.true, c.if-x-3.false, c.if-x.false)

pub returns-else-x-4 : goal.returns-else-x-4
unfolding exp2_of of_bits div
returns-else-x-4 c = simp (c.if-x-4.false, c.if-x-3.false, c.if-x.false)
