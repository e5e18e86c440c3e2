-- mid: what exp_part and scale ensure; x plus the bias is a number, as scale asks.
use lib.Ieee.{of_bits}
use Rattle.laws.proofs.Number.{add_number}
use Rattle.numeric.specs.Power.{biased, mid_of, scaled_of}
use Rattle.numeric.proofs.mid.Goals as goal

pub scale-requires : goal.scale-requires
unfolding of_bits
scale-requires c = add_number c.args.x biased tt c.requires

pub returns : goal.returns
unfolding mid_of scaled_of
returns c = simp (c.scale.ensures, c.exp_part.ensures)
