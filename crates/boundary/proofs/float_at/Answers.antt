use lib.Ieee.{of_bits}
use Rattle.std.proofs.Common.{rules}
use Rattle.boundary.proofs.float_at.Goals as goal

pub returns : goal.returns
unfolding of_bits
returns c = search rules
