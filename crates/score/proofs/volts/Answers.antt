-- `score::volts` meets its contract. Assumes nothing.
use lib.Ieee.{of_bits}
use Rattle.score.specs.Control.{volts_of}
use Rattle.score.proofs.volts.Goals as goal

pub returns-in-Nan : goal.returns-in-Nan
unfolding volts_of of_bits
returns-in-Nan c = simp c.in-Nan.is
