-- Each tick of a block takes the draws that those before it leave.
use Rattle.std.proofs.Common.{le_of_lt}
use Rattle.noise_generator.proofs.TickLaws.{ticks_at}
use Rattle.noise_generator.specs.Promises.{BlockDraws}

pub block_draws : BlockDraws
block_draws s c wanted draws n h i l = let a = ticks_at s c wanted draws n h i (le_of_lt l) in record { left = a.left; needs = a.needs }
