use Rattle.std.proofs.Common.{rules, refl}
use Rattle.noise_generator.specs.NoiseGenerator.{needed_of}
use Rattle.exports_noise_generator.specs.Calls.{noise_generator_needed_at}
use Rattle.exports_noise_generator.specs.State.{state_of}
use Rattle.exports_noise_generator.proofs.Needed.{told}
use Rattle.exports_noise_generator.proofs.gruttisol_noise_generator_needed.Goals as goal

pub returns : goal.returns
unfolding noise_generator_needed_at needed_of state_of
returns c = told _ c.args.wholes.now _ _ needed_of refl c.state.ensures c.map_or.ensures (λ s h. search rules)
