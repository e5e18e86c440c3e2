use Rattle.std.proofs.Common.{rules, refl}
use Rattle.noise_generator.specs.NoiseGenerator.{needed_by}
use Rattle.exports_noise_generator.specs.Calls.{noise_generator_needed_by_at}
use Rattle.exports_noise_generator.specs.State.{state_of}
use Rattle.exports_noise_generator.proofs.Needed.{told}
use Rattle.exports_noise_generator.proofs.gruttisol_noise_generator_needed_by.Goals as goal

pub returns : goal.returns
unfolding noise_generator_needed_by_at needed_by state_of
returns c = told _ c.args.wholes.now _ _ (λ s. needed_by s c.args.ticks) refl c.state.ensures c.map_or.ensures (λ s h. search rules)
