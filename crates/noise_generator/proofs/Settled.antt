-- Each contract is one equation, so it settles its answer.
use Rattle.laws.proofs.Settled as laws
use Rattle.noise_generator.specs.NoiseGenerator.{new_noise_generator, with_correlation, needed_of, needed_by}
use Rattle.noise_generator.specs.NoiseGenerator.{noise_generator_tick_of, noise_generator_block_of, restarted, rated}
use Rattle.noise_generator.specs.Promises.{Settled}

pub settled : Settled
settled =
    record {
      new = laws.settled new_noise_generator;
      with_correlation = λ c. laws.settled (with_correlation c);
      needed = λ s. laws.settled (needed_of s);
      needed_by = λ s ticks. laws.settled (needed_by s ticks);
      tick = λ s c wanted draws. laws.settled (noise_generator_tick_of s c wanted draws);
      block = λ s c wanted draws t o m. laws.settled (noise_generator_block_of s c wanted draws t o m);
      reset = λ s. laws.settled (restarted s);
      set_sample_rate = λ s r. laws.settled (rated s r);
    }
