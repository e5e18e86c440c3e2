-- Calls on a NoiseGenerator, one after another. A block is one of them.
use Rattle.std.specs.Prelude.{◌≡◌, ℕ, ◌⊎◌, List, Float}
use Rattle.laws.specs.Machine.{Reached}
use Rattle.common.specs.declared.Hertz.{Hertz}
use Rattle.answer.specs.declared.Tally.{Tally}
use Rattle.noise_generator.specs.NoiseGenerator.{new_noise_generator, with_correlation, noise_generator_tick_of, noise_generator_block_of}
use Rattle.noise_generator.specs.NoiseGenerator.{restarted, rated}
use Rattle.noise_generator.specs.declared.NoiseGenerator.{NoiseGenerator}
use Rattle.noise_generator.specs.declared.NoiseGeneratorControls.{NoiseGeneratorControls}

-- a tick is given a mask and draws; a block a tally, and buffers of samples and marks too
pub data Call : Type 0 where
  Tick : NoiseGeneratorControls → ℕ → List ℕ → Call
  Play : NoiseGeneratorControls → ℕ → List ℕ → Tally → List Float → List ℕ → Call
  Reset : Call
  SetSampleRate : Hertz → Call

-- the state after a call; a refused one leaves it
unfoldable pub after : NoiseGenerator → Call → NoiseGenerator
after s (Tick c wanted draws) = (noise_generator_tick_of s c wanted draws).state
after s (Play c wanted draws t o m) = (noise_generator_block_of s c wanted draws t o m).state
after s Reset = restarted s
after s (SetSampleRate r) = rated s r

-- a new one, of either making
abbrev pub First : NoiseGenerator → Type 0
First s = (s ≡ new_noise_generator) ⊎ ((c : Float) × (s ≡ with_correlation c))

-- any call
abbrev pub FitCall : Call → Type 0
FitCall c = Unit {0}

abbrev pub ReachedNoiseGenerator : NoiseGenerator → Type 0
ReachedNoiseGenerator = Reached First FitCall after
