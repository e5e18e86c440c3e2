-- What each exported call answers, and what it leaves in the lent slices. f, w, k, o and m are floats, wholes, counts, samples and
-- marks as they stood.
use Rattle.std.specs.Prelude.{cond, List, [], ℕ, eqb, Float, length, Some, None}
use Rattle.boundary.specs.Flat.{Kept, kept, kept_sized, Heard, heard_of, heard_sized, Played, played_of, played_sized}
use Rattle.noise_generator.specs.NoiseGenerator.{new_noise_generator, with_correlation, needed_of, needed_by}
use Rattle.noise_generator.specs.NoiseGenerator.{noise_generator_tick_of, noise_generator_block_of, restarted, rated}
use Rattle.noise_generator.specs.declared.NoiseGenerator.{NoiseGenerator}
use Rattle.noise_generator.specs.declared.NoiseGeneratorControls.{NoiseGeneratorControls}
use Rattle.exports_noise_generator.specs.State.{n_floats, n_wholes, n_samples, state_of, floats_of, wholes_of, samples_of}

-- ---- calls without samples: none refuses but for the lengths
abbrev pub kept_of : NoiseGenerator → Kept
kept_of s = kept 0 (floats_of s) (wholes_of s)

unfoldable pub noise_generator_new_at : List Float → List ℕ → Kept
noise_generator_new_at f w = kept_sized n_floats n_wholes (kept_of new_noise_generator) f w

unfoldable pub noise_generator_with_correlation_at : Float → List Float → List ℕ → Kept
noise_generator_with_correlation_at c f w = kept_sized n_floats n_wholes (kept_of (with_correlation c)) f w

unfoldable pub noise_generator_reset_at : List Float → List ℕ → Kept
noise_generator_reset_at f w = kept_sized n_floats n_wholes (kept_of (restarted (state_of f w))) f w

unfoldable pub noise_generator_set_sample_rate_at : Float → List Float → List ℕ → Kept
noise_generator_set_sample_rate_at rate f w = kept_sized n_floats n_wholes (kept_of (rated (state_of f w) (record { 0 = rate }))) f w

-- ---- the draws that ticks need: the counters settle them, so no floats are asked
unfoldable pub noise_generator_needed_at : List ℕ → ℕ
noise_generator_needed_at w = cond (eqb (length w) n_wholes) (needed_of (state_of [] w)) 0

unfoldable pub noise_generator_needed_by_at : ℕ → List ℕ → ℕ
noise_generator_needed_by_at ticks w = cond (eqb (length w) n_wholes) (needed_by (state_of [] w) ticks) 0

-- ---- ticks. A `given` of 0 leaves the correlation to the stored one.
unfoldable pub controls_of : ℕ → Float → NoiseGeneratorControls
controls_of given c = record { correlation = cond (eqb given 0) None (Some c) }

unfoldable pub noise_generator_tick_at : ℕ → Float → ℕ → List Float → List ℕ → List ℕ → List Float → Heard
noise_generator_tick_at given c wanted f w draws o =
    let t = noise_generator_tick_of (state_of f w) (controls_of given c) wanted draws in
    heard_sized n_floats n_wholes n_samples (heard_of floats_of wholes_of samples_of t.answer t.state f w o) f w o

-- a block: 0, the state, the counts, the samples and the marks after it, or what refused it
unfoldable pub noise_generator_block_at : ℕ → Float → ℕ → List Float → List ℕ → List ℕ → List ℕ → List Float → List ℕ → Played
noise_generator_block_at given c wanted f w draws k o m =
    played_sized n_floats n_wholes (λ t. played_of floats_of wholes_of (noise_generator_block_of (state_of f w) (controls_of given c) wanted draws t o m) f w k)
    f w k o m
