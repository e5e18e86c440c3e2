-- Theorems about the exported calls: the statements. proofs/ proves each under the same name in small letters.
use Rattle.std.specs.Prelude.{List, ◌≡◌, ℕ, ◌<◌, Float, length}
use Rattle.boundary.specs.Flat.{Kept, Heard, Played}
use Rattle.laws.specs.Machine.{Settles}
use Rattle.noise_generator.specs.NoiseGenerator.{needed_of, needed_by}
use Rattle.noise_generator.specs.declared.NoiseGenerator.{NoiseGenerator}
use Rattle.noise_generator.specs.declared.PinkNoiseState.{PinkNoiseState}
use Rattle.exports_noise_generator.specs.Calls.{noise_generator_new_at, noise_generator_with_correlation_at, noise_generator_needed_at}
use Rattle.exports_noise_generator.specs.Calls.{noise_generator_needed_by_at}
use Rattle.exports_noise_generator.specs.Calls.{noise_generator_tick_at, noise_generator_block_at, noise_generator_reset_at, noise_generator_set_sample_rate_at}
use Rattle.exports_noise_generator.specs.State.{n_wholes, state_of, floats_of, wholes_of}

-- sixteen rows and a u32, as the types have them
abbrev pub Fit : PinkNoiseState → Type 0
Fit p = (length p.rows ≡ 16) × (p.index < 4294967296)

-- the slices hold the whole state
abbrev pub ReadBack : Type 0
ReadBack = (s : NoiseGenerator) → Fit s.pink → Fit s.pink2 → state_of (floats_of s) (wholes_of s) ≡ s

-- what a host is told of the draws from the counters is what the state needs, whatever its floats are
pub record NeededByCounters (f : List Float) (w : List ℕ) : Type 0 where
  pub one : noise_generator_needed_at w ≡ needed_of (state_of f w)
  pub many : (ticks : ℕ) → noise_generator_needed_by_at ticks w ≡ needed_by (state_of f w) ticks

abbrev pub NeededTold : Type 0
NeededTold = (f : List Float) (w : List ℕ) → length w ≡ n_wholes → NeededByCounters f w

-- each contract settles the number and every lent slice at exit
pub record Settled : Type 0 where
  pub new : (f : List Float) (w : List ℕ) → Settles (λ (k : Kept). k ≡ noise_generator_new_at f w)
  pub with_correlation : (c : Float) (f : List Float) (w : List ℕ) → Settles (λ (k : Kept). k ≡ noise_generator_with_correlation_at c f w)
  pub needed : (w : List ℕ) → Settles (λ (n : ℕ). n ≡ noise_generator_needed_at w)
  pub needed_by : (ticks : ℕ) (w : List ℕ) → Settles (λ (n : ℕ). n ≡ noise_generator_needed_by_at ticks w)
  pub tick : (given : ℕ) (c : Float) (wanted : ℕ) (f : List Float) (w draws : List ℕ) (o : List Float)
      → Settles (λ (h : Heard). h ≡ noise_generator_tick_at given c wanted f w draws o)
  pub block : (given : ℕ) (c : Float) (wanted : ℕ) (f : List Float) (w draws k : List ℕ) (o : List Float) (m : List ℕ)
      → Settles (λ (p : Played). p ≡ noise_generator_block_at given c wanted f w draws k o m)
  pub reset : (f : List Float) (w : List ℕ) → Settles (λ (k : Kept). k ≡ noise_generator_reset_at f w)
  pub set_sample_rate : (rate : Float) (f : List Float) (w : List ℕ) → Settles (λ (k : Kept). k ≡ noise_generator_set_sample_rate_at rate f w)
