-- Theorems about the exported calls: the statements. proofs/ proves each under the same name in small letters.
use Rattle.std.specs.Prelude.{List, ◌≡◌, ℕ, length, Float}
use Rattle.boundary.specs.Flat.{Kept, Heard, Played}
use Rattle.laws.specs.Machine.{Settles}
use Rattle.exports_supersaw.specs.Calls.{supersaw_new_at, supersaw_reset_at, supersaw_set_sample_rate_at, supersaw_tick_at, supersaw_block_at}
use Rattle.exports_supersaw.specs.State.{state_of, floats_of, wholes_of}
use Rattle.supersaw.specs.declared.Supersaw.{Supersaw}

-- the slices hold the whole state, whose phases are seven
abbrev pub ReadBack : Type 0
ReadBack = (s : Supersaw) → length s.phases ≡ 7 → state_of (floats_of s) (wholes_of s) ≡ s

-- each contract settles the number and every lent slice at exit
pub record Settled : Type 0 where
  pub new : (rate : Float) (f : List Float) (w : List ℕ) → Settles (λ (k : Kept). k ≡ supersaw_new_at rate f w)
  pub tick : (voct detune mix : Float) (f : List Float) (w : List ℕ) (o : List Float) → Settles (λ (h : Heard). h ≡ supersaw_tick_at voct detune mix f w o)
  pub block : (voct detune mix : Float) (f : List Float) (w k : List ℕ) (o : List Float) (m : List ℕ)
      → Settles (λ (p : Played). p ≡ supersaw_block_at voct detune mix f w k o m)
  pub reset : (f : List Float) (w : List ℕ) → Settles (λ (k : Kept). k ≡ supersaw_reset_at f w)
  pub set_sample_rate : (rate : Float) (f : List Float) (w : List ℕ) → Settles (λ (k : Kept). k ≡ supersaw_set_sample_rate_at rate f w)
