-- Theorems about the exported calls: the statements. proofs/ proves each under the same name in small letters.
use Rattle.std.specs.Prelude.{List, ◌≡◌, ℕ, Float}
use Rattle.boundary.specs.Flat.{Kept, Heard, Played}
use Rattle.laws.specs.Machine.{Settles}
use Rattle.exports_lfo.specs.Calls.{lfo_new_at, lfo_reset_at, lfo_set_sample_rate_at, lfo_tick_at, lfo_block_at}
use Rattle.exports_lfo.specs.State.{state_of, floats_of, wholes_of}
use Rattle.lfo.specs.declared.Lfo.{Lfo}

-- the slices hold the whole state
abbrev pub ReadBack : Type 0
ReadBack = (s : Lfo) → state_of (floats_of s) (wholes_of s) ≡ s

-- each contract settles the number and every lent slice at exit
pub record Settled : Type 0 where
  pub new : (rate threshold : Float) (f : List Float) (w : List ℕ) → Settles (λ (k : Kept). k ≡ lfo_new_at rate threshold f w)
  pub tick : (rate depth reset : Float) (wanted : ℕ) (f : List Float) (w : List ℕ) (o : List Float)
      → Settles (λ (h : Heard). h ≡ lfo_tick_at rate depth reset wanted f w o)
  pub block : (rate depth reset : Float) (wanted : ℕ) (f : List Float) (w k : List ℕ) (o : List Float) (m : List ℕ)
      → Settles (λ (p : Played). p ≡ lfo_block_at rate depth reset wanted f w k o m)
  pub reset : (f : List Float) (w : List ℕ) → Settles (λ (k : Kept). k ≡ lfo_reset_at f w)
  pub set_sample_rate : (rate : Float) (f : List Float) (w : List ℕ) → Settles (λ (k : Kept). k ≡ lfo_set_sample_rate_at rate f w)
