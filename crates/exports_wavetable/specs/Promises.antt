-- Theorems about the exported calls: the statements. proofs/ proves each under the same name in small letters.
use Rattle.std.specs.Prelude.{List, ◌≡◌, ℕ, Float}
use Rattle.boundary.specs.Flat.{Kept, Heard, Played}
use Rattle.laws.specs.Machine.{Settles}
use Rattle.exports_wavetable.specs.Calls.{wavetable_new_at, wavetable_reset_at, wavetable_set_sample_rate_at, wavetable_tick_at, wavetable_block_at}
use Rattle.exports_wavetable.specs.Calls.{FilledWith, wavetable_fill_bank_at, wavetable_fill_table_at}
use Rattle.exports_wavetable.specs.State.{state_of, floats_of, wholes_of}
use Rattle.wavetable.specs.declared.Wavetable.{Wavetable}

-- the slices hold the whole state
abbrev pub ReadBack : Type 0
ReadBack = (s : Wavetable) → state_of (floats_of s) (wholes_of s) ≡ s

-- each contract settles the number and every lent slice at exit
pub record Settled : Type 0 where
  pub new : (rate threshold : Float) (f : List Float) (w : List ℕ) → Settles (λ (k : Kept). k ≡ wavetable_new_at rate threshold f w)
  pub tick : (v table morph sync : Float) (l f : List Float) (w : List ℕ) (o : List Float)
      → Settles (λ (h : Heard). h ≡ wavetable_tick_at v table morph sync l f w o)
  pub block : (v table morph sync : Float) (l f : List Float) (w k : List ℕ) (o : List Float) (m : List ℕ)
      → Settles (λ (p : Played). p ≡ wavetable_block_at v table morph sync l f w k o m)
  pub reset : (f : List Float) (w : List ℕ) → Settles (λ (k : Kept). k ≡ wavetable_reset_at f w)
  pub set_sample_rate : (rate : Float) (f : List Float) (w : List ℕ) → Settles (λ (k : Kept). k ≡ wavetable_set_sample_rate_at rate f w)
  pub fill_bank : (l : List Float) → Settles (λ (k : FilledWith). k ≡ wavetable_fill_bank_at l)
  pub fill_table : (table : ℕ) (l : List Float) → Settles (λ (k : FilledWith). k ≡ wavetable_fill_table_at table l)
