-- Theorems about the exported calls: the statements. proofs/ proves each under the same name in small letters.
use Rattle.std.specs.Prelude.{List, ◌≡◌, ℕ, Float}
use Rattle.boundary.specs.Flat.{Kept, Heard, Played}
use Rattle.laws.specs.Machine.{Settles}
use Rattle.exports_vco.specs.Calls.{vco_new_at, vco_reset_at, vco_set_sample_rate_at, vco_tick_at, vco_block_at}
use Rattle.exports_vco.specs.State.{state_of, floats_of, wholes_of}
use Rattle.vco.specs.declared.Vco.{Vco}
use Rattle.vco.specs.declared.VcoControls.{VcoControls}

-- the slices hold the whole state
abbrev pub ReadBack : Type 0
ReadBack = (s : Vco) → state_of (floats_of s) (wholes_of s) ≡ s

-- each contract settles the number and every lent slice at exit
pub record Settled : Type 0 where
  pub new : (rate threshold : Float) (f : List Float) (w : List ℕ) → Settles (λ (k : Kept). k ≡ vco_new_at rate threshold f w)
  pub tick : (c : VcoControls) (wanted : ℕ) (f : List Float) (w : List ℕ) (o : List Float) → Settles (λ (h : Heard). h ≡ vco_tick_at c wanted f w o)
  pub block : (c : VcoControls) (wanted : ℕ) (f : List Float) (w k : List ℕ) (o : List Float) (m : List ℕ)
      → Settles (λ (p : Played). p ≡ vco_block_at c wanted f w k o m)
  pub reset : (f : List Float) (w : List ℕ) → Settles (λ (k : Kept). k ≡ vco_reset_at f w)
  pub set_sample_rate : (rate : Float) (f : List Float) (w : List ℕ) → Settles (λ (k : Kept). k ≡ vco_set_sample_rate_at rate f w)
