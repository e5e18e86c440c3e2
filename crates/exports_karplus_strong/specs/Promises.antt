-- Theorems about the exported calls: the statements. proofs/ proves each under the same name in small letters.
use Rattle.std.specs.Prelude.{List, ◌≡◌, ℕ, Float}
use Rattle.laws.specs.Machine.{Settles}
use Rattle.exports_karplus_strong.specs.Calls.{Left, Sounded, Rung, karplus_strong_cells_at, karplus_strong_new_at, karplus_strong_tick_at}
use Rattle.exports_karplus_strong.specs.Calls.{karplus_strong_block_at}
use Rattle.exports_karplus_strong.specs.Calls.{karplus_strong_reset_at, karplus_strong_set_sample_rate_at}
use Rattle.exports_karplus_strong.specs.State.{state_of, floats_of, wholes_of}
use Rattle.karplus_strong.specs.declared.KarplusStrong.{KarplusStrong}

-- the slices hold the whole state
abbrev pub ReadBack : Type 0
ReadBack = (s : KarplusStrong) → state_of (floats_of s) (wholes_of s) ≡ s

-- each contract settles the number and every lent slice at exit
pub record Settled : Type 0 where
  pub cells : (rate : Float) → Settles (λ (n : ℕ). n ≡ karplus_strong_cells_at rate)
  pub new : (rate threshold : Float) (f : List Float) (w : List ℕ) (l : List Float) → Settles (λ (k : Left). k ≡ karplus_strong_new_at rate threshold f w l)
  pub tick : (voct trigger damping brightness stretch : Float) (f : List Float) (w : List ℕ) (l : List Float) (draws : List ℕ) (o : List Float)
      → Settles (λ (h : Sounded). h ≡ karplus_strong_tick_at voct trigger damping brightness stretch f w l draws o)
  pub block : (voct trigger damping brightness stretch : Float) (f : List Float) (w : List ℕ) (l : List Float) (draws k : List ℕ) (o : List Float) (m : List ℕ)
      → Settles (λ (r : Rung). r ≡ karplus_strong_block_at voct trigger damping brightness stretch f w l draws k o m)
  pub reset : (f : List Float) (w : List ℕ) (l : List Float) → Settles (λ (k : Left). k ≡ karplus_strong_reset_at f w l)
  pub set_sample_rate : (rate : Float) (f : List Float) (w : List ℕ) (l : List Float) → Settles (λ (k : Left). k ≡ karplus_strong_set_sample_rate_at rate f w l)
