-- Theorems about the exported calls: the statements. proofs/ proves each under the same name in small letters.
use Rattle.std.specs.Prelude.{List, ◌≡◌, ℕ, Float, length}
use Rattle.boundary.specs.Flat.{Kept, Heard, Played}
use Rattle.exports_formant_osc.specs.Calls.{formant_osc_new_at, formant_osc_reset_at, formant_osc_set_sample_rate_at, formant_osc_tick_at, formant_osc_block_at}
use Rattle.exports_formant_osc.specs.State.{state_of, floats_of, wholes_of}
use Rattle.formant_osc.specs.declared.FormantOsc.{FormantOsc}
use Rattle.laws.specs.Machine.{Settles}

-- the slices hold the whole state, whose arrays have 10 and 15 cells
abbrev pub ReadBack : Type 0
ReadBack = (s : FormantOsc) → length s.resonator_state ≡ 10 → length s.coef_memo.val ≡ 15 → state_of (floats_of s) (wholes_of s) ≡ s

-- each contract settles the number and every lent slice at exit
pub record Settled : Type 0 where
  pub new : (rate : Float) (f : List Float) (w : List ℕ) → Settles (λ (k : Kept). k ≡ formant_osc_new_at rate f w)
  pub tick : (v_oct vowel shift vibrato : Float) (f : List Float) (w : List ℕ) (o : List Float)
      → Settles (λ (h : Heard). h ≡ formant_osc_tick_at v_oct vowel shift vibrato f w o)
  pub block : (v_oct vowel shift vibrato : Float) (f : List Float) (w k : List ℕ) (o : List Float) (m : List ℕ)
      → Settles (λ (p : Played). p ≡ formant_osc_block_at v_oct vowel shift vibrato f w k o m)
  pub reset : (f : List Float) (w : List ℕ) → Settles (λ (k : Kept). k ≡ formant_osc_reset_at f w)
  pub set_sample_rate : (rate : Float) (f : List Float) (w : List ℕ) → Settles (λ (k : Kept). k ≡ formant_osc_set_sample_rate_at rate f w)
