-- Calls on a FormantOsc, one after another, and what they answer.
use Rattle.std.specs.Prelude.{List, ◌≡◌, ℕ, Float}
use Rattle.answer.specs.Block.{Block}
use Rattle.answer.specs.Calls.{outcome}
use Rattle.answer.specs.declared.Answer.{Answer}
use Rattle.answer.specs.declared.Tally.{Tally}
use Rattle.common.specs.declared.Hertz.{Hertz}
use Rattle.formant_osc.specs.FormantOsc.{formant_osc_new_of, formant_osc_tick_of, formant_osc_block_of, formant_osc_reset_of, formant_osc_set_sample_rate_of}
use Rattle.formant_osc.specs.declared.FormantOscControls.{FormantOscControls}
use Rattle.formant_osc.specs.declared.FormantOsc.{FormantOsc}
use Rattle.laws.specs.Float.{F64}
use Rattle.laws.specs.Machine.{Reached}

-- a block is lent its tally, samples and marks
pub data Call : Type 0 where
  Tick : FormantOscControls → Call
  Play : FormantOscControls → Tally → List Float → List ℕ → Call
  Reset : Call
  SetSampleRate : Hertz → Call

-- a call without samples is told 0, or the number that refused it
pub data Reply : Type 0 where
  Ticked : Answer → Reply
  Played : Block FormantOsc → Reply
  Told : ℕ → Reply

-- the keys of the coefficients are f64s, as every number handed in is
abbrev pub Fit : FormantOscControls → Type 0
Fit c = F64 c.vowel × F64 c.formant_shift

abbrev pub FitCall : Call → Type 0
FitCall (Tick c) = Fit c
FitCall (Play c t o m) = Fit c
FitCall Reset = Unit {0}
FitCall (SetSampleRate r) = F64 r.0

-- the state after a call; a refused one leaves it
unfoldable pub after : FormantOsc → Call → FormantOsc
after s (Tick c) = (formant_osc_tick_of s c).state
after s (Play c t o m) = (formant_osc_block_of s c t o m).state
after s Reset = (formant_osc_reset_of s).state
after s (SetSampleRate r) = (formant_osc_set_sample_rate_of s r).state

unfoldable pub reply : FormantOsc → Call → Reply
reply s (Tick c) = Ticked (formant_osc_tick_of s c).answer
reply s (Play c t o m) = Played (formant_osc_block_of s c t o m)
reply s Reset = Told (formant_osc_reset_of s).refused
reply s (SetSampleRate r) = Told (formant_osc_set_sample_rate_of s r).refused

-- an accepted new one
abbrev pub First : FormantOsc → Type 0
First s = (r : Hertz) × F64 r.0 × (formant_osc_new_of r ≡ outcome 0 s)

abbrev pub ReachedFormantOsc : FormantOsc → Type 0
ReachedFormantOsc = Reached First FitCall after

abbrev pub NoReset : Call → Type 0
NoReset (Tick c) = Unit {0}
NoReset (Play c t o m) = Unit {0}
NoReset Reset = ⊥
NoReset (SetSampleRate r) = Unit {0}

-- what becomes of s by calls, blocks and refused ones among them, none of which is a reset
abbrev pub Later : FormantOsc → FormantOsc → Type 0
Later s = Reached (λ (t : FormantOsc). t ≡ s) NoReset after
