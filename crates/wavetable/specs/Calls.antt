-- Calls on a Wavetable, one after another, and what they answer. A tick and a block are lent their bank, of any size and contents.
use Rattle.std.specs.Prelude.{List, ◌≡◌, ℕ, Float}
use Rattle.laws.specs.Float.{F64}
use Rattle.laws.specs.Machine.{Reached}
use Rattle.wavetable.specs.Wavetable.{wavetable_new_of, wavetable_tick_of, wavetable_block_of, wavetable_reset_of, wavetable_set_sample_rate_of}
use Rattle.common.specs.declared.Hertz.{Hertz}
use Rattle.answer.specs.Calls.{outcome}
use Rattle.answer.specs.Block.{Block}
use Rattle.answer.specs.declared.Answer.{Answer}
use Rattle.answer.specs.declared.Tally.{Tally}
use Rattle.wavetable.specs.declared.Wavetable.{Wavetable}
use Rattle.wavetable.specs.declared.WavetableControls.{WavetableControls}

-- a block is lent its tally, its bank, samples and marks
pub data Call : Type 0 where
  Tick : WavetableControls → List Float → Call
  Play : WavetableControls → Tally → List Float → List Float → List ℕ → Call
  Reset : Call
  SetSampleRate : Hertz → Call

-- a call without samples is told 0, or the number that refused it
pub data Reply : Type 0 where
  Ticked : Answer → Reply
  Played : Block Wavetable → Reply
  Told : ℕ → Reply

-- the keys of the memo are f64s, as every control is
abbrev pub Fit : WavetableControls → Type 0
Fit c = F64 c.v_oct.0

abbrev pub FitCall : Call → Type 0
FitCall (Tick c bank) = Fit c
FitCall (Play c t bank o m) = Fit c
FitCall Reset = Unit {0}
FitCall (SetSampleRate r) = Unit {0}

-- the state after a call; a refused one leaves it
unfoldable pub after : Wavetable → Call → Wavetable
after s (Tick c bank) = (wavetable_tick_of s c bank).state
after s (Play c t bank o m) = (wavetable_block_of s c t bank o m).state
after s Reset = (wavetable_reset_of s).state
after s (SetSampleRate r) = (wavetable_set_sample_rate_of s r).state

unfoldable pub reply : Wavetable → Call → Reply
reply s (Tick c bank) = Ticked (wavetable_tick_of s c bank).answer
reply s (Play c t bank o m) = Played (wavetable_block_of s c t bank o m)
reply s Reset = Told (wavetable_reset_of s).refused
reply s (SetSampleRate r) = Told (wavetable_set_sample_rate_of s r).refused

-- an accepted new one
abbrev pub First : Wavetable → Type 0
First s = (r : Hertz) × (t : Float) × (wavetable_new_of r t ≡ outcome 0 s)

abbrev pub ReachedWavetable : Wavetable → Type 0
ReachedWavetable = Reached First FitCall after
