-- Calls on an Lfo, one after another, and what they answer. A block is one of them.
use Rattle.std.specs.Prelude.{List, ◌≡◌, ℕ, Float}
use Rattle.laws.specs.Float.{F64}
use Rattle.laws.specs.Machine.{Reached}
use Rattle.lfo.specs.Lfo.{lfo_new_of, lfo_tick_of, lfo_block_of, lfo_reset_of, lfo_set_sample_rate_of}
use Rattle.common.specs.declared.Hertz.{Hertz}
use Rattle.answer.specs.Calls.{outcome}
use Rattle.answer.specs.Block.{Block}
use Rattle.answer.specs.declared.Answer.{Answer}
use Rattle.answer.specs.declared.Tally.{Tally}
use Rattle.lfo.specs.declared.Lfo.{Lfo}
use Rattle.lfo.specs.declared.LfoControls.{LfoControls}

-- a block is given a tally, and buffers of samples and marks
pub data Call : Type 0 where
  Tick : LfoControls → ℕ → Call
  Play : LfoControls → ℕ → Tally → List Float → List ℕ → Call
  Reset : Call
  SetSampleRate : Hertz → Call

-- a call without samples tells 0, or the number that refused it
pub data Reply : Type 0 where
  Ticked : Answer → Reply
  Played : Block Lfo → Reply
  Told : ℕ → Reply

-- what controls must be: the memo's key is an f64, as every control is in Rattle
abbrev pub Fit : LfoControls → Type 0
Fit c = F64 c.rate

abbrev pub FitCall : Call → Type 0
FitCall (Tick c wanted) = Fit c
FitCall (Play c wanted t o m) = Fit c
FitCall Reset = Unit {0}
FitCall (SetSampleRate r) = Unit {0}

-- the state after a call; a refused one leaves it
unfoldable pub after : Lfo → Call → Lfo
after s (Tick c wanted) = (lfo_tick_of s c wanted).state
after s (Play c wanted t o m) = (lfo_block_of s c wanted t o m).state
after s Reset = (lfo_reset_of s).state
after s (SetSampleRate r) = (lfo_set_sample_rate_of s r).state

unfoldable pub reply : Lfo → Call → Reply
reply s (Tick c wanted) = Ticked (lfo_tick_of s c wanted).answer
reply s (Play c wanted t o m) = Played (lfo_block_of s c wanted t o m)
reply s Reset = Told (lfo_reset_of s).refused
reply s (SetSampleRate r) = Told (lfo_set_sample_rate_of s r).refused

-- an accepted new one
abbrev pub First : Lfo → Type 0
First s = (r : Hertz) × (t : Float) × (lfo_new_of r t ≡ outcome 0 s)

abbrev pub ReachedLfo : Lfo → Type 0
ReachedLfo = Reached First FitCall after
