-- Calls on a Vco, one after another, and what they answer. A block is one of them.
use Rattle.std.specs.Prelude.{◌≡◌, List, ℕ, Float}
use Rattle.laws.specs.Float.{F64}
use Rattle.laws.specs.Machine.{Reached}
use Rattle.common.specs.declared.Hertz.{Hertz}
use Rattle.answer.specs.Calls.{outcome}
use Rattle.answer.specs.Block.{Block}
use Rattle.answer.specs.declared.Answer.{Answer}
use Rattle.answer.specs.declared.Tally.{Tally}
use Rattle.vco.specs.Vco.{vco_new_of, vco_tick_of, vco_block_of, vco_reset_of, vco_set_sample_rate_of}
use Rattle.vco.specs.declared.Vco.{Vco}
use Rattle.vco.specs.declared.VcoControls.{VcoControls}

-- a block is given a tally, and buffers of samples and marks
pub data Call : Type 0 where
  Tick : VcoControls → ℕ → Call
  Play : VcoControls → ℕ → Tally → List Float → List ℕ → Call
  Reset : Call
  SetSampleRate : Hertz → Call

-- a call without samples tells 0, or the number that refused it
pub data Reply : Type 0 where
  Ticked : Answer → Reply
  Played : Block Vco → Reply
  Told : ℕ → Reply

-- what controls must be: the memo's keys are f64, as every control is in Rattle
abbrev pub Fit : VcoControls → Type 0
Fit c = F64 c.voct.0 × F64 c.fm.0 × F64 c.fm_lin

abbrev pub FitCall : Call → Type 0
FitCall (Tick c wanted) = Fit c
FitCall (Play c wanted t o m) = Fit c
FitCall Reset = Unit {0}
FitCall (SetSampleRate r) = Unit {0}

-- the state after a call; a refused one leaves it
unfoldable pub after : Vco → Call → Vco
after s (Tick c wanted) = (vco_tick_of s c wanted).state
after s (Play c wanted t o m) = (vco_block_of s c wanted t o m).state
after s Reset = (vco_reset_of s).state
after s (SetSampleRate r) = (vco_set_sample_rate_of s r).state

unfoldable pub reply : Vco → Call → Reply
reply s (Tick c wanted) = Ticked (vco_tick_of s c wanted).answer
reply s (Play c wanted t o m) = Played (vco_block_of s c wanted t o m)
reply s Reset = Told (vco_reset_of s).refused
reply s (SetSampleRate r) = Told (vco_set_sample_rate_of s r).refused

-- an accepted new one
abbrev pub First : Vco → Type 0
First s = (r : Hertz) × (t : Float) × (vco_new_of r t ≡ outcome 0 s)

abbrev pub ReachedVco : Vco → Type 0
ReachedVco = Reached First FitCall after
