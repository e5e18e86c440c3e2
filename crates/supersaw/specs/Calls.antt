-- Calls on a Supersaw, one after another, and what they answer. A block is one of them.
use Rattle.std.specs.Prelude.{List, ◌≡◌, ℕ, Float}
use Rattle.laws.specs.Machine.{Reached}
use Rattle.common.specs.declared.Hertz.{Hertz}
use Rattle.answer.specs.Calls.{outcome}
use Rattle.answer.specs.Block.{Block}
use Rattle.answer.specs.declared.Answer.{Answer}
use Rattle.answer.specs.declared.Tally.{Tally}
use Rattle.supersaw.specs.Supersaw.{supersaw_new_of, supersaw_tick_of, supersaw_block_of, supersaw_reset_of, supersaw_set_sample_rate_of}
use Rattle.supersaw.specs.declared.Supersaw.{Supersaw}
use Rattle.supersaw.specs.declared.SupersawControls.{SupersawControls}

-- a block is given a tally, and buffers of samples and marks
pub data Call : Type 0 where
  Tick : SupersawControls → Call
  Play : SupersawControls → Tally → List Float → List ℕ → Call
  Reset : Call
  SetSampleRate : Hertz → Call

-- a call without samples tells 0, or the number that refused it
pub data Reply : Type 0 where
  Ticked : Answer → Reply
  Played : Block Supersaw → Reply
  Told : ℕ → Reply

-- the state after a call; a refused one leaves it
unfoldable pub after : Supersaw → Call → Supersaw
after s (Tick c) = (supersaw_tick_of s c).state
after s (Play c t o m) = (supersaw_block_of s c t o m).state
after s Reset = (supersaw_reset_of s).state
after s (SetSampleRate r) = (supersaw_set_sample_rate_of s r).state

unfoldable pub reply : Supersaw → Call → Reply
reply s (Tick c) = Ticked (supersaw_tick_of s c).answer
reply s (Play c t o m) = Played (supersaw_block_of s c t o m)
reply s Reset = Told (supersaw_reset_of s).refused
reply s (SetSampleRate r) = Told (supersaw_set_sample_rate_of s r).refused

-- an accepted new one
abbrev pub First : Supersaw → Type 0
First s = (r : Hertz) × (supersaw_new_of r ≡ outcome 0 s)

-- any call, of any controls
abbrev pub FitCall : Call → Type 0
FitCall c = Unit {0}

abbrev pub ReachedSupersaw : Supersaw → Type 0
ReachedSupersaw = Reached First FitCall after
