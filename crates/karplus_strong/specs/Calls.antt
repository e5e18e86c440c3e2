-- The string as a machine: its calls, the string after each, and what each replies. A call is lent the line as the last call left
-- it; between two calls its caller may take another line.
use Rattle.std.specs.Prelude.{◌≡◌, ℕ, cond, List, length, ◌==◌, slice_index_or, Float}
use Rattle.std.specs.Float.{nan}
use Rattle.laws.specs.Float.{F64}
use Rattle.laws.specs.Lists.{over}
use Rattle.laws.specs.Machine.{Reached}
use Rattle.common.specs.declared.Hertz.{Hertz}
use Rattle.answer.specs.Block.{Block, block}
use Rattle.answer.specs.Calls.{outcome}
use Rattle.answer.specs.declared.Answer.{Answer}
use Rattle.answer.specs.declared.Tally.{Tally}
use Rattle.karplus_strong.specs.KarplusStrong.{Making, leaving, room_of, karplus_strong_new_of, karplus_strong_told_of, karplus_strong_next_of}
use Rattle.karplus_strong.specs.KarplusStrong.{karplus_strong_block_of, karplus_strong_reset_of, karplus_strong_set_sample_rate_of, Strung, strung}
use Rattle.karplus_strong.specs.declared.KarplusStrong.{KarplusStrong}
use Rattle.karplus_strong.specs.declared.KarplusStrongControls.{KarplusStrongControls}

pub data Call : Type 0 where
  Tick : KarplusStrongControls → List ℕ → Call
  Play : KarplusStrongControls → List ℕ → Tally → List Float → List ℕ → Call
  Reset : Call
  SetSampleRate : Hertz → Call
  -- no call of the string's: from here on its caller lends this line, the string's cells copied to it
  Lend : List Float → Call

-- Told is 0, or the number that refused the call
pub data Reply : Type 0 where
  Ticked : Answer → Reply
  Played : Block KarplusStrong → Reply
  Told : ℕ → Reply

-- a refused call hands out the string as it stood
abbrev pub strung_after : Making → Strung
strung_after m = strung m.out.state m.line

-- a line with the string's cells; the cells past them are its own
unfoldable pub lent_of : Strung → List Float → List Float
lent_of x l = over (λ i. slice_index_or x.line i nan) x.string.len l

-- one that is too short for the rate isn't taken
abbrev pub taken_line : Strung → List Float → List Float
taken_line x l = cond (room_of x.string.sample_rate (length l) == 0) (lent_of x l) x.line

unfoldable pub after : Strung → Call → Strung
after x (Tick c draws) = karplus_strong_next_of c draws x
after x (Play c draws t o m) = (karplus_strong_block_of x c draws t o m).state
after x Reset = strung_after (karplus_strong_reset_of x.string x.line)
after x (SetSampleRate rate) = strung_after (karplus_strong_set_sample_rate_of x.string rate x.line)
after x (Lend l) = strung x.string (taken_line x l)

-- what a block leaves beside its line
abbrev pub unstrung : Block Strung → Block KarplusStrong
unstrung b = block b.refused b.state.string b.tally b.samples b.marks

unfoldable pub reply : Strung → Call → Reply
reply x (Tick c draws) = Ticked (karplus_strong_told_of c draws x)
reply x (Play c draws t o m) = Played (unstrung (karplus_strong_block_of x c draws t o m))
reply x Reset = Told ((karplus_strong_reset_of x.string x.line).out.refused)
reply x (SetSampleRate rate) = Told ((karplus_strong_set_sample_rate_of x.string rate x.line).out.refused)
reply x (Lend l) = Told (room_of x.string.sample_rate (length l))

-- the pitch, which the memo keeps, is an f64
abbrev pub Fit : KarplusStrongControls → Type 0
Fit c = F64 c.voct.0

abbrev pub FitCall : Call → Type 0
FitCall (Tick c draws) = Fit c
FitCall (Play c draws t o m) = Fit c
FitCall Reset = Unit
FitCall (SetSampleRate rate) = Unit
FitCall (Lend l) = Unit

-- a string that new made in some line
pub record First (x : Strung) : Type 0 where
  pub rate : Hertz
  pub threshold : Float
  pub lent : List Float
  pub is_new : karplus_strong_new_of rate threshold lent ≡ leaving (outcome 0 x.string) x.line

abbrev pub ReachedKarplusStrong : Strung → Type 0
ReachedKarplusStrong = Reached First FitCall after
