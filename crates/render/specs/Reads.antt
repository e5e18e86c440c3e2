-- What the program takes its standard input to say.
use Rattle.std.specs.Prelude.{ℕ, ◌+◌, ◌≤◌, ◌<◌, min, Bool, true, false, List, eqb, length, take}
use Rattle.std.specs.Prelude.{Option, Some, None, Result, Ok, Err}
use Rattle.std.specs.declared.ops.ControlFlow.{ControlFlow}
use Rattle.std.specs.declared.ops.ControlFlow.TheVariants.{Continue, Break}
use Rattle.std.specs.Counts.{IsPrefixLen}
use Rattle.score.specs.Score.{score_of}
use Rattle.score.specs.declared.Score.{Score}
use Rattle.score.specs.declared.Refusal.{Refusal}
use Rattle.score.specs.declared.Refusal.TheVariants.{WrongLine}

abbrev pub step_by : Bool → ℕ → ℕ → ControlFlow (Option ℕ) ℕ
step_by true n more = Break (Some n)
step_by false n more = Continue (n + more)

-- after n bytes of a text, with room for so many more, what a read's answer means: a failure isn't the end
unfoldable pub step_of : {E : Type 0} → ℕ → Result ℕ E → ℕ → ControlFlow (Option ℕ) ℕ
step_of n (Ok k) room = step_by (eqb (min k room) 0) n (min k room)
step_of n (Err e) room = Break None

-- what was taken lies within what was lent
unfoldable pub Within : Option ℕ → List ℕ → Type 0
Within (Some n) input = IsPrefixLen n input
Within None input = Unit {0}

-- after a read behind n bytes there are more of them, all within what was lent, or what was taken is
unfoldable pub Reaches : ControlFlow (Option ℕ) ℕ → ℕ → List ℕ → Type 0
Reaches (Continue m) n input = (n < m) × (m ≤ length input)
Reaches (Break taken) n input = Within taken input

-- the score that the input is, or what refuses it: a text that couldn't be read to its end has a line missing
unfoldable pub taken_of : Option ℕ → List ℕ → Result Score Refusal
taken_of (Some n) input = score_of (take n input)
taken_of None input = Err WrongLine
