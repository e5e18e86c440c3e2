-- One line of a score: what its value says, or its refusal: WrongLine where the line isn't this one, Malformed for a bad number form, OutOfRange for a
-- number out of range.
-- Assumes nothing.
use Rattle.std.specs.Prelude.{ℕ, List, cond, ltb, Option, Some, None, Result, Ok, Err}
use Rattle.line.specs.Bytes.{ascii, same_of}
use Rattle.line.specs.Line.{value_of, is_line}
use Rattle.line.specs.Number.{number_of}
use Rattle.line.specs.declared.Number.{Number}
use Rattle.line.specs.declared.Number.TheVariants.{Whole, Nan}
use Rattle.score.specs.Control.{signed}
use Rattle.score.specs.Keys.{osc_key, name_of}
use Rattle.score.specs.declared.Control.{Control}
use Rattle.score.specs.declared.Control.TheVariants as C
use Rattle.score.specs.declared.Osc.{Osc}
use Rattle.score.specs.declared.Osc.TheVariants.{Vco, Lfo, Supersaw, Formant}
use Rattle.score.specs.declared.Refusal.{Refusal}
use Rattle.score.specs.declared.Refusal.TheVariants.{WrongLine, Malformed, OutOfRange}

-- the oscillator that a value names
unfoldable pub osc_of : List ℕ → Result Osc Refusal
osc_of value =
    cond (same_of value (name_of Vco)) (Ok Vco)
    (cond (same_of value (name_of Lfo)) (Ok Lfo)
    (cond (same_of value (name_of Supersaw)) (Ok Supersaw)
    (cond (same_of value (name_of Formant)) (Ok Formant)
    (Err WrongLine))))

-- a whole number from least to most
unfoldable pub within_of : ℕ → ℕ → Option Number → Result ℕ Refusal
within_of least most (Some (Whole minus size)) =
    cond minus (Err OutOfRange) (cond (ltb size least) (Err OutOfRange) (cond (ltb most size) (Err OutOfRange) (Ok size)))
within_of least most (Some Nan) = Err Malformed
within_of least most None = Err Malformed

-- an input: microvolts from -10000000 to 10000000, or nan
unfoldable pub control_of : Option Number → Result Control Refusal
control_of (Some (Whole minus size)) = cond (ltb 10000000 size) (Err OutOfRange) (Ok (C.Microvolts (signed minus size)))
control_of (Some Nan) = Ok C.Nan
control_of None = Err Malformed

-- the first line of a text
unfoldable pub osc_line : List ℕ → Result Osc Refusal
osc_line text = cond (is_line (ascii osc_key) text) (osc_of (value_of text)) (Err WrongLine)

unfoldable pub whole_line : List ℕ → ℕ → ℕ → List ℕ → Result ℕ Refusal
whole_line key least most text = cond (is_line key text) (within_of least most (number_of (value_of text))) (Err WrongLine)

unfoldable pub control_line : List ℕ → List ℕ → Result Control Refusal
control_line key text = cond (is_line key text) (control_of (number_of (value_of text))) (Err WrongLine)
