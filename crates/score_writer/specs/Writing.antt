-- What writing a score answers, and what then stands in the buffer. Keys, ranges and the text are the reader's own definitions.
-- Assumes nothing.
use Rattle.std.specs.Prelude.{ℕ, List, [], ◌∷◌, ◌++◌, false, cond, ltb, length, drop, Option, Some, None, Result, Ok, Err}
use Rattle.line.specs.declared.Number.TheVariants.{Whole}
use Rattle.score.specs.Control.{number_in}
use Rattle.score.specs.Keys.{WholeKey, hz_key, gate_key, frames_key, controls_of}
use Rattle.score.specs.Lines.{within_of, control_of}
use Rattle.score.specs.Refusal.{and_then}
use Rattle.score.specs.Text.{text_of}
use Rattle.score.specs.declared.Control.{Control}
use Rattle.score.specs.declared.Head.{Head}
use Rattle.score.specs.declared.Refusal.{Refusal}
use Rattle.score.specs.declared.Refusal.TheVariants.{NoRoom}
use Rattle.score.specs.declared.Score.{Score}

-- ---- values that no reader would give: by what the reader refuses the number that a line would hold, or nothing where it takes it
abbrev pub Check : Type 0
Check = Result (Unit {0}) Refusal

abbrev pub checked : {A : Type 0} → Result A Refusal → Check
checked r = and_then r (λ _. Ok tt)

unfoldable pub whole_refusal : ℕ → ℕ → ℕ → Check
whole_refusal least most n = checked (within_of least most (Some (Whole false n)))

-- by its key's range
abbrev pub key_refusal : WholeKey → ℕ → Check
key_refusal w n = whole_refusal w.least w.most n

-- nothing refuses a line that is left out
abbrev pub gate_refusal : Option ℕ → Check
gate_refusal None = Ok tt
gate_refusal (Some n) = key_refusal gate_key n

unfoldable pub control_refusal : Control → Check
control_refusal c = checked (control_of (Some (number_in c)))

-- line by line: the first that is refused decides
abbrev pub first_of : Check → Check → Check
first_of a b = and_then a (λ _. b)

abbrev pub head_refusal : Head → Check
head_refusal h = first_of (key_refusal hz_key h.hz) (first_of (gate_refusal h.gate) (key_refusal frames_key h.frames))

abbrev pub controls_refusal : List Control → Check
controls_refusal [] = Ok tt
controls_refusal (c ∷ cs) = first_of (control_refusal c) (controls_refusal cs)

unfoldable pub refusal_of : Score → Check
refusal_of s = first_of (head_refusal s.head) (controls_refusal (controls_of s.inputs))

-- ---- writing into a buffer of `room` bytes: the length of the text, or the refusal; NoRoom, last, where the text has no room
abbrev pub Writing : Type 0
Writing = Result ℕ Refusal

unfoldable pub writing_of : Score → ℕ → Writing
writing_of s room = and_then (refusal_of s) (λ _. cond (ltb room (length (text_of s))) (Err NoRoom) (Ok (length (text_of s))))

-- the buffer at exit: the text, and past it the bytes that stood there; a refusal leaves it
abbrev pub left_by : Writing → List ℕ → List ℕ → List ℕ
left_by (Ok n) text out = text ++ drop n out
left_by (Err why) text out = out

unfoldable pub written_of : Score → List ℕ → List ℕ
written_of s out = left_by (writing_of s (length out)) (text_of s) out
