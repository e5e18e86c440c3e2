-- What a score reads as: its values, or its refusal. Line by line, so the first line that is refused decides.
-- Assumes nothing.
use Rattle.std.specs.Prelude.{ℕ, List, [], ◌∷◌, cond, length, ltb, eqb, Option, Some, None, Result, Ok, Err}
use Prim.Native.String.{String}
use Rattle.line.specs.Bytes.{ascii}
use Rattle.line.specs.Line.{is_line, after_line}
use Rattle.score.specs.Keys.{WholeKey, hz_key, gate_key, frames_key, input_keys, inputs_from}
use Rattle.score.specs.Lines.{osc_line, whole_line, control_line}
use Rattle.score.specs.Refusal.{and_then}
use Rattle.score.specs.declared.Control.{Control}
use Rattle.score.specs.declared.Osc.{Osc}
use Rattle.score.specs.declared.Head.{Head}
use Rattle.score.specs.declared.Inputs.{Inputs}
use Rattle.score.specs.declared.Score.{Score}
use Rattle.score.specs.declared.Refusal.{Refusal}
use Rattle.score.specs.declared.Refusal.TheVariants.{TooLong, WrongLine}

abbrev pub Reading : Type 0
Reading = Result Score Refusal

-- the text's first line is read, and the text after it goes on
unfoldable pub osc : List ℕ → (Osc → List ℕ → Reading) → Reading
osc text k = and_then (osc_line text) (λ (o : Osc). k o (after_line text))

unfoldable pub whole : List ℕ → ℕ → ℕ → List ℕ → (ℕ → List ℕ → Reading) → Reading
whole key least most text k = and_then (whole_line key least most text) (λ (n : ℕ). k n (after_line text))

unfoldable pub control : List ℕ → List ℕ → (Control → List ℕ → Reading) → Reading
control key text k = and_then (control_line key text) (λ (c : Control). k c (after_line text))

-- nothing stands after the last line
unfoldable pub end_of : Score → List ℕ → Reading
end_of score text = cond (eqb (length text) 0) (Ok score) (Err WrongLine)

-- ---- the head
-- a line of a whole number, by its key and range
abbrev pub whole_of : WholeKey → List ℕ → (ℕ → List ℕ → Reading) → Reading
whole_of w t k = whole (ascii w.key) w.least w.most t k

-- the gate's line is read where it comes next; where it doesn't, the gate is absent and the text stays
unfoldable pub gate : List ℕ → (Option ℕ → List ℕ → Reading) → Reading
gate t k = cond (is_line (ascii gate_key.key) t) (whole_of gate_key t λ n. k (Some n)) (k None t)

unfoldable pub head_of : List ℕ → (Head → List ℕ → Reading) → Reading
head_of t k = whole_of hz_key t λ hz t₁. gate t₁ λ g t₂. whole_of frames_key t₂ λ frames. k (record { hz = hz; gate = g; frames = frames })

-- ---- the inputs: a line for each key, and then what is made of the values
abbrev pub controls : List String → List ℕ → (List Control → List ℕ → Reading) → Reading
controls [] t k = k [] t
controls (key ∷ keys) t k = control (ascii key) t λ c t₁. controls keys t₁ λ cs. k (c ∷ cs)

abbrev pub inputs : Osc → List ℕ → (Inputs → List ℕ → Reading) → Reading
inputs o t k = controls (input_keys o) t λ cs. k (inputs_from o cs)

unfoldable pub inputs_of : Osc → Head → List ℕ → Reading
inputs_of o head t = inputs o t λ i. end_of (record { head = head; inputs = i })

-- ---- osc, the head, and then the oscillator's inputs
unfoldable pub lines_of : List ℕ → Reading
lines_of t = osc t λ o t₁. head_of t₁ λ head t₂. inputs_of o head t₂

-- a text over 1,024 bytes is refused before its lines are read
unfoldable pub score_of : List ℕ → Reading
score_of text = cond (ltb 1024 (length text)) (Err TooLong) (lines_of text)
