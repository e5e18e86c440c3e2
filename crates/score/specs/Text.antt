-- The text of a score. Assumes nothing.
use Rattle.std.specs.Prelude.{ℕ, List, [], ◌∷◌, ◌++◌, false, Option, Some, None}
use Prim.Native.String.{String}
use Rattle.text.specs.Lines.{word_line}
use Rattle.line.specs.Bytes.{ascii}
use Rattle.line.specs.Number.{number_text}
use Rattle.line.specs.declared.Number.TheVariants.{Whole}
use Rattle.score.specs.Control.{number_in}
use Rattle.score.specs.Keys.{osc_key, name_of, WholeKey, hz_key, gate_key, frames_key, input_keys, owner_of, controls_of}
use Rattle.score.specs.declared.Control.{Control}
use Rattle.score.specs.declared.Inputs.{Inputs}
use Rattle.score.specs.declared.Head.{Head}
use Rattle.score.specs.declared.Score.{Score}

-- the value of an input line, and of a line of a whole number
abbrev pub control_text : Control → List ℕ
control_text c = number_text (number_in c)

abbrev pub whole_text : ℕ → List ℕ
whole_text n = number_text (Whole false n)

-- key, equals sign, value, line feed
abbrev pub line_text : String → List ℕ → List ℕ
line_text key value = word_line (ascii key ++ (61 ∷ [])) value

-- a line of a whole number
abbrev pub key_text : WholeKey → ℕ → List ℕ
key_text w n = line_text w.key (whole_text n)

-- no line where the gate is absent
abbrev pub gate_text : Option ℕ → List ℕ
gate_text None = []
gate_text (Some n) = key_text gate_key n

abbrev pub head_text : Head → List ℕ
head_text h = key_text hz_key h.hz ++ (gate_text h.gate ++ key_text frames_key h.frames)

-- the inputs: a line for each key with its value
abbrev pub controls_text : List String → List Control → List ℕ
controls_text (key ∷ keys) (c ∷ cs) = line_text key (control_text c) ++ controls_text keys cs
controls_text [] cs = []
controls_text (key ∷ keys) [] = []

abbrev pub inputs_text : Inputs → List ℕ
inputs_text i = controls_text (input_keys (owner_of i)) (controls_of i)

-- osc, the head, the inputs
unfoldable pub text_of : Score → List ℕ
text_of s = line_text osc_key (name_of (owner_of s.inputs)) ++ (head_text s.head ++ inputs_text s.inputs)
