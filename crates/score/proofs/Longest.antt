-- How long the text of a valid score can be. Assumes nothing.
use Prim.Native.Nat.{ℕ, suc, ◌+◌, ◌≤◌}
use Prim.Native.String.{String}
use mathlib.Core.Path.{◌≡◌, refl, ap, ◌∙◌}
use mathlib.Core.List.{List, [], ◌∷◌, ◌++◌}
use native.Mathlib.Omega.{arith}
use lib.Dec.{lit≤}
use Rattle.std.specs.Prelude.{Option, Some, None, Ok}
use lib.IntN.{pos, negsuc}
use lib.ListN.{length, length-append}
use Rattle.text.proofs.DecimalLaws.{decimal_short}
use Rattle.line.specs.Bytes.{ascii, same_of, has_of, until_of, past_of}
use Rattle.line.specs.Line.{line_of, after_line, key_of, value_of, is_line}
use Rattle.line.specs.Number.{digits_from, digits_of, negative_of, signed_of, number_of, number_text}
use Rattle.score.specs.Keys.{osc_key, name_of, frames_key, input_keys, owner_of, controls_of}
use Rattle.score.specs.Lines.{osc_of, within_of, control_of, osc_line, whole_line, control_line}
use Rattle.score.specs.Score.{osc, whole, gate, control, end_of, inputs_of, head_of, lines_of, score_of}
use Rattle.score.specs.Text.{control_text, whole_text, line_text, key_text, gate_text, controls_text, head_text, inputs_text, text_of}
use Rattle.score.specs.Promises.{ValidInput, ValidGate, ValidHead, ValidInputs, Valid, longest, LongestText}
use Rattle.score.proofs.Lines.{seam, head_lines}
use Rattle.score.proofs.Text.{score_text, read_valid}
use Rattle.score.specs.declared.Control.{Control}
use Rattle.score.specs.declared.Control.TheVariants as C
use Rattle.score.specs.declared.Head.{Head}
use Rattle.score.specs.declared.Osc.{Osc}
use Rattle.score.specs.declared.Osc.TheVariants as O
use Rattle.score.specs.declared.Inputs.{Inputs}
use Rattle.score.specs.declared.Inputs.TheVariants.{Vco, Lfo, Supersaw, Formant}
use Rattle.score.specs.declared.Score.{Score}

line_length : (key : String) (v rest : List ℕ) → length (line_text key v ++ rest) ≡ length (ascii key) + 2 + length v + length rest
line_length key v rest =
    ap length (seam key v rest)
    ∙ omega (arith, length-append (ascii key) (61 ∷ (v ++ (10 ∷ rest))), length-append v (10 ∷ rest))

-- ---- values: -10000000 has 9 bytes, and no number of the head more than 6
control_short : (c : Control) → ValidInput c → length (control_text c) ≤ 9
unfolding number_text
control_short (C.Microvolts (pos n)) h = omega (arith, decimal_short 7 n (omega arith))
control_short (C.Microvolts (negsuc n)) h = omega (arith, decimal_short 7 (suc n) (omega arith))
control_short C.Nan h = lit≤ tt

whole_short : (n : ℕ) → n ≤ 480000 → length (whole_text n) ≤ 6
unfolding number_text
whole_short n h = decimal_short 5 n (omega arith)

-- ---- lines
gate_short : (g : Option ℕ) (rest : List ℕ) → ValidGate g → length (gate_text g ++ rest) ≤ 7 + length rest
unfolding number_text
gate_short None rest v = omega arith
gate_short (Some n) rest (l, g) = omega (arith, line_length "gate" (whole_text n) rest, decimal_short 0 n (omega arith))

head_short : (h : Head) (rest : List ℕ) → ValidHead h → length (head_text h ++ rest) ≤ 31 + length rest
head_short h rest v =
    let hz_most = v.hz_most in
    let from-frames = key_text frames_key h.frames ++ rest in
    omega (
      arith,
      ap length (head_lines h rest),
      line_length "hz" (whole_text h.hz) (gate_text h.gate ++ from-frames),
      whole_short h.hz (omega arith),
      gate_short h.gate from-frames v.gate,
      line_length "frames" (whole_text h.frames) rest,
      whole_short h.frames v.frames_most,
    )

-- of each key that has an input after it
abbrev most : List String → ℕ
most [] = 0
most (key ∷ keys) = length (ascii key) + 11 + most keys

abbrev pub ValidAll : List Control → Type 0
ValidAll [] = Unit {0}
ValidAll (c ∷ cs) = ValidInput c × ValidAll cs

controls_short : (keys : List String) (cs : List Control) → ValidAll cs → length (controls_text keys cs) ≤ most keys
controls_short [] cs v = lit≤ tt
controls_short (key ∷ keys) [] v = omega arith
controls_short (key ∷ keys) (c ∷ cs) (v, vs) =
    omega (arith, line_length key (control_text c) (controls_text keys cs), control_short c v, controls_short keys cs vs)

pub valid_all : (i : Inputs) → ValidInputs i → ValidAll (controls_of i)
valid_all (Vco i) (a, b, c, d, e) = (a, (b, (c, (d, (e, tt)))))
valid_all (Lfo i) (a, b, c) = (a, (b, (c, tt)))
valid_all (Supersaw i) (a, b, c) = (a, (b, (c, tt)))
valid_all (Formant i) (a, b, c, d) = (a, (b, (c, (d, tt))))

pub all_valid : (i : Inputs) → ValidAll (controls_of i) → ValidInputs i
all_valid (Vco i) (a, (b, (c, (d, (e, _))))) = (a, b, c, d, e)
all_valid (Lfo i) (a, (b, (c, _))) = (a, b, c)
all_valid (Supersaw i) (a, (b, (c, _))) = (a, b, c)
all_valid (Formant i) (a, (b, (c, (d, _)))) = (a, b, c, d)

owned : (o : Osc) → 5 + length (name_of o) + (31 + most (input_keys o)) ≤ 117
owned O.Vco = lit≤ tt
owned O.Lfo = lit≤ tt
owned O.Supersaw = lit≤ tt
owned O.Formant = lit≤ tt

-- ---- the whole text
pub text_short : (s : Score) → Valid s → length (text_of s) ≤ 117
unfolding text_of
text_short s v =
    let o = owner_of s.inputs in
    let inputs = inputs_text s.inputs in
    omega (
      arith,
      line_length osc_key (name_of o) (head_text s.head ++ inputs),
      head_short s.head inputs v.head,
      controls_short (input_keys o) (controls_of s.inputs) (valid_all s.inputs v.inputs),
      owned o,
    )

-- one of 117 bytes, as it is read
abbrev its_text : List ℕ
its_text = ascii "osc=formant\nhz=192000\ngate=2\nframes=480000\nv_oct=-10000000\nvowel=-10000000\nformant_shift=-10000000\nvibrato=-10000000\n"

its_reading : score_of its_text ≡ Ok longest
unfolding same_of has_of until_of past_of line_of after_line key_of value_of is_line digits_from digits_of negative_of signed_of number_of osc_of
    within_of control_of
    osc_line whole_line control_line osc whole gate control end_of inputs_of head_of lines_of score_of
its_reading = refl

pub longest_text : LongestText
longest_text = (text_short, read_valid its_text longest its_reading, ap length (score_text its_text longest its_reading))
