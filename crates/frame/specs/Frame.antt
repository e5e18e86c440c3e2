-- The text of a frame, written from the scope, "The score and its program".
use Rattle.std.specs.Prelude.{ℕ, List, [], ◌++◌, Float}
use Rattle.std.specs.Float.{binary64}
use Rattle.std.specs.Float.Ieee.{to_bits}
use Rattle.line.specs.Bytes.{ascii}
use Rattle.text.specs.Hex.{hex_text}
use Rattle.text.specs.Lines.{word_line, count_line}
use Rattle.answer.specs.declared.Volts.{Volts}
use Rattle.answer.specs.declared.Answer.{Answer}
use Rattle.answer.specs.declared.Answer.TheVariants as answer
use Rattle.score.specs.declared.Osc.{Osc}
use Rattle.score.specs.declared.Osc.TheVariants.{Vco, Lfo, Supersaw, Formant}

-- the bits of an f64 in hexadecimal; to_bits has one pattern for any NaN, 7FF8000000000000
unfoldable pub sample_line : List ℕ → Float → List ℕ
sample_line key x = word_line key (hex_text (to_bits binary64 x))

-- the outputs, in the Rust's port order and names; of the Lfo then eoc, which is ours
unfoldable pub waves_text : Volts → List ℕ
waves_text v =
    sample_line (ascii "sin=") v.p10 ++ sample_line (ascii "tri=") v.p11 ++ sample_line (ascii "saw=") v.p12 ++ sample_line (ascii "sqr=") v.p13

unfoldable pub outputs_text : Osc → Volts → List ℕ
outputs_text Vco v = waves_text v
outputs_text Lfo v = waves_text v ++ sample_line (ascii "sin_uni=") v.p14 ++ sample_line (ascii "eoc=") v.p15
outputs_text Supersaw v = sample_line (ascii "out=") v.p10 ++ sample_line (ascii "sub=") v.p11
outputs_text Formant v = sample_line (ascii "out=") v.p10

-- n, mark and the outputs
unfoldable pub marked_text : Osc → ℕ → List ℕ → Volts → List ℕ
marked_text osc n mark v = count_line (ascii "n=") n ++ word_line (ascii "mark=") mark ++ outputs_text osc v

-- the frame n; a refused tick has no text
unfoldable pub frame_text : Osc → ℕ → Answer → List ℕ
frame_text osc n (answer.Cleared v) = marked_text osc n (ascii "cleared") v
frame_text osc n (answer.NotFinite v) = marked_text osc n (ascii "notfinite") v
frame_text osc n (answer.Lost v) = marked_text osc n (ascii "lost") v
frame_text osc n (answer.Clean v) = marked_text osc n (ascii "clean") v
frame_text osc n (answer.Steered v) = marked_text osc n (ascii "steered") v
frame_text osc n (answer.Refused r) = []
