-- The examples, computed. Assumes nothing.
use mathlib.Core.Path.{refl}
use lib.Ieee.{to_bits, of_bits, of_int, div}
use Rattle.line.specs.Bytes.{same_of, has_of, until_of, past_of}
use Rattle.line.specs.Line.{line_of, after_line, key_of, value_of, is_line}
use Rattle.line.specs.Number.{digits_from, digits_of, negative_of, signed_of, number_of}
use Rattle.score.specs.Control.{volts_of}
use Rattle.score.specs.Lines.{osc_of, within_of, control_of, osc_line, whole_line, control_line}
use Rattle.score.specs.Score.{osc, whole, gate, control, end_of, inputs_of, head_of, lines_of, score_of}
use Rattle.score.specs.Examples.{ScoreExamples}

pub score_examples : ScoreExamples
unfolding same_of has_of until_of past_of line_of after_line key_of value_of is_line digits_from digits_of negative_of signed_of number_of volts_of osc_of
    within_of control_of
    osc_line whole_line control_line osc whole gate control end_of inputs_of head_of lines_of score_of to_bits div of_int of_bits
score_examples = (refl, refl)
