-- The examples, computed.
use mathlib.Core.Path.{refl}
use Rattle.line.specs.Bytes.{same_of, has_of, until_of, past_of}
use Rattle.line.specs.Line.{line_of, after_line, key_of, value_of, is_line}
use Rattle.line.specs.Number.{digits_from, digits_of, negative_of, signed_of, number_of}
use Rattle.score.specs.Lines.{osc_of, within_of, control_of, osc_line, whole_line, control_line}
use Rattle.score.specs.Score.{osc, whole, gate, control, end_of, inputs_of, head_of, lines_of, score_of}
use Rattle.score_writer.specs.Writing.{whole_refusal, control_refusal, refusal_of, writing_of, written_of}
use Rattle.exports_score.specs.Cells.{ports_of, gate_number, wholes_of, cell_of, microvolts_of, control_at, inputs_in, osc_at, gate_at, score_at}
use Rattle.exports_score.specs.Calls.{told_of, score_values_at, saved_of, score_write_at}
use Rattle.exports_score.specs.Examples.{CellExamples}

pub cell_examples : CellExamples
unfolding same_of has_of until_of past_of line_of after_line key_of value_of is_line digits_from digits_of negative_of signed_of number_of osc_of
    within_of control_of
    osc_line whole_line control_line osc whole gate control end_of inputs_of head_of lines_of score_of whole_refusal control_refusal refusal_of
    writing_of written_of
    ports_of gate_number wholes_of cell_of microvolts_of control_at inputs_in osc_at gate_at score_at told_of score_values_at saved_of score_write_at
cell_examples = (refl, refl, refl)
