-- `inputs_at`: the cells past the last input are asked first.
use Rattle.score.specs.declared.Osc.TheVariants as O
use Rattle.exports_score.proofs.Cells.{inputs_refused, inputs_taken}
use Rattle.exports_score.proofs.inputs_at.Goals as goal

pub returns-then-not-are_zeros : goal.returns-then-not-are_zeros
returns-then-not-are_zeros c = inputs_refused _ _ c.told-microvolts c.inputs_of.ensures c.are_zeros.ensures c.if-not-are_zeros.true

pub returns-in-Vco : goal.returns-in-Vco
returns-in-Vco c = inputs_taken _ _ c.told-microvolts c.inputs_of.ensures c.are_zeros.ensures O.Vco c.if-not-are_zeros.false c.in-Vco.is
    c.controls_at-controls.ensures

pub returns-in-Lfo : goal.returns-in-Lfo
returns-in-Lfo c = inputs_taken _ _ c.told-microvolts c.inputs_of.ensures c.are_zeros.ensures O.Lfo c.if-not-are_zeros.false c.in-Lfo.is
    c.controls_at-controls.ensures

pub returns-in-Supersaw : goal.returns-in-Supersaw
returns-in-Supersaw c = inputs_taken _ _ c.told-microvolts c.inputs_of.ensures c.are_zeros.ensures O.Supersaw c.if-not-are_zeros.false c.in-Supersaw.is
    c.controls_at-controls.ensures

pub returns-in-Formant : goal.returns-in-Formant
returns-in-Formant c = inputs_taken _ _ c.told-microvolts c.inputs_of.ensures c.are_zeros.ensures O.Formant c.if-not-are_zeros.false c.in-Formant.is
    c.controls_at-controls.ensures
