use Rattle.lfo.proofs.LfoControls.are_numbers.Goals as goal

pub returns : goal.returns
returns c = c.numbers.ensures
