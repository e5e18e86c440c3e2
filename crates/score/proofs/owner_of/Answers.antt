-- `score::owner_of` meets its contract, by cases. Assumes nothing.
use Rattle.score.proofs.owner_of.Goals as goal

pub returns-in-Vco : goal.returns-in-Vco
returns-in-Vco c = simp c.in-Vco.is

pub returns-in-Lfo : goal.returns-in-Lfo
returns-in-Lfo c = simp c.in-Lfo.is

pub returns-in-Supersaw : goal.returns-in-Supersaw
returns-in-Supersaw c = simp c.in-Supersaw.is

pub returns-in-Formant : goal.returns-in-Formant
returns-in-Formant c = simp c.in-Formant.is
