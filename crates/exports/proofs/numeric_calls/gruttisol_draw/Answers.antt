use Rattle.exports.proofs.numeric_calls.gruttisol_draw.Goals as goal

pub returns : goal.returns
returns c = simp c.draw.ensures
