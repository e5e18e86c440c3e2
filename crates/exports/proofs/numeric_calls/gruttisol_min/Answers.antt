use Rattle.exports.proofs.numeric_calls.gruttisol_min.Goals as goal

pub returns : goal.returns
returns c = simp c.min.ensures
