use Rattle.exports.proofs.numeric_calls.gruttisol_clamp.Goals as goal

pub returns : goal.returns
returns c = simp c.clamp.ensures
