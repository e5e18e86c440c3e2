use Rattle.exports.proofs.numeric_calls.gruttisol_cos.Goals as goal

pub returns : goal.returns
returns c = simp c.cos.ensures
