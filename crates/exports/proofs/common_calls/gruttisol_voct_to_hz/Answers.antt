use Rattle.exports.proofs.common_calls.gruttisol_voct_to_hz.Goals as goal

pub returns : goal.returns
returns c = simp c.voct_to_hz.ensures
