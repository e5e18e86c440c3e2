use Rattle.exports.proofs.common_calls.gruttisol_wrap_turned.Goals as goal

pub returns : goal.returns
returns c = simp c.wrap_phase.ensures
