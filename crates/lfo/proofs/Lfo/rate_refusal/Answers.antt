use Rattle.common.specs.Refusal.{number_of, refused_number}
use Rattle.lfo.specs.Lfo.{lfo_rate_refusal_of}
use Rattle.lfo.proofs.Lfo.rate_refusal.Goals as goal

pub returns-then-rate_ok : goal.returns-then-rate_ok
unfolding lfo_rate_refusal_of
returns-then-rate_ok c = simp (c.refusal.ensures, c.if-rate_ok.true, ← c.rate_ok.ensures)

pub returns-else-rate_ok : goal.returns-else-rate_ok
unfolding lfo_rate_refusal_of refused_number number_of
returns-else-rate_ok c = simp (c.if-rate_ok.false, ← c.rate_ok.ensures)
