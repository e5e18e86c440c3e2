use Rattle.answer.specs.Calls.{made_unless}
use Rattle.common.specs.Refusal.{number_of, refused_number}
use Rattle.supersaw.specs.Supersaw.{new_supersaw, supersaw_new_of}
use Rattle.supersaw.proofs.Supersaw.new.Goals as goal

pub returns-then-rate_ok : goal.returns-then-rate_ok
unfolding supersaw_new_of made_unless new_supersaw refused_number
returns-then-rate_ok c = simp (c.new.ensures, c.start.ensures, c.if-rate_ok.true, ← c.rate_ok.ensures)

pub returns-else-rate_ok : goal.returns-else-rate_ok
unfolding supersaw_new_of made_unless new_supersaw refused_number number_of
returns-else-rate_ok c = simp (c.new.ensures, c.start.ensures, c.if-rate_ok.false, ← c.rate_ok.ensures)
