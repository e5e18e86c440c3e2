use Rattle.answer.proofs.Laws.{mark_accepted}
use Rattle.answer.proofs.is_accepted.Goals as goal

pub returns : goal.returns
returns c = simp (c.mark_number.ensures, mark_accepted)
