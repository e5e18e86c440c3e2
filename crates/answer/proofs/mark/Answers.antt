use Rattle.answer.specs.Mark.{mark_of}
use Rattle.answer.proofs.mark.Goals as goal
use Rattle.answer.proofs.mark.Goals.{then-sums, else-sums}

pub returns : goal.returns
unfolding mark_of
returns c =
    elim c.if-sums.branch [
      | then-sums w ↦ simp (c.marked.ensures, w.marked-is, w.all_finite.ensures, w.if-sums.true)
      | else-sums w ↦ simp (c.marked.ensures, w.marked-is, w.if-sums.false)
    ]
