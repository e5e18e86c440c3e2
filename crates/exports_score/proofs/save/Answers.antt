-- `save`: what the writer answers, and the length where it wrote.
use mathlib.Core.List.{[], ◌∷◌}
use Rattle.laws.proofs.Slices.{stored}
use Rattle.score.proofs.Steps.{stopped}
use Rattle.exports_score.specs.Calls.{saved_of}
use Rattle.exports_score.proofs.save.Goals as goal

pub returns-in_err-s : goal.returns-in_err-s
unfolding saved_of
returns-in_err-s c = rw (stopped _ c.from_residual.ensures.1) (simp (← c.in_err-s.ensures))

pub returns-in_err-n : goal.returns-in_err-n
unfolding saved_of
returns-in_err-n c = rw (stopped _ c.from_residual-in_err-n.ensures.1)
    (simp (← c.in_ok-s.ensures, ← c.in_err-n.ensures.value, ← c.write.ensures.out_after))

pub returns : goal.returns
unfolding saved_of
returns c = simp (
  ← c.in_ok-s.ensures,
  ← c.in_ok-n.ensures.value,
  ← c.write.ensures.out_after,
  stored c.args.written.now (c.in_ok-n.n ∷ []) c.requires,
)
