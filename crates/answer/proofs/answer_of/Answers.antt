use borrow.Author.Tests.{eq-eqb, ne_eqb}
use Rattle.answer.specs.Answer.{answer_of}
use Rattle.answer.proofs.answer_of.Goals as goal

pub returns-then-number-eq-TOLD_CLEARED : goal.returns-then-number-eq-TOLD_CLEARED
unfolding answer_of
returns-then-number-eq-TOLD_CLEARED c = simp (eq-eqb _ _ c.if-number-eq-TOLD_CLEARED.true)

pub returns-then-number-eq-TOLD_NOTFINITE : goal.returns-then-number-eq-TOLD_NOTFINITE
unfolding answer_of
returns-then-number-eq-TOLD_NOTFINITE c = simp (eq-eqb _ _ c.if-number-eq-TOLD_NOTFINITE.true, ne_eqb _ _ c.if-number-eq-TOLD_CLEARED.false)

pub returns-then-number-eq-TOLD_LOST : goal.returns-then-number-eq-TOLD_LOST
unfolding answer_of
returns-then-number-eq-TOLD_LOST c = simp
    (eq-eqb _ _ c.if-number-eq-TOLD_LOST.true, ne_eqb _ _ c.if-number-eq-TOLD_NOTFINITE.false, ne_eqb _ _ c.if-number-eq-TOLD_CLEARED.false)

pub returns-then-number-eq-TOLD_STEERED : goal.returns-then-number-eq-TOLD_STEERED
unfolding answer_of
returns-then-number-eq-TOLD_STEERED c = simp (
  eq-eqb _ _ c.if-number-eq-TOLD_STEERED.true,
  ne_eqb _ _ c.if-number-eq-TOLD_LOST.false,
  ne_eqb _ _ c.if-number-eq-TOLD_NOTFINITE.false,
  ne_eqb _ _
      c.if-number-eq-TOLD_CLEARED.false,
)

pub returns-then-number-eq-TOLD_CLEAN : goal.returns-then-number-eq-TOLD_CLEAN
unfolding answer_of
returns-then-number-eq-TOLD_CLEAN c = simp (
  eq-eqb _ _ c.if-number-eq-TOLD_CLEAN.true,
  ne_eqb _ _ c.if-number-eq-TOLD_STEERED.false,
  ne_eqb _ _ c.if-number-eq-TOLD_LOST.false,
  ne_eqb _ _ c.if-number-eq-TOLD_NOTFINITE.false,
  ne_eqb _ _ c.if-number-eq-TOLD_CLEARED.false,
)

pub returns-else-number-eq-TOLD_CLEAN : goal.returns-else-number-eq-TOLD_CLEAN
unfolding answer_of
returns-else-number-eq-TOLD_CLEAN c = simp (
  ne_eqb _ _ c.if-number-eq-TOLD_CLEAN.false,
  ne_eqb _ _ c.if-number-eq-TOLD_STEERED.false,
  ne_eqb _ _ c.if-number-eq-TOLD_LOST.false,
  ne_eqb _ _ c.if-number-eq-TOLD_NOTFINITE.false,
  ne_eqb _ _ c.if-number-eq-TOLD_CLEARED.false,
)
