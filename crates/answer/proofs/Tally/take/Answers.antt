use mathlib.Core.Path.{sym, ◌∙◌}
use native.Mathlib.Omega.{arith}
use borrow.Author.Tests.{eq-eqb, ne_eqb}
use Rattle.answer.proofs.Laws.{adds}
use Rattle.answer.specs.Tally.{tally_of}
use Rattle.answer.proofs.Tally.take.Goals as goal

pub count-requires : goal.count-requires
count-requires c = (omega arith, adds c.args.self (sym c.adds_up.ensures ∙ c.if-not-adds_up.false))

pub returns-then-n-eq0 : goal.returns-then-n-eq0
unfolding tally_of
returns-then-n-eq0 c = simp (eq-eqb _ _ c.if-n-eq0.true, ← c.mark_number-n.ensures, c.if-not-adds_up.false, ← c.adds_up.ensures)

pub returns-then-self-eq4294967295 : goal.returns-then-self-eq4294967295
unfolding tally_of
returns-then-self-eq4294967295 c = simp (
  eq-eqb _ _ c.if-self-eq4294967295.true,
  ne_eqb _ _ c.if-n-eq0.false,
  ← c.mark_number-n.ensures,
  c.if-not-adds_up.false,
  ← c.adds_up.ensures,
)

pub returns-else-self-eq4294967295 : goal.returns-else-self-eq4294967295
unfolding tally_of
returns-else-self-eq4294967295 c = simp (
  c.count.ensures,
  ne_eqb _ _ c.if-self-eq4294967295.false,
  ne_eqb _ _ c.if-n-eq0.false,
  ← c.mark_number-n.ensures,
  c.if-not-adds_up.false,
  ← c.adds_up.ensures,
)

pub returns-then-not-adds_up : goal.returns-then-not-adds_up
unfolding tally_of
returns-then-not-adds_up c = simp (c.if-not-adds_up.true, ← c.adds_up.ensures)
