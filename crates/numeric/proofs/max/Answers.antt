-- max: each branch is a case of max_of, `b != b` being the test for a NaN.
use Rattle.std.proofs.Common.{sym, ◌∙◌}
use Rattle.laws.proofs.Order.{nan_test}
use Rattle.numeric.specs.Basic.{max_of}
use Rattle.numeric.proofs.max.Goals as goal

pub returns-then-b-a : goal.returns-then-b-a
unfolding max_of
returns-then-b-a c = simp c.if-b-a.true

pub returns-then-b : goal.returns-then-b
unfolding max_of
returns-then-b c = simp (c.if-b-a.false, sym (nan_test c.args.b) ∙ c.if-b.true)

pub returns-else-b : goal.returns-else-b
unfolding max_of
returns-else-b c = simp (c.if-b-a.false, sym (nan_test c.args.b) ∙ c.if-b.false)
