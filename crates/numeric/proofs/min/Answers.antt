-- min: each branch is a case of min_of, `b != b` being the test for a NaN.
use Rattle.std.proofs.Common.{sym, ◌∙◌}
use Rattle.laws.proofs.Order.{nan_test}
use Rattle.numeric.specs.Basic.{min_of}
use Rattle.numeric.proofs.min.Goals as goal

pub returns-then-a-b : goal.returns-then-a-b
unfolding min_of
returns-then-a-b c = simp c.if-a-b.true

pub returns-then-b : goal.returns-then-b
unfolding min_of
returns-then-b c = simp (c.if-a-b.false, sym (nan_test c.args.b) ∙ c.if-b.true)

pub returns-else-b : goal.returns-else-b
unfolding min_of
returns-else-b c = simp (c.if-a-b.false, sym (nan_test c.args.b) ∙ c.if-b.false)
