-- quadrant_of: each branch is a case of quadrant.
use Rattle.laws.proofs.Tests.{eqb_no, eqb_yes}
use Rattle.numeric.specs.Trig.{quadrant}
use Rattle.numeric.proofs.quadrant_of.Goals as goal

pub returns-then-q-eq0 : goal.returns-then-q-eq0
unfolding quadrant
returns-then-q-eq0 c = simp (eqb_yes c.args.q 0 c.if-q-eq0.true, c.kernel_sin.ensures)

pub returns-then-q-eq1 : goal.returns-then-q-eq1
unfolding quadrant
returns-then-q-eq1 c = simp (eqb_no c.args.q 0 c.if-q-eq0.false, eqb_yes c.args.q 1 c.if-q-eq1.true, c.kernel_cos.ensures)

pub returns-then-q-eq2 : goal.returns-then-q-eq2
unfolding quadrant
returns-then-q-eq2 c = let q = c.args.q in
    simp (eqb_no q 0 c.if-q-eq0.false, eqb_no q 1 c.if-q-eq1.false, eqb_yes q 2 c.if-q-eq2.true, c.kernel_sin-then-q-eq2.ensures)

pub returns-else-q-eq2 : goal.returns-else-q-eq2
unfolding quadrant
returns-else-q-eq2 c = let q = c.args.q in
    simp (eqb_no q 0 c.if-q-eq0.false, eqb_no q 1 c.if-q-eq1.false, eqb_no q 2 c.if-q-eq2.false, c.kernel_cos-else-q-eq2.ensures)
