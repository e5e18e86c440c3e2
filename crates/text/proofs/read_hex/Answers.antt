use mathlib.Core.Path.{sym, ◌∙◌}
use native.Mathlib.Omega.{arith}
use borrow.Author.Tests.{ne_eqb, eq-eqb}
use Rattle.text.specs.Hex.{word_of}
use Rattle.text.proofs.HexLaws.{nibble_small, word_stops, word_next, word_end, sixteen_fold, sixteen_fits}
use Rattle.text.proofs.read_hex.Goals as goal

pub returns-then-t-ne16 : goal.returns-then-t-ne16
unfolding word_of
returns-then-t-ne16 c = simp (ne_eqb _ _ c.if-t-ne16.true)

pub loop-b-init : goal.loop-b-init
unfolding word_of
loop-b-init c = (omega arith, (c.if-t-ne16.false, simp (eq-eqb _ _ c.if-t-ne16.false)))

pub returns-in_err-x : goal.returns-in_err-x
returns-in_err-x c =
    let stops = word_stops _ _ c.loop-b-test.true c.loop-b.x (sym c.nibble.ensures ∙ c.in_err-x.was) in
    c.from_residual.ensures ∙ sym (c.loop-b.invariant.1.1 ∙ stops)

pub overflow_mul-x : goal.overflow_mul-x
overflow_mul-x c = let l = c.loop-b in
    omega (arith, sixteen_fits l.x 0 l.b-index l.invariant.0 (omega arith) (omega (arith, l.invariant.1.0, c.loop-b-test.true)))

pub overflow_add-x : goal.overflow_add-x
overflow_add-x c = let l = c.loop-b in
    let d = nibble_small _ c.in_ok-x.field-0 (sym c.nibble.ensures ∙ c.in_ok-x.was) in
    omega (arith, sixteen_fits l.x _ l.b-index l.invariant.0 d (omega (arith, l.invariant.1.0, c.loop-b-test.true)))

pub loop-b-preserved : goal.loop-b-preserved
loop-b-preserved c = let l = c.loop-b in
    let d = sym c.nibble.ensures ∙ c.in_ok-x.was in
    (sixteen_fold _ _ _ l.invariant.0 (nibble_small _ _ d), (l.invariant.1.0, l.invariant.1.1 ∙ word_next _ _ c.loop-b-test.true _ _ d))

pub returns : goal.returns
returns c = sym (c.loop-b.invariant.1.1 ∙ word_end _ _ _ c.loop-b-test.false)
