-- `line::digits_of` meets its contract. Assumes nothing.
use mathlib.Core.Path.{sym, ◌∙◌}
use native.Mathlib.Omega.{arith}
use borrow.Author.Rules.{rules}
use borrow.Author.Tests.{eqb-true, eqb-false}
use Rattle.line.proofs.Laws.{no_digits, many_digits, zero_first, zero_alone, other_first, digits_other, digits_next, digits_end, ten_fold, twelve}
use Rattle.line.proofs.digits_of.Goals as goal
use Rattle.line.proofs.digits_of.Goals.{then-is_empty-via-then-is_empty, then-is_empty-via-else-is_empty+then-v-gt-MOST_DIGITS}
use Rattle.line.proofs.digits_of.Goals.{else-v-eq48-via-then-v-eq48+else-v-ne1, else-v-eq48-via-else-v-eq48}

pub returns-then-is_empty : goal.returns-then-is_empty
returns-then-is_empty c = sym (elim c.then-is_empty.branch [
  | then-is_empty-via-then-is_empty w ↦ no_digits _ (eqb-true _ _ (sym c.is_empty.ensures ∙ w.if-is_empty.true))
  | then-is_empty-via-else-is_empty+then-v-gt-MOST_DIGITS w ↦ many_digits _ w.if-v-gt-MOST_DIGITS.true
])

pub returns-then-v-ne1 : goal.returns-then-v-ne1
returns-then-v-ne1 c = sym (zero_first _ c.if-v-eq48.true c.if-v-ne1.true)

pub loop-b-init : goal.loop-b-init
loop-b-init c = record {
  short = c.if-v-gt-MOST_DIGITS.false;
  small = search rules;
  rest = elim c.else-v-eq48.branch [
    | else-v-eq48-via-then-v-eq48+else-v-ne1 w ↦ zero_alone _ w.if-v-eq48.true w.if-v-ne1.false
    | else-v-eq48-via-else-v-eq48 w ↦ other_first _ (eqb-false _ _ (sym c.is_empty.ensures ∙ c.if-is_empty.false)) c.if-v-gt-MOST_DIGITS.false w.if-v-eq48.false
  ];
}

pub returns-then-not-is_ascii_digit : goal.returns-then-not-is_ascii_digit
returns-then-not-is_ascii_digit c = sym (c.loop-b.invariant.rest ∙ digits_other _ _ c.loop-b-test.true _ c.if-not-is_ascii_digit.ensures.cases)

pub overflow_mul-size : goal.overflow_mul-size
overflow_mul-size c = omega (arith, twelve c.loop-b.size c.loop-b.b-index c.loop-b.invariant.small (omega arith))

pub overflow_add-size : goal.overflow_add-size
overflow_add-size c = omega (arith, twelve c.loop-b.size c.loop-b.b-index c.loop-b.invariant.small (omega arith))

pub loop-b-preserved : goal.loop-b-preserved
loop-b-preserved c = let (low, high) = c.if-not-is_ascii_digit.ensures.cases in
    record {
      short = c.loop-b.invariant.short;
      small = ten_fold _ _ _ c.loop-b.invariant.small (omega arith);
      rest = simp c.from.ensures (c.loop-b.invariant.rest ∙ digits_next _ _ c.loop-b-test.true _ low high);
    }

pub returns : goal.returns
returns c = sym (c.loop-b.invariant.rest ∙ digits_end _ _ _ c.loop-b-test.false)
