-- `line::signed_of` meets its contract. Assumes nothing.
use mathlib.Core.Path.{sym, ◌∙◌}
use Rattle.line.proofs.Laws.{signed_minus, signed_plain}
use Rattle.line.proofs.signed_of.Goals as goal

pub returns-in_err-digits_of-in-Some : goal.returns-in_err-digits_of-in-Some
returns-in_err-digits_of-in-Some c = let (p, e, n) = c.in-Some.ensures.cases in
    c.from_residual.ensures ∙ sym (signed_minus _ _ p e c.in_err-digits_of-in-Some.ensures)

pub returns-in_ok-digits_of-in-Some : goal.returns-in_ok-digits_of-in-Some
returns-in_ok-digits_of-in-Some c = let (p, e, n) = c.in-Some.ensures.cases in
    c.negative_of.ensures ∙ sym (signed_minus _ _ p e c.in_ok-digits_of-in-Some.ensures)

pub returns-in-None : goal.returns-in-None
returns-in-None c = c.digits_of-in-None.ensures ∙ sym (signed_plain _ c.in-None.ensures.cases)
