-- `text::Page::decimal`: one digit, or the digits of a tenth and then the last.
use mathlib.Core.Path.{refl}
use native.Mathlib.Nat.{mod-eq_of_lt}
use Rattle.text.proofs.DecimalLaws.{decimal_small, decimal_large}
use Rattle.text.proofs.PageLaws.{page_then}
use Rattle.text.proofs.Page.+decimal.Goals as goal
use Rattle.text.proofs.Page.+decimal.Goals.{then-n-ge10, else-n-ge10}

pub returns : goal.returns
returns t c =
    rw (c.byte.ensures, c.digit.ensures)
    (elim c.if-n-ge10.branch [
      | then-n-ge10 w ↦ rw (w.self-is, w.decimal.ensures, decimal_large _ w.if-n-ge10.true) (page_then _ _ _)
      | else-n-ge10 w ↦ rw (w.self-is, decimal_small _ w.if-n-ge10.false, mod-eq_of_lt w.if-n-ge10.false) refl
    ])
