-- `line::is_line` meets its contract. Assumes nothing.
use mathlib.Core.Path.{sym, ◌∙◌}
use Rattle.line.specs.Line.{line_of, key_of, is_line}
use Rattle.line.proofs.is_line.Goals as goal
use Rattle.line.proofs.is_line.Goals.{then-has, else-has}

pub returns-then-has-2 : goal.returns-then-has-2
unfolding is_line key_of line_of
returns-then-has-2 c = elim c.if-has.branch [
  | then-has w ↦ simp (
    sym c.from-rest.ensures,
    sym c.has.ensures ∙ w.if-has.true,
    sym c.until-line.ensures,
    sym w.has-then-has.ensures ∙ sym w.value-is ∙ c.if-has-2.true,
    sym c.until.ensures,
    c.same.ensures,
  )
  | else-has w ↦ cc (w.value-is, w.if-has.false, c.if-has-2.true)
]

pub returns-else-has-2 : goal.returns-else-has-2
unfolding is_line key_of line_of
returns-else-has-2 c = elim c.if-has.branch [
  | then-has w ↦ simp (
    sym c.from-rest.ensures,
    sym c.has.ensures ∙ w.if-has.true,
    sym c.until-line.ensures,
    sym w.has-then-has.ensures ∙ sym w.value-is ∙ c.if-has-2.false,
    c.if-has-2.false,
  )
  | else-has w ↦ simp (sym c.from-rest.ensures, sym c.has.ensures ∙ w.if-has.false, c.if-has-2.false)
]
