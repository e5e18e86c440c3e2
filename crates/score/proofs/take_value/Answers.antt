-- `score::take_value` meets its contract. Assumes nothing.
use mathlib.Core.Path.{refl, sym, ap, ◌∙◌}
use Rattle.line.proofs.Laws.{after_line_lem}
use Rattle.score.specs.Taken.{rest_of}
use Rattle.score.proofs.take_value.Goals as goal

pub returns : goal.returns
returns c = record {
  asked = sym c.is_line.ensures ∙ c.if-not-is_line.false;
  value = sym c.value-value.ensures;
  left = ap rest_of c.next.ensures ∙ sym (after_line_lem _ _ _ refl);
}
