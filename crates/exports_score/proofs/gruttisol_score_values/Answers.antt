-- `gruttisol_score_values`: the lengths are asked first, and then the text.
use mathlib.Core.Path.{◌∙◌}
use borrow.Author.Tests.{ne_eqb, eq-eqb}
use Rattle.common.specs.Refusal.{number_of}
use Rattle.exports_score.specs.Calls.{score_values_at}
use Rattle.exports_score.proofs.gruttisol_score_values.Goals as goal

pub returns-then-microvolts-ne-MICROVOLTS : goal.returns-then-microvolts-ne-MICROVOLTS
unfolding score_values_at
returns-then-microvolts-ne-MICROVOLTS c = simp (ne_eqb _ _ c.if-microvolts-ne-MICROVOLTS.true)

pub returns-then-wholes-ne-WHOLES : goal.returns-then-wholes-ne-WHOLES
unfolding score_values_at number_of
returns-then-wholes-ne-WHOLES c =
    rw c.number.ensures (simp (eq-eqb _ _ c.if-microvolts-ne-MICROVOLTS.false, ne_eqb _ _ c.if-wholes-ne-WHOLES.true))

pub returns : goal.returns
unfolding score_values_at
returns c = rw c.code_of.ensures
    (c.read_microvolts.ensures ∙ simp (eq-eqb _ _ c.if-microvolts-ne-MICROVOLTS.false, eq-eqb _ _ c.if-wholes-ne-WHOLES.false))
