use mathlib.Core.Path.{ap, ◌∙◌}
use Rattle.answer.specs.Answer.{answer_of}
use Rattle.exports.proofs.Counts.{not_counts, refused, taken}
use Rattle.exports.proofs.answer_calls.gruttisol_tally_take.Goals as goal

pub returns-in-Ok-take : goal.returns-in-Ok-take
returns-in-Ok-take c =
    taken _ _ c.in-Ok.tally c.in-Ok.ensures _ (c.answer_of.ensures ∙ ap (answer_of _) c.of.ensures) _ _ c.in-Ok-take.ensures c.put_counts.ensures.1

pub returns-in-Err-take : goal.returns-in-Err-take
returns-in-Err-take c =
    refused _ _ c.in-Ok.tally c.in-Ok.ensures _ (c.answer_of.ensures ∙ ap (answer_of _) c.of.ensures) c.in-Err-take.refused _ c.in-Err-take.ensures
    c.number.ensures

pub returns-in-Err : goal.returns-in-Err
returns-in-Err c = not_counts _ _ c.in-Err.refused _ c.in-Err.ensures c.number-in-Err.ensures
