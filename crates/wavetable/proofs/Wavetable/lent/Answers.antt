use mathlib.Core.Bool.{true≢false}
use mathlib.Core.Path.{sym, ap, ◌∙◌}
use Rattle.std.specs.Result.{is_err}
use Rattle.wavetable.proofs.Accepted.{lent_number}
use Rattle.std.proofs.Common.{arith}
use Rattle.std.proofs.lemmas.Grind.{common_steps}
use Rattle.common.proofs.RefusalLaws.{refuses}
use Rattle.common.specs.Refusal.{refused_number}
use Rattle.wavetable.specs.Wavetable.{wavetable_tick_refusal_of}
use Rattle.wavetable.proofs.Wavetable.lent.Goals as goal

pub returns-in_err-refusal-clause-number : goal.returns-in_err-refusal-clause-number
unfolding wavetable_tick_refusal_of refused_number
returns-in_err-refusal-clause-number c = grind (arith, common_steps, refuses)

pub returns-in_err-refusal-clause-value : goal.returns-in_err-refusal-clause-value
returns-in_err-refusal-clause-value c = λ x h. absurd (true≢false (sym c.from_residual.ensures.0 ∙ ap is_err h))

pub returns-clause-number : goal.returns-clause-number
unfolding refused_number
returns-clause-number c =
    ap refused_number c.ok_or.ensures.value
    ∙ lent_number c.args.self _ c.as_array.result c.as_array.ensures.variant c.in_ok-refusal.ensures
