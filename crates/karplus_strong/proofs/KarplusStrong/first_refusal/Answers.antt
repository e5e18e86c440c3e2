use Rattle.std.proofs.Common.{sym, ◌∙◌, ne_eqb}
use Rattle.std.proofs.lemmas.Result.{err_from_is_err_and}
use Rattle.common.proofs.RefusalLaws.{refuses}
use Rattle.common.specs.Refusal.{refused_number}
use Rattle.karplus_strong.specs.KarplusStrong.{first_refusal_of}
use Rattle.karplus_strong.proofs.Parts.{accepted, heard_taken}
use Rattle.karplus_strong.proofs.KarplusStrong.first_refusal.Goals as goal

pub returns-in_err-refusal : goal.returns-in_err-refusal
unfolding first_refusal_of refused_number
returns-in_err-refusal c = let p = err_from_is_err_and c.from_residual.result c.from_residual.ensures.1 in
    rw (p.1, p.2) (simp (← c.in_err-refusal.ensures, refuses))

pub hear-requires : goal.hear-requires
unfolding refused_number
hear-requires c = let good = (accepted _ _ (sym c.in_ok-refusal.ensures)).0 in (good.rate, good.value)

pub returns-then-n-eq0 : goal.returns-then-n-eq0
unfolding first_refusal_of refused_number
returns-then-n-eq0 c = simp (← c.in_ok-refusal.ensures, c.if-n-eq0.true)

pub returns-else-n-eq0 : goal.returns-else-n-eq0
unfolding first_refusal_of refused_number
returns-else-n-eq0 c = simp (← c.in_ok-refusal.ensures, ne_eqb _ _ c.if-n-eq0.false) (c.refusal-else-n-eq0.ensures ∙ sym (heard_taken _ _ _ c.hear.ensures _))
