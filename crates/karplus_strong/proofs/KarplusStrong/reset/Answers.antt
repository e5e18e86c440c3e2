use Rattle.std.proofs.Common.{sym, arith}
use Rattle.std.proofs.lemmas.Result.{err_from_is_err_and}
use Rattle.common.specs.Refusal.{refused_number}
use Rattle.answer.specs.Calls.{changing}
use Rattle.karplus_strong.proofs.Parts.{accepted, made_parts, reset_made, reset_no}
use Rattle.karplus_strong.proofs.KarplusStrong.reset.Goals as goal

pub returns-in_err-refusal : goal.returns-in_err-refusal
unfolding refused_number changing
returns-in_err-refusal c = let p = err_from_is_err_and c.from_residual.result c.from_residual.ensures.1 in
    rw (p.1, p.2) (made_parts (reset_no _ _ _ c.in_err-refusal.ensures))

pub blank-requires : goal.blank-requires
unfolding refused_number
blank-requires c = let a = accepted _ _ (sym c.in_ok-refusal.ensures) in
    let m = a.0.most in
    let q = a.1 in
    (omega arith, omega arith)

pub returns : goal.returns
unfolding refused_number changing
returns c = made_parts (reset_made _ _ c.in_ok-refusal.ensures _ _ _ c.at_rest.ensures c.reset.ensures c.blank.ensures)
