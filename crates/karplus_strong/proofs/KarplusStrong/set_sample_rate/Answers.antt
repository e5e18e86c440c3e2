use Rattle.std.proofs.Common.{sym, arith}
use Rattle.std.proofs.lemmas.Result.{err_from_is_err_and}
use Rattle.common.specs.Refusal.{refused_number}
use Rattle.answer.specs.Calls.{changing}
use Rattle.karplus_strong.proofs.Parts.{rate_accepted, made_parts, rate_made, rate_no}
use Rattle.karplus_strong.proofs.KarplusStrong.set_sample_rate.Goals as goal

pub returns-in_err-rate_refusal : goal.returns-in_err-rate_refusal
unfolding refused_number changing
returns-in_err-rate_refusal c = let p = err_from_is_err_and c.from_residual.result c.from_residual.ensures.1 in
    rw (p.1, p.2) (made_parts (rate_no _ _ _ _ c.in_err-rate_refusal.ensures))

pub max_len_for-max_len-requires : goal.max_len_for-max_len-requires
unfolding refused_number
max_len_for-max_len-requires c = (rate_accepted _ _ _ (sym c.in_ok-rate_refusal.ensures)).1

pub blank-requires : goal.blank-requires
unfolding refused_number
blank-requires c = let a = (rate_accepted _ _ _ (sym c.in_ok-rate_refusal.ensures)).2 in
    let w = c.max_len_for-max_len.ensures in
    let m = c.min.ensures in
    (omega arith, omega arith)

pub returns : goal.returns
unfolding refused_number changing
returns c = made_parts
    (rate_made _ _ _ c.in_ok-rate_refusal.ensures _ _ _ _ c.max_len_for-max_len.ensures c.min.ensures c.placed.ensures c.blank.ensures)
