use Rattle.std.proofs.Common.{sym, ◌∙◌}
use Rattle.std.proofs.lemmas.Result.{err_from_is_err_and}
use Rattle.common.specs.Refusal.{number_of, refused_number}
use Rattle.karplus_strong.proofs.Parts.{max_len_range, rate_new, rate_state, rate_room}
use Rattle.karplus_strong.proofs.KarplusStrong.rate_refusal.Goals as goal

pub returns-then-not-rate_ok : goal.returns-then-not-rate_ok
unfolding refused_number number_of
returns-then-not-rate_ok c = rate_new _ _ _ (sym c.rate_ok.ensures ∙ c.if-not-rate_ok.true)

pub returns-in_err-state_refusal : goal.returns-in_err-state_refusal
unfolding refused_number
returns-in_err-state_refusal c = let p = err_from_is_err_and c.from_residual.result c.from_residual.ensures.1 in
    rw (p.1, p.2) (rate_state _ _ _ _ (sym c.rate_ok.ensures ∙ c.if-not-rate_ok.false) c.in_err-state_refusal.ensures)

pub max_len_for-requires : goal.max_len_for-requires
max_len_for-requires c = sym c.rate_ok.ensures ∙ c.if-not-rate_ok.false

pub room-requires : goal.room-requires
room-requires c = rw c.max_len_for.ensures (max_len_range _ (sym c.rate_ok.ensures ∙ c.if-not-rate_ok.false)).1

pub returns : goal.returns
unfolding refused_number
returns c = rate_room _ _ _ _ _ (sym c.rate_ok.ensures ∙ c.if-not-rate_ok.false) c.in_ok-state_refusal.ensures c.max_len_for.ensures c.room.ensures
