use Rattle.std.proofs.Common.{sym, ◌∙◌}
use Rattle.common.specs.Refusal.{number_of, refused_number}
use Rattle.karplus_strong.proofs.Parts.{max_len_range, new_rate, new_threshold, new_room}
use Rattle.karplus_strong.proofs.KarplusStrong.new_refusal.Goals as goal

pub max_len_for-requires : goal.max_len_for-requires
max_len_for-requires c = sym c.rate_ok.ensures ∙ c.if-not-rate_ok.false

pub room-requires : goal.room-requires
room-requires c = rw c.max_len_for.ensures (max_len_range _ (sym c.rate_ok.ensures ∙ c.if-not-rate_ok.false)).1

pub returns-else-not-threshold_ok : goal.returns-else-not-threshold_ok
returns-else-not-threshold_ok c =
    new_room _ _ _ _ _ (sym c.rate_ok.ensures ∙ c.if-not-rate_ok.false) (sym c.threshold_ok.ensures ∙ c.if-not-threshold_ok.false)
    c.max_len_for.ensures c.room.ensures

pub returns-then-not-threshold_ok : goal.returns-then-not-threshold_ok
unfolding refused_number number_of
returns-then-not-threshold_ok c = new_threshold _ _ _ (sym c.rate_ok.ensures ∙ c.if-not-rate_ok.false) (sym c.threshold_ok.ensures ∙ c.if-not-threshold_ok.true)

pub returns-then-not-rate_ok : goal.returns-then-not-rate_ok
unfolding refused_number number_of
returns-then-not-rate_ok c = new_rate _ _ _ (sym c.rate_ok.ensures ∙ c.if-not-rate_ok.true)
