use Rattle.std.proofs.Common.{sym, ◌∙◌}
use Rattle.common.specs.Refusal.{number_of, refused_number}
use Rattle.karplus_strong.specs.Shortcuts.{state_refusal_of}
use Rattle.karplus_strong.proofs.Parts.{max_len_range}
use Rattle.karplus_strong.proofs.KarplusStrong.state_refusal.Goals as goal

pub max_len_for-requires : goal.max_len_for-requires
max_len_for-requires c = sym c.rate_ok.ensures ∙ c.if-not-rate_ok.false

pub line_ok-requires : goal.line_ok-requires
line_ok-requires c = rw c.max_len_for.ensures (max_len_range _ (sym c.rate_ok.ensures ∙ c.if-not-rate_ok.false)).1

pub returns-else-not-line_ok : goal.returns-else-not-line_ok
unfolding state_refusal_of refused_number
returns-else-not-line_ok c = rw (sym c.rate_ok.ensures ∙ c.if-not-rate_ok.false, ← c.max_len_for.ensures, sym c.line_ok.ensures ∙ c.if-not-line_ok.false)

pub returns-then-not-line_ok : goal.returns-then-not-line_ok
unfolding state_refusal_of refused_number number_of
returns-then-not-line_ok c = rw (sym c.rate_ok.ensures ∙ c.if-not-rate_ok.false, ← c.max_len_for.ensures, sym c.line_ok.ensures ∙ c.if-not-line_ok.true)

pub returns-then-not-rate_ok : goal.returns-then-not-rate_ok
unfolding state_refusal_of refused_number number_of
returns-then-not-rate_ok c = rw (sym c.rate_ok.ensures ∙ c.if-not-rate_ok.true)
