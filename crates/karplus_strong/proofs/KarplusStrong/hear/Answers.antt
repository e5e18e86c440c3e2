use Rattle.std.proofs.Common.{T, sym, subst, arith}
use Rattle.karplus_strong.specs.KarplusStrong.{struck_len}
use Rattle.karplus_strong.specs.Shortcuts.{hear_of}
use Rattle.karplus_strong.proofs.Cuts.{cut_small}
use Rattle.karplus_strong.proofs.Parts.{heard_cut}
use Rattle.karplus_strong.proofs.KarplusStrong.hear.Goals as goal

pub whole-requires : goal.whole-requires
whole-requires c = let r = c.requires in
    heard_cut c.args.self _ _ _ _ r.0 r.1 c.finite_or.ensures c.voct_to_hz-freq_memo.ensures c.period_of-period.ensures

pub overflow_add-result : goal.overflow_add-result
overflow_add-result c = let r = c.requires in
    let cut = heard_cut c.args.self _ _ _ _ r.0 r.1 c.finite_or.ensures c.voct_to_hz-freq_memo.ensures c.period_of-period.ensures in
    let q = cut_small c.period_of-period.result (subst T (sym c.period_of-period.type_inv) tt) cut in
    let w = c.whole.ensures in
    omega arith

pub returns-then-risen : goal.returns-then-risen
unfolding hear_of struck_len
returns-then-risen c = let taken = rw c.rising-risen.ensures at c.if-risen.true in
    simp (c.whole.ensures, c.period_of-period.ensures, c.rising-risen.ensures, c.voct_to_hz-freq_memo.ensures, c.finite_or.ensures, taken)

pub returns-else-risen : goal.returns-else-risen
unfolding hear_of
returns-else-risen c = let taken = rw c.rising-risen.ensures at c.if-risen.false in
    simp (c.period_of-period.ensures, c.rising-risen.ensures, c.voct_to_hz-freq_memo.ensures, c.finite_or.ensures, taken)
