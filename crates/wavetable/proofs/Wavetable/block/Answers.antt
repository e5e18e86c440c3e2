use mathlib.Core.Path.{sym, ap, ◌∙◌}
use lib.ListN.{length}
use Rattle.laws.specs.Lists.{tab}
use Rattle.answer.specs.Block.{after_ticks, joined, frame_at, mark_at}
use native.Mathlib.Omega.{arith}
use Rattle.std.proofs.lemmas.Result.{err_from_is_err_and}
use Rattle.common.proofs.RefusalLaws.{nonzero}
use Rattle.common.specs.Refusal.{refused_number}
use Rattle.answer.proofs.Said.{said_fits, said_refused, said_empty, said_done, kept_or}
use Rattle.wavetable.proofs.Accepted.{alone}
use Rattle.wavetable.specs.Consts.{n_ports}
use Rattle.wavetable.specs.Wavetable.{wavetable_block_of, wavetable_tick_refusal_of, wavetable_told_of, wavetable_next_of}
use Rattle.wavetable.proofs.Wavetable.block.Goals as goal

pub returns-in_err-block_outcome : goal.returns-in_err-block_outcome
unfolding wavetable_block_of
returns-in_err-block_outcome c = let a = c.args in
    let p = err_from_is_err_and c.from_residual.result c.from_residual.ensures.1 in
    let f = alone _ _ _ _ c.lent-lent.ensures.number c.and.ensures in
    rw (p.1, p.2) (said_refused n_ports _ a.tally a.samples.now a.marks.now _ _ f c.block_outcome.ensures _ _ a.self _ c.in_err-block_outcome.was)

pub returns-in_err-lent : goal.returns-in_err-lent
unfolding refused_number
returns-in_err-lent c = let a = c.args in
    let f = alone _ _ _ _ c.lent-lent.ensures.number c.and.ensures in
    let s = said_fits n_ports _ a.tally a.samples.now a.marks.now _ _ f c.block_outcome.ensures _ c.in_ok-block_outcome.was in
    absurd (nonzero c.in_err-lent.field-0.0 (sym (ap refused_number c.in_err-lent.was) ∙ c.lent-lent.ensures.number ∙ s.1))

pub run-state-requires : goal.run-state-requires
run-state-requires c = let a = c.args in
    let f = alone _ _ _ _ c.lent-lent.ensures.number c.and.ensures in
    let s = said_fits n_ports _ a.tally a.samples.now a.marks.now _ _ f c.block_outcome.ensures _ c.in_ok-block_outcome.was in
    let b = c.lent-lent.ensures.value _ c.in_ok-lent.was in
    let z = c.if-n-eq0.false in
    (ap (λ l. wavetable_tick_refusal_of a.self (length l)) b ∙ s.1, omega arith, s.0)

pub returns-then-n-eq0 : goal.returns-then-n-eq0
unfolding wavetable_block_of
returns-then-n-eq0 c = let a = c.args in
    let f = alone _ _ _ _ c.lent-lent.ensures.number c.and.ensures in
    said_empty n_ports _ a.tally a.samples.now a.marks.now _ _ f c.block_outcome.ensures _ _ a.self _ c.in_ok-block_outcome.was c.if-n-eq0.true

pub returns : goal.returns
unfolding wavetable_block_of
returns c = let a = c.args in
    let f = alone _ _ _ _ c.lent-lent.ensures.number c.and.ensures in
    let b = c.lent-lent.ensures.value _ c.in_ok-lent.was in
    let r = c.run-state.ensures in
    let n = length a.marks.now in
    said_done n_ports _ a.tally a.samples.now a.marks.now _ _ f c.block_outcome.ensures (wavetable_told_of a.c a.bank.now) (wavetable_next_of a.c a.bank.now)
    a.self _ c.in_ok-block_outcome.was _ _ _ _ (r.value ∙ ap (λ l. after_ticks (wavetable_next_of a.c l) n a.self) b)
    (r.samples_after ∙ ap (λ l. joined (frame_at n_ports (wavetable_told_of a.c l) (wavetable_next_of a.c l) a.self) n) b)
    (r.marks_after ∙ ap (λ l. tab (mark_at (wavetable_told_of a.c l) (wavetable_next_of a.c l) a.self) n) b)
    (kept_or _ _ _ _ c.unwrap_or.ensures c.take_marks.ensures)
