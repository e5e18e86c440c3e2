use Rattle.std.proofs.Common.{sym, ◌∙◌}
use Rattle.std.proofs.lemmas.Result.{err_from_is_err_and}
use Rattle.answer.proofs.Said.{said_refused, said_empty, said_done, kept_or}
use Rattle.answer.specs.Block.{block_said}
use Rattle.karplus_strong.proofs.Held.{block_ready, run_by}
use Rattle.karplus_strong.proofs.Parts.{heard_taken, heard_fits, heard_delay, struck_ready}
use Rattle.karplus_strong.specs.Consts.{n_ports}
use Rattle.karplus_strong.specs.KarplusStrong.{strung, karplus_strong_block_of}
use Rattle.karplus_strong.proofs.KarplusStrong.block.Goals as goal

pub returns-in_err-block_outcome : goal.returns-in_err-block_outcome
unfolding karplus_strong_block_of block_said
returns-in_err-block_outcome c = let a = c.args in
    let p = err_from_is_err_and c.from_residual.result c.from_residual.ensures.1 in
    rw (p.1, p.2) (said_refused n_ports _ a.tally a.samples.now a.marks.now _ _ c.first_refusal-first.ensures c.block_outcome.ensures _ _
    (strung a.self a.line.now) _ c.in_err-block_outcome.was)

pub returns-then-n-eq0 : goal.returns-then-n-eq0
unfolding karplus_strong_block_of block_said
returns-then-n-eq0 c = let a = c.args in
    said_empty n_ports _ a.tally a.samples.now a.marks.now _ _ c.first_refusal-first.ensures c.block_outcome.ensures _ _ (strung a.self a.line.now) _
    c.in_ok-block_outcome.was c.if-n-eq0.true

pub hear-heard-requires : goal.hear-heard-requires
hear-heard-requires c =
    let r = block_ready _ _ _ _ _ _ _ _ _ c.first_refusal-first.ensures c.block_outcome.ensures _ c.in_ok-block_outcome.was c.if-n-eq0.false in
    (r.sound.rate, r.sound.value)

pub tuning-tuning-requires : goal.tuning-tuning-requires
tuning-tuning-requires c =
    let r = block_ready _ _ _ _ _ _ _ _ _ c.first_refusal-first.ensures c.block_outcome.ensures _ c.in_ok-block_outcome.was c.if-n-eq0.false in
    heard_delay _ _ _ c.hear-heard.ensures _ r.sound r.room

pub struck-struck-requires : goal.struck-struck-requires
struck-struck-requires c =
    let r = block_ready _ _ _ _ _ _ _ _ _ c.first_refusal-first.ensures c.block_outcome.ensures _ c.in_ok-block_outcome.was c.if-n-eq0.false in
    (sym (heard_taken _ _ _ c.hear-heard.ensures _) ∙ r.untriggered, heard_fits _ _ _ c.hear-heard.ensures _ r.sound r.room)

pub ring-state-requires : goal.ring-state-requires
ring-state-requires c =
    let r = block_ready _ _ _ _ _ _ _ _ _ c.first_refusal-first.ensures c.block_outcome.ensures _ c.in_ok-block_outcome.was c.if-n-eq0.false in
    let q = struck_ready _ _ _ c.hear-heard.ensures _ r.sound r.room _ _ _ _ c.struck-struck.ensures.0 in
    (q.0, rw c.struck-struck.auto.line q.1, r.fits)

pub returns : goal.returns
unfolding karplus_strong_block_of block_said
returns c = let a = c.args in
    let r = block_ready _ _ _ _ _ _ _ _ _ c.first_refusal-first.ensures c.block_outcome.ensures _ c.in_ok-block_outcome.was c.if-n-eq0.false in
    let ring = c.ring-state.ensures in
    let all = run_by _ _ _ _ _ c.hear-heard.ensures r.none r.untriggered _ _ _ c.tuning-tuning.ensures c.struck-struck.ensures _ r.some _ _ _
    (ring.line_after, (ring.samples_after, ring.marks_after)) in
    said_done n_ports _ a.tally a.samples.now a.marks.now _ _ c.first_refusal-first.ensures c.block_outcome.ensures _ _ (strung a.self a.line.now) _
    c.in_ok-block_outcome.was _ _ _ _ all.0 all.1.0 all.1.1 (kept_or _ _ _ _ c.unwrap_or.ensures c.take_marks.ensures)
