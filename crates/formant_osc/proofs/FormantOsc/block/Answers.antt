use mathlib.Core.Path.{◌∙◌}
use native.Mathlib.Nat.{one-mul}
use native.Mathlib.Omega.{arith}
use Rattle.std.proofs.lemmas.Result.{err_from_is_err_and}
use Rattle.answer.proofs.Said.{said_fits, said_refused, said_empty, said_done, kept_or}
use Rattle.formant_osc.specs.Consts.{n_ports}
use Rattle.formant_osc.specs.FormantOsc.{formant_osc_block_of}
use Rattle.formant_osc.proofs.FormantOsc.block.Goals as goal

pub returns-in_err-block_outcome : goal.returns-in_err-block_outcome
unfolding formant_osc_block_of
returns-in_err-block_outcome c = let a = c.args in
    let p = err_from_is_err_and c.from_residual.result c.from_residual.ensures.1 in
    rw (p.1, p.2) (said_refused n_ports _ a.tally a.samples.now a.marks.now _ _ c.refusal.ensures c.block_outcome.ensures _ _ a.self _
    c.in_err-block_outcome.was)

pub run-state-requires : goal.run-state-requires
run-state-requires c = let a = c.args in
    let f = said_fits n_ports _ a.tally a.samples.now a.marks.now _ _ c.refusal.ensures c.block_outcome.ensures _ c.in_ok-block_outcome.was in
    let z = c.if-n-eq0.false in
    (f.1, omega arith, f.0 ∙ one-mul _)

pub returns-then-n-eq0 : goal.returns-then-n-eq0
unfolding formant_osc_block_of
returns-then-n-eq0 c = let a = c.args in
    said_empty n_ports _ a.tally a.samples.now a.marks.now _ _ c.refusal.ensures c.block_outcome.ensures _ _ a.self _ c.in_ok-block_outcome.was
    c.if-n-eq0.true

pub returns : goal.returns
unfolding formant_osc_block_of
returns c = let a = c.args in
    said_done n_ports _ a.tally a.samples.now a.marks.now _ _ c.refusal.ensures c.block_outcome.ensures _ _ a.self _ c.in_ok-block_outcome.was _ _ _ _
    c.run-state.ensures.value c.run-state.ensures.samples_after c.run-state.ensures.marks_after
    (kept_or _ _ _ _ c.unwrap_or.ensures c.take_marks.ensures)
