-- `score_writer::write`: the values are checked first, then the room.
use mathlib.Core.Path.{sym, refl, ◌∙◌}
use lib.Seq.{length-take-le}
use Rattle.text.proofs.PutLaws.{within}
use Rattle.score.proofs.Steps.{stopped}
use Rattle.score_writer.proofs.Put.{refused_at, short_at, written_at}
use Rattle.score_writer.proofs.write.Goals as goal

pub returns-in_err-check-clause-value : goal.returns-in_err-check-clause-value
returns-in_err-check-clause-value c = rw (stopped _ c.from_residual.ensures.1) (refused_at _ c.args.out.now _ c.in_err-check.ensures).0

pub returns-in_err-check-clause-out_after : goal.returns-in_err-check-clause-out_after
returns-in_err-check-clause-out_after c = (refused_at _ _ _ c.in_err-check.ensures).1

pub returns-then-out-n : goal.returns-then-out-n
returns-then-out-n c = let both = short_at _ _ _ _ _ refl (sym c.in_ok-check.ensures)
    (c.put_score-n.ensures.value, c.put_score-n.ensures.bytes_after) c.if-out-n.true in
    record { value = both.0; out_after = both.1 }

pub slice_bounds-bytes-end : goal.slice_bounds-bytes-end
slice_bounds-bytes-end c = (within _ _ _ (c.put_score-n.ensures.value, c.put_score-n.ensures.bytes_after)).0

pub slice_bounds-copy_from_slice-end-3 : goal.slice_bounds-copy_from_slice-end-3
slice_bounds-copy_from_slice-end-3 c =
    sym (length-take-le _ _ (within _ _ _ (c.put_score-n.ensures.value, c.put_score-n.ensures.bytes_after)).0)

pub copy_from_slice-requires : goal.copy_from_slice-requires
copy_from_slice-requires c =
    length-take-le _ _ c.if-out-n.false
    ∙ sym (length-take-le _ _ (within _ _ _ (c.put_score-n.ensures.value, c.put_score-n.ensures.bytes_after)).0)

pub returns-clause-value : goal.returns-clause-value
returns-clause-value c =
    (written_at c.args.score c.args.out.now _ _ _ refl (sym c.in_ok-check.ensures) (c.put_score-n.ensures.value, c.put_score-n.ensures.bytes_after)
    c.if-out-n.false).0

pub returns-clause-out_after : goal.returns-clause-out_after
returns-clause-out_after c =
    simp c.copy_from_slice.ensures.after
    (written_at _ _ _ _ _ refl (sym c.in_ok-check.ensures) (c.put_score-n.ensures.value, c.put_score-n.ensures.bytes_after) c.if-out-n.false).1
