use Rattle.std.proofs.lemmas.Result.{err_from_is_err_and}
use Rattle.common.proofs.RefusalLaws.{refuses}
use Rattle.common.specs.Refusal.{number_of, refused_number}
use Rattle.answer.specs.Block.{block_refusal_of}
use Rattle.answer.proofs.block_outcome.Goals as goal

pub returns-then-not-fits : goal.returns-then-not-fits
unfolding block_refusal_of refused_number number_of
returns-then-not-fits c = simp (← c.fits.ensures, c.if-not-fits.true)

pub returns-in_err-first : goal.returns-in_err-first
unfolding block_refusal_of refused_number
returns-in_err-first c =
    let p = err_from_is_err_and c.from_residual.result c.from_residual.ensures.1 in
    rw (p.1, p.2) (simp (c.in_err-first.was, refuses c.in_err-first.field-0.0, c.if-not-fits.false, ← c.fits.ensures))

pub returns-then-has_room : goal.returns-then-has_room
unfolding block_refusal_of refused_number
returns-then-has_room c = simp (c.if-has_room.true, ← c.has_room.ensures, c.in_ok-first.was, c.if-not-fits.false, ← c.fits.ensures)

pub returns-else-has_room : goal.returns-else-has_room
unfolding block_refusal_of refused_number number_of
returns-else-has_room c = simp (c.if-has_room.false, ← c.has_room.ensures, c.in_ok-first.was, c.if-not-fits.false, ← c.fits.ensures)
