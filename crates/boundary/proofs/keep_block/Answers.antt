use mathlib.Core.Path.{refl, sym}
use Rattle.boundary.proofs.Flat.{block_sized, left_pass, left_stop}
use Rattle.boundary.specs.Flat.{left, left_by}
use Rattle.boundary.proofs.keep_block.Goals as goal

pub store-requires : goal.store-requires
store-requires g c = let s = block_sized _ _ _ _ _ _ (sym (simp (c.FLOATS.ensures, c.WHOLES.ensures) at c.in-Ok.ensures)) in (s.0, s.1)

pub store_counts-requires : goal.store_counts-requires
store_counts-requires g c = (block_sized _ _ _ _ _ _ (sym (simp (c.FLOATS.ensures, c.WHOLES.ensures) at c.in-Ok.ensures))).2

pub returns-in-Ok-r : goal.returns-in-Ok-r
unfolding left_by
returns-in-Ok-r g c =
    rw c.in-Ok-r.is
    (left_pass _ _ _ _ _ _ (sym (simp (c.FLOATS.ensures, c.WHOLES.ensures) at c.in-Ok.ensures)) _ _
    (λ i. left 0 (c.store.ensures.0 i) (c.store.ensures.1 i) (c.store_counts.ensures i)))

pub returns-in-Err-r : goal.returns-in-Err-r
unfolding left_by
returns-in-Err-r g c =
    rw (c.in-Err-r.is, c.number.ensures)
    (left_pass _ _ _ _ _ _ (sym (simp (c.FLOATS.ensures, c.WHOLES.ensures) at c.in-Ok.ensures)) _ _ refl)

pub returns-in-Err : goal.returns-in-Err
returns-in-Err g c = left_stop _ _ _ _ _ c.in-Err.refused _ (sym (simp (c.FLOATS.ensures, c.WHOLES.ensures) at c.in-Err.ensures)) c.number-in-Err.ensures _
