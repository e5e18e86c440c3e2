use mathlib.Core.Path.{◌≡◌, ◌∙◌}
use Prim.Native.Nat.{ℕ, ◌*◌}
use native.Mathlib.Nat.{zero-mul, pos_of_ne-zero}
use lib.Dec.{eqb}
use borrow.Author.Tests.{ne_eqb}
use Rattle.answer.proofs.Blocks.{whole_frames, part_frames}
use Rattle.answer.proofs.fits.Goals as goal

pub returns-then-ports-eq0 : goal.returns-then-ports-eq0
returns-then-ports-eq0 c = let none : (o n p : ℕ) → p ≡ 0 → eqb o 0 ≡ eqb o (p * n) = λ o n p h. simp (h, zero-mul n) in
    none _ _ _ c.if-ports-eq0.true

pub returns-then-samples-ports-eq0 : goal.returns-then-samples-ports-eq0
returns-then-samples-ports-eq0 c = whole_frames _ _ _ (pos_of_ne-zero c.if-ports-eq0.false) c.if-samples-ports-eq0.true

pub returns-else-samples-ports-eq0 : goal.returns-else-samples-ports-eq0
returns-else-samples-ports-eq0 c = ne_eqb _ _ c.if-samples-ports-eq0.false ∙ part_frames _ _ _ c.if-samples-ports-eq0.false
