-- samples that were found to fit have the place of each tick
use mathlib.Core.Path.{◌≡◌, sym, ◌∙◌}
use mathlib.Core.Bool.{Bool, true}
use Prim.Native.Nat.{ℕ, ◌+◌, ◌*◌, ◌≤◌, ◌<◌}
use native.Mathlib.Omega.{arith}
use lib.Dec.{eqb}
use borrow.Author.Tests.{eqb-true, le-ltb}
use Rattle.answer.specs.Block.{framed}
use Rattle.answer.proofs.Blocks.{frame_place, frame_put}
use Rattle.answer.proofs.put_frame.Goals as goal
use Rattle.answer.proofs.put_frame.Goals.{else-fits-via-then-fits+else-i-n, else-fits-via-else-fits}

placed : (ports n i o : ℕ) (t : Bool) → t ≡ eqb o (ports * n) → t ≡ true → i < n → ports * i + ports ≤ o
placed ports n i o t e h k = frame_place ports n i o (eqb-true o (ports * n) (sym e ∙ h)) k

pub overflow_mul-at : goal.overflow_mul-at
overflow_mul-at c = let entered = c.args in
    let h = placed entered.ports entered.n entered.i _ _ c.fits.ensures c.if-fits.true c.if-i-n.true in
    omega arith

pub overflow_add-at : goal.overflow_add-at
overflow_add-at c = let entered = c.args in
    let h = placed entered.ports entered.n entered.i _ _ c.fits.ensures c.if-fits.true c.if-i-n.true in
    omega arith

pub offset_bounds-samples-at : goal.offset_bounds-samples-at
offset_bounds-samples-at c = let entered = c.args in
    let h = placed entered.ports entered.n entered.i _ _ c.fits.ensures c.if-fits.true c.if-i-n.true in
    omega arith

pub slice_bounds-put_volts-end : goal.slice_bounds-put_volts-end
slice_bounds-put_volts-end c = placed _ _ _ _ _ c.fits.ensures c.if-fits.true c.if-i-n.true

pub returns-then-i-n : goal.returns-then-i-n
returns-then-i-n c = frame_put _ _ _ _ _ _ (eqb-true _ _ (sym c.fits.ensures ∙ c.if-fits.true)) c.if-i-n.true c.put_volts.ensures

pub returns-else-fits : goal.returns-else-fits
unfolding framed
returns-else-fits c = let entered = c.args in
    elim c.else-fits.branch [
      | else-fits-via-then-fits+else-i-n w ↦ simp (← c.fits.ensures, w.if-fits.true, le-ltb entered.i entered.n w.if-i-n.false)
      | else-fits-via-else-fits w ↦ simp (← c.fits.ensures, w.if-fits.false)
    ]
