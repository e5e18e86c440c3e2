use mathlib.Core.List.{[], ◌∷◌}
use mathlib.Core.Path.{refl}
use Prim.Native.Nat.{ℕ}
use native.Mathlib.Numerals.{add-one}
use native.Mathlib.Omega.{arith}
use lib.ListN.{take}
use lib.Seq.{take-suc, take_all}
use Rattle.text.specs.Put.{place_of}
use Rattle.text.proofs.PutLaws.{after}
use Rattle.text.proofs.put_text.Goals as goal

pub loop-b-init : goal.loop-b-init
unfolding place_of
loop-b-init c = (omega arith, refl)

pub loop-b-preserved : goal.loop-b-preserved
loop-b-preserved c = let l = c.loop-b in
    rw (add-one, take-suc {A = ℕ} _ l.b-index 0 c.loop-b-test.true)
    (after _ _ (take l.b-index _) (_ ∷ []) l.invariant (c.put_byte-to.ensures.value, c.put_byte-to.ensures.out_after))

pub returns : goal.returns
returns c =
    let both = rw (take_all _ _ c.loop-b-test.false) at c.loop-b.invariant in
    record { value = both.0; out_after = both.1 }
