use mathlib.Core.Path.{refl}
use Rattle.common.specs.Refusal.{refused_number}
use Rattle.boundary.proofs.Flat.{sized, kept_pass, kept_stop}
use Rattle.boundary.specs.Flat.{kept, kept_result}
use Rattle.boundary.proofs.keep.Goals as goal

pub store-requires : goal.store-requires
unfolding refused_number
store-requires g c = sized _ _ _ _ 0 (simp (c.FLOATS.ensures, c.WHOLES.ensures) at c.in-Ok.ensures) refl

pub returns-in-Ok-r : goal.returns-in-Ok-r
unfolding kept_result refused_number
returns-in-Ok-r g c =
    rw c.in-Ok-r.is
    (kept_pass _ _ _ _ (simp (c.FLOATS.ensures, c.WHOLES.ensures) at c.in-Ok.ensures) _ _ (λ i. kept 0 (c.store.ensures.0 i) (c.store.ensures.1 i)))

pub returns-in-Err-r : goal.returns-in-Err-r
unfolding kept_result refused_number
returns-in-Err-r g c =
    rw (c.in-Err-r.is, c.number.ensures) (kept_pass _ _ _ _ (simp (c.FLOATS.ensures, c.WHOLES.ensures) at c.in-Ok.ensures) _ _ refl)

pub returns-in-Err : goal.returns-in-Err
unfolding refused_number
returns-in-Err g c =
    kept_stop _ _ _ _ c.in-Err.refused _ (simp (c.FLOATS.ensures, c.WHOLES.ensures) at c.in-Err.ensures) c.number-in-Err.ensures _
