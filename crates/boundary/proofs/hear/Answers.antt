use mathlib.Core.Path.{refl}
use Rattle.common.specs.Refusal.{refused_number}
use Rattle.boundary.proofs.Flat.{tick_sized, heard_pass, heard_stop}
use Rattle.boundary.specs.Flat.{heard_of}
use Rattle.boundary.proofs.hear.Goals as goal

pub store-requires : goal.store-requires
unfolding refused_number
store-requires g c =
    let s = tick_sized _ _ _ _ _ _ 0 (simp (c.FLOATS.ensures, c.WHOLES.ensures, c.SAMPLES.ensures) at c.in-Ok.ensures) refl in (s.0, s.1)

pub put-requires : goal.put-requires
unfolding refused_number
put-requires g c = (tick_sized _ _ _ _ _ _ 0 (simp (c.FLOATS.ensures, c.WHOLES.ensures, c.SAMPLES.ensures) at c.in-Ok.ensures) refl).2

pub returns-then-is_accepted : goal.returns-then-is_accepted
unfolding refused_number heard_of
returns-then-is_accepted g c =
    heard_pass _ _ _ _ _ _ (simp (c.FLOATS.ensures, c.WHOLES.ensures, c.SAMPLES.ensures) at c.in-Ok.ensures) _ _
    (simp (
      ← c.is_accepted.ensures,
      c.if-is_accepted.true,
      c.host_number.ensures,
      c.store.ensures.0,
      c.store.ensures.1,
      c.put.ensures,
      c.samples.ensures,
    ))

pub returns-else-is_accepted : goal.returns-else-is_accepted
unfolding refused_number heard_of
returns-else-is_accepted g c =
    heard_pass _ _ _ _ _ _ (simp (c.FLOATS.ensures, c.WHOLES.ensures, c.SAMPLES.ensures) at c.in-Ok.ensures) _ _
    (simp (← c.is_accepted.ensures, c.if-is_accepted.false, c.host_number-else-is_accepted.ensures))

pub returns-in-Err : goal.returns-in-Err
unfolding refused_number
returns-in-Err g c =
    heard_stop _ _ _ _ _ _ c.in-Err.refused _ (simp (c.FLOATS.ensures, c.WHOLES.ensures, c.SAMPLES.ensures) at c.in-Err.ensures) c.number.ensures _
