-- `text::put_byte`: within the buffer a store; past its end the buffer stays.
use mathlib.Core.Path.{refl, sym}
use native.Mathlib.Omega.{arith}
use lib.Seq.{set_out}
use Rattle.text.specs.Put.{place_of}
use Rattle.text.proofs.put_byte.Goals as goal

pub returns-then-at-out : goal.returns-then-at-out
unfolding place_of
returns-then-at-out c = record { value = omega arith; out_after = refl }

pub returns-else-at-out : goal.returns-else-at-out
unfolding place_of
returns-else-at-out c = record { value = omega arith; out_after = sym (set_out _ _ _ c.if-at-out.false) }
