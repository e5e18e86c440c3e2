use borrow.Author.Tests.{eq-eqb, ne_eqb}
use mathlib.Core.Bool.{cond}
use mathlib.Core.Path.{◌≡◌, refl}
use native.Mathlib.Nat.{le_antisymm}
use native.Mathlib.Numerals.{add-one}
use lib.Dec.{eqb}
use Rattle.supersaw.specs.Supersaw.{supersaw_sound_of}
use Rattle.supersaw.specs.Voices.{dt_of, voice_of, voices_of}
use Rattle.supersaw.proofs.Supersaw.sound.Goals as goal
use Rattle.supersaw.proofs.Supersaw.sound.Goals.{then-i-eq3, else-i-eq3}

pub loop-i-init : goal.loop-i-init
unfolding voices_of
loop-i-init c = refl

pub loop-i-preserved : goal.loop-i-preserved
unfolding voices_of voice_of dt_of
loop-i-preserved c =
    let center : c.if-i-eq3.center_saw ≡ cond (eqb c.loop-i.i 3) c.saw-saw.result c.loop-i.center_saw =
    elim c.if-i-eq3.branch [
      | then-i-eq3 w ↦ rw (w.center_saw-is, eq-eqb _ _ w.if-i-eq3.true)
      | else-i-eq3 w ↦ rw (w.center_saw-is, ne_eqb _ _ w.if-i-eq3.false)
    ] in
    simp (
      c.wrap_of_several.ensures,
      c.is_finite-finite.ensures,
      center,
      c.saw-saw.ensures,
      c.increment-dt.ensures,
      c.detuned-freq.ensures,
      add-one,
      ← c.loop-i.invariant,
    )

pub returns : goal.returns
unfolding supersaw_sound_of
returns c =
    let n : c.loop-i.i ≡ 7 = le_antisymm c.loop-i.auto.i-end c.loop-i-test.false in
    let detune = c.clamp-detune.ensures in
    let memo = c.voct_to_hz-freq_memo.ensures in
    let last = simp (n, detune, memo) at c.loop-i.invariant in
    simp (
      c.mark.ensures,
      c.is_finite-finite-2.ensures,
      c.are_numbers.ensures,
      c.of.ensures,
      c.wrap_of_several-2.ensures,
      c.saw-sub.ensures,
      c.sub_increment-sub_dt.ensures,
      c.clamp-mix.ensures,
      memo,
      ← last,
    )
