-- A vibrato of no depth adds a zero to the pitch, and only a pitch of zero feels that.
use mathlib.Core.Bool.{Bool, true, false, not, ◌&&◌}
use mathlib.Core.Path.{◌≡◌, refl, ap, ◌∙◌}
use lib.Dec.{T, lit≤}
use lib.Ieee.{Float, fin, binary64, add, mul, div, eq, of_bits}
use lib.Ieee.Bits.{is_true}
use lib.IntN.{pos}
use Rattle.common.proofs.Bounds.{phase_within, sin_within, two_within}
use Rattle.common.specs.Consts.{half}
use Rattle.common.specs.Phase.{turns}
use Rattle.common.specs.Tests.{phase_ok}
use Rattle.common.specs.declared.VoltsPerOctave.{VoltsPerOctave}
use Rattle.numeric.specs.Basic.{pi}
use Rattle.formant_osc.specs.Consts.{twelve}
use Rattle.formant_osc.specs.Sound.{pitch_of}
use Rattle.laws.proofs.Interval.{within_finite, within_mul, within_of}
use Rattle.laws.proofs.Tests.{both_true, of_true}
use Rattle.laws.proofs.Zeros.{times_nought, plus_nought}
use Rattle.laws.specs.Float.{F64, is_fin, zer, two}
use Rattle.numeric.specs.Trig.{sin_of}

-- ---- the sine of a phase is finite
abbrev angle : Float → Float
angle p = mul binary64 (mul binary64 p two) pi

sine_finite : (p : Float) → T (phase_ok (turns p)) → T (is_fin (sin_of (angle p)))
sine_finite p h =
    let turned = within_mul 0 1 p two (lit≤ tt) (phase_within p (is_true (phase_ok (turns p)) h)) two_within in
    within_finite 0 (sin_of (angle p))
    (sin_within 3 (angle p) (lit≤ tt) (within_mul 1 2 (mul binary64 p two) pi (lit≤ tt) turned (unfold of_bits in within_of 2 pi tt)))

-- ---- so no depth of it is a zero, of either sign
part_nought : (s : Bool) → (t : Bool) × (div binary64 (mul binary64 (fin s 0 (pos 0)) half) twelve ≡ fin t 0 (pos 0))
unfolding mul div of_bits
part_nought true = (true, refl)
part_nought false = (false, refl)

pub still_pitch : (v : VoltsPerOctave) (depth p : Float) → F64 v.0 → phase_ok (turns p) ≡ true → (eq depth zer && not (eq v.0 zer)) ≡ true
    → pitch_of v depth p ≡ v
unfolding pitch_of
still_pitch v depth p f phase zeros =
    let h = both_true (eq depth zer) (not (eq v.0 zer)) zeros in
    let q = times_nought (sin_of (angle p)) depth (sine_finite p (of_true (phase_ok (turns p)) phase)) (of_true (eq depth zer) h.0) in
    let r = part_nought q.0 in
    ap (λ (z : Float). record { 0 = z })
    (ap (λ (z : Float). add binary64 v.0 (div binary64 (mul binary64 z half) twelve)) q.1
    ∙ ap (λ (z : Float). add binary64 v.0 z) r.1
    ∙ plus_nought v.0 r.0 f (of_true (not (eq v.0 zer)) h.1))
