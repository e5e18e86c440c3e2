-- A small depth makes no output that isn't finite: each is a product of numbers that are bounded.
use mathlib.Core.Bool.{Bool, ◌&&◌, true, false, cond}
use mathlib.Core.Path.{◌≡◌, refl}
use Prim.Native.Nat.{ℕ}
use lib.Dec.{lit≤}
use lib.Ieee.{Float, binary64, lt, le, mul, of_bits, sub, add, neg}
use lib.Ieee.Bits.{is_true}
use lib.Ieee.Fits.{and_l, and_r}
use Rattle.answer.specs.Mark.{all_finite}
use Rattle.common.proofs.Bounds.{phase_within, sin_within, one_within, half_within, two_within, four_within, five_within, tau_within}
use Rattle.common.specs.Consts.{four, five, half}
use Rattle.common.specs.Phase.{turns}
use Rattle.common.specs.Ports.{wants}
use Rattle.common.specs.Tests.{phase_ok}
use Rattle.laws.proofs.Interval.{Within, within_add, within_between, within_finite, within_minus, within_mul, within_neg, within_of, within_to}
use Rattle.laws.proofs.Tests.{of_true}
use Rattle.laws.specs.Float.{zer, one, two, is_fin}
use Rattle.numeric.proofs.BasicLaws.{within_fabs}
use Rattle.numeric.specs.Basic.{fabs_of, tau}
use Rattle.lfo.specs.Consts.{ten}
use Rattle.lfo.specs.Lfo.{lfo_outputs_of}
use Rattle.lfo.specs.Small.{most, is_small}
use Rattle.lfo.specs.Waves.{sine_of, sin_wave, tri_wave, saw_wave, sqr_wave, sin_uni_wave, eoc_wave}

-- ---- what goes in
depth_within : (d : Float) → is_small d ≡ true → Within 30 d
unfolding is_small of_bits neg
depth_within d h =
    let t = of_true (le d most && le (neg most) d) h in
    within_between 30 d (and_r (le d most) (le (neg most) d) t) (and_l (le d most) (le (neg most) d) t)

-- the sine of a phase lies from -1 to 1
sine_within : (p : Float) → Within 0 p → Within 0 (sine_of p)
unfolding sine_of
sine_within p h = sin_within 3 (mul binary64 p tau) (lit≤ tt) (within_mul 0 3 p tau (lit≤ tt) h tau_within)

-- ---- what comes out
finite_if : (want : Bool) (n : ℕ) (x : Float) → Within n x → is_fin (cond want x zer) ≡ true
unfolding of_bits
finite_if true n x h = is_true (is_fin x) (within_finite n x h)
finite_if false n x h = refl

-- the pulse is, at any depth
pub eoc_finite : (want turned : Bool) → is_fin (eoc_wave want turned) ≡ true
unfolding eoc_wave of_bits
eoc_finite true true = refl
eoc_finite true false = refl
eoc_finite false turned = refl

pub outputs_finite : (wanted : ℕ) (p d : Float) (turned : Bool) → phase_ok (turns p) ≡ true → is_small d ≡ true
    → all_finite (lfo_outputs_of wanted p d turned) ≡ true
unfolding all_finite lfo_outputs_of
outputs_finite wanted p d turned h k = simp (sin_finite, tri_finite, saw_finite, sqr_finite, uni_finite, eoc_finite (wants wanted 32) turned)
  where
    scale : Float
    scale = mul binary64 five d

    phase : Within 0 p
    phase = phase_within p h

    depth : Within 30 d
    depth = depth_within d k

    loud : Within 33 scale
    loud = within_mul 3 30 five d (lit≤ tt) five_within depth

    sin_finite : is_fin (sin_wave (wants wanted 1) (sine_of p) scale) ≡ true
    sin_finite =
        unfold sin_wave in finite_if (wants wanted 1) 33 (mul binary64 (sine_of p) scale)
        (within_mul 0 33 (sine_of p) scale (lit≤ tt) (sine_within p phase) loud)

    tri_finite : is_fin (tri_wave (wants wanted 2) p scale) ≡ true
    tri_finite =
        unfold tri_wave in
        let off = within_fabs 1 (sub binary64 p half) (within_minus 0 p half (lit≤ tt) phase half_within) in
        let side = within_minus 3 one (mul binary64 four (fabs_of (sub binary64 p half))) (lit≤ tt) (within_to 0 3 one (lit≤ tt) one_within)
        (within_mul 2 1 four (fabs_of (sub binary64 p half)) (lit≤ tt) four_within off) in
        finite_if (wants wanted 2) 37 _ (within_mul 4 33 _ scale (lit≤ tt) side loud)

    saw_finite : is_fin (saw_wave (wants wanted 4) p scale) ≡ true
    saw_finite =
        unfold saw_wave in
        let ramp = within_minus 1 (mul binary64 two p) one (lit≤ tt) (within_mul 1 0 two p (lit≤ tt) two_within phase)
        (within_to 0 1 one (lit≤ tt) one_within) in
        finite_if (wants wanted 4) 35 _ (within_mul 2 33 _ scale (lit≤ tt) ramp loud)

    sqr_finite : is_fin (sqr_wave (wants wanted 8) p scale) ≡ true
    sqr_finite = unfold sqr_wave in finite_if (wants wanted 8) 33 (cond (lt p half) scale (neg scale)) (go (lt p half))
      where
        go : (b : Bool) → Within 33 (cond b scale (neg scale))
        go true = loud
        go false = within_neg 33 scale loud

    uni_finite : is_fin (sin_uni_wave (wants wanted 16) (sine_of p) d) ≡ true
    uni_finite =
        unfold sin_uni_wave in
        let lifted = within_add 0 (mul binary64 (sine_of p) half) half (lit≤ tt)
        (within_mul 0 0 (sine_of p) half (lit≤ tt) (sine_within p phase) half_within) half_within in
        let deep = within_mul 1 30 (add binary64 (mul binary64 (sine_of p) half) half) d (lit≤ tt) lifted depth in
        finite_if (wants wanted 16) 35 _ (within_mul 31 4 _ ten (lit≤ tt) deep (unfold of_bits in within_of 4 ten tt))
