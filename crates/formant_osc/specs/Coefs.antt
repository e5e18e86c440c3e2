-- get_formants and resonator_coefs, written from oscillators.rs.
use Rattle.std.specs.Prelude.{List, [], ◌∷◌, ℕ, ◌+◌, min, get_or, Float}
use Rattle.std.specs.Float.{nan, binary64}
use Rattle.std.specs.Float.Ieee.{add, sub, mul, div, neg}
use Rattle.laws.specs.Float.{zer, one, two}
use Rattle.numeric.specs.Basic.{pi, clamp_of, whole_of, real_of}
use Rattle.numeric.specs.Power.{exp2_of}
use Rattle.numeric.specs.Trig.{sin_of, cos_of}
use Rattle.common.specs.Consts.{four, five}
use Rattle.formant_osc.specs.Consts.{formants, bandwidths, omega_low, omega_high}
use Rattle.formant_osc.specs.declared.Spot.{Spot}
use Rattle.formant_osc.specs.declared.Coef.{Coef}

-- idx = vowel.clamp(0.0, 1.0) * 4.0; idx0 = (idx as usize).min(3); frac = idx - idx0 as f64
unfoldable pub spot_of : Float → Spot
spot_of vowel =
    let idx = mul binary64 (clamp_of vowel zer one) four in
    let idx0 = min (whole_of idx) 3 in
    record { index = idx0; frac = sub binary64 idx (real_of idx0) }

-- (f0 * (1.0 - frac) + f1 * frac) * shift_mult, with f0 of the lower vowel and f1 of the next
unfoldable pub formant_of : Spot → ℕ → Float → Float
formant_of at i shift_mult =
    let f0 = get_or (get_or formants at.index []) i nan in
    let f1 = get_or (get_or formants (at.index + 1) []) i nan in
    mul binary64 (add binary64 (mul binary64 f0 (sub binary64 one at.frac)) (mul binary64 f1 at.frac)) shift_mult

-- shift_mult = pow(2.0, shift / 5.0)
unfoldable pub get_formants : Float → Float → List Float
get_formants vowel shift =
    let at = spot_of vowel in
    let by = exp2_of (div binary64 shift five) in
    formant_of at 0 by ∷ formant_of at 1 by ∷ formant_of at 2 by ∷ formant_of at 3 by ∷ formant_of at 4 by ∷ []

-- omega = (2.0 * PI * freq / sample_rate).clamp(0.01, PI * 0.45); q = freq / bandwidth; alpha = sin(omega) / (2.0 * q);
-- a1 = -2.0 * cos(omega); a2 = 1.0 - alpha; norm = 1.0 + alpha; [alpha / norm, a1 / norm, a2 / norm]
unfoldable pub coef_of : Float → Float → Float → Coef
coef_of freq bandwidth rate =
    let omega = clamp_of (div binary64 (mul binary64 (mul binary64 two pi) freq) rate) omega_low (mul binary64 pi omega_high) in
    let alpha = div binary64 (sin_of omega) (mul binary64 two (div binary64 freq bandwidth)) in
    let norm = add binary64 one alpha in
    record {
      b0 = div binary64 alpha norm;
      a1 = div binary64 (mul binary64 (neg two) (cos_of omega)) norm;
      a2 = div binary64 (sub binary64 one alpha) norm;
    }

-- the rows of the Rust's [[f64; 3]; 5], one after another
abbrev pub rows : Coef → Coef → Coef → Coef → Coef → List Float
rows a b c d e =
    a.b0 ∷ a.a1 ∷ a.a2 ∷ b.b0 ∷ b.a1 ∷ b.a2 ∷ c.b0 ∷ c.a1 ∷ c.a2 ∷ d.b0 ∷ d.a1 ∷ d.a2 ∷ e.b0 ∷ e.a1 ∷ e.a2 ∷ []

-- the i-th: freq = formants[i], bandwidth = BANDWIDTHS[i]
abbrev pub bandwidth_of : ℕ → Float
bandwidth_of i = get_or bandwidths i nan

unfoldable pub resonator_coefs : Float → Float → Float → List Float
resonator_coefs vowel shift rate =
    let f = get_formants vowel shift in
    rows (coef_of (get_or f 0 nan) (bandwidth_of 0) rate) (coef_of (get_or f 1 nan) (bandwidth_of 1) rate) (coef_of (get_or f 2 nan) (bandwidth_of 2) rate)
    (coef_of (get_or f 3 nan) (bandwidth_of 3) rate) (coef_of (get_or f 4 nan) (bandwidth_of 4) rate)
