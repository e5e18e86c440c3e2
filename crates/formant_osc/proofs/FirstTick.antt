-- The first tick of a new one with every control 0: its pulse is 0, its resonators are silent, and all that it works out is finite.
use mathlib.Core.Bool.{Bool, true, false}
use mathlib.Core.List.{List}
use mathlib.Core.Path.{◌≡◌, refl, sym, ap, ◌∙◌, subst}
use Prim.Native.Nat.{ℕ, ◌*◌, ◌≤◌, ◌<◌}
use native.Mathlib.Nat.{le_trans, le_of_eq, mul_assoc, mul-le-mul, mul-pos, one-mul}
use native.Mathlib.Omega.{arith}
use lib.Dec.{T, leb, leb→le, lit<, lit≤}
use lib.Ieee.{Float, nan, inf, fin, binary64, add, sub, mul, div, neg, lt, le, is_nan, of_bits, of_int, to_unsigned, up, down}
use lib.Ieee.Bits.{of_bits-fits}
use lib.Ieee.Fits.{div-fits, down_pos}
use lib.IntN.{pos}
use lib.ListN.{get_or}
use Rattle.answer.proofs.Laws.{mark_says}
use Rattle.answer.specs.Answer.{mark_number, volts1, clean}
use Rattle.answer.specs.Mark.{all_finite, all_numbers, rule_of}
use Rattle.common.proofs.Bounds.{sin_within}
use Rattle.common.specs.Consts.{c4, five, half}
use Rattle.common.specs.Memo.{hits, filled, recall, voct_to_hz_at}
use Rattle.common.specs.Phase.{increment_of}
use Rattle.common.specs.Pitch.{voct_to_hz}
use Rattle.common.specs.Tests.{rate_ok}
use Rattle.formant_osc.proofs.Positive.{alpha_plus, shares}
use Rattle.formant_osc.proofs.Reached.{tick_sounds, good, new_accepts}
use Rattle.formant_osc.specs.Coefs.{spot_of, formant_of, get_formants, bandwidth_of, coef_of, resonator_coefs}
use Rattle.formant_osc.specs.Consts.{omega_low, omega_high, twelve}
use Rattle.formant_osc.specs.FormantOsc.{silent, new_formant_osc, freq_memo_of, coef_memo_of, formant_osc_rung, formant_osc_sound_of}
use Rattle.formant_osc.specs.Promises.{first_rate, no_controls, FirstClean}
use Rattle.formant_osc.specs.Sound.{glottal_pulse, pitch_of, resonate_of, amplitude_of, plus, rung_of}
use Rattle.answer.specs.declared.Ticked.{Ticked}
use Rattle.formant_osc.specs.declared.FormantOsc.{FormantOsc}
use Rattle.laws.proofs.Interval.{Under, round_under, Within, within_finite, is_within, within_of}
use Rattle.laws.proofs.Number.{value_finite}
use Rattle.laws.proofs.Sign.{Plus}
use Rattle.laws.proofs.Values.{div_round, exact_at}
use Rattle.laws.proofs.Zeros.{times_nought}
use Rattle.laws.specs.Float.{zer, one, two, is_fin}
use Rattle.laws.specs.Machine.{begun}
use Rattle.numeric.proofs.Laws.{exp2_whole, sin_zero}
use Rattle.numeric.specs.Basic.{pi, clamp_of}
use Rattle.numeric.specs.Power.{exp2_of}
use Rattle.numeric.specs.Trig.{sin_of}

-- ---- alpha is finite, where it is a number of at most 1 by one of at least 2
abbrev is_twice : Float → Bool
is_twice nan = false
is_twice (inf s) = false
is_twice (fin true m e) = false
is_twice (fin false m e) = leb (down e * 2) (m * up e)

half_of : (x k : Float) → Within 0 x → T (is_twice k) → (s : Bool) × Under 1 2 s (div binary64 x k)
half_of x nan w h = absurd h
half_of x (inf s) w h = absurd h
half_of x (fin true m e) w h = absurd h
half_of x (fin false m e) (s, (a, c, C, l, v)) h =
    let rounds = div_round x (fin false m e) s a c b d C (down_pos e) B v (refl, refl) in
    (s, subst (Under 1 2 s) (sym rounds) (round_under s (a * d) (c * b) 1 2 (mul-pos C B) (lit< tt) least (exact_at false 1 1 (lit< tt) (lit≤ tt))))
  where
    b : ℕ
    b = m * up e

    d : ℕ
    d = down e

    D : d * 2 ≤ b
    D = leb→le (d * 2) b h

    B : 0 < b
    B = above d b (down_pos e) D
      where
        above : (d b : ℕ) → 0 < d → d * 2 ≤ b → 0 < b
        above d b p q = omega arith

    least : a * d * 2 ≤ 1 * (c * b)
    least = le_trans (le_of_eq (mul_assoc a d 2)) (le_trans (mul-le-mul (le_trans l (le_of_eq (one-mul c))) D) (le_of_eq (sym (one-mul (c * b)))))

-- ---- so the first coefficient of a resonator is finite
abbrev omega_at : Float → Float
omega_at freq = clamp_of (div binary64 (mul binary64 (mul binary64 two pi) freq) first_rate.0) omega_low (mul binary64 pi omega_high)

coef_finite : (freq bandwidth : Float) → T (is_within 1 (omega_at freq)) → T (is_twice (mul binary64 two (div binary64 freq bandwidth)))
    → Plus freq → Plus bandwidth → T (is_fin (coef_of freq bandwidth first_rate.0).b0)
unfolding coef_of
coef_finite freq bandwidth h k p q =
    let sine = sin_within 1 (omega_at freq) (lit≤ tt) (within_of 1 (omega_at freq) h) in
    let alpha = div binary64 (sin_of (omega_at freq)) (mul binary64 two (div binary64 freq bandwidth)) in
    let small = half_of (sin_of (omega_at freq)) (mul binary64 two (div binary64 freq bandwidth)) sine k in
    let finite = value_finite alpha small.0 small.1.0 small.1.1 small.1.4 in
    within_finite 0 (div binary64 alpha (add binary64 one alpha))
    (shares alpha (div-fits binary64 _ _) (alpha_plus freq bandwidth first_rate.0 p q) finite).0

-- ---- a silent resonator stays silent
nought_more : (s : Bool) → add binary64 (fin s 0 (pos 0)) zer ≡ zer
unfolding add of_bits
nought_more true = refl
nought_more false = refl

out_silent : (b0 a1 a2 : Float) → T (is_fin b0) → (resonate_of b0 a1 a2 zer zer zer).out ≡ zer
unfolding resonate_of
out_silent b0 a1 a2 h =
    let z = times_nought b0 zer h (unfold lib.Ieee.eq of_bits in tt) in
    ap (λ (x : Float). add binary64 x zer) z.1 ∙ nought_more z.0

abbrev summed : Float → Float → Float → Float → Float → Float
summed a b d e f =
    plus (plus (plus (plus (plus zer a (amplitude_of 0)) b (amplitude_of 1)) d (amplitude_of 2)) e (amplitude_of 3)) f (amplitude_of 4)

plus_silent : summed zer zer zer zer zer ≡ zer
unfolding add mul of_bits
plus_silent = refl

rung_silent : (c : List Float) → T (is_fin (get_or c 0 nan)) → T (is_fin (get_or c 3 nan)) → T (is_fin (get_or c 6 nan)) → T (is_fin (get_or c 9 nan))
    → T (is_fin (get_or c 12 nan)) → (rung_of c silent zer).sum ≡ zer
unfolding rung_of
rung_silent c p q r t u =
    let a = out_silent _ (get_or c 1 nan) (get_or c 2 nan) p in
    let b = out_silent _ (get_or c 4 nan) (get_or c 5 nan) q in
    let d = out_silent _ (get_or c 7 nan) (get_or c 8 nan) r in
    let e = out_silent _ (get_or c 10 nan) (get_or c 11 nan) t in
    let f = out_silent _ (get_or c 13 nan) (get_or c 14 nan) u in
    (λ i. summed (a i) (b i) (d i) (e i) (f i)) ∙ plus_silent

-- ---- the pulse, the factor and the pitch of zeros
pulse_zero : glottal_pulse zer ≡ zer
unfolding glottal_pulse lt mul div of_bits
pulse_zero = sin_zero

factor_one : exp2_of (div binary64 zer five) ≡ fin false 1 (pos 0)
unfolding div of_int of_bits
factor_one = exp2_whole (pos 0) (lit≤ tt)

tone_zero : (pitch_of no_controls.v_oct (clamp_of zer zer one) zer).0 ≡ zer
unfolding pitch_of clamp_of lt add mul div of_bits
tone_zero = ap (λ (x : Float). add binary64 zer (div binary64 (mul binary64 (mul binary64 x zer) half) twelve)) sin_zero

-- ---- the coefficients
coef_at : (i : ℕ) (bandwidth : Float) → T (is_within 1 (omega_at (formant_of (spot_of zer) i (fin false 1 (pos 0)))))
    → T (is_twice (mul binary64 two (div binary64 (formant_of (spot_of zer) i (fin false 1 (pos 0))) bandwidth)))
    → Plus (formant_of (spot_of zer) i (fin false 1 (pos 0))) → Plus bandwidth
    → T (is_fin (coef_of (formant_of (spot_of zer) i (exp2_of (div binary64 zer five))) bandwidth first_rate.0).b0)
coef_at i bandwidth h k p q =
    subst (λ (by : Float). T (is_fin (coef_of (formant_of (spot_of zer) i by) bandwidth first_rate.0).b0)) (sym factor_one)
    (coef_finite (formant_of (spot_of zer) i (fin false 1 (pos 0))) bandwidth h k p q)

sum_silent : (rung_of (resonator_coefs zer zer first_rate.0) silent zer).sum ≡ zer
unfolding resonator_coefs get_formants formant_of spot_of clamp_of lt add sub mul div to_unsigned of_int of_bits
sum_silent =
    rung_silent (resonator_coefs zer zer first_rate.0) (coef_at 0 (bandwidth_of 0) tt tt tt tt) (coef_at 1 (bandwidth_of 1) tt tt tt tt)
    (coef_at 2 (bandwidth_of 2) tt tt tt tt)
    (coef_at 3 (bandwidth_of 3) tt tt tt tt) (coef_at 4 (bandwidth_of 4) tt tt tt tt)

-- ---- the tick
abbrev new : FormantOsc
new = new_formant_osc first_rate

sum_zero : (formant_osc_rung new no_controls).sum ≡ zer
unfolding formant_osc_rung coef_memo_of recall hits filled new_formant_osc clamp_of lt of_bits
sum_zero = ap (λ (x : Float). (rung_of (resonator_coefs zer zer first_rate.0) silent x).sum) pulse_zero ∙ sum_silent

hertz_zero : (voct_to_hz_at zer).0 ≡ mul binary64 c4 (fin false 1 (pos 0))
unfolding voct_to_hz clamp_of lt neg of_int of_bits
hertz_zero = ap (mul binary64 c4) (exp2_whole (pos 0) (lit≤ tt))

hertz_first : (freq_memo_of new no_controls).val.0 ≡ mul binary64 c4 (fin false 1 (pos 0))
unfolding freq_memo_of recall hits filled new_formant_osc
hertz_first = ap (λ (x : Float). (voct_to_hz_at x).0) tone_zero ∙ hertz_zero

sound_clean : mark_number (formant_osc_sound_of new no_controls).answer ≡ clean
unfolding formant_osc_sound_of increment_of new_formant_osc rule_of all_finite all_numbers is_nan clamp_of lt neg add mul div of_bits
sound_clean = simp (sum_zero, hertz_first) (mark_says (volts1 (mul binary64 (clamp_of zer (neg one) one) five)) false true true true).number

pub first_clean : FirstClean
unfolding rate_ok le lt of_bits
first_clean =
    let g = good (begun new ((new_accepts first_rate).1 refl (of_bits-fits binary64 0x40e7700000000000))) in
    ap (λ (t : Ticked FormantOsc). mark_number t.answer) (tick_sounds new no_controls g) ∙ sound_clean
