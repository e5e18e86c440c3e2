-- A formant's frequency has no minus sign, and neither has its alpha; so its coefficients b0 and a2, where alpha is finite, lie from -1 to 1.
use mathlib.Core.Bool.{Bool, true, false, not, ◌&&◌}
use mathlib.Core.List.{List, [], ◌∷◌}
use mathlib.Core.Logic.{◌⊎◌, inl, inr}
use mathlib.Core.Path.{◌≡◌, refl, sym, ap, ◌∙◌, subst}
use Prim.Native.Nat.{ℕ, zero, suc, ◌+◌, ◌-◌, ◌*◌, ◌<◌, ◌≤◌, min}
use native.Mathlib.Nat.{le_trans, le_of_eq, mul-pos, le-add_left, le-add_right}
use native.Mathlib.Omega.{arith}
use lib.Dec.{T, lit<, lit≤}
use lib.Ieee.{Float, nan, inf, fin, binary64, add, sub, mul, div, lt, le, eq, is_nan, of_bits, of_int, round, sum, to_unsigned, up, down}
use lib.Ieee.Bits.{of_bits-fits}
use lib.Ieee.Exact.{HasValue}
use lib.Ieee.Fits.{and_l, and_r, div-fits, down_pos, mul-fits}
use lib.Ieee.Positive.{positive}
use lib.IntN.{pos, ℤ}
use lib.ListN.{length, get_or}
use Rattle.common.proofs.Bounds.{one_within}
use Rattle.common.specs.Consts.{four}
use Rattle.formant_osc.proofs.Coherent.{clamp_fits}
use Rattle.formant_osc.proofs.Dead.{wild_share}
use Rattle.formant_osc.proofs.Parts.{spot_few}
use Rattle.formant_osc.specs.Coefs.{spot_of, formant_of, coef_of}
use Rattle.formant_osc.specs.Consts.{formants, omega_low, omega_high}
use Rattle.formant_osc.specs.declared.Spot.{Spot}
use Rattle.laws.proofs.Greatest.{over_round, add_finite}
use Rattle.laws.proofs.Interval.{Within}
use Rattle.laws.proofs.Monotone.{mul_le, unit_law}
use Rattle.laws.proofs.Number.{add_nan_r, is_nan_lem, mul_nan_l, mul_nan_r, sub_nan_l, sum_by}
use Rattle.laws.proofs.Order.{float_le_trans, le_below, le_of_lt_false, lt_le_trans, values_le, le_of_lt_true}
use Rattle.laws.proofs.Sign.{Plus, div_plus, more_plus, mul_plus, one_less, plus_above, positive_plus, times_above}
use Rattle.laws.proofs.Tests.{of_false, of_true}
use Rattle.laws.proofs.Unique.{round_own}
use Rattle.laws.proofs.Values.{add_round, of_int_val, round_zero, sub_round, sum_pos_neg}
use Rattle.laws.specs.Float.{F64, zer, one, two, is_fin}
use Rattle.numeric.proofs.BasicLaws.{own_plus}
use Rattle.numeric.proofs.Laws.{clamp_nan, clamp_range, sin_outside, sin_positive, whole_less, whole_monotone, whole_real}
use Rattle.numeric.specs.Basic.{pi, clamp_of, whole_of, real_of}
use Rattle.numeric.specs.Promises.{Inside}
use Rattle.numeric.specs.Trig.{sin_of}

-- ---- the vowels' formants are above 0
abbrev positives : List Float → Bool
positives [] = true
positives (x ∷ l) = positive x && positives l

positive_at : (l : List Float) → T (positives l) → (i : ℕ) → i < length l → T (positive (get_or l i nan))
positive_at [] h i k = absurd (omega arith)
positive_at (x ∷ l) h zero k = and_l (positive x) (positives l) h
positive_at (x ∷ l) h (suc i) k = positive_at l (and_r (positive x) (positives l) h) i (omega arith)

formant_positive : (v i : ℕ) → v ≤ 4 → i < 5 → T (positive (get_or (get_or formants v []) i nan))
formant_positive zero i h k = positive_at (get_or formants 0 []) (unfold of_bits in tt) i k
formant_positive (suc zero) i h k = positive_at (get_or formants 1 []) (unfold of_bits in tt) i k
formant_positive (suc (suc zero)) i h k = positive_at (get_or formants 2 []) (unfold of_bits in tt) i k
formant_positive (suc (suc (suc zero))) i h k = positive_at (get_or formants 3 []) (unfold of_bits in tt) i k
formant_positive (suc (suc (suc (suc zero)))) i h k = positive_at (get_or formants 4 []) (unfold of_bits in tt) i k
formant_positive (suc (suc (suc (suc (suc v))))) i h k = absurd (omega arith)

-- ---- frac lies from 0 to 1
abbrev UnitPart : Float → Type 0
UnitPart x = T (le zer x) × T (le x one)

-- a number from k to k + 1 less k
less_whole : (k : ℕ) → k ≤ 3 → (m : ℕ) (e : ℤ) → T (le (real_of k) (fin false m e)) → T (le (fin false m e) (real_of (suc k)))
    → UnitPart (sub binary64 (fin false m e) (real_of k))
unfolding of_bits
less_whole k K m e l h =
    let n = m * up e in
    let d = down e in
    let x = fin false m e in
    let low : k * d ≤ n * 1 = values_le (real_of k) x k 1 n d (lit< tt) (down_pos e) (of_int_val k (held k K)) (refl, refl) l in
    let high : n * 1 ≤ suc k * d = values_le x (real_of (suc k)) n d (suc k) 1 (down_pos e) (lit< tt) (refl, refl) (of_int_val (suc k) (held' k K)) h in
    let rounds = sub_round x (real_of k) false false n d k 1 (down_pos e) (lit< tt) (refl, refl) (of_int_val k (held k K)) ∙ sum_pos_neg (n * 1) (k * d)
    (d * 1) low in
    subst (λ (z : Float). T (le (fin false 0 (pos 0)) z) × T (le z (fin false 1 (pos 0)))) (sym rounds)
    (unit_law (n * 1 - k * d) (d * 1) (mul-pos (down_pos e) (lit< tt)) (rest (n * 1) k d high))
  where
    held : (k : ℕ) → k ≤ 3 → k ≤ 9007199254740992
    held k h = omega arith

    held' : (k : ℕ) → k ≤ 3 → suc k ≤ 9007199254740992
    held' k h = omega arith

    rest : (n k d : ℕ) → n ≤ suc k * d → n - k * d ≤ d * 1
    rest n k d h = omega arith

-- the whole part of a number from k to below k + 1, and of one from 3 up
part_is : (k : ℕ) → k ≤ 2 → (x : Float) → T (le (real_of k) x) → T (lt x (real_of (suc k))) → k ≡ min (whole_of x) 3
part_is k K x l h =
    let a : k ≤ whole_of x = le_trans (le_of_eq (sym (whole_real k (omega arith)))) (whole_monotone (real_of k) x l) in
    let b : whole_of x < suc k = whole_less x (suc k) (omega arith) (omega arith) h in
    omega arith

part_three : (x : Float) → T (le (real_of 3) x) → 3 ≡ min (whole_of x) 3
part_three x l = let a : 3 ≤ whole_of x = le_trans (le_of_eq (sym (whole_real 3 (lit≤ tt)))) (whole_monotone (real_of 3) x l) in omega arith

abbrev rest_of : Float → Float
rest_of x = sub binary64 x (real_of (min (whole_of x) 3))

plain_unit : (m : ℕ) (e : ℤ) → T (le (fin false m e) four) → UnitPart (rest_of (fin false m e))
plain_unit m e h = zeroth (lt x (real_of 1)) refl
  where
    x : Float
    x = fin false m e

    from : (k : ℕ) → k ≤ 3 → k ≡ min (whole_of x) 3 → T (le (real_of k) x) → T (le x (real_of (suc k))) → UnitPart (rest_of x)
    from k K e l u = subst (λ (n : ℕ). UnitPart (sub binary64 x (real_of n))) e (less_whole k K m _ l u)

    above : (k : ℕ) → T (not (is_nan (real_of k))) → lt x (real_of k) ≡ false → T (le (real_of k) x)
    above k n e = le_of_lt_false x (real_of k) (unfold is_nan in tt) n e

    third : T (le (real_of 3) x) → UnitPart (rest_of x)
    third l = from 3 (lit≤ tt) (part_three x l) l (unfold of_int of_bits in h)

    second : (b : Bool) → lt x (real_of 3) ≡ b → T (le (real_of 2) x) → UnitPart (rest_of x)
    second true e l = let u = of_true (lt x (real_of 3)) e in from 2 (lit≤ tt) (part_is 2 (lit≤ tt) x l u) l (le_of_lt_true x (real_of 3) u)
    second false e l = third (above 3 (unfold is_nan of_int in tt) e)

    first : (b : Bool) → lt x (real_of 2) ≡ b → T (le (real_of 1) x) → UnitPart (rest_of x)
    first true e l = let u = of_true (lt x (real_of 2)) e in from 1 (lit≤ tt) (part_is 1 (lit≤ tt) x l u) l (le_of_lt_true x (real_of 2) u)
    first false e l = second (lt x (real_of 3)) refl (above 2 (unfold is_nan of_int in tt) e)

    zeroth : (b : Bool) → lt x (real_of 1) ≡ b → UnitPart (rest_of x)
    zeroth true e =
        let u = of_true (lt x (real_of 1)) e in
        let l : T (le (real_of 0) x) = unfold of_int of_bits in plus_above x tt (unfold is_nan in tt) in
        from 0 (lit≤ tt) (part_is 0 (lit≤ tt) x l u) l (le_of_lt_true x (real_of 1) u)
    zeroth false e = first (lt x (real_of 2)) refl (above 1 (unfold is_nan of_int in tt) e)

-- -0.0 less 0 is -0.0
minus_unit : (m : ℕ) (e : ℤ) → T (le zer (fin true m e)) → UnitPart (rest_of (fin true m e))
unfolding to_unsigned sum of_bits
minus_unit m e h =
    let nil : m * up e * 1 ≡ 0 = (le_below false true 0 m (pos 0) e h).1 in
    let rounds : sub binary64 (fin true m e) (real_of 0) ≡ sum binary64 true (m * up e * 1) true (0 * down e) (down e * 1) =
    sub_round (fin true m e) (real_of 0) true false (m * up e) (down e) 0 1 (down_pos e) (lit< tt) (refl, refl) (of_int_val 0 (lit≤ tt)) in
    subst UnitPart
    (sym (rounds ∙ ap (λ (z : ℕ). round binary64 true z (down e * 1)) (none (m * up e * 1) (down e) nil) ∙ round_zero true (down e * 1)
    (mul-pos (down_pos e) (lit< tt))))
    unit
  where
    unit : UnitPart (fin true 0 (pos 0))
    unit = unfold le lt eq of_bits in (tt, tt)

    none : (n d : ℕ) → n ≡ 0 → n + 0 * d ≡ 0
    none n d h = omega arith

rest_unit : (x : Float) → T (le zer x) → T (le x four) → UnitPart (rest_of x)
rest_unit nan l h = absurd (unfold le lt eq in h)
rest_unit (inf true) l h = absurd (unfold le lt eq of_bits in l)
rest_unit (inf false) l h = absurd (unfold le lt eq of_bits in h)
rest_unit (fin true m e) l h = minus_unit m e l
rest_unit (fin false m e) l h = plain_unit m e h

-- NaN for a vowel that is NaN
frac_unit : (v : Float) → ((spot_of v).frac ≡ nan) ⊎ UnitPart (spot_of v).frac
unfolding spot_of
frac_unit v = go (is_nan v) refl
  where
    scaled : (x y : Float) → T (le x y) → T (le (mul binary64 x four) (mul binary64 y four))
    scaled = mul_le four (unfold of_bits in tt)

    go : (b : Bool) → is_nan v ≡ b → (rest_of (mul binary64 (clamp_of v zer one) four) ≡ nan) ⊎ UnitPart (rest_of (mul binary64 (clamp_of v zer one) four))
    go true e = inl (rw (is_nan_lem v e, clamp_nan, mul_nan_l) (sub_nan_l _))
    go false e =
        let r = clamp_range v zer one (unfold le lt eq of_bits in tt) (of_false (is_nan v) e) in
        inr (rest_unit _ (unfold mul of_bits in scaled zer (clamp_of v zer one) r.0) (unfold mul of_bits in scaled (clamp_of v zer one) one r.1))

-- ---- so a formant has no minus sign
pub formant_plus : (v : Float) (i : ℕ) (by : Float) → i < 5 → Plus by → Plus (formant_of (spot_of v) i by)
unfolding formant_of
formant_plus v i by I p = mul_plus _ by (go (frac_unit v)) p
  where
    at : Spot
    at = spot_of v

    f0 : Float
    f0 = get_or (get_or formants at.index []) i nan

    f1 : Float
    f1 = get_or (get_or formants (at.index + 1) []) i nan

    few : at.index ≤ 3
    few = spot_few at v refl

    p0 : T (positive f0)
    p0 = formant_positive at.index i (omega (arith, few)) I

    p1 : T (positive f1)
    p1 = formant_positive (at.index + 1) i (omega (arith, few)) I

    go : (at.frac ≡ nan) ⊎ UnitPart at.frac → Plus (add binary64 (mul binary64 f0 (sub binary64 one at.frac)) (mul binary64 f1 at.frac))
    go (inl e) =
        let there : Float → Float = λ x. add binary64 (mul binary64 f0 (sub binary64 one at.frac)) x in
        subst Plus (sym (ap (λ (x : Float). there (mul binary64 f1 x)) e ∙ ap there (mul_nan_r f1) ∙ add_nan_r _)) tt
    go (inr u) = more_plus _ _ (mul_plus f0 _ (positive_plus f0 p0) (one_less at.frac u.1)) (times_above f1 at.frac p1 u.0)

-- ---- alpha
abbrev pub omega_of : Float → Float → Float
omega_of freq rate = clamp_of (div binary64 (mul binary64 (mul binary64 two pi) freq) rate) omega_low (mul binary64 pi omega_high)

abbrev pub alpha_of : Float → Float → Float → Float
alpha_of freq bandwidth rate = div binary64 (sin_of (omega_of freq rate)) (mul binary64 two (div binary64 freq bandwidth))

-- omega is from 0.01 to 0.45 pi, or NaN
omega_sine : (x : Float) → F64 x → Plus (sin_of (clamp_of x omega_low (mul binary64 pi omega_high)))
omega_sine x f = go (is_nan x) refl
  where
    high : Float
    high = mul binary64 pi omega_high

    outside : Inside nan → ⊥
    outside h = unfold le lt eq in h.0

    go : (b : Bool) → is_nan x ≡ b → Plus (sin_of (clamp_of x omega_low high))
    go true e =
        let nought = ap (λ (y : Float). sin_of (clamp_of y omega_low high)) (is_nan_lem x e) ∙ ap sin_of (clamp_nan omega_low high) in
        subst Plus (sym (nought ∙ sin_outside nan outside)) tt
    go false e =
        let w = clamp_of x omega_low high in
        let r = clamp_range x omega_low high (unfold mul le lt eq of_bits in tt) (of_false (is_nan x) e) in
        own_plus (sin_of w)
        (sin_positive w (clamp_fits x omega_low high f (of_bits-fits binary64 0x3f847ae147ae147b) (mul-fits binary64 pi omega_high))
        (lt_le_trans zer omega_low w (unfold lt of_bits in tt) r.0)
        (float_le_trans w high two r.1 (unfold mul le lt eq of_bits in tt)))

pub alpha_plus : (freq bandwidth rate : Float) → Plus freq → Plus bandwidth → Plus (alpha_of freq bandwidth rate)
alpha_plus freq bandwidth rate p q =
    div_plus _ _ (omega_sine _ (div-fits binary64 _ rate)) (mul_plus two _ (unfold of_bits in tt) (div_plus freq bandwidth p q))

-- ---- b0 and a2 of an alpha that is finite
pub shares : (alpha : Float) → F64 alpha → Plus alpha → T (is_fin alpha)
    → Within 0 (div binary64 alpha (add binary64 one alpha)) × Within 0 (div binary64 (sub binary64 one alpha) (add binary64 one alpha))
shares nan f p h = absurd h
shares (inf s) f p h = absurd h
shares (fin true m e) f p h = absurd p
shares (fin false m e) f p h = (
  subst (λ (x : Float). Within 0 (div binary64 x norm)) alpha_is (over false (a * 1) (le-add_left (a * 1) c)),
  subst (λ (x : Float). Within 0 (div binary64 x norm)) (sym less_is) (sum_by (λ x. Within 0 (div binary64 x norm)) false true c (a * 1) c over),
)
  where
    alpha : Float
    alpha = fin false m e

    norm : Float
    norm = add binary64 one alpha

    a : ℕ
    a = m * up e

    c : ℕ
    c = 1 * down e

    C : 0 < c
    C = mul-pos (lit< tt) (down_pos e)

    one_value : HasValue one false 1 1
    one_value = unfold of_bits in (refl, refl)

    alpha_is : round binary64 false (a * 1) c ≡ alpha
    alpha_is = round_own false alpha (a * 1) c C f (refl, same a (down e))
      where
        same : (a d : ℕ) → a * (1 * d) ≡ a * 1 * d
        same a d = omega arith

    norm_is : norm ≡ round binary64 false (c + a * 1) c
    norm_is = unfold sum in add_round one alpha false false 1 1 a (down e) (lit< tt) (down_pos e) one_value (refl, refl)

    less_is : sub binary64 one alpha ≡ sum binary64 false c true (a * 1) c
    less_is = sub_round one alpha false false 1 1 a (down e) (lit< tt) (down_pos e) one_value (refl, refl)

    over : (r : Bool) (q : ℕ) → q ≤ c + a * 1 → Within 0 (div binary64 (round binary64 r q c) norm)
    over r q l =
        subst (λ (x : Float). Within 0 (div binary64 (round binary64 r q c) x)) (sym norm_is)
        (over_round r q (c + a * 1) c C l (le-add_right c (a * 1)) (subst (λ (x : Float). T (is_fin x)) norm_is (add_finite one alpha one_within f tt)))

pub coef_shares : (freq bandwidth rate : Float) → Plus freq → Plus bandwidth → T (is_fin (coef_of freq bandwidth rate).b0)
    → Within 0 (coef_of freq bandwidth rate).b0 × Within 0 (coef_of freq bandwidth rate).a2
unfolding coef_of
coef_shares freq bandwidth rate p q h = shares alpha (div-fits binary64 _ _) (alpha_plus freq bandwidth rate p q) (go (is_fin alpha) refl)
  where
    alpha : Float
    alpha = alpha_of freq bandwidth rate

    go : (b : Bool) → is_fin alpha ≡ b → T b
    go true e = tt
    go false e = subst (λ (x : Float). T (is_fin x)) (wild_share alpha e) h
