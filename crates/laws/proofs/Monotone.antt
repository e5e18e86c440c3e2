-- Rounding keeps an order, and so do a product and a quotient with a number that is finite and above 0; a larger divisor turns it round.
use mathlib.Core.Bool.{Bool, cond, false, not, true}
use mathlib.Core.Path.{◌∙◌, ◌≡◌, ap, refl, subst, sym}
use Prim.Native.Nat.{◌*◌, ◌<◌, ◌≤◌, zero-le, ℕ}
use native.Mathlib.Nat.{le_of_eq, le_trans, mul-le-mul_right, mul-mul-mul_comm, mul-one, mul-pos, one-mul, zero-mul, mul_comm}
use lib.Dec.{T, lit<}
use lib.Ieee.{Float, binary64, div, down, eq, fin, inf, is_nan, le, lt, mul, nan, neg, round, unlike, up}
use lib.Ieee.Fits.{down_pos}
use lib.Ieee.Order.{round_mono}
use lib.Ieee.Positive.{den, den_pos, num, own_value, positive, value_pos, above, above_of_le, le→cross}
use lib.IntN.{pos, ℤ}
use Rattle.laws.proofs.Number.{le_numbers, pos_eqb, round_number}
use Rattle.laws.proofs.Order.{Below, float_le_trans, le_below, le_neg}
use Rattle.laws.proofs.Tests.{zero_of}
use Rattle.laws.proofs.Values.{div_round, mul_round, round_neg, round_zero, unlike_plus}

-- ---- rounding
nonneg : (a c : ℕ) → 0 < c → T (le (fin false 0 (pos 0)) (round binary64 false a c))
nonneg a c C = subst (λ (z : Float). T (le z (round binary64 false a c))) (round_zero false 1 (lit< tt))
    (round_mono binary64 0 1 a c (lit< tt) C (le_trans (le_of_eq (zero-mul c)) zero-le))

pub round_le : (s t : Bool) (a c b d : ℕ) → 0 < c → 0 < d → Below s (a * d) t (b * c) → T (le (round binary64 s a c) (round binary64 t b d))
round_le false false a c b d C D h = round_mono binary64 a c b d C D h
round_le false true a c b d C D h =
    simp (zero_of a d D (le_of_eq h.0), zero_of b c C (le_of_eq h.1), round_zero false c C, round_zero true d D) (unfold le lt eq in tt)
round_le true false a c b d C D h =
    simp (round_neg a c)
    (float_le_trans (neg (round binary64 false a c)) (fin false 0 (pos 0)) (round binary64 false b d)
    (float_le_trans (neg (round binary64 false a c)) (neg (fin false 0 (pos 0))) (fin false 0 (pos 0))
    (le_neg (fin false 0 (pos 0)) (round binary64 false a c) (nonneg a c C)) (unfold le lt eq neg in tt))
    (nonneg b d D))
round_le true true a c b d C D h =
    simp (round_neg a c, round_neg b d) (le_neg (round binary64 false b d) (round binary64 false a c) (round_mono binary64 b d a c D C h))

-- a fraction from 0 to 1 lies from 0 to 1
pub unit_law : (a c : ℕ) → 0 < c → a ≤ c → T (le (fin false 0 (pos 0)) (round binary64 false a c)) × T (le (round binary64 false a c) (fin false 1 (pos 0)))
unit_law a c C h = (
  nonneg a c C,
  subst (λ (z : Float). T (le (round binary64 false a c) z)) at_one
      (round_le false false a c 1 1 C (lit< tt) (le_trans (le_of_eq (mul-one a)) (le_trans h (le_of_eq (sym (one-mul c)))))),
)
  where
    at_one : round binary64 false 1 1 ≡ fin false 1 (pos 0)
    at_one = unfold round in refl

-- ---- a number times p / q
inf_least : (x : Float) → T (not (is_nan x)) → T (le (inf true) x)
unfolding le lt eq is_nan
inf_least nan h = absurd h
inf_least (inf true) h = tt
inf_least (inf false) h = tt
inf_least (fin s m e) h = tt

inf_most : (x : Float) → T (not (is_nan x)) → T (le x (inf false))
unfolding le lt eq is_nan
inf_most nan h = absurd h
inf_most (inf true) h = tt
inf_most (inf false) h = tt
inf_most (fin s m e) h = tt

below_scale : (s t : Bool) (a c b d p q : ℕ) → Below s (a * d) t (b * c) → Below s (a * p * (d * q)) t (b * p * (c * q))
below_scale s t a c b d p q h = go s t h
  where
    up_to : (a d b c : ℕ) → a * d ≤ b * c → a * p * (d * q) ≤ b * p * (c * q)
    up_to a d b c h = le_trans (le_of_eq (mul-mul-mul_comm a p d q)) (le_trans (mul-le-mul_right (p * q) h) (le_of_eq (mul-mul-mul_comm b c p q)))

    zero_to : (a d : ℕ) → a * d ≡ 0 → a * p * (d * q) ≡ 0
    zero_to a d h = mul-mul-mul_comm a p d q ∙ ap (λ (z : ℕ). z * (p * q)) h ∙ zero-mul (p * q)

    go : (s t : Bool) → Below s (a * d) t (b * c) → Below s (a * p * (d * q)) t (b * p * (c * q))
    go false false h = up_to a d b c h
    go false true h = (zero_to a d h.0, zero_to b c h.1)
    go true false h = tt
    go true true h = up_to b c a d h

-- g multiplies by p / q
module _ (g : Float → Float) (p q : ℕ) (Q : 0 < q) (at-inf : (s : Bool) → g (inf s) ≡ inf s)
    (at-fin : (s : Bool) (m : ℕ) (e : ℤ) → g (fin s m e) ≡ round binary64 s (m * up e * p) (down e * q)) where
  number_of : (x : Float) → T (not (is_nan x)) → T (not (is_nan (g x)))
  number_of nan h = absurd (unfold is_nan in h)
  number_of (inf s) h = simp (at-inf s) (unfold is_nan in tt)
  number_of (fin s m e) h = simp (at-fin s m e) (round_number s (m * up e * p) (down e * q))

  scaled_le : (x y : Float) → T (le x y) → T (le (g x) (g y))
  scaled_le nan y h = absurd (unfold le lt eq in h)
  scaled_le (inf true) y h = simp (at-inf true) (inf_least (g y) (number_of y (le_numbers (inf true) y h).1))
  scaled_le (inf false) nan h = absurd (unfold le lt eq in h)
  scaled_le (inf false) (inf true) h = absurd (unfold le lt eq in h)
  scaled_le (inf false) (inf false) h = simp (at-inf false) (unfold le lt eq in tt)
  scaled_le (inf false) (fin t n d) h = absurd (unfold le lt eq in h)
  scaled_le (fin s m e) nan h = absurd (unfold le lt eq in h)
  scaled_le (fin s m e) (inf true) h = absurd (unfold le lt eq in h)
  scaled_le (fin s m e) (inf false) h = simp (at-inf false) (inf_most (g (fin s m e)) (number_of (fin s m e) (unfold is_nan in tt)))
  scaled_le (fin s m e) (fin t n d) h =
      simp (at-fin s m e, at-fin t n d)
      (round_le s t (m * up e * p) (down e * q) (n * up d * p) (down d * q) (mul-pos (down_pos e) Q) (mul-pos (down_pos d) Q)
      (below_scale s t (m * up e) (down e) (n * up d) (down d) p q (le_below s t m n e d h)))

inf_times : (k : Float) → T (positive k) → (s : Bool) → mul binary64 (inf s) k ≡ inf s
unfolding mul
inf_times nan p s = absurd p
inf_times (inf t) p s = absurd p
inf_times (fin true n d) p s = absurd p
inf_times (fin false n d) p s = ap (λ (b : Bool). cond b nan (inf (unlike s false))) (pos_eqb n p) ∙ ap inf (unlike_plus s)

inf_over : (k : Float) → T (positive k) → (s : Bool) → div binary64 (inf s) k ≡ inf s
unfolding div
inf_over nan p s = absurd p
inf_over (inf t) p s = absurd p
inf_over (fin true n d) p s = absurd p
inf_over (fin false n d) p s = ap inf (unlike_plus s)

fin_times : (k : Float) → T (positive k) → (s : Bool) (m : ℕ) (e : ℤ) → mul binary64 (fin s m e) k ≡ round binary64 s (m * up e * num k) (down e * den k)
fin_times k p s m e =
    mul_round (fin s m e) k s false (m * up e) (down e) (num k) (den k) (down_pos e) (den_pos k) (refl, refl) (own_value k p)
    ∙ ap (λ (z : Bool). round binary64 z (m * up e * num k) (down e * den k)) (unlike_plus s)

pub mul_le : (k : Float) → T (positive k) → (x y : Float) → T (le x y) → T (le (mul binary64 x k) (mul binary64 y k))
mul_le k p = scaled_le (λ x. mul binary64 x k) (num k) (den k) (den_pos k) (inf_times k p) (fin_times k p)

pub div_le : (k : Float) → T (positive k) → (x y : Float) → T (le x y) → T (le (div binary64 x k) (div binary64 y k))
div_le k p =
    scaled_le (λ x. div binary64 x k) (den k) (num k) N (inf_over k p)
    (λ s m e. div_round (fin s m e) k s (m * up e) (down e) (num k) (den k) (down_pos e) (den_pos k) N (refl, refl) (own_value k p))
  where
    N : 0 < num k
    N = value_pos k (num k) (den k) p (den_pos k) (own_value k p)

-- ---- a larger divisor
over_positive : (x y : Float) → T (positive x) → T (positive y) → div binary64 x y ≡ round binary64 false (num x * den y) (den x * num y)
over_positive x y p q = div_round x y false (num x) (den x) (num y) (den y) (den_pos x) (den_pos y) (value_pos y (num y) (den y) q (den_pos y) (own_value y q))
    (own_value x p) (own_value y q)

over_inf : (x : Float) → T (positive x) → div binary64 x (inf false) ≡ fin false 0 (pos 0)
unfolding div
over_inf nan p = absurd p
over_inf (inf s) p = absurd p
over_inf (fin true m e) p = absurd p
over_inf (fin false m e) p = refl

pub div_anti : (x k y : Float) → T (positive x) → T (positive k) → T (le k y) → T (le (div binary64 x y) (div binary64 x k))
div_anti x k y p q h = go y (above_of_le k y q h) h
  where
    K : 0 < num k
    K = value_pos k (num k) (den k) q (den_pos k) (own_value k q)

    cross : (a b c d e f : ℕ) → f * c ≤ e * d → a * c * (b * f) ≤ a * d * (b * e)
    cross a b c d e f h =
        le_trans (le_of_eq (mul-mul-mul_comm a c b f))
        (le_trans (le_of_eq (mul_comm (a * b) (c * f)))
        (le_trans (mul-le-mul_right (a * b) (le_trans (le_of_eq (mul_comm c f)) (le_trans h (le_of_eq (mul_comm e d)))))
        (le_trans (le_of_eq (mul_comm (d * e) (a * b))) (le_of_eq (sym (mul-mul-mul_comm a d b e))))))

    go : (y : Float) → T (above y) → T (le k y) → T (le (div binary64 x y) (div binary64 x k))
    go nan a h = absurd a
    go (inf true) a h = absurd a
    go (inf false) a h = simp (over_inf x p, over_positive x k p q) (nonneg (num x * den k) (den x * num k) (mul-pos (den_pos x) K))
    go (fin true n d) a h = absurd a
    go (fin false n d) a h =
        simp (over_positive x (fin false n d) p a, over_positive x k p q)
        (round_mono binary64 (num x * down d) (den x * (n * up d)) (num x * den k) (den x * num k)
        (mul-pos (den_pos x) (value_pos (fin false n d) (n * up d) (down d) a (down_pos d) (own_value (fin false n d) a)))
        (mul-pos (den_pos x) K)
        (cross (num x) (den x) (down d) (den k) (n * up d) (num k) (le→cross k (fin false n d) q a h)))
