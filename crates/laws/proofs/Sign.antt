-- Values that have no minus sign: sums, products and quotients of such have none, and a number less one of them isn't above itself.
use mathlib.Core.Bool.{Bool, true, false, not, cond, ◌&&◌, false≢true}
use mathlib.Core.Path.{◌≡◌, refl, sym, ap, subst, ◌∙◌}
use Prim.Native.Nat.{ℕ, ◌+◌, ◌-◌, ◌*◌, ◌<◌, ◌≤◌, zero-le}
use native.Mathlib.Nat.{mul-pos, mul-le-mul_right, sub-le, le-add_right, le_trans, le_of_eq, zero-mul}
use native.Mathlib.Omega.{arith}
use lib.Dec.{T, eqb, lit<, ltb}
use lib.Ieee.{Float, nan, inf, fin, binary64, up, down, round, sum, add, sub, mul, div, neg, lt, le, eq, is_nan, of_bits}
use lib.Ieee.Fits.{down_pos}
use lib.Ieee.Order.{round_mono}
use lib.Ieee.Positive.{den, den_pos, num, own_value, positive, value_pos}
use lib.IntN.{pos, ℤ}
use borrow.Author.Tests.{le-ltb}
use Rattle.laws.proofs.Monotone.{div_le, mul_le, round_le, unit_law}
use Rattle.laws.proofs.Number.{Signed, round_number, round_signed}
use Rattle.laws.proofs.Order.{below_le, float_le_trans, le_below, neg_neg}
use Rattle.laws.proofs.Tests.{zero_of}
use Rattle.laws.proofs.Unique.{round_own}
use Rattle.laws.proofs.Values.{div_round, float_mul_comm, round_neg}
use Rattle.laws.proofs.Zeros.{times_nought}
use Rattle.laws.specs.Float.{F64, is_fin, zer, one}

-- a NaN has none
abbrev pub Plus : Float → Type 0
Plus nan = Unit
Plus (inf s) = T (not s)
Plus (fin s m e) = T (not s)

pub round_plus : (a c : ℕ) → Plus (round binary64 false a c)
round_plus a c = go (round binary64 false a c) (round_signed false a c)
  where
    go : (x : Float) → Signed false x → Plus x
    go nan h = tt
    go (inf s) h = rw h tt
    go (fin s m e) h = rw h tt

pub add_plus : (x y : Float) → Plus x → Plus y → Plus (add binary64 x y)
unfolding add sum
add_plus nan y p q = tt
add_plus (inf true) y p q = absurd p
add_plus (inf false) nan p q = tt
add_plus (inf false) (inf true) p q = absurd q
add_plus (inf false) (inf false) p q = tt
add_plus (inf false) (fin t n d) p q = tt
add_plus (fin true m e) y p q = absurd p
add_plus (fin false m e) nan p q = tt
add_plus (fin false m e) (inf true) p q = absurd q
add_plus (fin false m e) (inf false) p q = tt
add_plus (fin false m e) (fin true n d) p q = absurd q
add_plus (fin false m e) (fin false n d) p q = round_plus (m * up e * down d + n * up d * down e) (down e * down d)

nan_or_inf : (b : Bool) → Plus (cond b nan (inf false))
nan_or_inf true = tt
nan_or_inf false = tt

pub mul_plus : (x y : Float) → Plus x → Plus y → Plus (mul binary64 x y)
unfolding mul
mul_plus nan y p q = tt
mul_plus (inf true) y p q = absurd p
mul_plus (inf false) nan p q = tt
mul_plus (inf false) (inf true) p q = absurd q
mul_plus (inf false) (inf false) p q = tt
mul_plus (inf false) (fin true n d) p q = absurd q
mul_plus (inf false) (fin false n d) p q = nan_or_inf (eqb n 0)
mul_plus (fin true m e) y p q = absurd p
mul_plus (fin false m e) nan p q = tt
mul_plus (fin false m e) (inf true) p q = absurd q
mul_plus (fin false m e) (inf false) p q = nan_or_inf (eqb m 0)
mul_plus (fin false m e) (fin true n d) p q = absurd q
mul_plus (fin false m e) (fin false n d) p q = round_plus (m * up e * (n * up d)) (down e * down d)

pub div_plus : (x y : Float) → Plus x → Plus y → Plus (div binary64 x y)
unfolding div
div_plus nan y p q = tt
div_plus (inf true) y p q = absurd p
div_plus (inf false) nan p q = tt
div_plus (inf false) (inf t) p q = tt
div_plus (inf false) (fin true n d) p q = absurd q
div_plus (inf false) (fin false n d) p q = tt
div_plus (fin true m e) y p q = absurd p
div_plus (fin false m e) nan p q = tt
div_plus (fin false m e) (inf true) p q = absurd q
div_plus (fin false m e) (inf false) p q = tt
div_plus (fin false m e) (fin true n d) p q = absurd q
div_plus (fin false m e) (fin false n d) p q =
    go (eqb n 0) (eqb m 0) (round binary64 false (m * up e * down d) (n * up d * down e)) (round_plus (m * up e * down d) (n * up d * down e))
  where
    go : (a b : Bool) (r : Float) → Plus r → Plus (cond a (cond b nan (inf false)) r)
    go true true r h = tt
    go true false r h = tt
    go false b r h = h

-- what is above 0 has none
pub above_plus : (x : Float) → lt zer x ≡ true → Plus x
unfolding lt of_bits
above_plus nan h = tt
above_plus (inf true) h = absurd (false≢true h)
above_plus (inf false) h = tt
above_plus (fin true m e) h = absurd (false≢true h)
above_plus (fin false m e) h = tt

pub positive_plus : (x : Float) → T (positive x) → Plus x
positive_plus nan p = absurd p
positive_plus (inf s) p = absurd p
positive_plus (fin true m e) p = absurd p
positive_plus (fin false m e) p = tt

apart_plus : (A B C : ℕ) → B ≤ A → Plus (cond (ltb A B) (round binary64 true (B - A) C) (round binary64 (false && ltb B A) (A - B) C))
apart_plus A B C h = simp (le-ltb A B h) (round_plus (A - B) C)

-- a number with none less one that isn't above it has none
pub less_plus : (x y : Float) → Plus x → T (le y x) → Plus (sub binary64 x y)
unfolding sub add neg sum
less_plus nan y p h = tt
less_plus (inf true) y p h = absurd p
less_plus (inf false) nan p h = tt
less_plus (inf false) (inf true) p h = tt
less_plus (inf false) (inf false) p h = tt
less_plus (inf false) (fin t n d) p h = tt
less_plus (fin true m e) y p h = absurd p
less_plus (fin false m e) nan p h = tt
less_plus (fin false m e) (inf true) p h = tt
less_plus (fin false m e) (inf false) p h = absurd (unfold le lt eq in h)
less_plus (fin false m e) (fin true n d) p h = round_plus (m * up e * down d + n * up d * down e) (down e * down d)
less_plus (fin false m e) (fin false n d) p h =
    apart_plus (m * up e * down d) (n * up d * down e) (down e * down d) (le_below false false n m d e h)

-- so has 1 less a number of at most 1
pub one_less : (y : Float) → T (le y one) → Plus (sub binary64 one y)
one_less y h = less_plus one y (unfold of_bits in tt) h

-- and one with none plus one that isn't below 0, be that -0.0
pub more_plus : (x y : Float) → Plus x → T (le zer y) → Plus (add binary64 x y)
unfolding add sum of_bits
more_plus nan y p h = tt
more_plus (inf true) y p h = absurd p
more_plus (inf false) nan p h = tt
more_plus (inf false) (inf true) p h = absurd (unfold le lt eq in h)
more_plus (inf false) (inf false) p h = tt
more_plus (inf false) (fin t n d) p h = tt
more_plus (fin true m e) y p h = absurd p
more_plus (fin false m e) nan p h = tt
more_plus (fin false m e) (inf true) p h = absurd (unfold le lt eq in h)
more_plus (fin false m e) (inf false) p h = tt
more_plus (fin false m e) (fin false n d) p h = round_plus (m * up e * down d + n * up d * down e) (down e * down d)
more_plus (fin false m e) (fin true n d) p h =
    apart_plus (m * up e * down d) (n * up d * down e) (down e * down d) (le_trans (le_of_eq nil) zero-le)
  where
    nil : n * up d * down e ≡ 0
    nil = ap (λ (z : ℕ). z * down e) (zero_of (n * up d) 1 (lit< tt) (le_of_eq (le_below false true 0 n (pos 0) d h).1)) ∙ zero-mul (down e)

-- a number with none isn't below 0
pub plus_above : (x : Float) → Plus x → T (not (is_nan x)) → T (le zer x)
unfolding of_bits is_nan
plus_above nan p q = absurd q
plus_above (inf true) p q = absurd p
plus_above (inf false) p q = unfold le lt eq in tt
plus_above (fin true m e) p q = absurd p
plus_above (fin false m e) p q = below_le false false 0 m (pos 0) e (le_trans (le_of_eq (zero-mul (down e))) zero-le)

-- a number above 0 times one that isn't below 0 isn't below 0
pub times_above : (k y : Float) → T (positive k) → T (le zer y) → T (le zer (mul binary64 k y))
times_above k y p h =
    let z = times_nought k zer (finite k p) (unfold eq of_bits in tt) in
    float_le_trans zer (mul binary64 k zer) (mul binary64 k y) (subst (λ (x : Float). T (le zer x)) (sym z.1) (nought z.0))
    (subst (λ (x : Float). T (le x (mul binary64 k y))) (float_mul_comm zer k)
    (subst (λ (x : Float). T (le (mul binary64 zer k) x)) (float_mul_comm y k) (mul_le k p zer y h)))
  where
    finite : (k : Float) → T (positive k) → T (is_fin k)
    finite nan p = absurd p
    finite (inf s) p = absurd p
    finite (fin s m e) p = tt

    nought : (s : Bool) → T (le zer (fin s 0 (pos 0)))
    nought true = unfold le lt eq of_bits in tt
    nought false = unfold le lt eq of_bits in tt

-- nor is what isn't below 0 over a number above 0
pub over_above : (k y : Float) → T (positive k) → T (le zer y) → T (le zer (div binary64 y k))
over_above k y p h =
    let nought = div_round zer k false 0 1 (num k) (den k) (lit< tt) (den_pos k) (value_pos k (num k) (den k) p (den_pos k) (own_value k p))
    (unfold of_bits in (refl, refl)) (own_value k p) in
    float_le_trans zer (div binary64 zer k) (div binary64 y k)
    (subst (λ (x : Float). T (le zer x)) (sym nought) (plus_above _ (round_plus _ _) (round_number false _ _))) (div_le k p zer y h)

-- nor have 1 less and 1 plus what lies from -1 to 1
around : (r : Float) → Plus r → T (le r one)
    → Plus (sub binary64 one r) × Plus (add binary64 one r) × Plus (sub binary64 one (neg r)) × Plus (add binary64 one (neg r))
around r p q =
    let a : Plus (add binary64 one r) = add_plus one r (unfold of_bits in tt) p in
    (one_less r q, a, unfold sub in subst (λ (z : Float). Plus (add binary64 one z)) (sym (neg_neg r)) a, unfold sub in one_less r q)

pub one_round : (t : Bool) (a c : ℕ) → 0 < c → a ≤ c → Plus (sub binary64 one (round binary64 t a c)) × Plus (add binary64 one (round binary64 t a c))
one_round false a c C h = let r = around (round binary64 false a c) (round_plus a c) (unfold of_bits in (unit_law a c C h).1) in (r.0, r.1)
one_round true a c C h =
    let r = around (round binary64 false a c) (round_plus a c) (unfold of_bits in (unit_law a c C h).1) in
    simp (round_neg a c) (r.2, r.3)

-- ---- a number less one of these
sum_below : (s : Bool) (a b c : ℕ) → 0 < c → T (le (sum binary64 s a true b c) (round binary64 s a c))
unfolding sum
sum_below true a b c C = round_le true true (a + b) c a c C C (mul-le-mul_right c (le-add_right a b))
sum_below false a b c C = go (ltb a b)
  where
    go : (t : Bool) → T (le (cond t (round binary64 true (b - a) c) (round binary64 (false && ltb b a) (a - b) c)) (round binary64 false a c))
    go true = round_le true false (b - a) c a c C C tt
    go false = round_mono binary64 (a - b) c a c C C (mul-le-mul_right c (sub-le a b))

own : (s : Bool) (m : ℕ) (e : ℤ) (d : ℕ) → 0 < d → F64 (fin s m e) → round binary64 s (m * up e * d) (down e * d) ≡ fin s m e
own s m e d D f = round_own s (fin s m e) (m * up e * d) (down e * d) (mul-pos (down_pos e) D) f (refl, same (m * up e) (down e) d)
  where
    same : (a b d : ℕ) → a * (b * d) ≡ a * d * b
    same a b d = omega arith

pub sub_below : (x y : Float) → F64 x → Plus y → T (not (is_nan (sub binary64 x y))) → T (le (sub binary64 x y) x)
unfolding sub add neg is_nan
sub_below nan y f p q = absurd q
sub_below (inf true) nan f p q = absurd q
sub_below (inf true) (inf true) f p q = absurd p
sub_below (inf true) (inf false) f p q = unfold le lt eq in tt
sub_below (inf true) (fin t n d) f p q = unfold le lt eq in tt
sub_below (inf false) nan f p q = absurd q
sub_below (inf false) (inf true) f p q = absurd p
sub_below (inf false) (inf false) f p q = absurd q
sub_below (inf false) (fin t n d) f p q = unfold le lt eq in tt
sub_below (fin s m e) nan f p q = absurd q
sub_below (fin s m e) (inf true) f p q = absurd p
sub_below (fin s m e) (inf false) f p q = unfold le lt eq in tt
sub_below (fin s m e) (fin true n d) f p q = absurd p
sub_below (fin s m e) (fin false n d) f p q =
    subst (λ (z : Float). T (le (sum binary64 s (m * up e * down d) true (n * up d * down e) (down e * down d)) z)) (own s m e (down d) (down_pos d) f)
    (sum_below s (m * up e * down d) (n * up d * down e) (down e * down d) (mul-pos (down_pos e) (down_pos d)))

-- ---- and one of these plus another
pub add_above : (x y : Float) → F64 x → Plus x → Plus y → T (not (is_nan (add binary64 x y))) → T (le x (add binary64 x y))
unfolding add sum is_nan
add_above nan y f p r q = absurd q
add_above (inf true) y f p r q = absurd p
add_above (inf false) nan f p r q = absurd q
add_above (inf false) (inf true) f p r q = absurd r
add_above (inf false) (inf false) f p r q = unfold le lt eq in tt
add_above (inf false) (fin t n d) f p r q = unfold le lt eq in tt
add_above (fin true m e) y f p r q = absurd p
add_above (fin false m e) nan f p r q = absurd q
add_above (fin false m e) (inf true) f p r q = absurd r
add_above (fin false m e) (inf false) f p r q = unfold le lt eq in tt
add_above (fin false m e) (fin true n d) f p r q = absurd r
add_above (fin false m e) (fin false n d) f p r q =
    subst (λ (z : Float). T (le z (round binary64 false (m * up e * down d + n * up d * down e) (down e * down d)))) (own false m e (down d) (down_pos d) f)
    (round_mono binary64 (m * up e * down d) (down e * down d) (m * up e * down d + n * up d * down e) (down e * down d) C C
    (mul-le-mul_right (down e * down d) (le-add_right (m * up e * down d) (n * up d * down e))))
  where
    C : 0 < down e * down d
    C = mul-pos (down_pos e) (down_pos d)
