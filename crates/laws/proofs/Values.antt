-- A product, a quotient, a sum and a difference is one rounding of the exact value; where the format holds that, nothing is rounded.
use mathlib.Core.Bool.{Bool, beq, ◌&&◌, cond, false, not, true, true≢false}
use mathlib.Core.Path.{◌∙◌, ◌≡◌, ap, refl, subst, sym}
use Prim.Native.Nat.{◌%◌, ◌*◌, ◌+◌, ◌-◌, ◌/◌, ◌<◌, ◌^◌, ◌≤◌, suc, zero, ℕ}
use native.Mathlib.Nat.{add-mul, eq_of_mul-eq-mul_right, le_of_eq, le_of_lt, le_of_mul-le-mul_right, le_refl, le_trans}
use native.Mathlib.Nat.{lt_irrefl, lt_of_lt_of_le, mul_assoc, mul_comm, mul-le-mul_right, mul_left_comm, mul-mod_left}
use native.Mathlib.Nat.{mul-mul-mul_comm, mul-pos, mul_right_comm, mul-sub, not-le_of_lt, zero-lt-suc, zero-mul}
use native.Mathlib.Omega.{arith}
use lib.Dec.{T, eqb, leb, lit<, ltb, ltb→lt, lt→ltb, nltb→le}
use lib.Ieee.{Float, add, binary64, div, down, fin, fits, inf, le, lt, mul, nan, nan_bits, neg, odd, of_bits, of_int, round, sub, sum, units, unlike, up}
use lib.Ieee.Back.{round_whole}
use lib.Ieee.Exact.{HasValue, round_exact}
use lib.Ieee.Fits.{and_l, and_r, down_pos, round_is, up_pos}
use lib.Ieee.Order.{le_of_values}
use lib.Ieee.Positive.{first_pos}
use lib.Ieee.Scale.{round_same}
use lib.IntN.{pos, ℤ}
use lib.Pow.{pow-add, pow_mono, pow_pos, shl_lt}
use Rattle.laws.proofs.Order.{le_neg, lt_by_values, lt_neg, neg_neg}
use Rattle.laws.proofs.Tests.{eqb_no, ltb_iff}
use Rattle.laws.specs.Float.{F64, is_fin, zer}

-- what fits has at most 53 binary digits
pub fits_small : (s : Bool) (m : ℕ) (e : ℤ) → F64 (fin s m e) → m < 2 ^ 53
unfolding fits
fits_small s zero e t = lit< tt
fits_small s (suc m) e t =
    ltb→lt (suc m) (2 ^ 53)
    (and_r (eqb (suc m % 2) 1) (ltb (suc m) (2 ^ 53))
    (and_l (eqb (suc m % 2) 1 && ltb (suc m) (2 ^ 53)) (leb (down e) (2 ^ 1074))
    (and_l (eqb (suc m % 2) 1 && ltb (suc m) (2 ^ 53) && leb (down e) (2 ^ 1074)) (ltb (suc m * up e) (2 ^ 1024 * down e)) t)))

-- ---- a rounded fraction: zero, and the sign
at_zero : (s : Bool) → round binary64 s 0 1 ≡ fin s 0 (pos 0)
unfolding round
at_zero s = refl

pub round_zero : (s : Bool) (c : ℕ) → 0 < c → round binary64 s 0 c ≡ fin s 0 (pos 0)
round_zero s c C = round_same binary64 s 0 c 0 1 C (zero-lt-suc 0) (zero-mul 1 ∙ sym (zero-mul c)) ∙ at_zero s

neg_units : (q k : ℕ) → neg (units binary64 true q k) ≡ units binary64 false q k
unfolding units neg
neg_units q k = go (ltb (q * 2 ^ k) (2 ^ 2098)) q
  where
    go : (b : Bool) (q : ℕ) → neg (cond b (odd 54 true q k 1074) (inf true)) ≡ cond b (odd 54 false q k 1074) (inf false)
    go true zero = refl
    go true (suc q) = refl
    go false q = refl

pub neg_round : (a c : ℕ) → neg (round binary64 true a c) ≡ round binary64 false a c
neg_round a c = ap neg (round_is binary64 true a c) ∙ neg_units _ _ ∙ sym (round_is binary64 false a c)

pub round_neg : (a c : ℕ) → round binary64 true a c ≡ neg (round binary64 false a c)
round_neg a c = sym (neg_neg (round binary64 true a c)) ∙ ap neg (neg_round a c)

-- ---- products and quotients
pub unlike_plus : (s : Bool) → unlike s false ≡ s
unlike_plus true = refl
unlike_plus false = refl

pub mul_round : (x y : Float) (s t : Bool) (a c b d : ℕ) → 0 < c → 0 < d → HasValue x s a c → HasValue y t b d
    → mul binary64 x y ≡ round binary64 (unlike s t) (a * b) (c * d)
unfolding mul
mul_round nan y s t a c b d C D p q = absurd p
mul_round (inf u) y s t a c b d C D p q = absurd p
mul_round (fin u m e) nan s t a c b d C D p q = absurd q
mul_round (fin u m e) (inf v) s t a c b d C D p q = absurd q
mul_round (fin u m e) (fin v n g) s t a c b d C D p q =
    ap (λ (z : Bool). round binary64 (unlike z v) (m * up e * (n * up g)) (down e * down g)) p.0
    ∙ ap (λ (z : Bool). round binary64 (unlike s z) (m * up e * (n * up g)) (down e * down g)) q.0
    ∙ round_same binary64 (unlike s t) (m * up e * (n * up g)) (down e * down g) (a * b) (c * d) (mul-pos (down_pos e) (down_pos g)) (mul-pos C D)
    (mul-mul-mul_comm (m * up e) (n * up g) c d ∙ ap (λ (z : ℕ). z * (n * up g * d)) p.1 ∙ ap (λ (z : ℕ). a * down e * z) q.1
    ∙ mul-mul-mul_comm a (down e) b (down g))

unlike_sym : (s t : Bool) → unlike s t ≡ unlike t s
unlike_sym true true = refl
unlike_sym true false = refl
unlike_sym false true = refl
unlike_sym false false = refl

trade : (a e n d : ℕ) → a * e * (n * d) ≡ a * d * (n * e)
trade a e n d = simp (mul_assoc, mul_comm, mul_left_comm)

pub div_round : (x y : Float) (s : Bool) (a c b d : ℕ) → 0 < c → 0 < d → 0 < b → HasValue x s a c → HasValue y false b d
    → div binary64 x y ≡ round binary64 s (a * d) (c * b)
unfolding div
div_round nan y s a c b d C D B p q = absurd p
div_round (inf u) y s a c b d C D B p q = absurd p
div_round (fin u m e) nan s a c b d C D B p q = absurd q
div_round (fin u m e) (inf v) s a c b d C D B p q = absurd q
div_round (fin u m e) (fin true n g) s a c b d C D B p q = absurd (true≢false q.0)
div_round (fin u m e) (fin false n g) s a c b d C D B p q =
    ap (λ (z : Bool). cond z (cond (eqb m 0) nan (inf (unlike u false))) (round binary64 (unlike u false) (m * up e * down g) (n * up g * down e)))
    (eqb_no n 0 some)
    ∙ ap (λ (z : Bool). round binary64 z (m * up e * down g) (n * up g * down e)) (unlike_plus u ∙ p.0)
    ∙ round_same binary64 s (m * up e * down g) (n * up g * down e) (a * d) (c * b) (mul-pos (mul-pos N (up_pos g)) (down_pos e)) (mul-pos C B)
    (swap (m * up e) (down g) c b ∙ ap (λ (z : ℕ). z * (b * down g)) p.1 ∙ ap (λ (z : ℕ). a * down e * z) (sym q.1) ∙ trade a (down e) (n * up g) d)
  where
    N : 0 < n
    N = first_pos n (up g) (first_pos (n * up g) d (subst (λ (z : ℕ). 0 < z) (sym q.1) (mul-pos B (down_pos g))))

    some : n ≡ 0 → ⊥
    some z = lt_irrefl 0 (subst (λ (k : ℕ). 0 < k) z N)

    swap : (n g c b : ℕ) → n * g * (c * b) ≡ n * c * (b * g)
    swap n g c b = simp (mul_assoc, mul_comm, mul_left_comm)

pub float_mul_comm : (x y : Float) → mul binary64 x y ≡ mul binary64 y x
unfolding mul
float_mul_comm nan nan = refl
float_mul_comm nan (inf t) = refl
float_mul_comm nan (fin t n d) = refl
float_mul_comm (inf s) nan = refl
float_mul_comm (inf s) (inf t) = ap inf (unlike_sym s t)
float_mul_comm (inf s) (fin t n d) = ap (λ (z : Bool). cond (eqb n 0) nan (inf z)) (unlike_sym s t)
float_mul_comm (fin s m e) nan = refl
float_mul_comm (fin s m e) (inf t) = ap (λ (z : Bool). cond (eqb m 0) nan (inf z)) (unlike_sym s t)
float_mul_comm (fin s m e) (fin t n d) =
    ap (λ (z : Bool). round binary64 z (m * up e * (n * up d)) (down e * down d)) (unlike_sym s t)
    ∙ ap (λ (z : ℕ). round binary64 (unlike t s) z (down e * down d)) (mul_comm (m * up e) (n * up d))
    ∙ ap (λ (z : ℕ). round binary64 (unlike t s) (n * up d * (m * up e)) z) (mul_comm (down e) (down d))

-- ---- sums and differences
scale_le : (A B C A' B' C' : ℕ) → 0 < C → A * C' ≡ A' * C → B * C' ≡ B' * C → A ≤ B → A' ≤ B'
scale_le A B C A' B' C' H p q h = le_of_mul-le-mul_right (le_trans (le_of_eq (sym p)) (le_trans (mul-le-mul_right C' h) (le_of_eq q))) H

pub sub_mul' : (a b c : ℕ) → (a - b) * c ≡ a * c - b * c
sub_mul' a b c = mul_comm (a - b) c ∙ mul-sub c a b ∙ ap (λ (z : ℕ). z - c * b) (mul_comm c a) ∙ ap (λ (z : ℕ). a * c - z) (mul_comm c b)

cross_sub : (A B C A' B' C' : ℕ) → A * C' ≡ A' * C → B * C' ≡ B' * C → (A - B) * C' ≡ (A' - B') * C
cross_sub A B C A' B' C' p q = sub_mul' A B C' ∙ ap (λ (z : ℕ). z - B * C') p ∙ ap (λ (z : ℕ). A' * C - z) q ∙ sym (sub_mul' A' B' C)

cross_add : (A B C A' B' C' : ℕ) → A * C' ≡ A' * C → B * C' ≡ B' * C → (A + B) * C' ≡ (A' + B') * C
cross_add A B C A' B' C' p q = add-mul A B C' ∙ ap (λ (z : ℕ). z + B * C') p ∙ ap (λ (z : ℕ). A' * C + z) q ∙ sym (add-mul A' B' C)

sum_same : (s t : Bool) (A B C A' B' C' : ℕ) → 0 < C → 0 < C' → A * C' ≡ A' * C → B * C' ≡ B' * C → sum binary64 s A t B C ≡ sum binary64 s A' t B' C'
unfolding sum
sum_same s t A B C A' B' C' H H' p q =
    let l1 : ltb A B ≡ ltb A' B' = ltb_iff A B A' B' (scale_le B A C B' A' C' H q p) (scale_le B' A' C' B A C H' (sym q) (sym p)) in
    let l2 : ltb B A ≡ ltb B' A' = ltb_iff B A B' A' (scale_le A B C A' B' C' H p q) (scale_le A' B' C' A B C H' (sym p) (sym q)) in
    ap (λ (z : Float). cond (beq s t) z (cond (ltb A B) (round binary64 t (B - A) C) (round binary64 (s && ltb B A) (A - B) C)))
    (round_same binary64 s (A + B) C (A' + B') C' H H' (cross_add A B C A' B' C' p q))
    ∙ ap (λ (z : Float). cond (beq s t) (round binary64 s (A' + B') C') (cond (ltb A B) z (round binary64 (s && ltb B A) (A - B) C)))
    (round_same binary64 t (B - A) C (B' - A') C' H H' (cross_sub B A C B' A' C' q p))
    ∙ ap (λ (z : Bool). cond (beq s t) (round binary64 s (A' + B') C')
    (cond z (round binary64 t (B' - A') C') (round binary64 (s && ltb B A) (A - B) C))) l1
    ∙ ap (λ (z : Bool). cond (beq s t) (round binary64 s (A' + B') C')
    (cond (ltb A' B') (round binary64 t (B' - A') C') (round binary64 (s && z) (A - B) C))) l2
    ∙ ap (λ (z : Float). cond (beq s t) (round binary64 s (A' + B') C') (cond (ltb A' B') (round binary64 t (B' - A') C') z))
    (round_same binary64 (s && ltb B' A') (A - B) C (A' - B') C' H H' (cross_sub A B C A' B' C' p q))

pub add_round : (x y : Float) (s t : Bool) (a c b d : ℕ) → 0 < c → 0 < d → HasValue x s a c → HasValue y t b d
    → add binary64 x y ≡ sum binary64 s (a * d) t (b * c) (c * d)
unfolding add
add_round nan y s t a c b d C D p q = absurd p
add_round (inf u) y s t a c b d C D p q = absurd p
add_round (fin u m e) nan s t a c b d C D p q = absurd q
add_round (fin u m e) (inf v) s t a c b d C D p q = absurd q
add_round (fin u m e) (fin v n g) s t a c b d C D p q =
    ap (λ (z : Bool). sum binary64 z (m * up e * down g) v (n * up g * down e) (down e * down g)) p.0
    ∙ ap (λ (z : Bool). sum binary64 s (m * up e * down g) z (n * up g * down e) (down e * down g)) q.0
    ∙ sum_same s t (m * up e * down g) (n * up g * down e) (down e * down g) (a * d) (b * c) (c * d) (mul-pos (down_pos e) (down_pos g)) (mul-pos C D)
    (mul-mul-mul_comm (m * up e) (down g) c d ∙ ap (λ (z : ℕ). z * (down g * d)) p.1 ∙ turn a (down e) (down g) d)
    (turn (n * up g) (down e) c d ∙ ap (λ (z : ℕ). z * (down e * c)) q.1 ∙ trade b (down g) (down e) c)
  where
    turn : (n e c d : ℕ) → n * e * (c * d) ≡ n * d * (e * c)
    turn n e c d = simp (mul_assoc, mul_comm, mul_left_comm)

pub neg_value : (x : Float) (s : Bool) (a c : ℕ) → HasValue x s a c → HasValue (neg x) (not s) a c
unfolding neg
neg_value nan s a c p = absurd p
neg_value (inf u) s a c p = absurd p
neg_value (fin u m e) s a c p = (ap not p.0, p.1)

-- with a minus sign a fraction is rounded to the same size
pub signed_value : (s : Bool) (a c p q : ℕ) → HasValue (round binary64 false a c) false p q → HasValue (round binary64 s a c) s p q
signed_value false a c p q v = v
signed_value true a c p q v = subst (λ (z : Float). HasValue z true p q) (sym (round_neg a c)) (neg_value (round binary64 false a c) false p q v)

-- so two negative values compare as their sizes do, turned round
pub lt_by_minus : (x y : Float) (a c b d : ℕ) → 0 < c → 0 < d → HasValue x true a c → HasValue y true b d → lt x y ≡ ltb (b * c) (a * d)
lt_by_minus x y a c b d C D p q = sym (lt_neg x y) ∙ lt_by_values (neg y) (neg x) b d a c D C (neg_value y true b d q) (neg_value x true a c p)

pub le_by_minus : (x y : Float) (a c b d : ℕ) → 0 < c → 0 < d → HasValue x true a c → HasValue y true b d → b * c ≤ a * d → T (le x y)
le_by_minus x y a c b d C D p q h =
    simp (neg_neg) at (le_neg (neg y) (neg x) (le_of_values (neg y) (neg x) b d a c D C (neg_value y true b d q) (neg_value x true a c p) h))

pub sub_round : (x y : Float) (s t : Bool) (a c b d : ℕ) → 0 < c → 0 < d → HasValue x s a c → HasValue y t b d
    → sub binary64 x y ≡ sum binary64 s (a * d) (not t) (b * c) (c * d)
unfolding sub
sub_round x y s t a c b d C D p q = add_round x (neg y) s (not t) a c b d C D p (neg_value y t b d q)

-- a sum of two signs
pub sum_pos_neg : (a b c : ℕ) → b ≤ a → sum binary64 false a true b c ≡ round binary64 false (a - b) c
unfolding sum
sum_pos_neg a b c h = go (ltb a b) (ltb→lt a b)
  where
    go : (t : Bool) → (T t → a < b) → cond t (round binary64 true (b - a) c) (round binary64 false (a - b) c) ≡ round binary64 false (a - b) c
    go true k = absurd (not-le_of_lt (k tt) h)
    go false k = refl

pub sum_neg_pos : (a b c : ℕ) → a ≤ b → sum binary64 true a false b c ≡ round binary64 false (b - a) c
unfolding sum
sum_neg_pos a b c h = go (ltb a b) (ltb b a) (nltb→le a b) (ltb→lt b a)
  where
    same : (a b : ℕ) → a ≤ b → b ≤ a → a - b ≡ b - a
    same a b h k = omega arith

    go : (t u : Bool) → (T (not t) → b ≤ a) → (T u → b < a)
        → cond t (round binary64 false (b - a) c) (round binary64 u (a - b) c) ≡ round binary64 false (b - a) c
    go true u k l = refl
    go false true k l = absurd (not-le_of_lt (l tt) h)
    go false false k l = ap (λ (z : ℕ). round binary64 false z c) (same a b h (k tt))

pub sum_neg : (a b c : ℕ) → a < b → sum binary64 false a true b c ≡ round binary64 true (b - a) c
unfolding sum
sum_neg a b c h = go (ltb a b) (lt→ltb a b h)
  where
    go : (t : Bool) → T t → cond t (round binary64 true (b - a) c) (round binary64 false (a - b) c) ≡ round binary64 true (b - a) c
    go true t = refl
    go false t = absurd t

pub sum_neg_neg : (a b c : ℕ) → b < a → sum binary64 true a false b c ≡ round binary64 true (a - b) c
unfolding sum
sum_neg_neg a b c h = go (ltb a b) (ltb b a) (ltb→lt a b) (lt→ltb b a h)
  where
    go : (t u : Bool) → (T t → a < b) → T u → cond t (round binary64 false (b - a) c) (round binary64 u (a - b) c) ≡ round binary64 true (a - b) c
    go true u f g = absurd (not-le_of_lt (f tt) (le_of_lt h))
    go false true f g = refl
    go false false f g = absurd g

-- ---- values: from one fraction to another of the same size
pub rescale : (x : Float) (s : Bool) (w l a c : ℕ) → 0 < l → a * l ≡ w * c → HasValue x s w l → HasValue x s a c
rescale nan s w l a c p h v = v
rescale (inf t) s w l a c p h v = v
rescale (fin t m e) s w l a c p h v = (
  v.0,
  eq_of_mul-eq-mul_right l p (m * up e * c) (a * down e)
      (mul_right_comm (m * up e) c l
      ∙ ap (λ (x : ℕ). x * c) v.1
      ∙ mul_right_comm w (down e) c
      ∙ ap (λ (x : ℕ). x * down e) (sym h)
      ∙ mul_right_comm a l (down e)),
)

-- q / 2 ^ i for a q below 2 ^ 53 and an i up to 1074 is held, so a fraction of that size is not rounded
pub exact_at : (s : Bool) (q i : ℕ) → q < 2 ^ 53 → i ≤ 1074 → HasValue (round binary64 s q (2 ^ i)) s q (2 ^ i)
exact_at s q i h k =
    round_exact binary64 s q (2 ^ i) q (1074 - i) (pow_pos i) h
    (lt_of_lt_of_le (shl_lt 53 (1074 - i) h) (pow_mono {j = 2098} (room i)))
    (ap (λ (z : ℕ). q * z) (ap (λ (z : ℕ). 2 ^ z) (back i k) ∙ pow-add 2 (1074 - i) i) ∙ sym (mul_assoc q (2 ^ (1074 - i)) (2 ^ i)))
  where
    room : (i : ℕ) → 53 + (1074 - i) ≤ 2098
    room i = omega arith

    back : (i : ℕ) → i ≤ 1074 → 1074 ≡ 1074 - i + i
    back i k = omega arith

-- a whole number up to 2 ^ 53 is held
pub of_int_val : (n : ℕ) → n ≤ 2 ^ 53 → HasValue (of_int binary64 (pos n)) false n 1
unfolding of_int
of_int_val n h = round_whole binary64 false n h

-- a finite number less itself is +0
pub sub_self_zero : (x : Float) → T (is_fin x) → sub binary64 x x ≡ zer
unfolding of_bits
sub_self_zero nan f = absurd f
sub_self_zero (inf s) f = absurd f
sub_self_zero (fin s m e) f = unfold sub in
    go s ∙ ap (λ (z : ℕ). round binary64 false z (down e * down e)) (nil (m * up e * down e))
    ∙ round_zero false (down e * down e) (mul-pos (down_pos e) (down_pos e))
  where
    nil : (a : ℕ) → a - a ≡ 0
    nil a = omega arith

    go : (s : Bool)
        → sum binary64 s (m * up e * down e) (not s) (m * up e * down e) (down e * down e)
        ≡ round binary64 false (m * up e * down e - m * up e * down e) (down e * down e)
    go true = sum_neg_pos (m * up e * down e) (m * up e * down e) (down e * down e) (le_refl (m * up e * down e))
    go false = sum_pos_neg (m * up e * down e) (m * up e * down e) (down e * down e) (le_refl (m * up e * down e))

-- ---- the bits of a multiple of 2 ^ 52 are no NaN's
pub no_nan_bits : (n : ℕ) → T (not (nan_bits binary64 (n * 4503599627370496)))
unfolding nan_bits
no_nan_bits n = subst (λ (z : ℕ). T (not (eqb (n * 4503599627370496 % 9223372036854775808 / 4503599627370496) 2047 && not (eqb z 0))))
    (sym (mul-mod_left n 4503599627370496)) (none (eqb (n * 4503599627370496 % 9223372036854775808 / 4503599627370496) 2047))
  where
    none : (b : Bool) → T (not (b && false))
    none true = tt
    none false = tt
