-- A value is written in one way: two floats that fit, with the same sign and the same size, are the same. So a float is the rounding of its own value.
use mathlib.Core.Bool.{Bool, ◌&&◌, false, true}
use mathlib.Core.Path.{◌∙◌, ◌≡◌, ap, refl, subst, sym}
use Prim.Native.Nat.{◌%◌, ◌*◌, ◌+◌, ◌-◌, ◌<◌, ◌^◌, ◌≤◌, suc, zero, ℕ}
use native.Mathlib.Nat.{eq_of_mul-eq-mul_right, le_antisymm, le_of_eq, le_of_suc-le-suc, lt_irrefl, lt_of_lt_of_le, lt_of_not-le, mul_assoc}
use native.Mathlib.Nat.{mul_left_comm, mul-lt-mul_of_pos_right, mul-one, mul-pos, not-le_of_lt, one-mul, pow-suc, pow-succ', zero-lt-suc, zero-mul}
use native.Mathlib.Omega.{arith}
use lib.Dec.{eqb, eqb→eq, leb, leb→le, lit<, lit≤, ltb, ltb→lt}
use lib.Ieee.{Float, binary64, down, fin, fits, inf, mul, nan, neg, of_bits, round, unlike, up}
use lib.Ieee.Exact.{HasValue, round_exact}
use lib.Ieee.Fits.{and_l, and_r, down_pos, neg-fits, round-fits, up_pos}
use lib.Ieee.Order.{transfer}
use lib.Ieee.Scale.{round_same}
use lib.IntN.{negsuc, pos, ℤ}
use lib.Pow.{pow-add, pow-lt, pow_mono, pow_pos, shl_lt}
use Rattle.laws.proofs.Values.{fits_small, float_mul_comm, mul_round, round_neg, unlike_plus}
use Rattle.laws.specs.Float.{F64, one}

even_odd : (m t : ℕ) → m % 2 ≡ 1 → m ≡ 2 * t → ⊥
even_odd m t o h = omega arith

odd_pow : (m n a b : ℕ) → m % 2 ≡ 1 → n % 2 ≡ 1 → m * 2 ^ a ≡ n * 2 ^ b → (m ≡ n) × (a ≡ b)
odd_pow m n zero zero o p h = (sym (mul-one m) ∙ h ∙ mul-one n, refl)
odd_pow m n zero (suc b) o p h = absurd (even_odd m (n * 2 ^ b) o (sym (mul-one m) ∙ h ∙ ap (λ (x : ℕ). n * x) (pow-succ' 2 b) ∙ mul_left_comm n 2 (2 ^ b)))
odd_pow m n (suc a) zero o p h = absurd (even_odd n (m * 2 ^ a) p (sym (mul-one n) ∙ sym h ∙ ap (λ (x : ℕ). m * x) (pow-succ' 2 a) ∙ mul_left_comm m 2 (2 ^ a)))
odd_pow m n (suc a) (suc b) o p h =
    let r = odd_pow m n a b o p (eq_of_mul-eq-mul_right 2 (zero-lt-suc 1) (m * 2 ^ a) (n * 2 ^ b)
    (mul_assoc m (2 ^ a) 2 ∙ ap (λ (x : ℕ). m * x) (sym (pow-suc 2 a)) ∙ h ∙ ap (λ (x : ℕ). n * x) (pow-suc 2 b) ∙ sym (mul_assoc n (2 ^ b) 2))) in
    (r.0, ap suc r.1)

is_odd : (s : Bool) (m : ℕ) (e : ℤ) → F64 (fin s (suc m) e) → suc m % 2 ≡ 1
unfolding fits
is_odd s m e t =
    eqb→eq (suc m % 2) 1 (and_l (eqb (suc m % 2) 1) (ltb (suc m) (2 ^ 53)) (and_l (eqb (suc m % 2) 1 && ltb (suc m) (2 ^ 53)) (leb (down e) (2 ^ 1074))
    (and_l (eqb (suc m % 2) 1 && ltb (suc m) (2 ^ 53) && leb (down e) (2 ^ 1074)) (ltb (suc m * up e) (2 ^ 1024 * down e)) t)))

two_up : (p : ℕ) → 0 < p → 2 * p ≡ 1 → ⊥
two_up p h e = omega arith

flat : (e : ℤ) → up e * down e ≡ 1 → e ≡ pos 0
flat (pos zero) h = refl
flat (pos (suc k)) h = absurd (two_up (2 ^ k) (pow_pos k) (sym (pow-succ' 2 k) ∙ sym (mul-one (2 ^ suc k)) ∙ h))
flat (negsuc k) h = absurd (two_up (2 ^ k) (pow_pos k) (sym (pow-succ' 2 k) ∙ sym (one-mul (2 ^ suc k)) ∙ h))

zero_exp : (s : Bool) (e : ℤ) → F64 (fin s zero e) → e ≡ pos 0
unfolding fits
zero_exp s e t = flat e (eqb→eq (up e * down e) 1 t)

-- odd m, n with m * 2 ^ e ≡ n * 2 ^ d
odd_same : (m n : ℕ) (e d : ℤ) → m % 2 ≡ 1 → n % 2 ≡ 1 → m * up e * down d ≡ n * up d * down e → (m ≡ n) × (e ≡ d)
odd_same m n (pos a) (pos b) o p h = let r = odd_pow m n a b o p (sym (mul-one (m * 2 ^ a)) ∙ h ∙ mul-one (n * 2 ^ b)) in (r.0, ap pos r.1)
odd_same m n (negsuc a) (negsuc b) o p h =
    let r = odd_pow m n (suc b) (suc a) o p (ap (λ (z : ℕ). z * 2 ^ suc b) (sym (mul-one m)) ∙ h ∙ ap (λ (z : ℕ). z * 2 ^ suc a) (mul-one n)) in
    (r.0, sym (ap neg_of r.1))
  where
    neg_of : ℕ → ℤ
    neg_of zero = negsuc 0
    neg_of (suc k) = negsuc k
odd_same m n (pos a) (negsuc b) o p h =
    absurd (even_odd n (m * 2 ^ a * 2 ^ b) p
    (sym (mul-one n) ∙ sym (mul-one (n * 1)) ∙ sym h ∙ ap (λ (z : ℕ). m * 2 ^ a * z) (pow-succ' 2 b) ∙ mul_left_comm (m * 2 ^ a) 2 (2 ^ b)))
odd_same m n (negsuc a) (pos b) o p h =
    absurd (even_odd m (n * 2 ^ b * 2 ^ a) o
    (sym (mul-one m) ∙ sym (mul-one (m * 1)) ∙ h ∙ ap (λ (z : ℕ). n * 2 ^ b * z) (pow-succ' 2 a) ∙ mul_left_comm (n * 2 ^ b) 2 (2 ^ a)))

not_both : (m : ℕ) (e d : ℤ) → suc m * up e * down d ≡ zero * up d * down e → ⊥
not_both m e d h = lt_irrefl 0
    (subst (λ (z : ℕ). 0 < z) (h ∙ ap (λ (z : ℕ). z * down e) (zero-mul (up d)) ∙ zero-mul (down e))
    (mul-pos (mul-pos (zero-lt-suc m) (up_pos e)) (down_pos d)))

same_size : (s : Bool) (m : ℕ) (e : ℤ) (n : ℕ) (d : ℤ) → F64 (fin s m e) → F64 (fin s n d) → m * up e * down d ≡ n * up d * down e → (m ≡ n) × (e ≡ d)
same_size s zero e zero d p q h = (refl, zero_exp s e p ∙ sym (zero_exp s d q))
same_size s zero e (suc n) d p q h = absurd (not_both n d e (sym h))
same_size s (suc m) e zero d p q h = absurd (not_both m e d h)
same_size s (suc m) e (suc n) d p q h = odd_same (suc m) (suc n) e d (is_odd s m e p) (is_odd s n d q) h

pub value_unique : (x y : Float) (s : Bool) (a c : ℕ) → 0 < c → F64 x → F64 y → HasValue x s a c → HasValue y s a c → x ≡ y
value_unique nan y s a c C p q v w = absurd v
value_unique (inf t) y s a c C p q v w = absurd v
value_unique (fin t m e) nan s a c C p q v w = absurd w
value_unique (fin t m e) (inf u) s a c C p q v w = absurd w
value_unique (fin t m e) (fin u n d) s a c C p q v w =
    let h : m * up e * down d ≡ n * up d * down e = le_antisymm
    (transfer (m * up e) (n * up d) (down e) (down d) a a c c C C v.1 w.1 (le_of_eq refl))
    (transfer (n * up d) (m * up e) (down d) (down e) a a c c C C w.1 v.1 (le_of_eq refl)) in
    let r = same_size s m e n d (subst (λ (z : Bool). F64 (fin z m e)) v.0 p) (subst (λ (z : Bool). F64 (fin z n d)) w.0 q) h in
    λ i. fin ((v.0 ∙ sym w.0) i) (r.0 i) (r.1 i)

-- ---- a float is the rounding of its own value
pub exp_le : (k : ℕ) → 2 ^ suc k ≤ 2 ^ 1074 → suc k ≤ 1074
exp_le k h = le_of_suc-le-suc (lt_of_not-le (λ (l : 1074 < suc k). not-le_of_lt (pow-lt {i = 1074} l) h))

top_of : (m : ℕ) (e : ℤ) → F64 (fin false (suc m) e) → suc m * up e < 2 ^ 1024 * down e
unfolding fits
top_of m e t = ltb→lt (suc m * up e) (2 ^ 1024 * down e)
    (and_r (eqb (suc m % 2) 1 && ltb (suc m) (2 ^ 53) && leb (down e) (2 ^ 1074)) (ltb (suc m * up e) (2 ^ 1024 * down e)) t)

pub low_of : (m : ℕ) (e : ℤ) → F64 (fin false (suc m) e) → down e ≤ 2 ^ 1074
unfolding fits
low_of m e t = leb→le (down e) (2 ^ 1074)
    (and_r (eqb (suc m % 2) 1 && ltb (suc m) (2 ^ 53)) (leb (down e) (2 ^ 1074))
    (and_l (eqb (suc m % 2) 1 && ltb (suc m) (2 ^ 53) && leb (down e) (2 ^ 1074)) (ltb (suc m * up e) (2 ^ 1024 * down e)) t))

own_exact : (m : ℕ) (e : ℤ) → F64 (fin false m e) → HasValue (round binary64 false (m * up e) (down e)) false (m * up e) (down e)
own_exact zero e t =
    round_exact binary64 false (zero * up e) (down e) 0 0 (down_pos e) (lit< tt) (lit< tt)
    (ap (λ (z : ℕ). z * 2 ^ 1074) (zero-mul (up e)) ∙ sym (zero-mul (down e)))
own_exact (suc m) (pos k) t =
    round_exact binary64 false (suc m * 2 ^ k) 1 (suc m) (k + 1074) (zero-lt-suc 0) (fits_small false (suc m) (pos k) t)
    (subst (λ (z : ℕ). z < 2 ^ 2098) (shift (suc m))
    (lt_of_lt_of_le (mul-lt-mul_of_pos_right (subst (λ (z : ℕ). suc m * 2 ^ k < z) (mul-one (2 ^ 1024)) (top_of m (pos k) t)) (pow_pos 1074)) (lit≤ tt)))
    (shift (suc m) ∙ sym (mul-one (suc m * 2 ^ (k + 1074))))
  where
    shift : (m : ℕ) → m * 2 ^ k * 2 ^ 1074 ≡ m * 2 ^ (k + 1074)
    shift m = mul_assoc m (2 ^ k) (2 ^ 1074) ∙ ap (λ (z : ℕ). m * z) (sym (pow-add 2 k 1074))
own_exact (suc m) (negsuc k) t =
    round_exact binary64 false (suc m * 1) (2 ^ suc k) (suc m) (1074 - suc k) (pow_pos (suc k)) (fits_small false (suc m) (negsuc k) t)
    (lt_of_lt_of_le (shl_lt 53 (1074 - suc k) (fits_small false (suc m) (negsuc k) t)) (pow_mono {j = 2098} (room k)))
    (ap (λ (z : ℕ). z * 2 ^ 1074) (mul-one (suc m))
    ∙ ap (λ (z : ℕ). suc m * z) (ap (λ (z : ℕ). 2 ^ z) (back k (exp_le k (low_of m (negsuc k) t))) ∙ pow-add 2 (1074 - suc k) (suc k))
    ∙ sym (mul_assoc (suc m) (2 ^ (1074 - suc k)) (2 ^ suc k)))
  where
    room : (k : ℕ) → 53 + (1074 - suc k) ≤ 2098
    room k = omega arith

    back : (k : ℕ) → suc k ≤ 1074 → 1074 ≡ 1074 - suc k + suc k
    back k h = omega arith

pub round_own : (s : Bool) (x : Float) (a c : ℕ) → 0 < c → F64 x → HasValue x s a c → round binary64 s a c ≡ x
round_own s nan a c C t v = absurd v
round_own s (inf u) a c C t v = absurd v
round_own s (fin u m e) a c C t v =
    round_same binary64 s a c (m * up e) (down e) C (down_pos e) (sym v.1)
    ∙ ap (λ (z : Bool). round binary64 z (m * up e) (down e)) (sym v.0)
    ∙ go u t
  where
    plus : F64 (fin false m e) → round binary64 false (m * up e) (down e) ≡ fin false m e
    plus t = value_unique (round binary64 false (m * up e) (down e)) (fin false m e) false (m * up e) (down e) (down_pos e)
        (round-fits binary64 false (m * up e) (down e)) t (own_exact m e t) (refl, refl)

    go : (u : Bool) → F64 (fin u m e) → round binary64 u (m * up e) (down e) ≡ fin u m e
    go false t = plus t
    go true t = round_neg (m * up e) (down e) ∙ unfold neg in ap neg (plus (neg-fits binary64 (fin true m e) t))

-- so 1 times it is itself
pub one_times : (x : Float) → F64 x → mul binary64 one x ≡ x
unfolding of_bits
one_times nan t = unfold mul in refl
one_times (inf s) t = unfold mul in ap inf (unlike_false s)
  where
    unlike_false : (s : Bool) → unlike false s ≡ s
    unlike_false true = refl
    unlike_false false = refl
one_times (fin s m e) t = float_mul_comm (fin false 1 (pos 0)) (fin s m e)
    ∙ mul_round (fin s m e) (fin false 1 (pos 0)) s false (m * up e) (down e) 1 1 (down_pos e) (zero-lt-suc 0) (refl, refl) (refl, refl)
    ∙ same s (m * up e) (down e) ∙ round_own s (fin s m e) (m * up e) (down e) (down_pos e) t (refl, refl)
  where
    same : (s : Bool) (n d : ℕ) → round binary64 (unlike s false) (n * 1) (d * 1) ≡ round binary64 s n d
    same s n d = simp (unlike_plus s, mul-one)
