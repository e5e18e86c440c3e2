-- Bounds that rounded products, sums and differences keep, since rounding keeps an order: from 0 to 2 ^ -i, a size of at most 2 ^ i, from -1 to 1.
-- So a polynomial whose terms halve is shown to lie from 0 to 1, and any polynomial to be finite, without a word on errors.
use mathlib.Core.Bool.{Bool, beq, ◌&&◌, cond, false, not, true, true≢false}
use mathlib.Core.Path.{◌∙◌, ◌≡◌, ap, refl, subst, sym}
use Prim.Native.Nat.{◌*◌, ◌+◌, ◌-◌, ◌<◌, ◌^◌, ◌≤◌, suc, ℕ}
use native.Mathlib.Nat.{add-le-add, le_of_eq, le_trans, mul_assoc, mul_comm, mul-le-mul, mul-le-mul_left, mul-le-mul_right}
use native.Mathlib.Nat.{mul-mul-mul_comm, mul-one, mul-pos, mul_right_comm, not-le_of_lt, one-mul, pow-suc, zero-lt-suc}
use native.Mathlib.Omega.{arith}
use lib.Dec.{T, leb, leb→le, lit<, lit≤, ltb, ltb→lt, nleb→lt}
use lib.Ieee.{Float, add, binary64, down, eq, fin, fits, inf, le, lt, mul, nan, neg, of_bits, round, sub, sum, unlike, up}
use lib.Ieee.Exact.{HasValue, round_exact}
use lib.Ieee.Fits.{and_l, and_r, down_pos}
use lib.Ieee.Order.{le_of_values, round_mono}
use lib.Ieee.Positive.{den, den_pos, num, own_value, positive}
use lib.IntN.{negsuc, pos, ℤ}
use lib.Pow.{pow-add, pow-lt, pow_mono, pow_pos}
use Rattle.laws.proofs.Monotone.{round_le}
use Rattle.laws.proofs.Number.{Signed, round_signed, sum_by}
use Rattle.laws.proofs.Order.{Below, below_le, le_below, le_neg, le_of_lt_true, neg_lt_nonneg, neg_lt_pos, neg_neg, values_le}
use Rattle.laws.proofs.Tests.{of_true}
use Rattle.laws.proofs.Values.{add_round, exact_at, fits_small, float_mul_comm, mul_round, neg_value, signed_value}
use Rattle.laws.proofs.Values.{sub_mul', sub_round, sum_pos_neg, unlike_plus}
use Rattle.laws.specs.Float.{F64, InUnit, is_fin, one}

-- a value that is not above a finite one is finite
pub under : (x y : Float) (b d : ℕ) → Signed false x → 0 < d → HasValue y false b d → T (le x y)
    → (a : ℕ) × (c : ℕ) × (0 < c) × (a * d ≤ b * c) × HasValue x false a c
unfolding le lt eq
under nan y b d p D v h = absurd p
under (inf true) y b d p D v h = absurd (true≢false p)
under (inf false) nan b d p D v h = absurd v
under (inf false) (inf t) b d p D v h = absurd v
under (inf false) (fin t n g) b d p D v h = absurd h
under (fin true m e) y b d p D v h = absurd (true≢false p)
under (fin false m e) y b d p D v h =
    (m * up e, down e, down_pos e, values_le (fin false m e) y (m * up e) (down e) b d (down_pos e) D (refl, refl) v h, (refl, refl))

-- ---- x has the sign s, and |x| is at most p / d
abbrev pub Under : ℕ → ℕ → Bool → Float → Type 0
Under p d s x = (a : ℕ) × (c : ℕ) × (0 < c) × (a * d ≤ p * c) × HasValue x s a c

-- p / d is an f64
abbrev pub Exact : ℕ → ℕ → Type 0
Exact p d = HasValue (round binary64 false p d) false p d

pub round_under : (s : Bool) (a c p d : ℕ) → 0 < c → 0 < d → a * d ≤ p * c → Exact p d → Under p d s (round binary64 s a c)
round_under s a c p d C D h top =
    let r = under (round binary64 false a c) (round binary64 false p d) p d (round_signed false a c) D top (round_mono binary64 a c p d C D h) in
    (r.0, r.1, r.2, r.3, signed_value s a c r.0 r.1 r.4)

pub sum_under : (s t : Bool) (a b c p d : ℕ) → 0 < c → 0 < d → (a + b) * d ≤ p * c → Exact p d → (r : Bool) × Under p d r (sum binary64 s a t b c)
sum_under s t a b c p d C D h top =
    sum_by (λ x. (r : Bool) × Under p d r x) s t a b c (λ r q l. (r, round_under r q c p d C D (le_trans (mul-le-mul_right d l) h) top))

-- two values of one sign that differ by p / q at most
pub sub_under : (s : Bool) (x y : Float) (a c b d p q : ℕ) → 0 < c → 0 < d → 0 < q → HasValue x s a c → HasValue y s b d
    → a * d * q ≤ b * c * q + p * (c * d) → b * c * q ≤ a * d * q + p * (c * d) → Exact p q → (r : Bool) × Under p q r (sub binary64 x y)
unfolding sum
sub_under s x y a c b d p q C D Q v w h k top =
    subst (λ (z : Float). (r : Bool) × Under p q r z) (sym (sub_round x y s s a c b d C D v w)) (go s (ltb (a * d) (b * c)))
  where
    rounded : (r : Bool) (m n : ℕ) → m * q ≤ n * q + p * (c * d) → (t : Bool) × Under p q t (round binary64 r (m - n) (c * d))
    rounded r m n h =
        (r, round_under r (m - n) (c * d) p q (mul-pos C D) Q (le_trans (le_of_eq (sub_mul' m n q)) (less (m * q) (n * q) (p * (c * d)) h)) top)
      where
        less : (m n k : ℕ) → m ≤ n + k → m - n ≤ k
        less m n k h = omega arith

    go : (s t : Bool)
        → (r : Bool)
        × Under p q r (cond (beq s (not s)) (round binary64 s (a * d + b * c) (c * d))
        (cond t (round binary64 (not s) (b * c - a * d) (c * d)) (round binary64 (s && ltb (b * c) (a * d)) (a * d - b * c) (c * d))))
    go true true = rounded false (b * c) (a * d) k
    go true false = rounded (ltb (b * c) (a * d)) (a * d) (b * c) h
    go false true = rounded true (b * c) (a * d) k
    go false false = rounded false (a * d) (b * c) h

-- ---- x is from 0 to 2 ^ -i
abbrev pub Part : ℕ → Float → Type 0
Part i x = (a : ℕ) × (c : ℕ) × (0 < c) × (a * 2 ^ i ≤ c) × HasValue x false a c

-- x is from 2 ^ -j to 2 ^ -i
abbrev pub Between : ℕ → ℕ → Float → Type 0
Between j i x = (a : ℕ) × (c : ℕ) × (0 < c) × (c ≤ a * 2 ^ j) × (a * 2 ^ i ≤ c) × HasValue x false a c

-- of a given number both are computed
abbrev pub in_part : ℕ → Float → Bool
in_part i x = positive x && leb (num x * 2 ^ i) (den x)

pub part_of : (i : ℕ) (x : Float) → T (in_part i x) → Part i x
part_of i x t =
    let p = and_l (positive x) (leb (num x * 2 ^ i) (den x)) t in
    (num x, den x, den_pos x, leb→le (num x * 2 ^ i) (den x) (and_r (positive x) (leb (num x * 2 ^ i) (den x)) t), own_value x p)

abbrev pub is_between : ℕ → ℕ → Float → Bool
is_between j i x = in_part i x && leb (den x) (num x * 2 ^ j)

pub between_of : (j i : ℕ) (x : Float) → T (is_between j i x) → Between j i x
unfolding part_of
between_of j i x t =
    let p = part_of i x (and_l (in_part i x) (leb (den x) (num x * 2 ^ j)) t) in
    (p.0, p.1, p.2, leb→le (den x) (num x * 2 ^ j) (and_r (in_part i x) (leb (den x) (num x * 2 ^ j)) t), p.3, p.4)

pub part_round : (i a c : ℕ) → i ≤ 1074 → 0 < c → a * 2 ^ i ≤ c → Part i (round binary64 false a c)
part_round i a c I C h =
    let r = round_under false a c 1 (2 ^ i) C (pow_pos i) (le_trans h (le_of_eq (sym (one-mul c)))) (exact_at false 1 i (lit< tt) I) in
    (r.0, r.1, r.2, le_trans r.3 (le_of_eq (one-mul r.1)), r.4)

pub part_mul : (i : ℕ) (x y : Float) → i ≤ 1074 → Part i x → Part 0 y → Part i (mul binary64 x y)
part_mul i x y I p q =
    subst (Part i) (sym (mul_round x y false false p.0 p.1 q.0 q.1 p.2 q.2 p.4 q.4))
    (part_round i (p.0 * q.0) (p.1 * q.1) I (mul-pos p.2 q.2)
    (le_trans (le_of_eq (mul_right_comm p.0 q.0 (2 ^ i)))
    (le_trans (mul-le-mul_right q.0 p.3) (mul-le-mul_left p.1 (le_trans (le_of_eq (sym (mul-one q.0))) q.3)))))

pub part_mul' : (i : ℕ) (x y : Float) → i ≤ 1074 → Part 0 x → Part i y → Part i (mul binary64 x y)
part_mul' i x y I p q = subst (Part i) (float_mul_comm y x) (part_mul i y x I q p)

-- two halves are at most a whole
pub part_add : (i : ℕ) (x y : Float) → i ≤ 1074 → Part (suc i) x → Part (suc i) y → Part i (add binary64 x y)
unfolding sum
part_add i x y I p q =
    subst (Part i) (sym (add_round x y false false p.0 p.1 q.0 q.1 p.2 q.2 p.4 q.4))
    (part_round i (p.0 * q.1 + q.0 * p.1) (p.1 * q.1) I (mul-pos p.2 q.2)
    (both (p.0 * q.1 * 2 ^ i) (q.0 * p.1 * 2 ^ i) (p.1 * q.1) (side p.0 p.1 q.1 p.3)
    (le_trans (side q.0 q.1 p.1 q.3) (le_of_eq (mul_comm q.1 p.1))) (spread (p.0 * q.1) (q.0 * p.1) (2 ^ i))))
  where
    side : (a c d : ℕ) → a * 2 ^ suc i ≤ c → a * d * 2 ^ i * 2 ≤ c * d
    side a c d h = le_trans (le_of_eq (turn a d (2 ^ i) ∙ ap (λ (z : ℕ). a * z * d) (sym (pow-suc 2 i)))) (mul-le-mul_right d h)
      where
        turn : (a d u : ℕ) → a * d * u * 2 ≡ a * (u * 2) * d
        turn a d u = omega arith

    spread : (m n u : ℕ) → (m + n) * u ≡ m * u + n * u
    spread m n u = omega arith

    both : (m n t : ℕ) {w : ℕ} → m * 2 ≤ t → n * 2 ≤ t → w ≡ m + n → w ≤ t
    both m n t h k e = omega arith

-- what is at least 2 ^ -j less what is at most that
pub part_sub : (j i : ℕ) (x y : Float) → i ≤ 1074 → Between j i x → Part j y → Part i (sub binary64 x y)
part_sub j i x y I p q =
    subst (Part i)
    (sym (sub_round x y false false p.0 p.1 q.0 q.1 p.2 q.2 p.5 q.4 ∙ sum_pos_neg (p.0 * q.1) (q.0 * p.1) (p.1 * q.1) above))
    (part_round i (p.0 * q.1 - q.0 * p.1) (p.1 * q.1) I (mul-pos p.2 q.2)
    (le_trans (mul-le-mul_right (2 ^ i) (less (p.0 * q.1) (q.0 * p.1)))
    (le_trans (le_of_eq (mul_right_comm p.0 q.1 (2 ^ i))) (mul-le-mul_right q.1 p.4))))
  where
    above : q.0 * p.1 ≤ p.0 * q.1
    above = le_trans (mul-le-mul_left q.0 p.3) (le_trans (le_of_eq (turn q.0 p.0 (2 ^ j))) (mul-le-mul_left p.0 q.3))
      where
        turn : (b a u : ℕ) → b * (a * u) ≡ a * (b * u)
        turn b a u = omega arith

    less : (m n : ℕ) → m - n ≤ m
    less m n = omega arith

-- ---- x has the sign s, and |x| is at most 2 ^ i
abbrev pub Sized : Bool → ℕ → Float → Type 0
Sized s i x = (a : ℕ) × (c : ℕ) × (0 < c) × (a ≤ 2 ^ i * c) × HasValue x s a c

-- 2 ^ i is an f64
power_exact : (i : ℕ) → i ≤ 1023 → Exact (2 ^ i) 1
power_exact i I =
    round_exact binary64 false (2 ^ i) 1 1 (i + 1074) (zero-lt-suc 0) (lit< tt)
    (subst (λ (z : ℕ). z < 2 ^ 2098) (sym (one-mul (2 ^ (i + 1074)))) (pow-lt {j = 2098} (room i I)))
    (sym (pow-add 2 i 1074) ∙ sym (one-mul (2 ^ (i + 1074))) ∙ sym (mul-one (1 * 2 ^ (i + 1074))))
  where
    room : (i : ℕ) → i ≤ 1023 → i + 1074 < 2098
    room i h = omega arith

sized_of : (s : Bool) (i : ℕ) (x : Float) → Under (2 ^ i) 1 s x → Sized s i x
sized_of s i x r = (r.0, r.1, r.2, le_trans (le_of_eq (sym (mul-one r.0))) r.3, r.4)

pub round_sized : (s : Bool) (i a c : ℕ) → i ≤ 1023 → 0 < c → a ≤ 2 ^ i * c → Sized s i (round binary64 s a c)
round_sized s i a c I C h =
    sized_of s i (round binary64 s a c) (round_under s a c (2 ^ i) 1 C (zero-lt-suc 0) (le_trans (le_of_eq (mul-one a)) h) (power_exact i I))

pub part_sized : (x : Float) → Part 0 x → Sized false 0 x
part_sized x p = (p.0, p.1, p.2, le_trans (le_of_eq (sym (mul-one p.0))) (le_trans p.3 (le_of_eq (sym (one-mul p.1)))), p.4)

-- a product with what lies from 0 to 1 keeps both
pub sized_mul : (s : Bool) (i : ℕ) (x y : Float) → i ≤ 1023 → Sized s i x → Part 0 y → Sized s i (mul binary64 x y)
sized_mul s i x y I p q =
    subst (Sized s i) (sym (mul_round x y s false p.0 p.1 q.0 q.1 p.2 q.2 p.4 q.4
    ∙ ap (λ (t : Bool). round binary64 t (p.0 * q.0) (p.1 * q.1)) (unlike_plus s)))
    (round_sized s i (p.0 * q.0) (p.1 * q.1) I (mul-pos p.2 q.2)
    (le_trans (mul-le-mul p.3 (le_trans (le_of_eq (sym (mul-one q.0))) q.3)) (le_of_eq (mul_assoc (2 ^ i) p.1 q.1))))

-- the square of what lies from -1 to 1
pub part_square : (s : Bool) (x : Float) → Sized s 0 x → Part 0 (mul binary64 x x)
part_square s x p =
    subst (Part 0) (sym (mul_round x x s s p.0 p.1 p.0 p.1 p.2 p.2 p.4 p.4
    ∙ ap (λ (t : Bool). round binary64 t (p.0 * p.0) (p.1 * p.1)) (like s)))
    (part_round 0 (p.0 * p.0) (p.1 * p.1) (lit≤ tt) (mul-pos p.2 p.2) (le_trans (le_of_eq (mul-one (p.0 * p.0))) (mul-le-mul h h)))
  where
    h : p.0 ≤ p.1
    h = le_trans p.3 (le_of_eq (one-mul p.1))

    like : (s : Bool) → unlike s s ≡ false
    like true = refl
    like false = refl

-- ---- from -1 to 1
round_unit : (s : Bool) (a c : ℕ) → 0 < c → a ≤ c → InUnit (round binary64 s a c)
round_unit s a c C h = (
  subst (λ (z : Float). T (le z (round binary64 s a c))) low (round_le true s 1 1 a c (zero-lt-suc 0) C (above s)),
  subst (λ (z : Float). T (le (round binary64 s a c) z)) high (round_le s false a c 1 1 C (zero-lt-suc 0) (beneath s)),
)
  where
    low : round binary64 true 1 1 ≡ neg one
    low = unfold round neg of_bits in refl

    high : round binary64 false 1 1 ≡ one
    high = unfold round of_bits in refl

    most : a * 1 ≤ 1 * c
    most = le_trans (le_of_eq (mul-one a)) (le_trans h (le_of_eq (sym (one-mul c))))

    above : (s : Bool) → Below true (1 * c) s (a * 1)
    above true = most
    above false = tt

    beneath : (s : Bool) → Below s (a * 1) false (1 * c)
    beneath true = tt
    beneath false = most

pub neg_unit : (v : Float) → InUnit v → InUnit (neg v)
neg_unit v h = (le_neg v one h.1, subst (λ (z : Float). T (le (neg v) z)) (neg_neg one) (le_neg (neg one) v h.0))

-- the difference of two values of one sign from -1 to 1
pub unit_sub : (s : Bool) (x y : Float) → Sized s 0 x → Sized s 0 y → InUnit (sub binary64 x y)
unfolding sum
unit_sub s x y p q = subst InUnit (sym (sub_round x y s s p.0 p.1 q.0 q.1 p.2 q.2 p.4 q.4)) (go s (ltb A B))
  where
    A : ℕ
    A = p.0 * q.1

    B : ℕ
    B = q.0 * p.1

    C : ℕ
    C = p.1 * q.1

    pos_c : 0 < C
    pos_c = mul-pos p.2 q.2

    less : (m n k : ℕ) → m ≤ k → m - n ≤ k
    less m n k h = omega arith

    left : A - B ≤ C
    left = less A B C (mul-le-mul_right q.1 (le_trans p.3 (le_of_eq (one-mul p.1))))

    right : B - A ≤ C
    right = less B A C (le_trans (mul-le-mul_right p.1 (le_trans q.3 (le_of_eq (one-mul q.1)))) (le_of_eq (mul_comm q.1 p.1)))

    go : (s t : Bool)
        → InUnit (cond (beq s (not s)) (round binary64 s (A + B) C) (cond t (round binary64 (not s) (B - A) C) (round binary64 (s && ltb B A) (A - B) C)))
    go true true = round_unit false (B - A) C pos_c right
    go true false = round_unit (ltb B A) (A - B) C pos_c left
    go false true = round_unit true (B - A) C pos_c right
    go false false = round_unit false (A - B) C pos_c left

-- ---- |x| is at most 2 ^ i: so x is finite
abbrev pub Within : ℕ → Float → Type 0
Within i x = (s : Bool) × Sized s i x

pub within_finite : (i : ℕ) (x : Float) → Within i x → T (is_fin x)
within_finite i nan h = absurd h.1.4
within_finite i (inf s) h = absurd h.1.4
within_finite i (fin s m e) h = tt

-- of a given number it is computed
abbrev pub is_within : ℕ → Float → Bool
is_within i nan = false
is_within i (inf s) = false
is_within i (fin s m e) = leb (m * up e) (2 ^ i * down e)

pub within_of : (i : ℕ) (x : Float) → T (is_within i x) → Within i x
within_of i nan h = absurd h
within_of i (inf s) h = absurd h
within_of i (fin s m e) h = (s, (m * up e, down e, down_pos e, leb→le (m * up e) (2 ^ i * down e) h, (refl, refl)))

pub within_to : (i j : ℕ) (x : Float) → i ≤ j → Within i x → Within j x
within_to i j x l h = let p = h.1 in (h.0, (p.0, p.1, p.2, le_trans p.3 (mul-le-mul_right p.1 (pow_mono l)), p.4))

pub within_neg : (i : ℕ) (x : Float) → Within i x → Within i (neg x)
within_neg i x h = let p = h.1 in (not h.0, (p.0, p.1, p.2, p.3, neg_value x h.0 p.0 p.1 p.4))

within_round : (i : ℕ) (s : Bool) (a c : ℕ) → i ≤ 1023 → 0 < c → a ≤ 2 ^ i * c → Within i (round binary64 s a c)
within_round i s a c I C h = (s, round_sized s i a c I C h)

pub within_mul : (i j : ℕ) (x y : Float) → i + j ≤ 1023 → Within i x → Within j y → Within (i + j) (mul binary64 x y)
within_mul i j x y I h k =
    let p = h.1 in
    let q = k.1 in
    subst (Within (i + j)) (sym (mul_round x y h.0 k.0 p.0 p.1 q.0 q.1 p.2 q.2 p.4 q.4))
    (within_round (i + j) (unlike h.0 k.0) (p.0 * q.0) (p.1 * q.1) I (mul-pos p.2 q.2)
    (le_trans (mul-le-mul p.3 q.3) (le_of_eq (mul-mul-mul_comm (2 ^ i) p.1 (2 ^ j) q.1 ∙ ap (λ (z : ℕ). z * (p.1 * q.1)) (sym (pow-add 2 i j))))))

-- the size of a sum is at most that of both
pub within_sum : (i : ℕ) (s t : Bool) (a b c : ℕ) → i ≤ 1023 → 0 < c → a + b ≤ 2 ^ i * c → Within i (sum binary64 s a t b c)
within_sum i s t a b c I C h =
    let r = sum_under s t a b c (2 ^ i) 1 C (zero-lt-suc 0) (le_trans (le_of_eq (mul-one (a + b))) h) (power_exact i I) in
    (r.0, sized_of r.0 i (sum binary64 s a t b c) r.1)

pub within_add : (i : ℕ) (x y : Float) → suc i ≤ 1023 → Within i x → Within i y → Within (suc i) (add binary64 x y)
within_add i x y I h k =
    let p = h.1 in
    let q = k.1 in
    subst (Within (suc i)) (sym (add_round x y h.0 k.0 p.0 p.1 q.0 q.1 p.2 q.2 p.4 q.4))
    (within_sum (suc i) h.0 k.0 (p.0 * q.1) (q.0 * p.1) (p.1 * q.1) I (mul-pos p.2 q.2)
    (le_trans (add-le-add (le_trans (mul-le-mul_right q.1 p.3) (le_of_eq (mul_assoc (2 ^ i) p.1 q.1)))
    (le_trans (mul-le-mul_right p.1 q.3) (le_of_eq (mul_assoc (2 ^ i) q.1 p.1 ∙ ap (λ (z : ℕ). 2 ^ i * z) (mul_comm q.1 p.1)))))
    (le_of_eq (twice (2 ^ i) (p.1 * q.1) ∙ ap (λ (z : ℕ). z * (p.1 * q.1)) (sym (pow-suc 2 i))))))
  where
    twice : (u n : ℕ) → u * n + u * n ≡ u * 2 * n
    twice u n = omega arith

pub within_minus : (i : ℕ) (x y : Float) → suc i ≤ 1023 → Within i x → Within i y → Within (suc i) (sub binary64 x y)
unfolding sub
within_minus i x y I h k = within_add i x (neg y) I h (within_neg i y k)

-- two values of one sign that differ by 1 at most
pub within_sub : (s : Bool) (x y : Float) (a c b d : ℕ) → 0 < c → 0 < d → HasValue x s a c → HasValue y s b d → a * d ≤ b * c + c * d → b * c ≤ a * d + c * d
    → Within 0 (sub binary64 x y)
within_sub s x y a c b d C D v w h k =
    let r = sub_under s x y a c b d 1 1 C D (lit< tt) v w (ones (a * d) (b * c) (c * d) h) (ones (b * c) (a * d) (c * d) k) (power_exact 0 (lit≤ tt)) in
    (r.0, sized_of r.0 0 (sub binary64 x y) r.1)
  where
    ones : (m n u : ℕ) → m ≤ n + u → m * 1 ≤ n * 1 + 1 * u
    ones m n u h = omega arith

-- ---- by the order: from -2 ^ i to 2 ^ i
without_ones : (a d u : ℕ) → a * 1 ≤ 1 * u * d → a ≤ u * d
without_ones a d u h = omega arith

pub within_between : (i : ℕ) (x : Float) → T (le (fin true 1 (pos i)) x) → T (le x (fin false 1 (pos i))) → Within i x
within_between i nan h k = absurd (unfold le lt eq in k)
within_between i (inf true) h k = absurd (unfold le lt eq in h)
within_between i (inf false) h k = absurd (unfold le lt eq in k)
within_between i (fin false m e) h k =
    (false, (m * up e, down e, down_pos e, without_ones (m * up e) (down e) (2 ^ i) (le_below false false m 1 e (pos i) k), (refl, refl)))
within_between i (fin true m e) h k =
    (true, (m * up e, down e, down_pos e, without_ones (m * up e) (down e) (2 ^ i) (le_below true true 1 m (pos i) e h), (refl, refl)))

pub within_le : (i : ℕ) (x : Float) → Within i x → T (le x (fin false 1 (pos i))) × T (le (fin true 1 (pos i)) x)
within_le i x (s, (a, c, C, h, v)) = go s v
  where
    top : Float
    top = fin false 1 (pos i)

    size : HasValue top false (2 ^ i) 1
    size = (refl, one_of (2 ^ i))
      where
        one_of : (u : ℕ) → 1 * u * 1 ≡ u * 1
        one_of u = omega arith

    most : a * 1 ≤ 2 ^ i * c
    most = le_trans (le_of_eq (mul-one a)) h

    go : (s : Bool) → HasValue x s a c → T (le x top) × T (le (fin true 1 (pos i)) x)
    go false v = (
      le_of_values x top a c (2 ^ i) 1 C (lit< tt) v size most,
      le_of_lt_true (fin true 1 (pos i)) x (of_true (lt (fin true 1 (pos i)) x) (neg_lt_nonneg 1 (pos i) x a c (lit< tt) v)),
    )
    go true v = (
      le_of_lt_true x top (of_true (lt x top) (neg_lt_pos x a c 1 (pos i) (lit< tt) v)),
      unfold neg in
          subst (λ (z : Float). T (le (fin true 1 (pos i)) z)) (neg_neg x)
          (le_neg (neg x) top (le_of_values (neg x) top a c (2 ^ i) 1 C (lit< tt) (neg_value x true a c v) size most)),
    )

-- a number from -1 to 1
pub unit_within : (x : Float) → InUnit x → Within 0 x
unfolding of_bits neg
unit_within x h = within_between 0 x h.0 h.1

pub within_unit : (x : Float) → Within 0 x → InUnit x
unfolding of_bits neg
within_unit x h = let r = within_le 0 x h in (r.1, r.0)

-- ---- the float before 1: what is below 1 is at most 1 - 2 ^ -53
before : (n d : ℕ) → n < d → (9007199254740992 ≤ d → n < 9007199254740992) → n * 9007199254740992 ≤ 9007199254740991 * d
before n d h k = go (leb 9007199254740992 d) (leb→le 9007199254740992 d) (nleb→lt 9007199254740992 d)
  where
    large : 9007199254740992 ≤ d → n < 9007199254740992 → n * 9007199254740992 ≤ 9007199254740991 * d
    large l m = omega arith

    small : d < 9007199254740992 → n * 9007199254740992 ≤ 9007199254740991 * d
    small l = omega arith

    go : (b : Bool) → (T b → 9007199254740992 ≤ d) → (T (not b) → d < 9007199254740992) → n * 9007199254740992 ≤ 9007199254740991 * d
    go true f g = large (f tt) (k (f tt))
    go false f g = small (g tt)

few : (s : Bool) (m : ℕ) (e : ℤ) → T (fits binary64 (fin s m e)) → 9007199254740992 ≤ down e → m * up e < 9007199254740992
few s m (pos k) t h = absurd (not-le_of_lt (lit< {m = 1} {n = 9007199254740992} tt) h)
few s m (negsuc k) t h = subst (λ (z : ℕ). z < 9007199254740992) (sym (mul-one m)) (fits_small s m (negsuc k) t)

pub below_one : (x : Float) → F64 x → T (lt x one) → T (le x (of_bits binary64 0x3fefffffffffffff))
unfolding of_bits
below_one nan t h = absurd (unfold lt in h)
below_one (inf true) t h = unfold le lt eq in tt
below_one (inf false) t h = absurd (unfold lt in h)
below_one (fin true m e) t h = below_le true false m 9007199254740991 e (negsuc 52) tt
below_one (fin false m e) t h =
    below_le false false m 9007199254740991 e (negsuc 52)
    (le_trans (before (m * up e) (down e) (strict (m * up e) (down e) (ltb→lt (m * up e * 1) (1 * down e) (unfold lt in h))) (few false m e t))
    (le_of_eq (ap (λ (z : ℕ). z * down e) (sym (mul-one 9007199254740991)))))
  where
    strict : (n d : ℕ) → n * 1 < 1 * d → n < d
    strict n d h = omega arith
