-- The order of floats: what it says of their values; that it is an order of the numbers; a sign turns it round, and a NaN has no place in it.
use mathlib.Core.Bool.{Bool, ◌&&◌, true, false, not, true≢false, ◌||◌, false≢true, beq}
use mathlib.Core.Path.{◌≡◌, refl, sym, ap, ◌∙◌, subst}
use Prim.Native.Nat.{ℕ, ◌+◌, ◌≤◌, zero, suc, ◌<◌, ◌*◌, zero-le}
use native.Mathlib.Nat.{le_antisymm, le_trans, le_of_eq, mul-pos, le_refl, le_of_lt, not-le_of_lt, zero-mul, zero-lt-suc, add_comm, lt_irrefl}
use native.Mathlib.Omega.{arith}
use lib.Dec.{T, ltb, eqb, eqb_refl, ltb→lt, eqb→eq, nltb→le, not_T, T_not}
use lib.Ieee.{Float, lt, le, is_nan, nan, inf, fin, eq, ne, neg, of_bits, up, down, below, level}
use lib.Ieee.Bits.{is_true, is_false}
use lib.Ieee.Exact.{HasValue}
use lib.Ieee.Fits.{up_pos, down_pos, and_l, and_r, and_i, eq→eqb}
use lib.Ieee.Order.{transfer}
use lib.Ieee.Positive.{through}
use lib.IntN.{pos, ℤ}
use borrow.Author.Tests.{lt-ltb, ltb-false}
use Rattle.laws.proofs.Number.{le_numbers}
use Rattle.laws.proofs.Tests.{and_true, or_left, or_right, or_case, eqb_iff, ltb_iff, zero_of}
use Rattle.laws.specs.Float.{zer, is_fin}

-- ---- values of one sign compare as their fractions do
pub eq_by_values : (s : Bool) (x y : Float) (a c b d : ℕ) → 0 < c → 0 < d → HasValue x s a c → HasValue y s b d → eq x y ≡ eqb (a * d) (b * c)
unfolding eq
eq_by_values s nan y a c b d C D p q = absurd p
eq_by_values s (inf u) y a c b d C D p q = absurd p
eq_by_values s (fin u m e) nan a c b d C D p q = absurd q
eq_by_values s (fin u m e) (inf v) a c b d C D p q = absurd q
eq_by_values s (fin u m e) (fin v n g) a c b d C D p q =
    ap (λ (z : Bool). eqb (m * up e * down g) (n * up g * down e) && (z || eqb (m * up e * down g) 0)) (alike u v (p.0 ∙ sym q.0))
    ∙ and_true (eqb (m * up e * down g) (n * up g * down e))
    ∙ eqb_iff (m * up e * down g) (n * up g * down e) (a * d) (b * c)
    (λ h. le_antisymm
    (transfer a b c d (m * up e) (n * up g) (down e) (down g) (down_pos e) (down_pos g) (sym p.1) (sym q.1) (le_of_eq h))
    (transfer b a d c (n * up g) (m * up e) (down g) (down e) (down_pos g) (down_pos e) (sym q.1) (sym p.1) (le_of_eq (sym h))))
    (λ h. le_antisymm
    (transfer (m * up e) (n * up g) (down e) (down g) a b c d C D p.1 q.1 (le_of_eq h))
    (transfer (n * up g) (m * up e) (down g) (down e) b a d c D C q.1 p.1 (le_of_eq (sym h))))
  where
    alike : (u v : Bool) → u ≡ v → beq u v ≡ true
    alike true true h = refl
    alike true false h = sym h
    alike false true h = h
    alike false false h = refl

pub lt_by_values : (x y : Float) (a c b d : ℕ) → 0 < c → 0 < d → HasValue x false a c → HasValue y false b d → lt x y ≡ ltb (a * d) (b * c)
unfolding lt
lt_by_values nan y a c b d C D p q = absurd p
lt_by_values (inf s) y a c b d C D p q = absurd p
lt_by_values (fin true m e) y a c b d C D p q = absurd (true≢false p.0)
lt_by_values (fin false m e) nan a c b d C D p q = absurd q
lt_by_values (fin false m e) (inf t) a c b d C D p q = absurd q
lt_by_values (fin false m e) (fin true n g) a c b d C D p q = absurd (true≢false q.0)
lt_by_values (fin false m e) (fin false n g) a c b d C D p q =
    ltb_iff (m * up e * down g) (n * up g * down e) (a * d) (b * c)
    (λ h. transfer b a d c (n * up g) (m * up e) (down g) (down e) (down_pos g) (down_pos e) (sym q.1) (sym p.1) h)
    (λ h. transfer (n * up g) (m * up e) (down g) (down e) b a d c D C q.1 p.1 h)

-- ---- a negative value is below one that is not, unless both are 0
pub neg_lt_nonneg : (m : ℕ) (e : ℤ) (y : Float) (b d : ℕ) → 0 < m → HasValue y false b d → lt (fin true m e) y ≡ true
unfolding lt
neg_lt_nonneg m e nan b d M q = absurd q
neg_lt_nonneg m e (inf t) b d M q = absurd q
neg_lt_nonneg m e (fin true n g) b d M q = absurd (true≢false q.0)
neg_lt_nonneg m e (fin false n g) b d M q =
    lt-ltb 0 (m * up e * down g + n * up g * down e) (some (m * up e * down g) (n * up g * down e) (mul-pos (mul-pos M (up_pos e)) (down_pos g)))
  where
    some : (a b : ℕ) → 0 < a → 0 < a + b
    some a b h = omega arith

pub neg_lt_pos : (x : Float) (a c : ℕ) (n : ℕ) (g : ℤ) → 0 < n → HasValue x true a c → lt x (fin false n g) ≡ true
unfolding lt
neg_lt_pos nan a c n g N q = absurd q
neg_lt_pos (inf t) a c n g N q = absurd q
neg_lt_pos (fin false m e) a c n g N q = absurd (false≢true q.0)
neg_lt_pos (fin true m e) a c n g N q =
    lt-ltb 0 (m * up e * down g + n * up g * down e) (some (m * up e * down g) (n * up g * down e) (mul-pos (mul-pos N (up_pos g)) (down_pos e)))
  where
    some : (a b : ℕ) → 0 < b → 0 < a + b
    some a b h = omega arith

pub neg_lt_zero : (x : Float) (a c : ℕ) → 0 < a → 0 < c → HasValue x true a c → lt x (fin false 0 (pos 0)) ≡ true
unfolding lt
neg_lt_zero nan a c A C q = absurd q
neg_lt_zero (inf t) a c A C q = absurd q
neg_lt_zero (fin false m e) a c A C q = absurd (false≢true q.0)
neg_lt_zero (fin true m e) a c A C q =
    lt-ltb 0 (m * up e * 1 + 0 * down e) (more (m * up e) (down e) (first (m * up e) c (subst (λ (z : ℕ). 0 < z) (sym q.1) (mul-pos A (down_pos e)))))
  where
    more : (a d : ℕ) → 0 < a → 0 < a * 1 + 0 * d
    more a d h = omega arith

    first : (n u : ℕ) → 0 < n * u → 0 < n
    first zero u h = absurd (lt_irrefl 0 (subst (λ (z : ℕ). 0 < z) (zero-mul u) h))
    first (suc n) u h = zero-lt-suc n

-- ---- the order of two finite numbers: ±A ≤ ±B
abbrev pub Below : Bool → ℕ → Bool → ℕ → Type 0
Below false A false B = A ≤ B
Below false A true B = (A ≡ 0) × (B ≡ 0)
Below true A false B = Unit
Below true A true B = B ≤ A

below_of : (s : Bool) (A : ℕ) (t : Bool) (B : ℕ) → T (below s A t B || level s A t B) → Below s A t B
below_of false A false B h = or_case (ltb A B) (eqb A B && true) (λ l. le_of_lt (ltb→lt A B l)) (λ l. le_of_eq (eqb→eq A B (and_l (eqb A B) true l))) h
below_of false A true B h = let z : A ≡ 0 = eqb→eq A 0 (and_r (eqb A B) (eqb A 0) h) in (z, sym (eqb→eq A B (and_l (eqb A B) (eqb A 0) h)) ∙ z)
below_of true A false B h = tt
below_of true A true B h = or_case (ltb B A) (eqb A B && true) (λ l. le_of_lt (ltb→lt B A l)) (λ l. le_of_eq (sym (eqb→eq A B (and_l (eqb A B) true l)))) h

of_below : (s : Bool) (A : ℕ) (t : Bool) (B : ℕ) → Below s A t B → T (below s A t B || level s A t B)
of_below s A t B h = go s t h
  where
    -- less, or else equal
    else_equal : (b : Bool) → (T (not b) → A ≡ B) → T (b || (eqb A B && true))
    else_equal true f = tt
    else_equal false f = and_i (eqb A B) true (eq→eqb (f tt)) tt

    zeros : (A ≡ 0) × (B ≡ 0) → T (eqb A B && eqb A 0)
    zeros z = and_i (eqb A B) (eqb A 0) (eq→eqb (z.0 ∙ sym z.1)) (eq→eqb z.0)

    nil : A + B ≤ 0 → (A ≡ 0) × (B ≡ 0)
    nil h = (omega arith, omega arith)

    minus_plus : (b : Bool) → (T (not b) → A + B ≤ 0) → T (b || (eqb A B && eqb A 0))
    minus_plus true f = tt
    minus_plus false f = zeros (nil (f tt))

    go : (s t : Bool) → Below s A t B → T (below s A t B || level s A t B)
    go false false h = else_equal (ltb A B) (λ n. le_antisymm h (nltb→le A B n))
    go false true h = zeros h
    go true false h = minus_plus (ltb 0 (A + B)) (nltb→le 0 (A + B))
    go true true h = else_equal (ltb B A) (λ n. le_antisymm (nltb→le B A n) h)

pub le_below : (s t : Bool) (m n : ℕ) (e d : ℤ) → T (le (fin s m e) (fin t n d)) → Below s (m * up e * down d) t (n * up d * down e)
unfolding le lt eq
le_below s t m n e d h = below_of s (m * up e * down d) t (n * up d * down e) h

pub below_le : (s t : Bool) (m n : ℕ) (e d : ℤ) → Below s (m * up e * down d) t (n * up d * down e) → T (le (fin s m e) (fin t n d))
unfolding le lt eq
below_le s t m n e d h = of_below s (m * up e * down d) t (n * up d * down e) h

-- less the one way excludes at most the other way, and what is not less is at most
strict : (s t : Bool) (A B : ℕ) → T (below s A t B) → Below t B s A → ⊥
strict false false A B h k = not-le_of_lt (ltb→lt A B h) k
strict false true A B h k = h
strict true false A B h k = some (ltb→lt 0 (A + B) h) k.0 k.1
  where
    some : 0 < A + B → B ≡ 0 → A ≡ 0 → ⊥
    some h p q = omega arith
strict true true A B h k = not-le_of_lt (ltb→lt B A h) k

not_below : (s t : Bool) (A B : ℕ) → below s A t B ≡ false → Below t B s A
not_below false false A B h = ltb-false A B h
not_below false true A B h = tt
not_below true false A B h = none (ltb-false 0 (A + B) h)
  where
    none : A + B ≤ 0 → (B ≡ 0) × (A ≡ 0)
    none k = (omega arith, omega arith)
not_below true true A B h = ltb-false B A h

-- ---- less and at most
pub lt_not_ge : (x y : Float) → T (lt x y) → T (le y x) → ⊥
unfolding le lt eq
lt_not_ge nan y h k = h
lt_not_ge (inf true) nan h k = h
lt_not_ge (inf true) (inf true) h k = h
lt_not_ge (inf true) (inf false) h k = k
lt_not_ge (inf true) (fin t n d) h k = k
lt_not_ge (inf false) nan h k = h
lt_not_ge (inf false) (inf t) h k = h
lt_not_ge (inf false) (fin t n d) h k = h
lt_not_ge (fin s m e) nan h k = h
lt_not_ge (fin s m e) (inf true) h k = h
lt_not_ge (fin s m e) (inf false) h k = k
lt_not_ge (fin s m e) (fin t n d) h k = strict s t (m * up e * down d) (n * up d * down e) h (below_of t (n * up d * down e) s (m * up e * down d) k)

pub lt_false : (x y : Float) → T (le y x) → lt x y ≡ false
lt_false x y k = is_false (lt x y) (not_T (lt x y) (λ (h : T (lt x y)). lt_not_ge x y h k))

pub le_false : (x y : Float) → T (lt x y) → le y x ≡ false
le_false x y h = is_false (le y x) (not_T (le y x) (λ (k : T (le y x)). lt_not_ge x y h k))

pub le_of_lt_true : (x y : Float) → T (lt x y) → T (le x y)
unfolding le
le_of_lt_true x y h = or_left (lt x y) (eq x y) h

pub le_of_lt_false : (x y : Float) → T (not (is_nan x)) → T (not (is_nan y)) → lt x y ≡ false → T (le y x)
unfolding le lt eq is_nan
le_of_lt_false nan y p q h = absurd p
le_of_lt_false (inf s) nan p q h = absurd q
le_of_lt_false (inf true) (inf true) p q h = tt
le_of_lt_false (inf true) (inf false) p q h = absurd (true≢false h)
le_of_lt_false (inf true) (fin t n d) p q h = absurd (true≢false h)
le_of_lt_false (inf false) (inf true) p q h = tt
le_of_lt_false (inf false) (inf false) p q h = tt
le_of_lt_false (inf false) (fin t n d) p q h = tt
le_of_lt_false (fin s m e) nan p q h = absurd q
le_of_lt_false (fin s m e) (inf true) p q h = tt
le_of_lt_false (fin s m e) (inf false) p q h = absurd (true≢false h)
le_of_lt_false (fin s m e) (fin t n d) p q h = of_below t (n * up d * down e) s (m * up e * down d) (not_below s t (m * up e * down d) (n * up d * down e) h)

pub lt_of_le_not_ge : (x y : Float) → T (le x y) → T (not (le y x)) → T (lt x y)
lt_of_le_not_ge x y h n = go (lt x y) refl
  where
    go : (b : Bool) → lt x y ≡ b → T b
    go true e = tt
    go false e = let k = le_numbers x y h in T_not (le y x) n (le_of_lt_false x y k.0 k.1 e)

-- equal numbers are at most each other, each way
level_back : (s t : Bool) (A B : ℕ) → T (level s A t B) → Below t B s A
level_back false false A B h = le_of_eq (sym (eqb→eq A B (and_l (eqb A B) true h)))
level_back false true A B h = tt
level_back true false A B h = let z : A ≡ 0 = eqb→eq A 0 (and_r (eqb A B) (eqb A 0) h) in (sym (eqb→eq A B (and_l (eqb A B) (eqb A 0) h)) ∙ z, z)
level_back true true A B h = le_of_eq (eqb→eq A B (and_l (eqb A B) true h))

pub eq_ge : (x y : Float) → T (eq x y) → T (le y x)
unfolding le lt eq
eq_ge nan y h = absurd h
eq_ge (inf s) nan h = absurd h
eq_ge (inf true) (inf true) h = tt
eq_ge (inf true) (inf false) h = absurd h
eq_ge (inf false) (inf true) h = absurd h
eq_ge (inf false) (inf false) h = tt
eq_ge (inf s) (fin t n d) h = absurd h
eq_ge (fin s m e) nan h = absurd h
eq_ge (fin s m e) (inf t) h = absurd h
eq_ge (fin s m e) (fin t n d) h = below_le t s n m d e (level_back s t (m * up e * down d) (n * up d * down e) h)

pub eq_le : (x y : Float) → T (eq x y) → T (le x y)
unfolding le
eq_le x y h = or_right (lt x y) (eq x y) h

pub values_le : (x y : Float) (a c b d : ℕ) → 0 < c → 0 < d → HasValue x false a c → HasValue y false b d → T (le x y) → a * d ≤ b * c
values_le x y a c b d C D p q h = ltb-false (b * c) (a * d) (sym (lt_by_values y x b d a c D C q p) ∙ lt_false y x h)

-- ---- at most is an order
pub float_le_refl : (x : Float) → T (not (is_nan x)) → T (le x x)
unfolding le lt eq is_nan
float_le_refl nan h = absurd h
float_le_refl (inf true) h = tt
float_le_refl (inf false) h = tt
float_le_refl (fin s m e) h = of_below s (m * up e * down e) s (m * up e * down e) (self s (m * up e * down e))
  where
    self : (s : Bool) (A : ℕ) → Below s A s A
    self true A = le_refl A
    self false A = le_refl A

-- ±a / c ≤ ±b / d ≤ ±p / q
below_trans : (s t u : Bool) (a c b d p q : ℕ) → 0 < c → 0 < d → 0 < q → Below s (a * d) t (b * c) → Below t (b * q) u (p * d) → Below s (a * q) u (p * c)
below_trans false false false a c b d p q C D Q h k = through a b p c d q D h k
below_trans false false true a c b d p q C D Q h k =
    let b0 : b ≡ 0 = zero_of b q Q (le_of_eq k.0) in
    let p0 : p ≡ 0 = zero_of p d D (le_of_eq k.1) in
    let a0 : a ≡ 0 = zero_of a d D (le_trans h (le_of_eq (ap (λ (z : ℕ). z * c) b0 ∙ zero-mul c))) in
    (ap (λ (z : ℕ). z * q) a0 ∙ zero-mul q, ap (λ (z : ℕ). z * c) p0 ∙ zero-mul c)
below_trans false true false a c b d p q C D Q h k = le_trans (le_of_eq (ap (λ (z : ℕ). z * q) (zero_of a d D (le_of_eq h.0)) ∙ zero-mul q)) zero-le
below_trans false true true a c b d p q C D Q h k =
    let p0 : p ≡ 0 = zero_of p d D (le_trans k (le_of_eq (ap (λ (z : ℕ). z * q) (zero_of b c C (le_of_eq h.1)) ∙ zero-mul q))) in
    (ap (λ (z : ℕ). z * q) (zero_of a d D (le_of_eq h.0)) ∙ zero-mul q, ap (λ (z : ℕ). z * c) p0 ∙ zero-mul c)
below_trans true false false a c b d p q C D Q h k = tt
below_trans true true false a c b d p q C D Q h k = tt
below_trans true false true a c b d p q C D Q h k = le_trans (le_of_eq (ap (λ (z : ℕ). z * c) (zero_of p d D (le_of_eq k.1)) ∙ zero-mul c)) zero-le
below_trans true true true a c b d p q C D Q h k = through p b a q d c D k h

pub float_le_trans : (x y z : Float) → T (le x y) → T (le y z) → T (le x z)
unfolding le lt eq
float_le_trans nan y z h k = absurd h
float_le_trans (inf true) y nan h k = absurd (last y k)
  where
    last : (y : Float) → T (le y nan) → ⊥
    last nan t = t
    last (inf s) t = t
    last (fin s m e) t = t
float_le_trans (inf true) y (inf true) h k = tt
float_le_trans (inf true) y (inf false) h k = tt
float_le_trans (inf true) y (fin u n g) h k = tt
float_le_trans (inf false) nan z h k = absurd h
float_le_trans (inf false) (inf true) z h k = absurd h
float_le_trans (inf false) (inf false) z h k = k
float_le_trans (inf false) (fin t n g) z h k = absurd h
float_le_trans (fin s m e) nan z h k = absurd h
float_le_trans (fin s m e) (inf true) z h k = absurd h
float_le_trans (fin s m e) (inf false) nan h k = absurd k
float_le_trans (fin s m e) (inf false) (inf true) h k = absurd k
float_le_trans (fin s m e) (inf false) (inf false) h k = tt
float_le_trans (fin s m e) (inf false) (fin u n g) h k = absurd k
float_le_trans (fin s m e) (fin t n g) nan h k = absurd k
float_le_trans (fin s m e) (fin t n g) (inf true) h k = absurd k
float_le_trans (fin s m e) (fin t n g) (inf false) h k = tt
float_le_trans (fin s m e) (fin t n g) (fin u p f) h k =
    of_below s (m * up e * down f) u (p * up f * down e)
    (below_trans s t u (m * up e) (down e) (n * up g) (down g) (p * up f) (down f) (down_pos e) (down_pos g) (down_pos f)
    (below_of s (m * up e * down g) t (n * up g * down e) h)
    (below_of t (n * up g * down f) u (p * up f * down g) k))

-- one of two steps strict
pub lt_le_trans : (x y z : Float) → T (lt x y) → T (le y z) → T (lt x z)
lt_le_trans x y z h k =
    lt_of_le_not_ge x z (float_le_trans x y z (le_of_lt_true x y h) k) (not_T (le z x) (λ (l : T (le z x)). lt_not_ge x y h (float_le_trans y z x k l)))

pub le_lt_trans : (x y z : Float) → T (le x y) → T (lt y z) → T (lt x z)
le_lt_trans x y z h k =
    lt_of_le_not_ge x z (float_le_trans x y z h (le_of_lt_true y z k)) (not_T (le z x) (λ (l : T (le z x)). lt_not_ge y z k (float_le_trans z x y l h)))

pub lt_of_not_ge : (x y : Float) → T (not (is_nan x)) → T (not (is_nan y)) → le y x ≡ false → lt x y ≡ true
lt_of_not_ge x y p q e = go (lt x y) refl
  where
    go : (b : Bool) → lt x y ≡ b → b ≡ true
    go true k = refl
    go false k = absurd (true≢false (sym (is_true (le y x) (le_of_lt_false x y p q k)) ∙ e))

-- what lies above 0 and below anything is finite
pub finite_between : (x y : Float) → lt zer x ≡ true → lt x y ≡ true → is_fin x ≡ true
unfolding lt of_bits
finite_between nan y h k = absurd (false≢true h)
finite_between (inf true) y h k = absurd (false≢true h)
finite_between (inf false) nan h k = absurd (false≢true k)
finite_between (inf false) (inf t) h k = absurd (false≢true k)
finite_between (inf false) (fin t n d) h k = absurd (false≢true k)
finite_between (fin s m e) y h k = refl

-- what lies between finite ends is finite
pub between_fin : (x lo hi : Float) → is_fin lo ≡ true → is_fin hi ≡ true → le lo x ≡ true → le x hi ≡ true → is_fin x ≡ true
unfolding le lt eq
between_fin nan nan hi l h a b = absurd (false≢true a)
between_fin nan (inf s) hi l h a b = absurd (false≢true l)
between_fin nan (fin s m e) hi l h a b = absurd (false≢true a)
between_fin (inf true) nan hi l h a b = absurd (false≢true l)
between_fin (inf true) (inf s) hi l h a b = absurd (false≢true l)
between_fin (inf true) (fin s m e) hi l h a b = absurd (false≢true a)
between_fin (inf false) lo nan l h a b = absurd (false≢true h)
between_fin (inf false) lo (inf s) l h a b = absurd (false≢true h)
between_fin (inf false) lo (fin s m e) l h a b = absurd (false≢true b)
between_fin (fin s m e) lo hi l h a b = refl

-- ---- a sign turns it round
pub neg_neg : (x : Float) → neg (neg x) ≡ x
unfolding neg
neg_neg nan = refl
neg_neg (inf true) = refl
neg_neg (inf false) = refl
neg_neg (fin true m e) = refl
neg_neg (fin false m e) = refl

pub le_neg : (x y : Float) → T (le x y) → T (le (neg y) (neg x))
unfolding le lt eq neg
le_neg nan y h = absurd h
le_neg (inf true) nan h = absurd h
le_neg (inf false) nan h = absurd h
le_neg (inf true) (inf true) h = tt
le_neg (inf true) (inf false) h = tt
le_neg (inf false) (inf true) h = absurd h
le_neg (inf false) (inf false) h = tt
le_neg (inf true) (fin t n d) h = tt
le_neg (inf false) (fin t n d) h = absurd h
le_neg (fin s m e) nan h = absurd h
le_neg (fin s m e) (inf true) h = absurd h
le_neg (fin s m e) (inf false) h = tt
le_neg (fin s m e) (fin t n d) h = of_below (not t) (n * up d * down e) (not s) (m * up e * down d)
    (turned s t (m * up e * down d) (n * up d * down e) (below_of s (m * up e * down d) t (n * up d * down e) h))
  where
    turned : (s t : Bool) (A B : ℕ) → Below s A t B → Below (not t) B (not s) A
    turned false false A B h = h
    turned false true A B h = (h.1, h.0)
    turned true false A B h = tt
    turned true true A B h = h

pub lt_neg : (x y : Float) → lt (neg y) (neg x) ≡ lt x y
unfolding lt neg
lt_neg nan nan = refl
lt_neg nan (inf true) = refl
lt_neg nan (inf false) = refl
lt_neg nan (fin t n g) = refl
lt_neg (inf s) nan = refl
lt_neg (inf true) (inf true) = refl
lt_neg (inf true) (inf false) = refl
lt_neg (inf false) (inf true) = refl
lt_neg (inf false) (inf false) = refl
lt_neg (inf true) (fin t n g) = refl
lt_neg (inf false) (fin t n g) = refl
lt_neg (fin s m e) nan = refl
lt_neg (fin s m e) (inf true) = refl
lt_neg (fin s m e) (inf false) = refl
lt_neg (fin true m e) (fin true n g) = refl
lt_neg (fin true m e) (fin false n g) = ap (λ (z : ℕ). ltb 0 z) (add_comm (n * up g * down e) (m * up e * down g))
lt_neg (fin false m e) (fin true n g) = refl
lt_neg (fin false m e) (fin false n g) = refl

-- ---- infinity is below nothing
pub inf_not_below : (y : Float) → lt (inf false) y ≡ false
unfolding lt
inf_not_below nan = refl
inf_not_below (inf t) = refl
inf_not_below (fin t n d) = refl

-- ---- a NaN: it alone differs from itself, and it is below nothing and above nothing
pub number_test : (x : Float) → eq x x ≡ not (is_nan x)
unfolding eq is_nan
number_test nan = refl
number_test (inf true) = refl
number_test (inf false) = refl
number_test (fin s m e) = is_true (level s (m * up e * down e) s (m * up e * down e))
    (and_i (eqb (m * up e * down e) (m * up e * down e)) (beq s s || eqb (m * up e * down e) 0) (eqb_refl (m * up e * down e)) (same s))
  where
    same : (s : Bool) → T (beq s s || eqb (m * up e * down e) 0)
    same true = tt
    same false = tt

pub nan_test : (x : Float) → ne x x ≡ is_nan x
unfolding ne
nan_test x = ap not (number_test x) ∙ twice (is_nan x)
  where
    twice : (b : Bool) → not (not b) ≡ b
    twice true = refl
    twice false = refl

pub nan_lt : (x : Float) → lt nan x ≡ false
unfolding lt
nan_lt x = refl

pub lt_nan : (x : Float) → lt x nan ≡ false
unfolding lt
lt_nan nan = refl
lt_nan (inf s) = refl
lt_nan (fin s m e) = refl
