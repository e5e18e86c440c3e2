-- The row counter: how it climbs, and which rows change when it comes to an index.
use Rattle.std.proofs.Common.{◌≡◌, ℕ, zero, suc, ◌+◌, ◌-◌, ◌*◌, ◌/◌, ◌%◌, ◌^◌, ◌<◌, ◌≤◌, min, Bool, true, false, cond, eqb, ltb, leb, sym, refl, ap, ◌∙◌, ap₂}
use Rattle.std.proofs.Common.{mod-lt, pow-suc, arith, lit<, pow_pos, eq-eqb, ne_eqb, eqb-true}
use native.Mathlib.Nat.{mod-one}
use lib.Arith.{digits_div, digits_mod, mod-mul}
use lib.Bits.{bit_xor, differ, xor_step, xor_self}
use lib.Count.{under, count_trailing_zeros, trailing_of_zero}
use lib.Dec.{leb-zero, leb-suc-zero, leb-suc-suc}
use borrow.Author.Tests.{eqb-false}
use Rattle.laws.proofs.Tests.{eqb_iff, ltb_iff}
use Rattle.noise_generator.specs.NoiseGenerator.{needed_of}
use Rattle.noise_generator.specs.Pink.{next_index, last_index, trailing_ones, changed_of}
use Rattle.noise_generator.specs.Promises.{CounterClimbs, RowsChanged, RowChanges, NeededRange}

-- ---- a u32 that wraps
pub next_below : (i : ℕ) → next_index i < 4294967296
unfolding next_index
next_below i = mod-lt _ (lit< tt)

pub counter_climbs : CounterClimbs
unfolding next_index
counter_climbs index h = go (eqb index 4294967295) refl
  where
    go : (b : Bool) → eqb index 4294967295 ≡ b → (index + 1) % 4294967296 ≡ cond b 0 (index + 1)
    go true e = let q = eqb-true index 4294967295 e in omega arith
    go false e = let q = eqb-false index 4294967295 e in omega arith

-- ---- `!x` has a zero where x has a one
not_digit : (r t u : ℕ) → r < 2 → t ≡ u → under (1 - r) t ≡ cond (eqb r 1) (suc u) 0
not_digit zero t u h e = refl
not_digit (suc zero) t u h e = ap suc e
not_digit (suc (suc r)) t u h e = absurd (omega arith)

pub ones_of_not : (k x : ℕ) → x < 2 ^ k → count_trailing_zeros k ((2 ^ k - 1) - x) ≡ trailing_ones k x
unfolding count_trailing_zeros trailing_ones
ones_of_not zero x h = refl
ones_of_not (suc k) x h =
    let half : ((2 ^ suc k - 1) - x) / 2 ≡ (2 ^ k - 1) - x / 2 = omega arith in
    let odd : ((2 ^ suc k - 1) - x) % 2 ≡ 1 - x % 2 = omega arith in
    let rest : count_trailing_zeros k ((2 ^ k - 1) - x / 2) ≡ trailing_ones k (x / 2) = ones_of_not k (x / 2) (omega arith) in
    ap₂ (λ (r m : ℕ). under r (count_trailing_zeros k m)) odd half
    ∙ not_digit (x % 2) (count_trailing_zeros k ((2 ^ k - 1) - x / 2)) (trailing_ones k (x / 2)) (mod-lt x (lit< tt)) rest

-- ---- a number and the one before it differ in its lowest one and in the zeros below that
ones_zero : (k : ℕ) → trailing_ones k 0 ≡ 0
unfolding trailing_ones
ones_zero zero = refl
ones_zero (suc k) = refl

ones_up : (k m : ℕ) → trailing_ones (suc k) (m * 2 + 1) ≡ suc (trailing_ones k m)
unfolding trailing_ones
ones_up k m =
    ap₂ (λ (r q : ℕ). cond (eqb r 1) (suc (trailing_ones k q)) 0) (digits_mod m {m = 2} {r = 1} (lit< tt)) (digits_div m {m = 2} {r = 1} (lit< tt))

differs : (r q : ℕ) → r + q ≡ 1 → differ r q ≡ 1
differs zero q e = omega arith
differs (suc r) zero e = omega arith
differs (suc r) (suc q) e = absurd (omega arith)

-- the lowest digits differ, and the rest as the halves do
step_halves : (y x : ℕ) → y ≡ suc x → bit_xor y x ≡ bit_xor (y / 2) (x / 2) * 2 + 1
step_halves y x e = xor_step y x ∙ ap (λ (d : ℕ). bit_xor (y / 2) (x / 2) * 2 + d) (differs (y % 2) (x % 2) (omega arith))

pub ones_of_step : (k y x : ℕ) → y ≡ suc x → y < 2 ^ k → trailing_ones k (bit_xor y x) ≡ suc (count_trailing_zeros k y)
unfolding count_trailing_zeros
ones_of_step zero y x e h = absurd (omega arith)
ones_of_step (suc k) y x e h =
    ap (trailing_ones (suc k)) (step_halves y x e) ∙ ones_up k (bit_xor (y / 2) (x / 2)) ∙ ap suc (go (ones_of_step k (y / 2) (x / 2)) (y % 2) refl)
  where
    go : (y / 2 ≡ suc (x / 2) → y / 2 < 2 ^ k → trailing_ones k (bit_xor (y / 2) (x / 2)) ≡ suc (count_trailing_zeros k (y / 2)))
        → (r : ℕ) → y % 2 ≡ r → trailing_ones k (bit_xor (y / 2) (x / 2)) ≡ under r (count_trailing_zeros k (y / 2))
    go halves zero a = halves (omega arith) (omega arith)
    go halves (suc zero) a =
        let same : y / 2 ≡ x / 2 = omega arith in
        ap (λ (h : ℕ). trailing_ones k (bit_xor h (x / 2))) same ∙ ap (trailing_ones k) (xor_self (x / 2)) ∙ ones_zero k
    go halves (suc (suc r)) a = absurd (omega arith)

-- as many rows as zeros and one more, at 0 too, which has 32 zeros
pub changed_zeros : (index : ℕ) → index < 4294967296 → changed_of index ≡ min 16 (count_trailing_zeros 32 index + 1)
unfolding changed_of last_index
changed_zeros zero h = unfold trailing_ones count_trailing_zeros in refl
changed_zeros (suc x) h =
    let last : (suc x + 4294967295) % 4294967296 ≡ x = omega arith in
    let ones : trailing_ones 32 (bit_xor (suc x) x) ≡ suc (count_trailing_zeros 32 (suc x)) = ones_of_step 32 (suc x) x refl h in
    ap (λ (y : ℕ). min (trailing_ones 32 (bit_xor (suc x) y)) 16) last ∙ ap (λ (n : ℕ). min n 16) ones ∙ (omega arith)

pub rows_changed : RowsChanged
rows_changed index h = changed_zeros index h ∙ go (eqb index 0) refl
  where
    go : (b : Bool) → eqb index 0 ≡ b → min 16 (count_trailing_zeros 32 index + 1) ≡ cond b 16 (min 16 (count_trailing_zeros 32 index + 1))
    go true e = ap (λ (i : ℕ). min 16 (count_trailing_zeros 32 i + 1)) (eqb-true index 0 e) ∙ ap (λ (n : ℕ). min 16 (n + 1)) (trailing_of_zero 32)
    go false e = refl

-- ---- n has k zeros at its end where 2 ^ k divides it
-- the k + 1 low digits: the lowest, and k of the half
pub low_digits : (n k : ℕ) → n % 2 ^ suc k ≡ (n / 2 % 2 ^ k) * 2 + n % 2
low_digits n k = ap (λ (p : ℕ). n % p) (pow-suc 2 k) ∙ mod-mul n (pow_pos k) (lit< tt)

zeros_divide : (e k n : ℕ) → k ≤ e → leb k (count_trailing_zeros e n) ≡ eqb (n % 2 ^ k) 0
unfolding count_trailing_zeros
zeros_divide e zero n h = leb-zero (count_trailing_zeros e n) ∙ sym (eq-eqb (n % 1) 0 (mod-one n))
zeros_divide zero (suc k) n h = absurd (omega arith)
zeros_divide (suc e) (suc k) n h = go (zeros_divide e k (n / 2) (omega arith)) (n % 2) refl ∙ ap (λ (m : ℕ). eqb m 0) (sym (low_digits n k))
  where
    go : leb k (count_trailing_zeros e (n / 2)) ≡ eqb (n / 2 % 2 ^ k) 0
        → (r : ℕ) → n % 2 ≡ r → leb (suc k) (under r (count_trailing_zeros e (n / 2))) ≡ eqb ((n / 2 % 2 ^ k) * 2 + r) 0
    go half zero a =
        leb-suc-suc k (count_trailing_zeros e (n / 2)) ∙ half
        ∙ eqb_iff (n / 2 % 2 ^ k) 0 ((n / 2 % 2 ^ k) * 2 + 0) 0 (λ q. omega arith) (λ q. omega arith)
    go half (suc zero) a = leb-suc-zero k ∙ sym (ne_eqb ((n / 2 % 2 ^ k) * 2 + 1) 0 (λ q. omega arith))
    go half (suc (suc r)) a = absurd (omega arith)

pub row_changes : RowChanges
row_changes index k h l = ap (ltb k) (changed_zeros index h) ∙ bounded (count_trailing_zeros 32 index) ∙ zeros_divide 32 k index (omega arith)
  where
    bounded : (t : ℕ) → ltb k (min 16 (t + 1)) ≡ leb k t
    bounded t = ltb_iff k (min 16 (t + 1)) k (suc t) (λ q. omega arith) (λ q. omega arith) ∙ leb-suc-suc k t

-- ---- how many there are
pub changed_most : (i : ℕ) → changed_of i ≤ 16
unfolding changed_of
changed_most i = omega arith

pub changed_range : (i : ℕ) → (1 ≤ changed_of (next_index i)) × (changed_of (next_index i) ≤ 16)
changed_range i = let z = changed_zeros (next_index i) (next_below i) in (omega arith, omega arith)

pub needed_range : NeededRange
unfolding needed_of
needed_range s =
    let a = changed_range s.pink.index in
    let b = changed_range s.pink2.index in
    (omega arith, omega arith)
