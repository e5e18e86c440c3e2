-- Products with a zero of either sign, and sums with one.
use mathlib.Core.Bool.{Bool, true, false, not, cond, ◌&&◌, ◌||◌, beq}
use mathlib.Core.Path.{◌≡◌, refl, sym, ap, subst, ◌∙◌}
use Prim.Native.Nat.{ℕ, zero, suc, ◌+◌, ◌-◌, ◌*◌, ◌^◌, ◌<◌, ◌≤◌}
use native.Mathlib.Nat.{mul-one, mul-pos, mul-zero, zero-lt-suc, zero-mul}
use native.Mathlib.Omega.{arith}
use lib.Dec.{T, eqb, eqb→eq, lit<, ltb}
use lib.Ieee.{Float, nan, inf, fin, binary64, add, sub, mul, eq, of_bits, round, sum, up, down, unlike}
use lib.Ieee.Exact.{HasValue}
use lib.Ieee.Fits.{and_l, down_pos}
use lib.IntN.{pos}
use borrow.Author.Tests.{le-ltb, lt-ltb}
use Rattle.laws.proofs.Interval.{Within, within_sum}
use Rattle.laws.proofs.Unique.{round_own}
use Rattle.laws.proofs.Values.{add_round, mul_round, round_zero, sub_round, sum_pos_neg}
use Rattle.laws.specs.Float.{F64, is_fin, zer}

-- a finite number times a zero is a zero
pub times_nought : (x d : Float) → T (is_fin x) → T (eq d zer) → (s : Bool) × (mul binary64 x d ≡ fin s 0 (pos 0))
unfolding eq mul of_bits
times_nought nan d h k = absurd h
times_nought (inf s) d h k = absurd h
times_nought (fin s m e) nan h k = absurd k
times_nought (fin s m e) (inf t) h k = absurd k
times_nought (fin s m e) (fin t n g) h k =
    let z = eqb→eq (n * up g * 1) (0 * down g) (and_l (eqb (n * up g * 1) (0 * down g)) (beq t false || eqb (n * up g * 1) 0) k) in (
      unlike s t,
      ap (λ (z : ℕ). round binary64 (unlike s t) z (down e * down g)) (nothing (m * up e) (n * up g) (down g) z)
          ∙ round_zero (unlike s t) (down e * down g) (mul-pos (down_pos e) (down_pos g)),
    )
  where
    nil : (b d : ℕ) → b * 1 ≡ 0 * d → b ≡ 0
    nil b d h = omega arith

    nothing : (a b d : ℕ) → b * 1 ≡ 0 * d → a * b ≡ 0
    nothing a b d h = ap (λ (z : ℕ). a * z) (nil b d h) ∙ mul-zero a

-- ---- a zero added to what isn't one leaves it
alone : (s t : Bool) (a c : ℕ) → 0 < a → sum binary64 s a t 0 c ≡ round binary64 s a c
unfolding sum
alone s t a c h = go s t
  where
    plus_none : a + 0 ≡ a
    plus_none = omega arith

    less_none : a - 0 ≡ a
    less_none = omega arith

    least : 0 ≤ a
    least = omega arith

    go : (s t : Bool) → sum binary64 s a t 0 c ≡ round binary64 s a c
    go true true = ap (λ (z : ℕ). round binary64 true z c) plus_none
    go true false =
        ap (λ (z : Bool). cond z (round binary64 false (0 - a) c) (round binary64 (ltb 0 a) (a - 0) c)) (le-ltb a 0 least)
        ∙ ap (λ (z : Bool). round binary64 z (a - 0) c) (lt-ltb 0 a h)
        ∙ ap (λ (z : ℕ). round binary64 true z c) less_none
    go false true = sum_pos_neg a 0 c least ∙ ap (λ (z : ℕ). round binary64 false z c) less_none
    go false false = ap (λ (z : ℕ). round binary64 false z c) plus_none

pub plus_nought : (v : Float) (t : Bool) → F64 v → T (not (eq v zer)) → add binary64 v (fin t 0 (pos 0)) ≡ v
plus_nought nan t f h = unfold add in refl
plus_nought (inf s) t f h = unfold add in refl
plus_nought (fin s m e) t f h =
    add_round (fin s m e) (fin t 0 (pos 0)) s t (m * up e) (down e) 0 1 (down_pos e) (zero-lt-suc 0) (refl, refl) (refl, refl)
    ∙ ap (λ (z : ℕ). sum binary64 s z t (0 * down e) (down e * 1)) (mul-one (m * up e))
    ∙ ap (λ (z : ℕ). sum binary64 s (m * up e) t z (down e * 1)) (zero-mul (down e))
    ∙ ap (λ (z : ℕ). sum binary64 s (m * up e) t 0 z) (mul-one (down e))
    ∙ alone s t (m * up e) (down e) (some s (m * up e) (down e) (unfold eq of_bits in h))
    ∙ round_own s (fin s m e) (m * up e) (down e) (down_pos e) f (refl, refl)
  where
    some : (s : Bool) (a d : ℕ) → T (not (eqb (a * 1) (0 * d) && (beq s false || eqb (a * 1) 0))) → 0 < a
    some true zero d h = absurd (subst (λ (z : ℕ). T (not (eqb 0 z && true))) (zero-mul d) h)
    some false zero d h = absurd (subst (λ (z : ℕ). T (not (eqb 0 z && true))) (zero-mul d) h)
    some s (suc a) d h = zero-lt-suc a

-- ---- with numbers whose size is known
pub zero_times : (k : ℕ) (z x : Float) (t : Bool) → HasValue z t 0 1 → Within k x → (r : Bool) × HasValue (mul binary64 z x) r 0 1
zero_times k z x t h X =
    let p = X.1 in (
      unlike t X.0,
      subst (λ (v : Float). HasValue v (unlike t X.0) 0 1)
          (sym (mul_round z x t X.0 0 1 p.0 p.1 (lit< tt) p.2 h p.4
          ∙ ap (λ (n : ℕ). round binary64 (unlike t X.0) n (1 * p.1)) (zero-mul p.0)
          ∙ round_zero (unlike t X.0) (1 * p.1) (mul-pos (lit< tt) p.2))) (refl, refl),
    )

pub zero_plus : (k : ℕ) (z x : Float) (t : Bool) → k ≤ 1023 → HasValue z t 0 1 → Within k x → Within k (add binary64 z x)
zero_plus k z x t K h X =
    let p = X.1 in
    subst (Within k) (sym (add_round z x t X.0 0 1 p.0 p.1 (lit< tt) p.2 h p.4))
    (within_sum k t X.0 (0 * p.1) (p.0 * 1) (1 * p.1) K (mul-pos (lit< tt) p.2) (small p.0 p.1 (2 ^ k) p.3))
  where
    small : (a c u : ℕ) → a ≤ u * c → 0 * c + a * 1 ≤ u * (1 * c)
    small a c u h = omega arith

pub minus_zero : (k : ℕ) (x z : Float) (t : Bool) → k ≤ 1023 → HasValue z t 0 1 → Within k x → Within k (sub binary64 x z)
minus_zero k x z t K h X =
    let p = X.1 in
    subst (Within k) (sym (sub_round x z X.0 t p.0 p.1 0 1 p.2 (lit< tt) p.4 h))
    (within_sum k X.0 (not t) (p.0 * 1) (0 * p.1) (p.1 * 1) K (mul-pos p.2 (lit< tt)) (small p.0 p.1 (2 ^ k) p.3))
  where
    small : (a c u : ℕ) → a ≤ u * c → a * 1 + 0 * c ≤ u * (c * 1)
    small a c u h = omega arith
