-- A fraction between two that an f64 holds is rounded to one between them.
use mathlib.Core.Bool.{true, false}
use mathlib.Core.Path.{◌≡◌, refl, subst}
use Prim.Native.Nat.{ℕ, ◌*◌, ◌^◌, ◌≤◌, ◌<◌}
use native.Mathlib.Nat.{lt_of_not-le, zero-lt-suc}
use native.Mathlib.Omega.{arith}
use lib.Dec.{T}
use lib.Ieee.{Float, nan, inf, fin, binary64, round, le, lt, eq, low, of_bits}
use lib.Ieee.Exact.{HasValue}
use lib.Ieee.Order.{round_mono}
use lib.Ieee.Scale.{finite, grid, round_val, round_under}
use lib.Pow.{pow_pos}
use Rattle.laws.proofs.Order.{lt_not_ge, values_le}
use Rattle.laws.proofs.Tests.{of_true}
use Rattle.laws.specs.Float.{one}
use Rattle.laws.proofs.Values.{exact_at}

-- what lies between two numbers that aren't negative is finite
finite_between : (x y r : Float) (a c b d : ℕ) → HasValue x false a c → HasValue y false b d → T (le x r) → T (le r y) → T (finite r)
unfolding le lt eq
finite_between nan y r a c b d p q h k = absurd p
finite_between (inf s) y r a c b d p q h k = absurd p
finite_between (fin s m e) y nan a c b d p q h k = k
finite_between (fin s m e) y (inf true) a c b d p q h k = absurd h
finite_between (fin s m e) nan (inf false) a c b d p q h k = absurd q
finite_between (fin s m e) (inf t) (inf false) a c b d p q h k = absurd q
finite_between (fin s m e) (fin t n g) (inf false) a c b d p q h k = k
finite_between (fin s m e) y (fin t n g) a c b d p q h k = tt

-- a fraction from lo / 2 ^ i to hi / 2 ^ i is rounded to one
pub record Rounded (r : Float) (lo hi i : ℕ) : Type 0 where
  pub top : ℕ
  pub bottom : ℕ
  pub bottom_pos : 0 < bottom
  pub value : HasValue r false top bottom
  pub least : lo * bottom ≤ top * 2 ^ i
  pub most : top * 2 ^ i ≤ hi * bottom

pub rounded : (a c lo hi i : ℕ) → 0 < c → lo < 2 ^ 53 → hi < 2 ^ 53 → i ≤ 1074 → lo * c ≤ a * 2 ^ i → a * 2 ^ i ≤ hi * c
    → Rounded (round binary64 false a c) lo hi i
rounded a c lo hi i C L H I h k =
    let x = round binary64 false lo (2 ^ i) in
    let y = round binary64 false hi (2 ^ i) in
    let r = round binary64 false a c in
    let vx : HasValue x false lo (2 ^ i) = exact_at false lo i L I in
    let vy : HasValue y false hi (2 ^ i) = exact_at false hi i H I in
    let lx : T (le x r) = round_mono binary64 lo (2 ^ i) a c (pow_pos i) C h in
    let ly : T (le r y) = round_mono binary64 a c hi (2 ^ i) C (pow_pos i) k in
    let v = round_val binary64 a c (round_under binary64 a c (finite_between x y r lo (2 ^ i) hi (2 ^ i) vx vy lx ly)) in
    record {
      top = grid binary64 a c;
      bottom = 2 ^ low binary64;
      bottom_pos = pow_pos (low binary64);
      value = v;
      least = values_le x r lo (2 ^ i) (grid binary64 a c) (2 ^ low binary64) (pow_pos i) (pow_pos (low binary64)) vx v lx;
      most = values_le r y (grid binary64 a c) (2 ^ low binary64) hi (2 ^ i) (pow_pos (low binary64)) (pow_pos i) v vy ly;
    }

-- a fraction whose rounding is below another's is below it
pub round_below : (a c b d : ℕ) → 0 < c → 0 < d → lt (round binary64 false a c) (round binary64 false b d) ≡ true → a * d < b * c
round_below a c b d C D h =
    let x = round binary64 false a c in
    let y = round binary64 false b d in
    lt_of_not-le (λ (k : b * c ≤ a * d). lt_not_ge x y (of_true (lt x y) h) (round_mono binary64 b d a c D C k))

-- so is one whose rounding is below 1
pub round_below_one : (a c : ℕ) → 0 < c → lt (round binary64 false a c) one ≡ true → a < c
round_below_one a c C h = sides a c (round_below a c 1 1 C (zero-lt-suc 0) (subst (λ (z : Float). lt (round binary64 false a c) z ≡ true) at_one h))
  where
    at_one : one ≡ round binary64 false 1 1
    at_one = unfold round of_bits in refl

    sides : (a c : ℕ) → a * 1 < 1 * c → a < c
    sides a c k = omega arith
