-- An increment has no minus sign: its factors have none, and 1 plus a product of two numbers from -1 to 1 has none.
use mathlib.Core.Bool.{Bool, true, false, not, cond}
use mathlib.Core.Path.{◌≡◌, refl}
use Prim.Native.Nat.{ℕ, ◌+◌, ◌*◌, ◌≤◌}
use native.Mathlib.Nat.{mul-pos, mul-le-mul}
use native.Mathlib.Omega.{arith}
use lib.Dec.{T, leb, ltb, leb→le, le→leb, nltb→le}
use lib.IntN.{pos}
use lib.Ieee.{Float, nan, inf, fin, binary64, up, down, unlike, add, mul, lt, of_bits}
use lib.Ieee.Fits.{down_pos}
use Rattle.laws.proofs.Sign.{Plus, one_round}
use Rattle.laws.specs.Float.{zer, one}
use Rattle.numeric.specs.Basic.{fabs_of, clamp_of}

-- from -1 to 1, or a NaN
abbrev pub small : Float → Bool
small nan = true
small (inf s) = false
small (fin s m e) = leb (m * up e) (down e)

-- no minus sign, said by the magnitude
pub fabs_plus : (x : Float) → Plus x → fabs_of x ≡ x
unfolding fabs_of
fabs_plus nan h = refl
fabs_plus (inf true) h = absurd h
fabs_plus (inf false) h = refl
fabs_plus (fin true m e) h = absurd h
fabs_plus (fin false m e) h = refl

pub plus_of : (x : Float) → fabs_of x ≡ x → Plus x
unfolding fabs_of
plus_of nan h = tt
plus_of (inf true) h = absurd (cc)
plus_of (inf false) h = tt
plus_of (fin true m e) h = absurd (cc)
plus_of (fin false m e) h = tt

pub one_plus : (x y : Float) → T (small x) → T (small y) → Plus (add binary64 one (mul binary64 x y))
unfolding mul
one_plus nan y h k = unfold add of_bits in tt
one_plus (inf s) y h k = absurd h
one_plus (fin s m e) nan h k = unfold add of_bits in tt
one_plus (fin s m e) (inf t) h k = absurd k
one_plus (fin s m e) (fin t n d) h k =
    (one_round (unlike s t) (m * up e * (n * up d)) (down e * down d) (mul-pos (down_pos e) (down_pos d))
    (mul-le-mul (leb→le (m * up e) (down e) h) (leb→le (n * up d) (down d) k))).1

pub clamp_small : (x : Float) → T (small (clamp_of x zer one))
unfolding clamp_of lt of_bits
clamp_small nan = tt
clamp_small (inf true) = tt
clamp_small (inf false) = tt
clamp_small (fin true m e) = go (ltb 0 (m * up e * 1 + 0 * down e)) (nltb→le 0 (m * up e * 1 + 0 * down e))
  where
    none : (a d : ℕ) → a * 1 + 0 * d ≤ 0 → a ≤ d
    none a d h = omega arith

    go : (b : Bool) → (T (not b) → m * up e * 1 + 0 * down e ≤ 0) → T (small (cond b (fin false 0 (pos 0)) (fin true m e)))
    go true f = tt
    go false f = le→leb (m * up e) (down e) (none (m * up e) (down e) (f tt))
clamp_small (fin false m e) = go (ltb (m * up e * 1) (0 * down e)) (ltb (1 * down e) (m * up e * 1)) (nltb→le (1 * down e) (m * up e * 1))
  where
    under : (a d : ℕ) → a * 1 ≤ 1 * d → a ≤ d
    under a d h = omega arith

    go : (a b : Bool) → (T (not b) → m * up e * 1 ≤ 1 * down e) → T (small (cond a (fin false 0 (pos 0)) (cond b (fin false 1 (pos 0)) (fin false m e))))
    go true b f = tt
    go false true f = tt
    go false false f = le→leb (m * up e) (down e) (under (m * up e) (down e) (f tt))
