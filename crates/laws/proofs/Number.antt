-- Which values are numbers, that is no NaN; and what NaN and an infinity leave of a sum, a product and a quotient.
use mathlib.Core.Bool.{Bool, beq, ◌&&◌, cond, false, false≢true, not, true, true≢false}
use mathlib.Core.Path.{◌≡◌, refl, subst, sym}
use Prim.Native.Nat.{◌*◌, ◌+◌, ◌-◌, ◌^◌, ◌≤◌, suc, zero, ℕ}
use native.Mathlib.Nat.{le-add_left, le-add_right, le_refl, le_trans, sub-le}
use lib.Dec.{T, eqb, eqb-suc-zero, ltb}
use lib.Ieee.{Float, add, binary64, div, down, eq, fin, inf, is_nan, le, lt, mul, nan, neg, odd, round, sub, sum, units, unlike, up}
use lib.Ieee.Exact.{HasValue}
use lib.Ieee.Fits.{round_is}
use lib.Ieee.Positive.{positive}
use lib.IntN.{pos}
use Rattle.laws.specs.Float.{is_fin}

-- ---- a rounded fraction has the sign it is given
abbrev pub Signed : Bool → Float → Type 0
Signed s nan = ⊥
Signed s (inf t) = t ≡ s
Signed s (fin t m e) = t ≡ s

odd_signed : (d : ℕ) (s : Bool) (q k l : ℕ) → Signed s (odd d s q k l)
unfolding odd
odd_signed d s zero k l = refl
odd_signed d s (suc q) k l = refl

pub round_signed : (s : Bool) (a b : ℕ) → Signed s (round binary64 s a b)
round_signed s a b = subst (Signed s) (sym (round_is binary64 s a b)) (units_signed _ _)
  where
    units_signed : (q k : ℕ) → Signed s (units binary64 s q k)
    units_signed q k = unfold units in go (ltb (q * 2 ^ k) (2 ^ 2098)) (odd 54 s q k 1074) (odd_signed 54 s q k 1074)
      where
        go : (t : Bool) (x : Float) → Signed s x → Signed s (cond t x (inf s))
        go true x h = h
        go false x h = refl

signed_number : (s : Bool) (x : Float) → Signed s x → T (not (is_nan x))
unfolding is_nan
signed_number s nan h = absurd h
signed_number s (inf t) h = tt
signed_number s (fin t m e) h = tt

-- ---- so it is a number, and so is what comes of finite ones
pub round_number : (s : Bool) (a b : ℕ) → T (not (is_nan (round binary64 s a b)))
round_number s a b = signed_number s (round binary64 s a b) (round_signed s a b)

pub pos_eqb : (n : ℕ) → T (ltb 0 n) → eqb n 0 ≡ false
pos_eqb zero h = absurd h
pos_eqb (suc n) h = eqb-suc-zero n

-- a sum of two signs is a rounding of at most their sizes' sum
pub sum_by : (P : Float → Type 0) (s t : Bool) (a b c : ℕ) → ((r : Bool) (q : ℕ) → q ≤ a + b → P (round binary64 r q c)) → P (sum binary64 s a t b c)
unfolding sum
sum_by P s t a b c f = go (beq s t) (ltb a b)
  where
    go : (x y : Bool) → P (cond x (round binary64 s (a + b) c) (cond y (round binary64 t (b - a) c) (round binary64 (s && ltb b a) (a - b) c)))
    go true y = f s (a + b) (le_refl (a + b))
    go false true = f t (b - a) (le_trans (sub-le b a) (le-add_left b a))
    go false false = f (s && ltb b a) (a - b) (le_trans (sub-le a b) (le-add_right a b))

sum_number : (s : Bool) (a : ℕ) (t : Bool) (b c : ℕ) → T (not (is_nan (sum binary64 s a t b c)))
sum_number s a t b c = sum_by (λ x. T (not (is_nan x))) s t a b c (λ r q l. round_number r q c)

-- a sum and a difference with a finite number, a product with one above 0, a quotient of one above 0
pub add_number : (x y : Float) → T (is_fin y) → T (not (is_nan x)) → T (not (is_nan (add binary64 x y)))
unfolding add is_nan
add_number nan y f h = absurd h
add_number (inf s) nan f h = absurd f
add_number (inf s) (inf t) f h = absurd f
add_number (inf s) (fin t n d) f h = tt
add_number (fin s m e) nan f h = absurd f
add_number (fin s m e) (inf t) f h = absurd f
add_number (fin s m e) (fin t n d) f h = sum_number s (m * up e * down d) t (n * up d * down e) (down e * down d)

pub sub_number : (x y : Float) → T (is_fin y) → T (not (is_nan x)) → T (not (is_nan (sub binary64 x y)))
unfolding sub neg
sub_number x nan f h = absurd f
sub_number x (inf t) f h = absurd f
sub_number x (fin t n d) f h = add_number x (fin (not t) n d) tt h

pub mul_number : (x y : Float) → T (positive y) → T (not (is_nan x)) → T (not (is_nan (mul binary64 x y)))
unfolding mul is_nan
mul_number nan y p h = absurd h
mul_number (inf s) nan p h = absurd p
mul_number (inf s) (inf t) p h = absurd p
mul_number (inf s) (fin true n d) p h = absurd p
mul_number (inf s) (fin false n d) p h = subst (λ (b : Bool). T (not (is_nan (cond b nan (inf (unlike s false)))))) (sym (pos_eqb n p)) tt
mul_number (fin s m e) nan p h = absurd p
mul_number (fin s m e) (inf t) p h = absurd p
mul_number (fin s m e) (fin t n d) p h = round_number (unlike s t) (m * up e * (n * up d)) (down e * down d)

pub div_number : (x y : Float) → T (positive x) → T (not (is_nan y)) → T (not (is_nan (div binary64 x y)))
unfolding div is_nan
div_number nan y p h = absurd p
div_number (inf s) y p h = absurd p
div_number (fin true m e) y p h = absurd p
div_number (fin false m e) nan p h = absurd h
div_number (fin false m e) (inf t) p h = tt
div_number (fin false m e) (fin t n d) p h = go (eqb n 0) (eqb m 0) (pos_eqb m p)
  where
    go : (a b : Bool) → b ≡ false
        → T (not (is_nan (cond a (cond b nan (inf (unlike false t))) (round binary64 (unlike false t) (m * up e * down d) (n * up d * down e)))))
    go true true k = absurd (true≢false k)
    go true false k = tt
    go false b k = round_number (unlike false t) (m * up e * down d) (n * up d * down e)

pub is_nan_lem : (x : Float) → is_nan x ≡ true → x ≡ nan
unfolding is_nan
is_nan_lem nan e = refl
is_nan_lem (inf s) e = absurd (false≢true e)
is_nan_lem (fin s m d) e = absurd (false≢true e)

-- ---- NaN goes through a sum, a product and a quotient
pub add_nan_r : (x : Float) → add binary64 x nan ≡ nan
unfolding add
add_nan_r nan = refl
add_nan_r (inf s) = refl
add_nan_r (fin s m e) = refl

pub add_nan_l : (x : Float) → add binary64 nan x ≡ nan
unfolding add
add_nan_l nan = refl
add_nan_l (inf s) = refl
add_nan_l (fin s m e) = refl

pub sub_nan_l : (x : Float) → sub binary64 nan x ≡ nan
unfolding sub
sub_nan_l x = add_nan_l (neg x)

pub mul_nan_r : (x : Float) → mul binary64 x nan ≡ nan
unfolding mul
mul_nan_r nan = refl
mul_nan_r (inf s) = refl
mul_nan_r (fin s m e) = refl

pub mul_nan_l : (x : Float) → mul binary64 nan x ≡ nan
unfolding mul
mul_nan_l nan = refl
mul_nan_l (inf s) = refl
mul_nan_l (fin s m e) = refl

pub div_nan_r : (x : Float) → div binary64 x nan ≡ nan
unfolding div
div_nan_r nan = refl
div_nan_r (inf s) = refl
div_nan_r (fin s m e) = refl

pub div_nan_l : (x : Float) → div binary64 nan x ≡ nan
unfolding div
div_nan_l x = refl

-- ---- what isn't finite, NaN or infinite, leaves no finite sum and no finite product, and no finite quotient by a zero
pub add_wild_r : (x y : Float) → is_fin y ≡ false → is_fin (add binary64 x y) ≡ false
unfolding add
add_wild_r nan y h = refl
add_wild_r (inf s) nan h = refl
add_wild_r (inf s) (inf t) h = go (beq s t)
  where
    go : (b : Bool) → is_fin (cond b (inf s) nan) ≡ false
    go true = refl
    go false = refl
add_wild_r (inf s) (fin t n d) h = refl
add_wild_r (fin s m e) nan h = refl
add_wild_r (fin s m e) (inf t) h = refl
add_wild_r (fin s m e) (fin t n d) h = absurd (true≢false h)

pub add_wild_l : (x y : Float) → is_fin x ≡ false → is_fin (add binary64 x y) ≡ false
unfolding add
add_wild_l nan y h = refl
add_wild_l (inf s) nan h = refl
add_wild_l (inf s) (inf t) h = add_wild_r (inf s) (inf t) refl
add_wild_l (inf s) (fin t n d) h = refl
add_wild_l (fin s m e) y h = absurd (true≢false h)

nan_or_inf_wild : (b s : Bool) → is_fin (cond b nan (inf s)) ≡ false
nan_or_inf_wild true s = refl
nan_or_inf_wild false s = refl

pub mul_wild_r : (x y : Float) → is_fin y ≡ false → is_fin (mul binary64 x y) ≡ false
unfolding mul
mul_wild_r nan y h = refl
mul_wild_r (inf s) nan h = refl
mul_wild_r (inf s) (inf t) h = refl
mul_wild_r (inf s) (fin t n d) h = absurd (true≢false h)
mul_wild_r (fin s m e) nan h = refl
mul_wild_r (fin s m e) (inf t) h = nan_or_inf_wild (eqb m 0) (unlike s t)
mul_wild_r (fin s m e) (fin t n d) h = absurd (true≢false h)

pub mul_wild_l : (x y : Float) → is_fin x ≡ false → is_fin (mul binary64 x y) ≡ false
unfolding mul
mul_wild_l nan y h = refl
mul_wild_l (inf s) nan h = refl
mul_wild_l (inf s) (inf t) h = refl
mul_wild_l (inf s) (fin t n d) h = nan_or_inf_wild (eqb n 0) (unlike s t)
mul_wild_l (fin s m e) y h = absurd (true≢false h)

pub div_zero_wild : (x : Float) (s : Bool) → is_fin (div binary64 x (fin s 0 (pos 0))) ≡ false
unfolding div
div_zero_wild nan s = refl
div_zero_wild (inf t) s = refl
div_zero_wild (fin t m e) s = go (eqb m 0)
  where
    go : (b : Bool) → is_fin (cond b nan (inf (unlike t s))) ≡ false
    go true = refl
    go false = refl

-- ---- what passes a test is a number
pub lt_number : (x y : Float) → lt x y ≡ true → T (not (is_nan x))
unfolding lt is_nan
lt_number nan y h = absurd (false≢true h)
lt_number (inf s) y h = tt
lt_number (fin s m e) y h = tt

pub le_number : (x y : Float) → le x y ≡ true → T (not (is_nan x))
unfolding le is_nan
le_number nan y h = absurd (false≢true h)
le_number (inf s) y h = tt
le_number (fin s m e) y h = tt

-- and so are both sides of an order
pub le_numbers : (x y : Float) → T (le x y) → T (not (is_nan x)) × T (not (is_nan y))
unfolding le lt eq is_nan
le_numbers nan y h = absurd h
le_numbers (inf s) nan h = absurd h
le_numbers (inf s) (inf t) h = (tt, tt)
le_numbers (inf s) (fin t n d) h = (tt, tt)
le_numbers (fin s m e) nan h = absurd h
le_numbers (fin s m e) (inf t) h = (tt, tt)
le_numbers (fin s m e) (fin t n d) h = (tt, tt)

-- what has a value is finite, and what is finite is a number
pub value_finite : (x : Float) (s : Bool) (a c : ℕ) → HasValue x s a c → T (is_fin x)
value_finite nan s a c v = absurd v
value_finite (inf t) s a c v = absurd v
value_finite (fin t m e) s a c v = tt

pub fin_number : (x : Float) → T (is_fin x) → T (not (is_nan x))
unfolding is_nan
fin_number nan h = absurd h
fin_number (inf s) h = absurd h
fin_number (fin s m e) h = tt
