-- The two taps have weights that add up to 1 exactly, since a delay of 1 and more is a multiple of 2 ^ -52; and so has the one-pole
-- filter, whose coefficient is one of 2 ^ -53.
use Rattle.std.proofs.Common.{◌≡◌, ℕ, ◌+◌, ◌-◌, ◌*◌, ◌/◌, ◌%◌, ◌^◌, ◌<◌, ◌≤◌, min, true, false, T, sym, refl, ap, ◌∙◌, subst, ⊎_elim, le_trans, le_of_eq}
use Rattle.std.proofs.Common.{mul-le-mul_right, mod-lt, eq-or-lt_of_le, div-add-mod', mul-one, le_of_mul-le-mul_right, arith, lit<, lit≤}
use lib.Ieee.{Float, nan, inf, fin, binary64, up, down, add, sub, mul, round, le, of_bits, to_unsigned}
use lib.Ieee.Exact.{HasValue}
use lib.Ieee.Fits.{down_pos, add-fits}
use lib.Ieee.Positive.{positive, num, den, den_pos, own_value, between}
use lib.Ieee.Scale.{round_same}
use Rattle.laws.proofs.Interval.{Exact}
use Rattle.laws.proofs.Order.{values_le}
use Rattle.laws.proofs.Values.{sub_round, sum_pos_neg, rescale, exact_at, of_int_val}
use Rattle.laws.proofs.Weights.{on_grid, grid_of, rest_of}
use Rattle.laws.specs.Float.{F64, zer, one}
use Rattle.numeric.specs.Basic.{whole_of, real_of}
use Rattle.common.specs.Consts.{half}
use Rattle.karplus_strong.specs.Consts.{spread}
use Rattle.karplus_strong.proofs.Delays.{filter_unit}

-- ---- the weights of two taps: r parts of 2 ^ 52, and what is left
pub tap_weights : (x : Float) → F64 x → T (positive x) → T (le one x) → whole_of x ≤ 9610
    → (r : ℕ) × (r ≤ 2 ^ 52) × HasValue (sub binary64 x (real_of (whole_of x))) false r (2 ^ 52)
    × HasValue (sub binary64 one (sub binary64 x (real_of (whole_of x)))) false (2 ^ 52 - r) (2 ^ 52)
tap_weights nan f q l h = absurd q
tap_weights (inf s) f q l h = absurd q
tap_weights (fin true m e) f q l h = absurd q
tap_weights (fin false m e) f q l h = (r, top, v, rest_of 52 r (sub binary64 x (real_of w)) (lit≤ tt) top (short r) v)
  where
    x : Float
    x = fin false m e

    w : ℕ
    w = whole_of x

    cut : w ≡ m * up e / down e
    cut = unfold to_unsigned in small (m * up e / down e) h
      where
        small : (q : ℕ) → min q 18446744073709551615 ≤ 9610 → min q 18446744073709551615 ≡ q
        small q h = omega arith

    least : 1 * down e ≤ m * up e * 1
    least = values_le one x 1 1 (m * up e) (down e) (lit< tt) (down_pos e) (unfold of_bits in (refl, refl)) (refl, refl) l

    grid : (p : ℕ) × HasValue x false p (2 ^ 52)
    grid = on_grid 52 m e f (at_least (down e) (m * up e) least)
      where
        at_least : (d n : ℕ) → 1 * d ≤ n * 1 → d * 4503599627370496 ≤ n * 4503599627370496
        at_least d n h = omega arith

    p : ℕ
    p = grid.0

    same : m * up e * 4503599627370496 ≡ p * down e
    same = grid.1.1

    turn : (a b c : ℕ) → a * b * c ≡ a * c * b
    turn a b c = omega arith

    low : w * 4503599627370496 ≤ p
    low = le_of_mul-le-mul_right
        (le_trans (le_of_eq (turn w 4503599627370496 (down e)))
        (le_trans (mul-le-mul_right 4503599627370496 (under_it (m * up e) (down e) w cut)) (le_of_eq same))) (down_pos e)
      where
        under_it : (n d w : ℕ) → w ≡ n / d → w * d ≤ n
        under_it n d w e = let z : n / d * d + n % d ≡ n = div-add-mod' n d in rw e (omega arith)

    high : p ≤ (w + 1) * 4503599627370496
    high = le_of_mul-le-mul_right
        (le_trans (le_of_eq (sym same))
        (le_trans (mul-le-mul_right 4503599627370496 (over_it (m * up e) (down e) w (down_pos e) cut)) (le_of_eq (turn (w + 1) (down e) 4503599627370496))))
        (down_pos e)
      where
        next : (w d : ℕ) → w * d + d ≡ (w + 1) * d
        next w d = omega arith

        over_it : (n d w : ℕ) → 0 < d → w ≡ n / d → n ≤ (w + 1) * d
        over_it n d w D e =
            let z : n / d * d + n % d ≡ n = div-add-mod' n d in
            let k : n % d < d = mod-lt n D in
            le_trans (sums (n / d * d) (n % d) n d z k) (le_of_eq (next (n / d) d ∙ ap (λ (z : ℕ). (z + 1) * d) (sym e)))
          where
            sums : (a r n d : ℕ) → a + r ≡ n → r < d → n ≤ a + d
            sums a r n d h k = omega arith

    r : ℕ
    r = p - w * 4503599627370496

    top : r ≤ 4503599627370496
    top = rest p w high
      where
        rest : (p w : ℕ) → p ≤ (w + 1) * 4503599627370496 → p - w * 4503599627370496 ≤ 4503599627370496
        rest p w h = omega arith

    short : (r : ℕ) → 4503599627370496 - r < 9007199254740992
    short r = omega arith

    v : HasValue (sub binary64 x (real_of w)) false r 4503599627370496
    v = subst (λ (z : Float). HasValue z false r 4503599627370496)
        (sym (sub_round x (real_of w) false false p 4503599627370496 w 1 (lit< tt) (lit< tt) grid.1 (of_int_val w (le_trans h (lit≤ tt)))
        ∙ sum_pos_neg (p * 1) (w * 4503599627370496) 4503599627370496 (le_trans low (le_of_eq (sym (mul-one p))))
        ∙ ap (λ (z : ℕ). round binary64 false (z - w * 4503599627370496) 4503599627370496) (mul-one p)))
        (exact_at false r 52 (within r top) (lit≤ tt))
      where
        within : (r : ℕ) → r ≤ 4503599627370496 → r < 9007199254740992
        within r h = omega arith

-- ---- the filter's: its coefficient is p parts of 2 ^ 53
pub filter_weights : (d : Float) → T (le zer d) → T (le d one) → let c = add binary64 half (mul binary64 d spread) in
    (p : ℕ) × (2 ^ 52 ≤ p) × (p ≤ 2 ^ 53) × HasValue c false p (2 ^ 53) × HasValue (sub binary64 one c) false (2 ^ 53 - p) (2 ^ 53)
filter_weights d l h = (grid.0, least, most, grid.1, rest_of 53 grid.0 c (lit≤ tt) most (short grid.0 least) grid.1)
  where
    c : Float
    c = add binary64 half (mul binary64 d spread)

    low : T (le half c)
    low = (filter_unit d l h).0

    high : T (le c one)
    high = (filter_unit d l h).1

    q : T (positive c)
    q = between half c one (unfold of_bits in tt) (unfold of_bits in tt) low high

    grid : (p : ℕ) × HasValue c false p (2 ^ 53)
    grid = grid_of 53 c (add-fits binary64 half (mul binary64 d spread)) q
        (at_least (den c) (num c) (values_le half c 1 2 (num c) (den c) (lit< tt) (den_pos c) (unfold of_bits in (refl, refl)) (own_value c q) low))
      where
        at_least : (d n : ℕ) → 1 * d ≤ n * 2 → d * 4503599627370496 ≤ n * 9007199254740992
        at_least d n h = omega arith

    least : 2 ^ 52 ≤ grid.0
    least = halve grid.0 (values_le half c 1 2 grid.0 (2 ^ 53) (lit< tt) (lit< tt) (unfold of_bits in (refl, refl)) grid.1 low)
      where
        halve : (p : ℕ) → 1 * 9007199254740992 ≤ p * 2 → 4503599627370496 ≤ p
        halve p h = omega arith

    most : grid.0 ≤ 2 ^ 53
    most = ones grid.0 (values_le c one grid.0 (2 ^ 53) 1 1 (lit< tt) (lit< tt) grid.1 (unfold of_bits in (refl, refl)) high)
      where
        ones : (p : ℕ) → p * 1 ≤ 1 * 9007199254740992 → p ≤ 9007199254740992
        ones p h = omega arith

    short : (p : ℕ) → 4503599627370496 ≤ p → 9007199254740992 - p < 9007199254740992
    short p h = omega arith

-- so many parts of 8 are an f64
pub exact_upto : (p : ℕ) → p ≤ 2 ^ 53 → Exact p (2 ^ 50)
exact_upto p h = ⊎_elim (λ (e : p ≡ 2 ^ 53). rw e all) (λ (l : p < 2 ^ 53). exact_at false p 50 l (lit≤ tt)) (eq-or-lt_of_le h)
  where
    all : Exact (2 ^ 53) (2 ^ 50)
    all = subst (λ (z : Float). HasValue z false (2 ^ 53) (2 ^ 50)) (sym (round_same binary64 false (2 ^ 53) (2 ^ 50) 8 1 (lit< tt) (lit< tt) refl))
        (rescale (round binary64 false 8 1) false 8 1 (2 ^ 53) (2 ^ 50) (lit< tt) refl (exact_at false 8 0 (lit< tt) (lit≤ tt)))
