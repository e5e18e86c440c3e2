-- Away from its corners nothing is smoothed. With half = |phase - 1/2|, a tick dt of at most half that leaves half below 1/2 - dt
-- keeps the phase from dt to 1 - dt, and so the phase seen from the triangle's upper corner.
use mathlib.Core.Bool.{Bool, true, false, not, false≢true}
use mathlib.Core.Logic.{◌⊎◌, inl, inr, ⊎_elim}
use mathlib.Core.Path.{◌≡◌, refl, sym, ap, ◌∙◌, subst}
use Prim.Native.Nat.{ℕ, ◌+◌, ◌-◌, ◌*◌, ◌≤◌, ◌<◌}
use native.Mathlib.Nat.{le_of_mul-le-mul_right, lt_of_not-le, le_trans, le_of_eq, le_of_lt, mul-pos, one-mul, mul-one, mul-le-mul_right}
use native.Mathlib.Omega.{arith}
use lib.Dec.{T, ltb, lit<, lit≤, ltb→lt, nltb→le}
use lib.Ieee.{Float, nan, inf, fin, binary64, round, sum, add, sub, neg, lt, le, eq, up, down, of_bits}
use lib.Ieee.Exact.{HasValue}
use lib.Ieee.Fits.{down_pos}
use lib.Ieee.Order.{round_mono, le_of_values}
use Rattle.numeric.proofs.BasicLaws.{fabs_plain, fabs_neg}
use Rattle.laws.specs.Float.{zer, one, F64}
use Rattle.laws.proofs.Rounded.{Rounded, rounded}
use Rattle.laws.proofs.Order.{values_le, lt_false, lt_not_ge, neg_lt_zero}
use Rattle.laws.proofs.Tests.{of_true, of_false}
use Rattle.laws.proofs.Unique.{round_own}
use Rattle.laws.proofs.Values.{add_round, sub_round, sum_pos_neg, sum_neg, sum_neg_pos, neg_value, exact_at, round_neg}
use Rattle.numeric.specs.Basic.{fabs_of}
use Rattle.common.specs.Consts.{half}
use Rattle.common.specs.Phase.{turns}
use Rattle.common.specs.Tests.{phase_ok}
use Rattle.vco.specs.Waves.{corner_half_of}
use Rattle.vco.proofs.PulseLaws.{Phase, phase_value}

both : (a b c : ℕ) → sum binary64 true a true b c ≡ round binary64 true (a + b) c
unfolding sum
both a b c = refl

-- p - 1/2, from which side
abbrev Side : Float → ℕ → ℕ → Type 0
Side x a c = ((c ≤ a * 2) × (x ≡ round binary64 false (a * 2 - 1 * c) (c * 2))) ⊎ ((a * 2 < c) × (x ≡ neg (round binary64 false (1 * c - a * 2) (c * 2))))

side : (p : Float) (f : Phase p) → Side (sub binary64 p half) f.top f.bottom
side p f = subst (λ (z : Float). Side z f.top f.bottom)
    (sym (sub_round p half f.sign false f.top f.bottom 1 2 f.bottom_pos (lit< tt) f.value (unfold of_bits in (refl, refl))))
    (go f.sign f.zero_if (ltb (f.top * 2) f.bottom) refl)
  where
    a : ℕ
    a = f.top

    c : ℕ
    c = f.bottom

    go : (s : Bool) → (s ≡ true → a ≡ 0) → (b : Bool) → ltb (a * 2) c ≡ b → Side (sum binary64 s (a * 2) true (1 * c) (c * 2)) a c
    go false z true e =
        let h : a * 2 < c = ltb→lt (a * 2) c (of_true (ltb (a * 2) c) e) in
        inr (h, sum_neg (a * 2) (1 * c) (c * 2) (less a c h) ∙ round_neg (1 * c - a * 2) (c * 2))
      where
        less : (a c : ℕ) → a * 2 < c → a * 2 < 1 * c
        less a c h = omega arith
    go false z false e =
        let h : c ≤ a * 2 = nltb→le (a * 2) c (of_false (ltb (a * 2) c) e) in
        inl (h, sum_pos_neg (a * 2) (1 * c) (c * 2) (le_trans (le_of_eq (one-mul c)) h))
    go true z b e =
        let n = none a c (z refl) f.bottom_pos in
        inr (n.0, both (a * 2) (1 * c) (c * 2) ∙ ap (λ (k : ℕ). round binary64 true k (c * 2)) n.1 ∙ round_neg (1 * c - a * 2) (c * 2))
      where
        none : (a c : ℕ) → a ≡ 0 → 0 < c → (a * 2 < c) × (a * 2 + 1 * c ≡ 1 * c - a * 2)
        none a c z p = (omega arith, omega arith)

-- a magnitude that is a number is a fraction
abbrev Fraction : Float → Type 0
Fraction w = (b : ℕ) × (d : ℕ) × (0 < d) × HasValue w false b d

minus_sign : Float → Bool
minus_sign nan = false
minus_sign (inf s) = s
minus_sign (fin s m e) = s

magnitude : (w h : Float) → fabs_of w ≡ w → T (le w h) → T (lt h (sub binary64 half w)) → Fraction w
unfolding fabs_of minus_sign
magnitude nan h m l k = absurd (unfold le lt eq in l)
magnitude (inf true) h m l k = absurd (false≢true (ap minus_sign m))
magnitude (inf false) h m l k =
    let e : sub binary64 half (inf false) ≡ inf true = unfold sub add neg of_bits in refl in
    absurd (far h (subst (λ (z : Float). T (lt h z)) e k))
  where
    far : (h : Float) → T (lt h (inf true)) → ⊥
    far nan t = unfold lt in t
    far (inf true) t = unfold lt in t
    far (inf false) t = unfold lt in t
    far (fin s m e) t = unfold lt in t
magnitude (fin true n g) h m l k = absurd (false≢true (ap minus_sign m))
magnitude (fin false n g) h m l k = (n * up g, down g, down_pos g, (refl, refl))

-- the phase, and the phase seen from the upper corner, from dt to 1 - dt
pub record Away (p w : Float) : Type 0 where
  pub above : T (le w p)
  pub below : T (le p (sub binary64 one w))
  pub half_above : T (le w (corner_half_of p))
  pub half_below : T (le (corner_half_of p) (sub binary64 one w))

-- of two rounded fractions the smaller has the smaller fraction
strict : (a c b d : ℕ) → 0 < c → 0 < d → T (lt (round binary64 false a c) (round binary64 false b d)) → a * d < b * c
strict a c b d C D h =
    lt_of_not-le (λ (k : b * c ≤ a * d). lt_not_ge (round binary64 false a c) (round binary64 false b d) h (round_mono binary64 b d a c D C k))

-- a fraction of at most 1/2, rounded
halved : (n c : ℕ) → 0 < c → n * 2 ≤ 1 * c → Rounded (round binary64 false n c) 0 1 1
halved n c C h = rounded n c 0 1 1 C (lit< tt) (lit< tt) (lit≤ tt) (none c (n * 2)) h
  where
    none : (c m : ℕ) → 0 * c ≤ m
    none c m = omega arith

-- dt is at most 1/2
least_half : (w h : Float) (r : Fraction w) → Rounded h 0 1 1 → T (le w h) → r.0 * 2 ≤ r.1
least_half w h r q l = le_of_mul-le-mul_right
    (fit r.0 r.1 q.top q.bottom (values_le w h r.0 r.1 q.top q.bottom r.2 q.bottom_pos r.3 q.value l)
    (mul-le-mul_right r.1 q.most)) q.bottom_pos
  where
    fit : (b d u v : ℕ) → b * v ≤ u * d → u * 2 * d ≤ 1 * v * d → b * 2 * v ≤ d * v
    fit b d u v h k = omega arith

-- 1/2 - dt and 1 - dt
half_less : (w : Float) (r : Fraction w) → r.0 * 2 ≤ r.1 → sub binary64 half w ≡ round binary64 false (1 * r.1 - r.0 * 2) (2 * r.1)
half_less w r h = sub_round half w false false 1 2 r.0 r.1 (lit< tt) r.2 (unfold of_bits in (refl, refl)) r.3
    ∙ sum_pos_neg (1 * r.1) (r.0 * 2) (2 * r.1) (le_trans h (le_of_eq (sym (one-mul r.1))))

one_less : (w : Float) (r : Fraction w) → r.0 * 2 ≤ r.1 → sub binary64 one w ≡ round binary64 false (1 * r.1 - r.0 * 1) (1 * r.1)
one_less w r h = sub_round one w false false 1 1 r.0 r.1 (lit< tt) r.2 (unfold of_bits in (refl, refl)) r.3
    ∙ sum_pos_neg (1 * r.1) (r.0 * 1) (1 * r.1) (fit r.0 r.1 h)
  where
    fit : (b d : ℕ) → b * 2 ≤ d → b * 1 ≤ 1 * d
    fit b d h = omega arith

-- ---- orders of fractions: a / c a phase, b / d a tick of at most 1/2
-- with n over c, and m over b twice, for the differences
under_one : (a c b d n m : ℕ) → c + n ≡ a * 2 → b * 2 + m ≡ d → n * (2 * d) < m * (c * 2) → a * d ≤ (b + m) * c
under_one a c b d n m p q h = omega (arith, ap (λ (z : ℕ). z * d) p, ap (λ (z : ℕ). z * c) q)

split : (b d : ℕ) → b * 2 ≤ d → (b * 2 + (1 * d - b * 2) ≡ d) × (b + (1 * d - b * 2) ≡ 1 * d - b * 1)
split b d h = (omega arith, omega arith)

left : (a c : ℕ) → c ≤ a * 2 → c + (a * 2 - 1 * c) ≡ a * 2
left a c h = omega arith

one_side : (a c b d : ℕ) → b * 2 ≤ d → c ≤ a * 2 → b * c ≤ a * d
one_side a c b d h k = omega (arith, mul-le-mul_right c h, mul-le-mul_right d k)

less : (a c b d : ℕ) → b * 2 ≤ d → c ≤ a * 2 → (a * 2 - 1 * c) * (2 * d) < (1 * d - b * 2) * (c * 2) → a * (1 * d) ≤ (1 * d - b * 1) * c
less a c b d h k l =
    let s = split b d h in
    subst (λ (z : ℕ). a * z ≤ (1 * d - b * 1) * c) (sym (one-mul d))
    (subst (λ (z : ℕ). a * d ≤ z * c) s.1 (under_one a c b d (a * 2 - 1 * c) (1 * d - b * 2) (left a c k) s.0 l))

far : (a c b d : ℕ) → b * 2 ≤ d → (a * 2 - 1 * c) * (2 * d) < (1 * d - b * 2) * (c * 2) → (a * 2 - 1 * c) * (1 * d) ≤ (1 * d - b * 1) * (c * 2)
far a c b d h l = let s = split b d h in subst (λ (z : ℕ). (a * 2 - 1 * c) * (1 * d) ≤ z * (c * 2)) s.1 (fit (a * 2 - 1 * c) (1 * d - b * 2) b c d l)
  where
    fit : (n m b c d : ℕ) → n * (2 * d) < m * (c * 2) → n * (1 * d) ≤ (b + m) * (c * 2)
    fit n m b c d h = omega arith

-- from 1/2 on: p - 1/2 is not below 0, and is itself the phase seen from the corner
upper : (p w : Float) → F64 p → (f : Phase p) (r : Fraction w) → f.bottom ≤ f.top * 2
    → sub binary64 p half ≡ round binary64 false (f.top * 2 - 1 * f.bottom) (f.bottom * 2)
    → T (le w (fabs_of (sub binary64 p half))) → T (lt (fabs_of (sub binary64 p half)) (sub binary64 half w)) → Away p w
upper p w t f r h e l k =
    record {
      above = le_of_values w p b d a c D C r.3 v (one_side a c b d small h);
      below = subst (λ (z : Float). T (le z (sub binary64 one w))) (round_own false p a c C t v)
          (rw (one_less w r small) (round_mono binary64 a c (1 * d - b * 1) (1 * d) C D1 (less a c b d small h apart)));
      half_above = rw corner l1;
      half_below = rw (corner, one_less w r small) (round_mono binary64 (a * 2 - 1 * c) (c * 2) (1 * d - b * 1) (1 * d) C2 D1 (far a c b d small apart));
    }
  where
    a : ℕ
    a = f.top

    c : ℕ
    c = f.bottom

    b : ℕ
    b = r.0

    d : ℕ
    d = r.1

    C : 0 < c
    C = f.bottom_pos

    D : 0 < d
    D = r.2

    C2 : 0 < c * 2
    C2 = mul-pos C (lit< tt)

    D1 : 0 < 1 * d
    D1 = mul-pos (lit< tt) D

    x : Float
    x = round binary64 false (a * 2 - 1 * c) (c * 2)

    q : Rounded x 0 1 1
    q = halved (a * 2 - 1 * c) (c * 2) C2 (fit a c f.below)
      where
        fit : (a c : ℕ) → a < c → (a * 2 - 1 * c) * 2 ≤ 1 * (c * 2)
        fit a c h = omega arith

    same : fabs_of (sub binary64 p half) ≡ x
    same = ap fabs_of e ∙ fabs_plain x q.top q.bottom q.value

    l1 : T (le w x)
    l1 = subst (λ (z : Float). T (le w z)) same l

    small : b * 2 ≤ d
    small = least_half w x r q l1

    apart : (a * 2 - 1 * c) * (2 * d) < (1 * d - b * 2) * (c * 2)
    apart = strict (a * 2 - 1 * c) (c * 2) (1 * d - b * 2) (2 * d) C2 (mul-pos (lit< tt) D)
        (subst (λ (z : Float). T (lt x z)) (half_less w r small) (subst (λ (z : Float). T (lt z (sub binary64 half w))) same k))

    v : HasValue p false a c
    v = go f.sign f.zero_if f.value
      where
        go : (s : Bool) → (s ≡ true → a ≡ 0) → HasValue p s a c → HasValue p false a c
        go false z v = v
        go true z v = absurd (no a c (z refl) C h)
          where
            no : (a c : ℕ) → a ≡ 0 → 0 < c → c ≤ a * 2 → ⊥
            no a c z p h = omega arith

    corner : corner_half_of p ≡ x
    corner = unfold corner_half_of in
        rw (
          e,
          lt_false x zer
              (le_of_values zer x 0 1 q.top q.bottom (lit< tt) q.bottom_pos (unfold of_bits in (refl, refl)) q.value (none q.top q.bottom)),
        ) refl
      where
        none : (n d : ℕ) → 0 * d ≤ n * 1
        none n d = omega arith

-- below 1/2: n is what c has over a twice
over_tick : (a c b d n m : ℕ) → a * 2 + n ≡ c → b * 2 + m ≡ d → n * (2 * d) < m * (c * 2) → b * c ≤ a * d
over_tick a c b d n m p q h = omega (arith, ap (λ (z : ℕ). z * d) p, ap (λ (z : ℕ). z * c) q)

rest : (a c : ℕ) → a * 2 < c → a * 2 + (1 * c - a * 2) ≡ c
rest a c h = omega arith

no_zero : (a c d n m : ℕ) → a ≡ 0 → a * 2 + n ≡ c → m ≤ d → n * (2 * d) < m * (c * 2) → ⊥
no_zero a c d n m z p h l = let e : n ≡ c = omega arith in omega (arith, mul-le-mul_right (c * 2) h, ap (λ (k : ℕ). k * (2 * d)) e)

-- a phase below 1/2 is below it by 2 ^ -56 at least
gap : (a c : ℕ) → a * 2 < c → (c ≤ a * 4 → c ≤ 36028797018963968) → 1 * (c * 2) ≤ (1 * c - a * 2) * 72057594037927936
gap a c h f = go (ltb (a * 4) c) (ltb→lt (a * 4) c) (nltb→le (a * 4) c)
  where
    far_off : (a c : ℕ) → a * 4 < c → 1 * (c * 2) ≤ (1 * c - a * 2) * 72057594037927936
    far_off a c h = omega arith

    close : (a c : ℕ) → a * 2 < c → c ≤ 36028797018963968 → 1 * (c * 2) ≤ (1 * c - a * 2) * 72057594037927936
    close a c h k = omega arith

    go : (b : Bool) → (T b → a * 4 < c) → (T (not b) → c ≤ a * 4) → 1 * (c * 2) ≤ (1 * c - a * 2) * 72057594037927936
    go true g k = far_off a c (g tt)
    go false g k = close a c h (f (k tt))

halves : (a c b d m : ℕ) → b * 2 + m ≡ d → a * 2 ≤ c → a * d ≤ (b + m) * c
halves a c b d m q h = omega (arith, ap (λ (z : ℕ). z * c) q, mul-le-mul_right d h)

low : (a c b d : ℕ) → b * 2 ≤ d → a * 2 < c → a * (1 * d) ≤ (1 * d - b * 1) * c
low a c b d h k =
    let s = split b d h in
    subst (λ (z : ℕ). a * z ≤ (1 * d - b * 1) * c) (sym (one-mul d))
    (subst (λ (z : ℕ). a * d ≤ z * c) s.1 (halves a c b d (1 * d - b * 2) s.0 (le_of_lt k)))

wide : (b d m n : ℕ) → b * 2 ≤ d → m * 2 ≤ 1 * n → b * (n * 1) ≤ (1 * n - m * 1) * d
wide b d m n h k =
    let s = split m n (le_trans k (le_of_eq (one-mul n))) in
    subst (λ (z : ℕ). b * z ≤ (1 * n - m * 1) * d) (sym (mul-one n)) (subst (λ (z : ℕ). b * n ≤ z * d) s.1 (halves b d m n (1 * n - m * 2) s.0 h))

less_still : (b d m n : ℕ) → b * 2 ≤ d → m * 2 ≤ 1 * n → b * n ≤ m * d → (1 * n - m * 1) * (1 * d) ≤ (1 * d - b * 1) * (n * 1)
less_still b d m n h k l = fit b d m n (1 * n - m * 1) (1 * d - b * 1) (back m n k) (back b d (le_trans h (le_of_eq (sym (one-mul d))))) l
  where
    back : (m n : ℕ) → m * 2 ≤ 1 * n → m + (1 * n - m * 1) ≡ n
    back m n h = omega arith

    fit : (b d m n i j : ℕ) → m + i ≡ n → b + j ≡ d → b * n ≤ m * d → i * (1 * d) ≤ j * (n * 1)
    fit b d m n i j p q h = omega (arith, ap (λ (z : ℕ). z * d) p, ap (λ (z : ℕ). z * n) q)

corner_below : (p x y : Float) → sub binary64 p half ≡ x → lt x zer ≡ true → add binary64 x one ≡ y → corner_half_of p ≡ y
unfolding corner_half_of
corner_below p x y e z s = rw (e, z) s

-- p - 1/2 is below 0 by H, and the phase seen from the corner is 1 - H
lower : (p w : Float) → F64 p → F64 w → (f : Phase p) (r : Fraction w) → f.top * 2 < f.bottom
    → sub binary64 p half ≡ neg (round binary64 false (1 * f.bottom - f.top * 2) (f.bottom * 2))
    → T (le w (fabs_of (sub binary64 p half))) → T (lt (fabs_of (sub binary64 p half)) (sub binary64 half w)) → Away p w
lower p w t u f r h e l k =
    record {
      above = le_of_values w p b d a c D C r.3 v (over_tick a c b d (1 * c - a * 2) (1 * d - b * 2) (rest a c h) (split b d small).0 apart);
      below = subst (λ (z : Float). T (le z (sub binary64 one w))) (round_own false p a c C t v)
          (rw (one_less w r small) (round_mono binary64 a c (1 * d - b * 1) (1 * d) C D1 (low a c b d small h)));
      half_above = subst (λ (z : Float). T (le z (corner_half_of p))) (round_own false w b d D u r.3)
          (rw corner (round_mono binary64 b d (1 * n - m * 1) (n * 1) D N1 (wide b d m n small q.most)));
      half_below = rw (corner, one_less w r small)
          (round_mono binary64 (1 * n - m * 1) (n * 1) (1 * d - b * 1) (1 * d) N1 D1
          (less_still b d m n small q.most (values_le w x b d m n D q.bottom_pos r.3 q.value l1)));
    }
  where
    a : ℕ
    a = f.top

    c : ℕ
    c = f.bottom

    b : ℕ
    b = r.0

    d : ℕ
    d = r.1

    C : 0 < c
    C = f.bottom_pos

    D : 0 < d
    D = r.2

    C2 : 0 < c * 2
    C2 = mul-pos C (lit< tt)

    D1 : 0 < 1 * d
    D1 = mul-pos (lit< tt) D

    x : Float
    x = round binary64 false (1 * c - a * 2) (c * 2)

    q : Rounded x 0 1 1
    q = halved (1 * c - a * 2) (c * 2) C2 (fit a c)
      where
        fit : (a c : ℕ) → (1 * c - a * 2) * 2 ≤ 1 * (c * 2)
        fit a c = omega arith

    m : ℕ
    m = q.top

    n : ℕ
    n = q.bottom

    N1 : 0 < n * 1
    N1 = mul-pos q.bottom_pos (lit< tt)

    same : fabs_of (sub binary64 p half) ≡ x
    same = ap fabs_of e ∙ fabs_neg x ∙ fabs_plain x m n q.value

    l1 : T (le w x)
    l1 = subst (λ (z : Float). T (le w z)) same l

    small : b * 2 ≤ d
    small = least_half w x r q l1

    apart : (1 * c - a * 2) * (2 * d) < (1 * d - b * 2) * (c * 2)
    apart = strict (1 * c - a * 2) (c * 2) (1 * d - b * 2) (2 * d) C2 (mul-pos (lit< tt) D)
        (subst (λ (z : Float). T (lt x z)) (half_less w r small) (subst (λ (z : Float). T (lt z (sub binary64 half w))) same k))

    v : HasValue p false a c
    v = go f.sign f.zero_if f.value
      where
        go : (s : Bool) → (s ≡ true → a ≡ 0) → HasValue p s a c → HasValue p false a c
        go false z v = v
        go true z v = absurd (no_zero a c d (1 * c - a * 2) (1 * d - b * 2) (z refl) (rest a c h) (part b d) apart)
          where
            part : (b d : ℕ) → 1 * d - b * 2 ≤ d
            part b d = omega arith

    -- the difference is no 0
    some : 0 < m
    some = above_zero m n q.bottom_pos
        (values_le (round binary64 false 1 72057594037927936) x 1 72057594037927936 m n (lit< tt) q.bottom_pos (exact_at false 1 56 (lit< tt) (lit≤ tt))
        q.value (round_mono binary64 1 72057594037927936 (1 * c - a * 2) (c * 2) (lit< tt) C2 (gap a c h (f.fine t))))
      where
        above_zero : (m n : ℕ) → 0 < n → 1 * n ≤ m * 72057594037927936 → 0 < m
        above_zero m n p h = omega arith

    corner : corner_half_of p ≡ round binary64 false (1 * n - m * 1) (n * 1)
    corner =
        let y : HasValue (neg x) true m n = neg_value x false m n q.value in
        let z : lt (neg x) zer ≡ true = unfold of_bits in neg_lt_zero (neg x) m n some q.bottom_pos y in
        let o : HasValue one false 1 1 = unfold of_bits in (refl, refl) in
        let s : add binary64 (neg x) one ≡ round binary64 false (1 * n - m * 1) (n * 1) =
        add_round (neg x) one true false m n 1 1 q.bottom_pos (lit< tt) y o ∙ sum_neg_pos (m * 1) (1 * n) (n * 1) (fit m n q.most) in
        corner_below p (neg x) (round binary64 false (1 * n - m * 1) (n * 1)) e z s
      where
        fit : (m n : ℕ) → m * 2 ≤ 1 * n → m * 1 ≤ 1 * n
        fit m n h = omega arith

pub away : (p w : Float) → F64 p → F64 w → phase_ok (turns p) ≡ true → fabs_of w ≡ w → T (le w (fabs_of (sub binary64 p half)))
    → T (lt (fabs_of (sub binary64 p half)) (sub binary64 half w)) → Away p w
away p w t u h m l k =
    let f = phase_value p h in
    let r = magnitude w (fabs_of (sub binary64 p half)) m l k in
    ⊎_elim (λ (s : (f.bottom ≤ f.top * 2) × (sub binary64 p half ≡ round binary64 false (f.top * 2 - 1 * f.bottom) (f.bottom * 2))). upper p w t f r
    s.0 s.1 l k)
    (λ (s : (f.top * 2 < f.bottom) × (sub binary64 p half ≡ neg (round binary64 false (1 * f.bottom - f.top * 2) (f.bottom * 2)))). lower p w t u f r
    s.0 s.1 l k)
    (side p f)
