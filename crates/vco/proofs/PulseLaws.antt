-- The pulse's falling edge: x = phase + (1 - pw) lies above 0 and below 2, so its floor is a test.
use mathlib.Core.Bool.{Bool, true, false, cond, true≢false, false≢true}
use mathlib.Core.Path.{◌≡◌, refl, sym, ap, ◌∙◌, subst}
use Prim.Native.Nat.{ℕ, ◌+◌, ◌≤◌, ◌-◌, suc, ◌<◌, ◌^◌, ◌*◌}
use native.Mathlib.Nat.{mul-pos, mul-le-mul_right, le_of_lt, one-mul}
use native.Mathlib.Omega.{arith}
use lib.Dec.{ltb, eqb, ltb→lt, eqb→eq, lt→ltb, lit<, nltb→le, lit≤}
use lib.Ieee.{Float, binary64, lt, le, of_bits, is_nan, round, nan, inf, fin, eq, sub, add, neg, up, down, sum}
use lib.Ieee.Bits.{is_true}
use lib.Ieee.Exact.{HasValue}
use lib.Ieee.Fits.{down_pos, and_l, and_r, add-fits}
use lib.IntN.{ℤ, pos, negsuc}
use Rattle.common.specs.Phase.{turns}
use Rattle.common.specs.Tests.{phase_ok}
use Rattle.laws.proofs.Number.{add_nan_r}
use Rattle.laws.proofs.Rounded.{Rounded, rounded}
use Rattle.laws.proofs.Order.{lt_by_values, neg_lt_pos}
use Rattle.laws.proofs.Tests.{of_true, of_false}
use Rattle.laws.proofs.Values.{fits_small, add_round, sub_round, sum_pos_neg, sum_neg_pos}
use Rattle.laws.specs.Float.{zer, one, two, F64}
use Rattle.numeric.proofs.SmallFloor.{floor_zero, floor_one, pos_sub_zer}
use Rattle.numeric.specs.Basic.{clamp_of}
use Rattle.numeric.specs.Floor.{floor_of}
use Rattle.vco.specs.Consts.{pw_low, pw_high}
use Rattle.vco.specs.Shortcuts.{Width}
use Rattle.vco.specs.Waves.{pw_edge_of}

-- the clamp leaves such a width
pub clamp_width : (x : Float) → Width (clamp_of x pw_low pw_high)
unfolding clamp_of
clamp_width x = go (lt x pw_low) (lt pw_high x) refl refl
  where
    go : (a b : Bool) → lt x pw_low ≡ a → lt pw_high x ≡ b → Width (cond a pw_low (cond b pw_high x))
    go true b p q = unfold lt of_bits in (refl, refl)
    go false true p q = unfold lt of_bits in (refl, refl)
    go false false p q = (p, q)

-- a phase is a fraction below 1; -0.0 is one too
pub record Phase (p : Float) : Type 0 where
  pub sign : Bool
  pub top : ℕ
  pub bottom : ℕ
  pub bottom_pos : 0 < bottom
  pub below : top < bottom
  pub value : HasValue p sign top bottom
  pub zero_if : sign ≡ true → top ≡ 0
  -- a phase from 1/4 on is a multiple of 2 ^ -55
  pub fine : F64 p → bottom ≤ top * 4 → bottom ≤ 36028797018963968

pub phase_value : (p : Float) → phase_ok (turns p) ≡ true → Phase p
unfolding phase_ok le lt eq of_bits
phase_value nan h = absurd (false≢true h)
phase_value (inf true) h = absurd (false≢true h)
phase_value (inf false) h = absurd (false≢true h)
phase_value (fin true m e) h =
    let z : m * up e ≡ 0 =
    nil (m * up e)
    (down e) (eqb→eq (0 * down e) (m * up e * 1)
    (and_l (eqb (0 * down e) (m * up e * 1)) (eqb (0 * down e) 0)
    (and_l (le zer (fin true m e)) (lt (fin true m e) one) (of_true (phase_ok (turns (fin true m e))) h)))) in
    record {
      sign = true;
      top = m * up e;
      bottom = down e;
      bottom_pos = down_pos e;
      below = subst (λ (n : ℕ). n < down e) (sym z) (down_pos e);
      value = (refl, refl);
      zero_if = λ t. z;
      fine = λ t k. absurd (low (m * up e) (down e) z (down_pos e) k);
    }
  where
    nil : (n d : ℕ) → 0 * d ≡ n * 1 → n ≡ 0
    nil n d h = omega arith

    low : (n d : ℕ) → n ≡ 0 → 0 < d → d ≤ n * 4 → ⊥
    low n d z p h = omega arith
phase_value (fin false m e) h =
    record {
      sign = false;
      top = m * up e;
      bottom = down e;
      bottom_pos = down_pos e;
      below = less (m * up e) (down e)
          (ltb→lt (m * up e * 1) (1 * down e)
          (and_r (le zer (fin false m e)) (ltb (m * up e * 1) (1 * down e)) (of_true (phase_ok (turns (fin false m e))) h)));
      value = (refl, refl);
      zero_if = λ t. absurd (false≢true t);
      fine = fine_of m e;
    }
  where
    fine_of : (m : ℕ) (e : ℤ) → F64 (fin false m e) → down e ≤ m * up e * 4 → down e ≤ 36028797018963968
    fine_of m (pos k) t h = lit≤ tt
    fine_of m (negsuc k) t h = few (2 ^ suc k) m (fits_small false m (negsuc k) t) h
      where
        few : (d m : ℕ) → m < 9007199254740992 → d ≤ m * 1 * 4 → d ≤ 36028797018963968
        few d m l h = omega arith

    less : (n d : ℕ) → n * 1 < 1 * d → n < d
    less n d h = omega arith

-- 1 - pw is from 1/32 to 31/32
room : (pw : Float) → Width pw → is_nan pw ≡ false → Rounded (sub binary64 one pw) 1 31 5
room nan w n = absurd (true≢false (unfold is_nan in n))
room (inf true) w n = absurd (unfold lt of_bits in true≢false w.0)
room (inf false) w n = absurd (unfold lt of_bits in true≢false w.1)
room (fin true m e) w n =
    let q : lt (fin true m e) pw_low ≡ true =
    unfold of_bits in neg_lt_pos (fin true m e) (m * up e) (down e) 3602879701896397 (negsuc 55) (lit< tt) (refl, refl) in
    absurd (true≢false (sym q ∙ w.0))
room (fin false m e) w n =
    let a = m * up e in
    let c = down e in
    let C : 0 < c = down_pos e in
    let low : 3602879701896397 * c ≤ a * 72057594037927936 =
    nltb→le (a * 72057594037927936) (3602879701896397 * c)
    (of_false (ltb (a * 72057594037927936) (3602879701896397 * c))
    (sym (lt_by_values (fin false m e) pw_low a c 3602879701896397 72057594037927936 C (lit< tt) (refl, refl) (unfold of_bits in (refl, refl))) ∙ w.0)) in
    let high : a * 4503599627370496 ≤ 4278419646001971 * c =
    nltb→le (4278419646001971 * c) (a * 4503599627370496)
    (of_false (ltb (4278419646001971 * c) (a * 4503599627370496))
    (sym (lt_by_values pw_high (fin false m e) 4278419646001971 4503599627370496 a c (lit< tt) C (unfold of_bits in (refl, refl)) (refl, refl)) ∙ w.1)) in
    let f = fit a c (lower a c low) (upper a c high) in
    subst (λ (z : Float). Rounded z 1 31 5)
    (sym (sub_round one (fin false m e) false false 1 1 a c (lit< tt) C (unfold of_bits in (refl, refl)) (refl, refl)
    ∙ sum_pos_neg (1 * c) (a * 1) (1 * c) f.0))
    (rounded (1 * c - a * 1) (1 * c) 1 31 5 (subst (λ (z : ℕ). 0 < z) (sym (one-mul c)) C) (lit< tt) (lit< tt) (lit≤ tt) f.1 f.2)
  where
    lower : (a c : ℕ) → 3602879701896397 * c ≤ a * 72057594037927936 → c ≤ a * 32
    lower a c h = omega arith

    upper : (a c : ℕ) → a * 4503599627370496 ≤ 4278419646001971 * c → a * 32 ≤ 31 * c
    upper a c h = omega arith

    fit : (a c : ℕ) → c ≤ a * 32 → a * 32 ≤ 31 * c → (a * 1 ≤ 1 * c) × (1 * (1 * c) ≤ (1 * c - a * 1) * 32) × ((1 * c - a * 1) * 32 ≤ 31 * (1 * c))
    fit a c h k = (omega arith, omega arith, omega arith)

-- so x is from 1/32 to 63/32
across : (p y : Float) → Phase p → Rounded y 1 31 5 → Rounded (add binary64 p y) 1 63 5
across p y f r = subst (λ (z : Float). Rounded z 1 63 5)
    (sym (add_round p y f.sign false f.top f.bottom r.top r.bottom f.bottom_pos r.bottom_pos f.value r.value))
    (go f.sign f.zero_if)
  where
    a : ℕ
    a = f.top

    c : ℕ
    c = f.bottom

    u : ℕ
    u = r.top

    v : ℕ
    v = r.bottom

    least : (a c u v : ℕ) → 1 * v * c ≤ u * 32 * c → 1 * (c * v) ≤ (a * v + u * c) * 32
    least a c u v h = omega arith

    most : (a c u v : ℕ) → a * v ≤ c * v → u * 32 * c ≤ 31 * v * c → (a * v + u * c) * 32 ≤ 63 * (c * v)
    most a c u v h k = omega arith

    all : Rounded (round binary64 false (a * v + u * c) (c * v)) 1 63 5
    all = rounded (a * v + u * c) (c * v) 1 63 5 (mul-pos f.bottom_pos r.bottom_pos) (lit< tt) (lit< tt) (lit≤ tt)
        (least a c u v (mul-le-mul_right c r.least)) (most a c u v (mul-le-mul_right v (le_of_lt f.below)) (mul-le-mul_right c r.most))

    -- -0.0 adds nothing
    none : (a c u v : ℕ) → a ≡ 0 → (a * v ≤ u * c) × (u * c - a * v ≡ a * v + u * c)
    none a c u v z = subst (λ (n : ℕ). (n * v ≤ u * c) × (u * c - n * v ≡ n * v + u * c)) (sym z) (omega arith, omega arith)

    go : (s : Bool) → (s ≡ true → a ≡ 0) → Rounded (sum binary64 s (a * v) false (u * c) (c * v)) 1 63 5
    go false z = unfold sum in all
    go true z =
        let n = none a c u v (z refl) in
        subst (λ (q : Float). Rounded q 1 63 5) (sym (sum_neg_pos (a * v) (u * c) (c * v) n.0 ∙ ap (λ (k : ℕ). round binary64 false k (c * v)) n.1)) all

-- the test in place of the floor
fold : (x : Float) → F64 x → Rounded x 1 63 5 → cond (lt x one) x (sub binary64 x one) ≡ sub binary64 x (floor_of x)
fold x t r = go (lt x one) refl
  where
    above : lt zer x ≡ true
    above = lt_by_values zer x 0 1 r.top r.bottom (lit< tt) r.bottom_pos (unfold of_bits in (refl, refl)) r.value
        ∙ is_true (ltb (0 * r.bottom) (r.top * 1)) (lt→ltb (0 * r.bottom) (r.top * 1) (some r.top r.bottom r.bottom_pos r.least))
      where
        some : (n d : ℕ) → 0 < d → 1 * d ≤ n * 32 → 0 * d < n * 1
        some n d p h = omega arith

    below : lt x two ≡ true
    below = lt_by_values x two r.top r.bottom 2 1 r.bottom_pos (lit< tt) r.value (unfold of_bits in (refl, refl))
        ∙ is_true (ltb (r.top * 1) (2 * r.bottom)) (lt→ltb (r.top * 1) (2 * r.bottom) (less r.top r.bottom r.bottom_pos r.most))
      where
        less : (n d : ℕ) → 0 < d → n * 32 ≤ 63 * d → n * 1 < 2 * d
        less n d p h = omega arith

    go : (b : Bool) → lt x one ≡ b → cond b x (sub binary64 x one) ≡ sub binary64 x (floor_of x)
    go true e = sym (ap (λ (z : Float). sub binary64 x z) (floor_zero x above e) ∙ pos_sub_zer x t above e)
    go false e = sym (ap (λ (z : Float). sub binary64 x z) (floor_one x t e below above))

pub pulse_edge : (p pw : Float) → phase_ok (turns p) ≡ true → Width pw
    → cond (lt (add binary64 p (sub binary64 one pw)) one) (add binary64 p (sub binary64 one pw)) (sub binary64 (add binary64 p (sub binary64 one pw)) one)
    ≡ pw_edge_of p pw
pulse_edge p nan h w = unfold pw_edge_of in rw (none, add_nan_r p) (unfold lt sub add floor_of in refl)
  where
    none : sub binary64 one nan ≡ nan
    none = unfold sub add neg of_bits in refl
pulse_edge p (inf s) h w = unfold pw_edge_of in fold _ (add-fits binary64 p _) (across p _ (phase_value p h) (room (inf s) w (unfold is_nan in refl)))
pulse_edge p (fin s m e) h w = unfold pw_edge_of in fold _ (add-fits binary64 p _) (across p _ (phase_value p h) (room (fin s m e) w (unfold is_nan in refl)))
