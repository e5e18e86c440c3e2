-- A phase more than an increment above its step and below the next one: no residual, and its sum needs no wrap.
use mathlib.Core.Bool.{true, false, ◌&&◌, false≢true}
use mathlib.Core.Path.{◌≡◌, refl, sym, ◌∙◌, subst}
use Prim.Native.Nat.{ℕ, ◌+◌, ◌-◌, ◌*◌, ◌≤◌, ◌<◌}
use native.Mathlib.Nat.{zero-lt-suc, mul-pos, mul_comm, mul-sub, mul-le-mul_right, le_of_mul-le-mul_right}
use native.Mathlib.Omega.{arith}
use lib.Dec.{T, ltb, ltb→lt, lt→ltb}
use lib.IntN.{ℤ, pos}
use lib.Ieee.{Float, nan, inf, fin, binary64, up, down, round, sum, add, sub, lt, le, of_bits, fits}
use lib.Ieee.Bits.{is_true}
use lib.Ieee.Fits.{down_pos, add-fits}
use lib.Ieee.Order.{round_mono}
use lib.Ieee.Positive.{first_pos}
use Rattle.laws.proofs.Order.{lt_false, lt_by_values, le_of_lt_true, lt_le_trans, finite_between, inf_not_below}
use Rattle.laws.proofs.Rounded.{round_below_one}
use Rattle.laws.proofs.Sign.{Plus}
use Rattle.laws.proofs.Tests.{both_true, of_true}
use Rattle.laws.proofs.Unique.{round_own}
use Rattle.laws.proofs.Values.{sub_round, sum_pos_neg}
use Rattle.laws.specs.Float.{zer, one, F64, is_fin}
use Rattle.common.proofs.PhaseLaws.{wrap_unit}
use Rattle.common.specs.Phase.{wrap_of, polyblep_of}
use Rattle.supersaw.specs.Shortcuts.{steady_of}

-- the test of a phase that is more than an increment above its step
pub steady_above : (t dt : Float) → fits binary64 t ≡ true → lt dt t ≡ true → lt (add binary64 t dt) one ≡ steady_of t dt
unfolding steady_of
steady_above t dt f h = simp (f, h)

pub record Steady (t dt : Float) : Type 0 where
  pub still : polyblep_of t dt ≡ zer
  pub kept : wrap_of (add binary64 t dt) ≡ add binary64 t dt
  pub finite : is_fin (add binary64 t dt) ≡ true

-- t = n / g and dt = m / d, both without a sign
module _ (n m : ℕ) (g e : ℤ) (F : F64 (fin false n g)) (above : m * up e * down g < n * up g * down e)
    (below : lt (add binary64 (fin false n g) (fin false m e)) one ≡ true) where
  abbrev t : Float
  t = fin false n g

  abbrev dt : Float
  dt = fin false m e

  abbrev next : Float
  next = add binary64 t dt

  next_is : next ≡ round binary64 false (n * up g * down e + m * up e * down g) (down g * down e)
  next_is = unfold add sum in refl

  room : n * up g * down e + m * up e * down g < down g * down e
  room = round_below_one (n * up g * down e + m * up e * down g) (down g * down e) (mul-pos (down_pos g) (down_pos e))
      (subst (λ (z : Float). lt z one ≡ true) next_is below)

  -- t is its own rounding
  own : (a c : ℕ) → 0 < c → n * up g * c ≡ a * down g → round binary64 false a c ≡ t
  own a c C h = round_own false t a c C F (refl, h)

  grows : T (le t next)
  grows =
      subst (λ (z : Float). T (le z next)) (own (n * up g * down e) (down g * down e) (mul-pos (down_pos g) (down_pos e)) (turn (n * up g) (down g) (down e)))
      (subst (λ (z : Float). T (le (round binary64 false (n * up g * down e) (down g * down e)) z)) (sym next_is)
      (round_mono binary64 (n * up g * down e) (down g * down e) (n * up g * down e + m * up e * down g) (down g * down e) (mul-pos (down_pos g) (down_pos e))
      (mul-pos (down_pos g) (down_pos e)) (mul-le-mul_right (down g * down e) (more (n * up g * down e) (m * up e * down g)))))
    where
      turn : (a g e : ℕ) → a * (g * e) ≡ a * e * g
      turn a g e = omega arith

      more : (a b : ℕ) → a ≤ a + b
      more a b = omega arith

  positive : T (lt zer t)
  positive = of_true (lt zer t)
      (unfold of_bits in
      lt_by_values (fin false 0 (pos 0)) t 0 1 (n * up g) (down g) (zero-lt-suc 0) (down_pos g) (refl, refl) (refl, refl)
      ∙ is_true (ltb (0 * down g) (n * up g * 1))
      (lt→ltb (0 * down g) (n * up g * 1) (some (n * up g) (down g) (first_pos (n * up g) (down e) (over (m * up e * down g) (n * up g * down e) above)))))
    where
      some : (a g : ℕ) → 0 < a → 0 * g < a * 1
      some a g h = omega arith

      over : (b a : ℕ) → b < a → 0 < a
      over b a h = omega arith

  -- dt is below 1, and t not above 1 less dt
  under : T (le t (sub binary64 one dt))
  under =
      subst (λ (z : Float). T (le t z)) (sym less)
      (subst (λ (z : Float). T (le z (round binary64 false (1 * down e - m * up e * 1) (1 * down e)))) (own (n * up g) (down g) (down_pos g) refl)
      (round_mono binary64 (n * up g) (down g) (1 * down e - m * up e * 1) (1 * down e) (down_pos g) (mul-pos (zero-lt-suc 0) (down_pos e))
      (rest (n * up g) (m * up e) (down e) (down g) room)))
    where
      rest : (a x d g : ℕ) → a * d + x * g < g * d → a * (1 * d) ≤ (1 * d - x * 1) * g
      rest a x d g h =
          let c = mul_comm (1 * d - x * 1) g in
          let s = mul-sub g (1 * d) (x * 1) in
          omega arith

      whole : (a x d g : ℕ) → 0 < g → a + x * g < g * d → x * 1 ≤ 1 * d
      whole a x d g G h = le_of_mul-le-mul_right {m = x * 1} {n = 1 * d} {k = g} (omega arith) G

      less : sub binary64 one dt ≡ round binary64 false (1 * down e - m * up e * 1) (1 * down e)
      less =
          unfold of_bits in
          sub_round (fin false 1 (pos 0)) dt false false 1 1 (m * up e) (down e) (zero-lt-suc 0) (down_pos e) (refl, refl) (refl, refl)
          ∙ sum_pos_neg (1 * down e) (m * up e * 1) (1 * down e) (whole (n * up g * down e) (m * up e) (down e) (down g) (down_pos g) room)

  steady_fin : T (lt dt t) → Steady t dt
  steady_fin h =
      let z : T (lt zer next) = lt_le_trans zer t next positive grows in
      record {
        still = unfold polyblep_of in simp (lt_false t dt (le_of_lt_true dt t h), lt_false (sub binary64 one dt) t under);
        kept = wrap_unit next (add-fits binary64 t dt) (is_true (lt zer next) z) below;
        finite = finite_between next one (is_true (lt zer next) z) below;
      }

pub steady_law : (t dt : Float) → Plus dt → steady_of t dt ≡ true → Steady t dt
unfolding steady_of
steady_law t dt p h =
    let f = both_true (fits binary64 t) (lt dt t && lt (add binary64 t dt) one) h in
    let b = both_true (lt dt t) (lt (add binary64 t dt) one) f.1 in
    go t dt (of_true (fits binary64 t) f.0) p b.0 b.1
  where
    go : (t dt : Float) → F64 t → Plus dt → lt dt t ≡ true → lt (add binary64 t dt) one ≡ true → Steady t dt
    go t nan F p h k = absurd (false≢true (unfold lt in h))
    go t (inf true) F p h k = absurd p
    go t (inf false) F p h k = absurd (false≢true (sym (inf_not_below t) ∙ h))
    go t (fin true m e) F p h k = absurd p
    go nan (fin false m e) F p h k = absurd (false≢true (unfold lt in h))
    go (inf true) (fin false m e) F p h k = absurd (false≢true (unfold lt in h))
    go (inf false) (fin false m e) F p h k = absurd (false≢true (unfold lt add of_bits in k))
    go (fin true n g) (fin false m e) F p h k = absurd (false≢true (unfold lt in h))
    go (fin false n g) (fin false m e) F p h k =
        steady_fin n m g e F (ltb→lt (m * up e * down g) (n * up g * down e) (unfold lt in of_true (ltb (m * up e * down g) (n * up g * down e)) h)) k
        (of_true (lt (fin false m e) (fin false n g)) h)
