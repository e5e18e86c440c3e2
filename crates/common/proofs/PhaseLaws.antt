-- The wrap: it lies in [0, 1), and above -1 and below 2 it needs no floor, nor does it to tell whether a whole turn was passed.
use mathlib.Core.Bool.{Bool, true, false, cond, not, ◌&&◌, ◌||◌, false≢true, beq}
use mathlib.Core.Path.{◌≡◌, refl, sym, ap, ◌∙◌}
use Prim.Native.Nat.{ℕ, zero, suc, ◌+◌, ◌*◌, ◌≤◌, ◌<◌}
use native.Mathlib.Nat.{le_of_eq, zero-mul}
use native.Mathlib.Omega.{arith}
use lib.Dec.{T, eqb, ltb, lit<}
use lib.Ieee.{Float, binary64, lt, le, of_bits, nan, inf, fin, eq, ne, sub, add, neg, up, down}
use lib.Ieee.Bits.{is_true}
use lib.Ieee.Exact.{HasValue}
use lib.Ieee.Fits.{down_pos}
use lib.Ieee.Order.{le_of_values}
use borrow.Author.Tests.{lt-ltb, le-ltb, eq-eqb, ne_eqb}
use Rattle.laws.proofs.Order.{finite_between, le_of_lt_true, lt_false, lt_le_trans, lt_of_le_not_ge, neg_neg, le_false}
use Rattle.laws.proofs.Tests.{both_true, eqb_iff, of_true, of_false, zero_of}
use Rattle.laws.specs.Float.{zer, one, two, F64, is_fin}
use Rattle.numeric.proofs.FloorLaws.{floor_rest, floor_whole}
use Rattle.numeric.proofs.SmallFloor.{floor_zero, floor_one, floor_minus, pos_sub_zer, rest_below}
use Rattle.numeric.specs.Floor.{floor_of}
use Rattle.common.specs.Phase.{turns, wrap_of, turned_of, restart_of}
use Rattle.common.specs.Promises.{WrapIn, TurnedSays}
use Rattle.common.specs.Tests.{phase_ok}
use Rattle.common.specs.declared.Turns.{Turns}

finite_below : (x : Float) → lt x zer ≡ true → lt (neg one) x ≡ true → is_fin x ≡ true
unfolding lt of_bits neg
finite_below nan h k = absurd (false≢true h)
finite_below (inf true) h k = absurd (false≢true k)
finite_below (inf false) h k = absurd (false≢true h)
finite_below (fin s m e) h k = refl

minus_minus : (x : Float) → sub binary64 x (neg one) ≡ add binary64 x one
unfolding sub
minus_minus x = ap (λ (z : Float). add binary64 x z) (neg_neg one)

-- above 0 and below 1: itself
pub wrap_unit : (x : Float) → F64 x → lt zer x ≡ true → lt x one ≡ true → wrap_of x ≡ x
unfolding wrap_of
wrap_unit x t h k = simp (finite_between x one h k, floor_zero x h k, pos_sub_zer x t h k, le_false x one (of_true (lt x one) k))

-- from 1 to below 2: less 1
above_zero : (x : Float) → le one x ≡ true → lt zer x ≡ true
above_zero x h = is_true (lt zer x) (lt_le_trans zer one x (unfold lt of_bits in tt) (of_true (le one x) h))

pub wrap_two : (x : Float) → F64 x → le one x ≡ true → lt x two ≡ true → wrap_of x ≡ sub binary64 x one
unfolding wrap_of
wrap_two x t h l =
    let above = above_zero x h in
    let past = lt_false x one (of_true (le one x) h) in
    simp (finite_between x two above l, floor_one x t past l above, rest_below x t past l above)

-- above -1 and below 0: and 1, which may round to 1
pub wrap_minus : (x : Float) → lt x zer ≡ true → lt (neg one) x ≡ true → wrap_of x ≡ cond (le one (add binary64 x one)) zer (add binary64 x one)
unfolding wrap_of
wrap_minus x h k = simp (finite_below x h k, floor_minus x h k, minus_minus x)

-- not below 1 and not above it less 1 ..: what is at most 1 and not at least 1 is below 1
below_one : (w : Float) → T (le w one) → le one w ≡ false → T (lt w one)
below_one w h k = lt_of_le_not_ge w one h (of_false (le one w) k)

-- 0 is a phase
pub zero_in : phase_ok (turns zer) ≡ true
unfolding phase_ok le lt eq of_bits
zero_in = refl

-- and so is a phase that an edge may put to 0
pub restart_in : (p : Turns) (rising : Bool) → phase_ok p ≡ true → phase_ok (restart_of p rising) ≡ true
unfolding restart_of
restart_in p true h = zero_in
restart_in p false h = h

-- the wrap of any f64 is a phase
pub wrap_in : WrapIn
unfolding wrap_of
wrap_in x t = go (is_fin x) (λ (f : T (is_fin x)). floor_rest x t f)
  where
    w : Float
    w = sub binary64 x (floor_of x)

    inner : (b : Bool) → le one w ≡ b → T (le zer w) → T (le w one) → phase_ok (turns (cond b zer w)) ≡ true
    inner true e l h = zero_in
    inner false e l h = unfold phase_ok in simp (is_true (le zer w) l, is_true (lt w one) (below_one w h e))

    go : (b : Bool) → (T b → T (le zer w) × T (le w one)) → phase_ok (turns (cond b (cond (le one w) zer w) zer)) ≡ true
    go true f = let r = f tt in inner (le one w) refl r.0 r.1
    go false f = zero_in

-- ---- whether a whole turn is passed
-- a whole number is 0 where its size is, of either sign
eq_zero : (s : Bool) (v : Float) (q : ℕ) → HasValue v s q 1 → eq v zer ≡ eqb q 0
unfolding eq of_bits
eq_zero s nan q h = absurd h
eq_zero s (inf t) q h = absurd h
eq_zero s (fin t n g) q h = by_size (n * up g * 1) (down g) (beq t false) ∙ eqb_iff (n * up g * 1) 0 q 0 to from
  where
    twice : (x b : Bool) → (x && (b || x)) ≡ x
    twice false b = refl
    twice true true = refl
    twice true false = refl

    by_size : (a d : ℕ) (b : Bool) → (eqb a (0 * d) && (b || eqb a 0)) ≡ eqb a 0
    by_size a d b = rw (zero-mul d) (twice (eqb a 0) b)

    to : n * up g * 1 ≡ 0 → q ≡ 0
    to z = zero_of q (down g) (down_pos g) (le_of_eq (sym h.1 ∙ z))

    from : q ≡ 0 → n * up g * 1 ≡ 0
    from z = h.1 ∙ ap (λ (k : ℕ). k * down g) z ∙ zero-mul (down g)

-- n / d cut to a whole number is 0 where n is below d; raised to one, it is 0 where n is
cut_none : (n d q : ℕ) → q * d ≤ n → n < (q + 1) * d → eqb q 0 ≡ ltb (n * 1) (1 * d)
cut_none n d zero a b = sym (lt-ltb (n * 1) (1 * d) (omega arith))
cut_none n d (suc q) a b = ne_eqb (suc q) 0 (λ (z : suc q ≡ 0). omega arith) ∙ sym (le-ltb (n * 1) (1 * d) (omega arith))

raised_none : (n d q : ℕ) → 0 < d → n ≤ q * d → q * d < n + d → eqb q 0 ≡ ((eqb (0 * d) (n * 1) && eqb (0 * d) 0) && ltb 0 (n * 1 + 1 * d))
raised_none n d zero p a b =
    sym (simp (eq-eqb (0 * d) (n * 1) (omega arith), eq-eqb (0 * d) 0 (omega arith), lt-ltb 0 (n * 1 + 1 * d) (omega arith)))
raised_none n d (suc q) p a b = simp (ne_eqb (suc q) 0 (λ (z : suc q ≡ 0). omega arith), ne_eqb (0 * d) (n * 1) (λ (z : 0 * d ≡ n * 1). omega arith))

-- the floor of a finite number is 0 exactly in [0, 1)
floor_in : (x : Float) → F64 x → is_fin x ≡ true → eq (floor_of x) zer ≡ phase_ok (turns x)
floor_in nan t f = absurd (false≢true f)
floor_in (inf s) t f = absurd (false≢true f)
floor_in (fin false m e) t f =
    let w = floor_whole false m e t in
    eq_zero false (floor_of (fin false m e)) w.0 w.1
    ∙ unfold phase_ok lt of_bits in rw low (cut_none (m * up e) (down e) w.0 w.2 w.3)
  where
    low : le zer (fin false m e) ≡ true
    low =
        is_true (le zer (fin false m e))
        (le_of_values zer (fin false m e) 0 1 (m * up e) (down e) (lit< tt) (down_pos e) (unfold of_bits in (refl, refl)) (refl, refl) (omega arith))
floor_in (fin true m e) t f =
    let w = floor_whole true m e t in
    eq_zero true (floor_of (fin true m e)) w.0 w.1
    ∙ unfold phase_ok le lt eq of_bits in raised_none (m * up e) (down e) w.0 (down_pos e) w.2 w.3

pub turned_says : TurnedSays
unfolding turned_of ne
turned_says x t = go (is_fin x) refl
  where
    go : (b : Bool) → is_fin x ≡ b → (b && not (eq (floor_of x) zer)) ≡ (b && not (phase_ok (turns x)))
    go true f = ap not (floor_in x t f)
    go false f = refl

-- above 0 and below 1 none is, from 1 to below 2 one is, above -1 and below 0 one is
pub turned_unit : (x : Float) → F64 x → lt zer x ≡ true → lt x one ≡ true → turned_of x ≡ false
turned_unit x t h k =
    turned_says x t ∙ unfold phase_ok in simp (finite_between x one h k, is_true (le zer x) (le_of_lt_true zer x (of_true (lt zer x) h)), k)

pub turned_two : (x : Float) → F64 x → le one x ≡ true → lt x two ≡ true → turned_of x ≡ true
turned_two x t h l =
    let above = above_zero x h in
    turned_says x t
    ∙ unfold phase_ok in
    simp (
      finite_between x two above l,
      is_true (le zer x) (le_of_lt_true zer x (of_true (lt zer x) above)),
      lt_false x one (of_true (le one x) h),
    )

pub turned_minus : (x : Float) → F64 x → lt x zer ≡ true → lt (neg one) x ≡ true → turned_of x ≡ true
turned_minus x t h k = turned_says x t ∙ unfold phase_ok in simp (finite_below x h k, le_false x zer (of_true (lt x zer) h))

-- what wrap_near needs
pub ruleset near = (wrap_two, turned_two, wrap_minus, turned_minus)

-- ---- a state that refusals 1 and 2 let pass has a good rate and a good phase
pub accepted_state : (rate phase : Bool) → ◌≡◌ {A = ℕ} (cond rate (cond phase 0 2) 1) 0 → (rate ≡ true) × (phase ≡ true)
accepted_state true true h = (refl, refl)
accepted_state true false h = absurd (omega arith)
accepted_state false phase h = absurd (omega arith)

-- and one with a gate a good threshold
pub accepted_gate : (rate phase threshold : Bool) → ◌≡◌ {A = ℕ} (cond rate (cond (phase && threshold) 0 2) 1) 0
    → (rate ≡ true) × (phase ≡ true) × (threshold ≡ true)
accepted_gate rate phase threshold h =
    let s = accepted_state rate (phase && threshold) h in
    let b = both_true phase threshold s.1 in
    (s.0, b.0, b.1)
