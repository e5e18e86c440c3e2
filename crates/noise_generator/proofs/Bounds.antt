-- The rows of a pink noise stay from -1 to 1 and their running sum from -2 ^ 54 to 2 ^ 54, where 1 more or less is rounded away.
use Rattle.std.proofs.Common.{◌≡◌, ℕ, zero, suc, ◌+◌, ◌-◌, ◌*◌, ◌^◌, ◌<◌, ◌≤◌, Bool, true, false, cond, ◌&&◌, T, ltb, List, length, get_or, set, pos, sym, refl}
use Rattle.std.proofs.Common.{◌∙◌, subst, inl, inr, le_trans, le_of_eq, le_of_lt, add-le-add, mul-le-mul_right, mul-pos, mul-one, arith, lit<, lit≤, length-set}
use Rattle.std.proofs.Common.{get_or-set_other, get_or-set_same}
use mathlib.Core.Bool.{beq}
use native.Mathlib.Decide.{ℕ_discrete}
use native.Mathlib.Nat.{min-le_right}
use lib.Ieee.{Float, nan, fin, binary64, add, le, neg, of_bits, round, sub, sum}
use Rattle.laws.proofs.Always.{always}
use Rattle.laws.proofs.Interval.{Within, unit_within, within_between, within_le, within_neg, within_to}
use Rattle.laws.proofs.Monotone.{round_le}
use Rattle.laws.proofs.Order.{Below}
use Rattle.laws.proofs.Over.{get_or_tab, length_tab}
use Rattle.laws.proofs.Values.{add_round}
use Rattle.laws.specs.Float.{zer}
use Rattle.numeric.proofs.DrawLaws.{bipolar_within}
use Rattle.numeric.specs.Draw.{bipolar_of}
use Rattle.common.proofs.Bounds.{zer_within}
use Rattle.common.proofs.DrawLaws.{draw_below, draws_fine}
use Rattle.common.specs.Tests.{draws_ok}
use Rattle.answer.proofs.Blocks.{block_keeps, ticks_keep}
use Rattle.noise_generator.proofs.TickLaws.{numbers_of, drawing_at, tick_by}
use Rattle.noise_generator.specs.Consts.{n_ports}
use Rattle.noise_generator.specs.Calls.{Call, Tick, Play, Reset, SetSampleRate, after, First, ReachedNoiseGenerator}
use Rattle.noise_generator.specs.NoiseGenerator.{new_noise_generator, with_correlation, needed_of, turn_of, correlation_of, noise_generator_tick_of}
use Rattle.noise_generator.specs.NoiseGenerator.{Drawing, drawing, noise_generator_next_of, noise_generator_block_of}
use Rattle.noise_generator.specs.NoiseGenerator.{restarted, rated}
use Rattle.noise_generator.specs.Pink.{new_pink, next_index, changed_of, Rows, rowed, row_of, rows_of, sampled_of}
use Rattle.noise_generator.specs.Promises.{Bounded, SumsBounded}
use Rattle.noise_generator.specs.declared.NoiseGenerator.{NoiseGenerator}
use Rattle.noise_generator.specs.declared.NoiseGeneratorControls.{NoiseGeneratorControls}
use Rattle.answer.specs.declared.Ticked.{Ticked}
use Rattle.noise_generator.specs.declared.PinkNoiseState.{PinkNoiseState}

-- ---- a sum
-- what is at most 2 ^ 54 + 1 is rounded to 2 ^ 54 at most, since the next f64 is 2 ^ 54 + 4
round_stays : (s : Bool) (a c : ℕ) → 0 < c → a ≤ 18014398509481985 * c → Within 54 (round binary64 s a c)
round_stays s a c C h =
    within_between 54 (round binary64 s a c)
    (subst (λ (z : Float). T (le z (round binary64 s a c))) low (round_le true s 18014398509481985 1 a c (lit< tt) C (above s)))
    (subst (λ (z : Float). T (le (round binary64 s a c) z)) high (round_le s false a c 18014398509481985 1 C (lit< tt) (beneath s)))
  where
    low : round binary64 true 18014398509481985 1 ≡ fin true 1 (pos 54)
    low = unfold round in refl

    high : round binary64 false 18014398509481985 1 ≡ fin false 1 (pos 54)
    high = unfold round in refl

    most : a * 1 ≤ 18014398509481985 * c
    most = le_trans (le_of_eq (mul-one a)) h

    above : (s : Bool) → Below true (18014398509481985 * c) s (a * 1)
    above true = most
    above false = tt

    beneath : (s : Bool) → Below s (a * 1) false (18014398509481985 * c)
    beneath true = tt
    beneath false = most

-- a sum and a difference are no larger than both together
both_stay : (s t : Bool) (a b c : ℕ) → 0 < c → a + b ≤ 18014398509481985 * c → Within 54 (sum binary64 s a t b c)
unfolding sum
both_stay s t a b c C h = go (beq s t) (ltb a b)
  where
    left : (a b k : ℕ) → a + b ≤ k → a - b ≤ k
    left a b k h = omega arith

    right : (a b k : ℕ) → a + b ≤ k → b - a ≤ k
    right a b k h = omega arith

    go : (x y : Bool) → Within 54 (cond x (round binary64 s (a + b) c) (cond y (round binary64 t (b - a) c) (round binary64 (s && ltb b a) (a - b) c)))
    go true y = round_stays s (a + b) c C h
    go false true = round_stays t (b - a) c C (right a b (18014398509481985 * c) h)
    go false false = round_stays (s && ltb b a) (a - b) c C (left a b (18014398509481985 * c) h)

pub sum_stays : (x y : Float) → Within 54 x → Within 0 y → Within 54 (add binary64 x y)
sum_stays x y h k =
    let p = h.1 in
    let q = k.1 in
    subst (Within 54) (sym (add_round x y h.0 k.0 p.0 p.1 q.0 q.1 p.2 q.2 p.4 q.4))
    (both_stay h.0 k.0 (p.0 * q.1) (q.0 * p.1) (p.1 * q.1) (mul-pos p.2 q.2) (total p.0 p.1 q.0 q.1 p.3 q.3))
  where
    gather : (c d : ℕ) → 18014398509481984 * c * d + 1 * d * c ≡ 18014398509481985 * (c * d)
    gather c d = omega arith

    total : (a c b d : ℕ) → a ≤ 18014398509481984 * c → b ≤ 1 * d → a * d + b * c ≤ 18014398509481985 * (c * d)
    total a c b d h k = le_trans (add-le-add (mul-le-mul_right d h) (mul-le-mul_right c k)) (le_of_eq (gather c d))

pub difference_stays : (x y : Float) → Within 54 x → Within 0 y → Within 54 (sub binary64 x y)
unfolding sub
difference_stays x y h k = sum_stays x (neg y) h (within_neg 0 y k)

-- ---- a draw
-- n draws from place `at` on are below 2 ^ 53
abbrev pub Fine : List ℕ → ℕ → ℕ → Type 0
Fine draws at n = (i : ℕ) → i < n → get_or draws (at + i) 0 < 2 ^ 53

-- so they are where all that a call needs are
pub fine_of : (draws : List ℕ) (all at n : ℕ) → at + n ≤ all → draws_ok draws all ≡ true → Fine draws at n
fine_of draws all at n h e i l = draw_below draws all (at + i) e (omega arith)

-- ---- sixteen rows from -1 to 1, and a sum from -2 ^ 54 to 2 ^ 54
pub record CalmRows (r : Rows) : Type 0 where
  pub size : length r.rows ≡ 16
  pub row : (i : ℕ) → i < 16 → Within 0 (get_or r.rows i nan)
  pub total : Within 54 r.running_sum

abbrev pub Calm : PinkNoiseState → Type 0
Calm p = CalmRows (rowed p.rows p.running_sum)

-- a new row
set_calm : (l : List Float) (k : ℕ) (x : Float) → length l ≡ 16 → k < 16 → Within 0 x → ((i : ℕ) → i < 16 → Within 0 (get_or l i nan))
    → (i : ℕ) → i < 16 → Within 0 (get_or (set l k x) i nan)
set_calm l k x e h w old i q = go (ℕ_discrete i k)
  where
    go : Dec (i ≡ k) → Within 0 (get_or (set l k x) i nan)
    go (yes z) = rw z (subst (Within 0) (sym (get_or-set_same l k x nan (subst (λ (n : ℕ). k < n) (sym e) h))) w)
    go (no z) = subst (Within 0) (sym (get_or-set_other l k i x nan z)) (old i q)

-- a turn: the old row goes off the sum, and the new one comes on
calm_row : (draws : List ℕ) (at : ℕ) (r : Rows) (k : ℕ) → k < 16 → get_or draws (at + k) 0 < 2 ^ 53 → CalmRows r → CalmRows (row_of draws at r k)
unfolding row_of
calm_row draws at r k h d c =
    let new = bipolar_within (get_or draws (at + k) 0) d in
    record {
      size = length-set r.rows k (bipolar_of (get_or draws (at + k) 0)) ∙ c.size;
      row = set_calm r.rows k (bipolar_of (get_or draws (at + k) 0)) c.size h new c.row;
      total =
          sum_stays (sub binary64 r.running_sum (get_or r.rows k nan)) (bipolar_of (get_or draws (at + k) 0))
          (difference_stays r.running_sum (get_or r.rows k nan) c.total (c.row k h)) new;
    }

pub calm_rows : (draws : List ℕ) (at : ℕ) (r : Rows) (n : ℕ) → n ≤ 16 → Fine draws at n → CalmRows r → CalmRows (rows_of draws at r n)
unfolding rows_of
calm_rows draws at r zero h d c = c
calm_rows draws at r (suc n) h d c =
    calm_row draws at (rows_of draws at r n) n h (d n (omega arith)) (calm_rows draws at r n (le_of_lt h) (λ i l. d i (omega arith)) c)

most_rows : (index : ℕ) → changed_of index ≤ 16
unfolding changed_of
most_rows index = min-le_right _ 16

pub calm_sampled : (draws : List ℕ) (at : ℕ) (p : PinkNoiseState) → Fine draws at (changed_of (next_index p.index)) → Calm p → Calm (sampled_of draws at p)
unfolding sampled_of
calm_sampled draws at p d c =
    calm_rows draws at (rowed p.rows p.running_sum) (changed_of (next_index p.index)) (most_rows (next_index p.index)) d c

pub calm_new : Calm new_pink
unfolding new_pink
calm_new =
    record {
      size = length_tab (λ i. zer) 16;
      row = λ i h. subst (Within 0) (sym (get_or_tab nan (λ i. zer) 16 i h)) zer_within;
      total = within_to 0 54 zer (lit≤ tt) zer_within;
    }

-- ---- a generator with both pinks calm
pub record CalmNoise (s : NoiseGenerator) : Type 0 where
  pub pink : Calm s.pink
  pub pink2 : Calm s.pink2

-- an accepted tick: of the draws that it needs two are white's, and each pink has its own after them
pub calm_turn : (correlation : Float) (numbers : Bool) (s : NoiseGenerator) (wanted : ℕ) (draws : List ℕ) → draws_ok draws (needed_of s) ≡ true → CalmNoise s
    → CalmNoise (turn_of correlation numbers s wanted draws).state
unfolding turn_of needed_of
calm_turn correlation numbers s wanted draws e c =
    let m = changed_of (next_index s.pink.index) in
    let n = changed_of (next_index s.pink2.index) in
    record {
      pink = calm_sampled draws 2 s.pink (fine_of draws (2 + (m + n)) 2 m (first m n) e) c.pink;
      pink2 = calm_sampled draws (2 + m) s.pink2 (fine_of draws (2 + (m + n)) (2 + m) n (second m n) e) c.pink2;
    }
  where
    first : (m n : ℕ) → 2 + m ≤ 2 + (m + n)
    first m n = omega arith

    second : (m n : ℕ) → 2 + m + n ≤ 2 + (m + n)
    second m n = omega arith

-- any tick: a refused one leaves the state
pub calm_tick : (s : NoiseGenerator) (c : NoiseGeneratorControls) (wanted : ℕ) (draws : List ℕ) → CalmNoise s
    → CalmNoise (noise_generator_tick_of s c wanted draws).state
calm_tick s c wanted draws h =
    tick_by s c wanted draws (λ (t : Ticked NoiseGenerator). CalmNoise t.state)
    (λ e. calm_turn (correlation_of s c) (numbers_of c) s wanted draws (draws_fine (needed_of s) draws e) h) (λ e. h)

abbrev pub CalmDrawing : Drawing → Type 0
CalmDrawing x = CalmNoise x.noise

pub calm_next : (c : NoiseGeneratorControls) (wanted : ℕ) (x : Drawing) → CalmDrawing x → CalmDrawing (noise_generator_next_of c wanted x)
calm_next c wanted x h = calm_tick x.noise c wanted x.draws h

-- so before each tick of a block
pub calm_at : (s : NoiseGenerator) (c : NoiseGeneratorControls) (wanted : ℕ) (draws : List ℕ) → CalmNoise s
    → (i : ℕ) → CalmDrawing (drawing_at s c wanted draws i)
calm_at s c wanted draws h i = ticks_keep CalmDrawing (noise_generator_next_of c wanted) (calm_next c wanted) (drawing s draws) h i

pub calm_reset : (s : NoiseGenerator) → CalmNoise (restarted s)
unfolding restarted
calm_reset s = record { pink = calm_new; pink2 = calm_new }

-- ---- each one that is reached is calm
calm_first : (s : NoiseGenerator) → First s → CalmNoise s
calm_first s (inl e) = subst CalmNoise (sym e) (unfold new_noise_generator in record { pink = calm_new; pink2 = calm_new })
calm_first s (inr (c, e)) = subst CalmNoise (sym e) (unfold with_correlation in record { pink = calm_new; pink2 = calm_new })

calm_after : (s : NoiseGenerator) (c : Call) → CalmNoise s → CalmNoise (after s c)
unfolding after
calm_after s (Tick c wanted draws) h = calm_tick s c wanted draws h
calm_after s (Play c wanted draws t o m) h = unfold noise_generator_block_of in block_keeps n_ports _ _ _ CalmDrawing (calm_next c wanted) (drawing s draws) h
    t o m
calm_after s Reset h = calm_reset s
calm_after s (SetSampleRate r) h = unfold rated in h

pub calm_reached : {s : NoiseGenerator} → ReachedNoiseGenerator s → CalmNoise s
calm_reached = always CalmNoise calm_first (λ s c h f. calm_after s c h)

-- ---- by the order of floats
pub calm_of : (p : PinkNoiseState) → length p.rows ≡ 16 → Bounded p → Calm p
unfolding of_bits neg
calm_of p e b =
    record { size = e; row = λ i h. unit_within (get_or p.rows i nan) (b.rows i h); total = within_between 54 p.running_sum b.low b.high }

pub calm_bounded : (p : PinkNoiseState) → Calm p → Bounded p
unfolding of_bits neg
calm_bounded p c =
    let w = within_le 54 p.running_sum c.total in
    record { rows = λ i h. let u = within_le 0 (get_or p.rows i nan) (c.row i h) in (u.1, u.0); low = w.1; high = w.0 }

pub sums_bounded : SumsBounded
sums_bounded s r = let c = calm_reached r in (calm_bounded s.pink c.pink, calm_bounded s.pink2 c.pink2)
