-- Marks: a tick of a calm state whose correlation is a number is clean, and a NaN correlation is told.
use Rattle.std.proofs.Common.{◌≡◌, ℕ, suc, ◌+◌, ◌*◌, ◌<◌, ◌≤◌, Bool, true, false, not, ◌&&◌, ◌||◌, T, List, get_or, sym, refl, ap, ◌∙◌, subst, le_trans}
use Rattle.std.proofs.Common.{mul-pos, arith, lit<, lit≤}
use mathlib.Core.Bool.{false≢true}
use Rattle.std.specs.Prelude.{Option, Some, None}
use lib.Ieee.Bits.{is_false}
use lib.Ieee.{Float, nan, binary64, eq, is_nan, le, lt, mul, neg, of_bits, sub}
use Rattle.laws.proofs.Interval.{Within, round_sized, unit_within, within_add, within_minus, within_mul, within_to}
use Rattle.laws.proofs.Number.{add_nan_l, mul_nan_l, mul_nan_r}
use Rattle.laws.proofs.Order.{float_le_trans}
use Rattle.laws.proofs.Values.{div_round}
use Rattle.laws.specs.Float.{zer, one, is_fin}
use Rattle.numeric.proofs.DrawLaws.{bipolar_within}
use Rattle.numeric.proofs.RangeLaws.{clamp_nan, clamp_range}
use Rattle.numeric.specs.Basic.{clamp_of}
use Rattle.numeric.specs.Draw.{bipolar_of}
use Rattle.common.proofs.Bounds.{one_within, out_finite}
use Rattle.common.proofs.DrawLaws.{draw_below, draws_fine}
use Rattle.common.specs.Consts.{five}
use Rattle.common.specs.Ports.{wants, out_of}
use Rattle.common.specs.Tests.{draws_ok}
use Rattle.answer.proofs.Laws.{mark_says}
use Rattle.answer.specs.Answer.{notfinite, mark_number, accepted}
use Rattle.answer.specs.Block.{answer_at}
use Rattle.answer.specs.Mark.{all_finite, all_numbers, mark_of, rule_of}
use Rattle.answer.specs.declared.Volts.{Volts}
use Rattle.noise_generator.specs.Shortcuts.{turn_volts}
use Rattle.noise_generator.specs.Consts.{sixteen}
use Rattle.noise_generator.specs.NoiseGenerator.{needed_of, given_or, given_in, mix_of, noise_generator_volts_of, turn_of, correlation_of}
use Rattle.noise_generator.specs.NoiseGenerator.{noise_generator_tick_of}
use Rattle.noise_generator.specs.NoiseGenerator.{drawing, noise_generator_told_of, noise_generator_next_of}
use Rattle.noise_generator.specs.Pink.{next_index, changed_of, sampled_of, pink_of}
use Rattle.noise_generator.specs.Promises.{NanTold, Clean, Number, AlwaysClean, BlockClean}
use Rattle.noise_generator.specs.declared.NoiseGenerator.{NoiseGenerator}
use Rattle.noise_generator.specs.declared.NoiseGeneratorControls.{NoiseGeneratorControls}
use Rattle.answer.specs.declared.Ticked.{Ticked}
use Rattle.noise_generator.specs.declared.PinkNoiseState.{PinkNoiseState}
use Rattle.noise_generator.proofs.Bounds.{Calm, CalmNoise, calm_turn, calm_at, calm_reached}
use Rattle.noise_generator.proofs.Refusals.{accepted_taken, block_accepts}
use Rattle.noise_generator.proofs.TickLaws.{numbers_of, drawing_at, tick_taken}
use Rattle.noise_generator.proofs.Stored.{stored_at}

-- ---- sizes
-- a sixteenth of a sum
pub pink_within : (p : PinkNoiseState) → Calm p → Within 50 (pink_of p)
unfolding pink_of
pink_within p c =
    let w = c.total in
    let q = w.1 in
    subst (Within 50) (sym (div_round p.running_sum sixteen w.0 q.0 q.1 16 1 q.2 (lit< tt) (lit< tt) q.4 (unfold of_bits in (refl, refl))))
    (w.0, round_sized w.0 50 (q.0 * 1) (q.1 * 16) (lit≤ tt) (mul-pos q.2 (lit< tt)) (part q.0 q.1 q.3))
  where
    part : (a c : ℕ) → a ≤ 18014398509481984 * c → a * 1 ≤ 1125899906842624 * (c * 16)
    part a c h = omega arith

-- a number's clamp to [0, 1]
pub correlation_within : (s : NoiseGenerator) (c : NoiseGeneratorControls) → Number s c → Within 0 (correlation_of s c)
unfolding correlation_of
correlation_within s c h =
    let x = clamp_of (given_or c.correlation s.correlation) zer one in
    let r = clamp_range (given_or c.correlation s.correlation) zer one (unfold le lt eq of_bits in tt) h in
    unit_within x (float_le_trans (neg one) zer x (unfold le lt eq neg of_bits in tt) r.0, r.1)

-- two numbers weighed by c and 1 - c, each of which is at most 2
mix_within : (k : ℕ) (a b c : Float) → suc (k + 1) ≤ 1023 → Within k a → Within k b → Within 0 c → Within (suc (k + 1)) (mix_of a b c)
unfolding mix_of
mix_within k a b c h A B C =
    within_add (k + 1) (mul binary64 a c) (mul binary64 b (sub binary64 one c)) h
    (within_to (k + 0) (k + 1) (mul binary64 a c) (omega arith) (within_mul k 0 a c (omega arith) A C))
    (within_mul k 1 b (sub binary64 one c) (omega arith) B (within_minus 0 one c (lit≤ tt) one_within C))

-- ---- the samples are finite
pub volts_finite : (c white1 independent pink1 pink2 : Float) (wanted : ℕ) → Within 0 c → Within 0 white1 → Within 0 independent → Within 50 pink1
    → Within 50 pink2 → all_finite (noise_generator_volts_of c white1 independent pink1 pink2 wanted) ≡ true
unfolding all_finite noise_generator_volts_of
volts_finite c white1 independent pink1 pink2 wanted C W I P Q = simp (white, pink, mixed, both) (unfold of_bits in refl)
  where
    white : is_fin (out_of (wants wanted 1) white1) ≡ true
    white = out_finite (wants wanted 1) 0 white1 (lit≤ tt) W

    pink : is_fin (out_of (wants wanted 2) pink1) ≡ true
    pink = out_finite (wants wanted 2) 50 pink1 (lit≤ tt) P

    mixed : is_fin (out_of (wants wanted 4) (mix_of white1 independent c)) ≡ true
    mixed = out_finite (wants wanted 4) 2 (mix_of white1 independent c) (lit≤ tt) (mix_within 0 white1 independent c (lit≤ tt) W I C)

    both : is_fin (out_of (wants wanted 8) (mix_of pink1 pink2 c)) ≡ true
    both = out_finite (wants wanted 8) 52 (mix_of pink1 pink2 c) (lit≤ tt) (mix_within 50 pink1 pink2 c (lit≤ tt) P Q C)

-- ---- so a tick of a calm state is clean
pub turn_finite : (c : Float) (numbers : Bool) (s : NoiseGenerator) (wanted : ℕ) (draws : List ℕ) → draws_ok draws (needed_of s) ≡ true → Within 0 c
    → CalmNoise s
    → all_finite (turn_volts c s.pink s.pink2 wanted draws) ≡ true
unfolding turn_of
turn_finite c numbers s wanted draws e h calm =
    let after = calm_turn c numbers s wanted draws e calm in
    volts_finite c (bipolar_of (get_or draws 0 0)) (bipolar_of (get_or draws 1 0)) _ _ wanted h (white 0 (lit< tt)) (white 1 (lit< tt))
    (pink_within (sampled_of draws 2 s.pink) after.pink)
    (pink_within (sampled_of draws (2 + changed_of (next_index s.pink.index)) s.pink2) after.pink2)
  where
    -- a tick needs two draws and more
    two_first : 2 ≤ needed_of s
    two_first = unfold needed_of in omega arith

    white : (i : ℕ) → i < 2 → Within 0 (bipolar_of (get_or draws i 0))
    white i l = bipolar_within (get_or draws i 0) (draw_below draws (needed_of s) i e (le_trans l two_first))

marked_clean : (v : Volts) → all_finite v ≡ true → Clean (mark_of v false true true true)
unfolding rule_of
marked_clean v h = let said = mark_says v false true true true in (said.number ∙ simp h, ap all_finite said.volts ∙ h)

pub turn_clean : (c : Float) (s : NoiseGenerator) (wanted : ℕ) (draws : List ℕ) → draws_ok draws (needed_of s) ≡ true → Within 0 c → CalmNoise s
    → Clean (turn_of c true s wanted draws).answer
unfolding turn_of
turn_clean c s wanted draws e h calm = marked_clean (turn_volts c s.pink s.pink2 wanted draws) (turn_finite c true s wanted draws e h calm)

-- a number that is given is no NaN, and a stored one isn't given
numbers_given : (s : NoiseGenerator) (c : NoiseGeneratorControls) → Number s c → numbers_of c ≡ true
unfolding all_numbers given_or given_in
numbers_given s c = go c.correlation
  where
    go : (x : Option Float) → T (not (is_nan (given_or x s.correlation))) → all_numbers (given_in x) ≡ true
    go (Some x) h = rw (is_false (is_nan x) h) refl
    go None h = refl

pub tick_clean : (s : NoiseGenerator) (c : NoiseGeneratorControls) (wanted : ℕ) (draws : List ℕ) → CalmNoise s → Number s c
    → accepted (noise_generator_tick_of s c wanted draws).answer ≡ true → Clean (noise_generator_tick_of s c wanted draws).answer
tick_clean s c wanted draws calm h a =
    let e = accepted_taken s c wanted draws a in
    let d = draws_fine (needed_of s) draws e in
    let turn = tick_taken s c wanted draws e ∙ ap (λ (b : Bool). turn_of (correlation_of s c) b s wanted draws) (numbers_given s c h) in
    subst (λ (t : Ticked NoiseGenerator). Clean t.answer) (sym turn)
    (turn_clean (correlation_of s c) s wanted draws d (correlation_within s c h) calm)

pub always_clean : AlwaysClean
always_clean s r c wanted draws h a = tick_clean s c wanted draws (calm_reached r) h a

-- ---- and so is each tick of a block that is accepted: those before it leave a calm state with the same correlation
pub ticks_clean : (s : NoiseGenerator) (c : NoiseGeneratorControls) (wanted : ℕ) (draws : List ℕ) → CalmNoise s → Number s c
    → (i : ℕ) → accepted (answer_at (noise_generator_told_of c wanted) (noise_generator_next_of c wanted) (drawing s draws) i) ≡ true
    → Clean (answer_at (noise_generator_told_of c wanted) (noise_generator_next_of c wanted) (drawing s draws) i)
unfolding answer_at
ticks_clean s c wanted draws calm h i a =
    let x = drawing_at s c wanted draws i in
    let q : T (not (is_nan (given_or c.correlation x.noise.correlation))) = rw (stored_at s c wanted draws i) h in
    tick_clean x.noise c wanted x.draws (calm_at s c wanted draws calm i) q a

pub block_clean : BlockClean
block_clean s r c wanted draws n h e i l = ticks_clean s c wanted draws (calm_reached r) h i (block_accepts s c wanted draws n e i l)

-- ---- a NaN correlation
-- goes through the mix and the volts
mix_nan : (want : Bool) (a b : Float) → is_fin (out_of want (mix_of a b nan)) ≡ not want
unfolding out_of mix_of
mix_nan true a b = simp (mul_nan_r a, add_nan_l (mul binary64 b (sub binary64 one nan)), mul_nan_l five)
mix_nan false a b = unfold of_bits in refl

-- so one of the two outputs that it goes into isn't finite
volts_nan : (white1 independent pink1 pink2 : Float) (wanted : ℕ) → (wants wanted 4 || wants wanted 8) ≡ true
    → all_finite (noise_generator_volts_of nan white1 independent pink1 pink2 wanted) ≡ false
unfolding all_finite noise_generator_volts_of
volts_nan white1 independent pink1 pink2 wanted h =
    let v = noise_generator_volts_of nan white1 independent pink1 pink2 wanted in
    simp (mix_nan (wants wanted 4) white1 independent, mix_nan (wants wanted 8) pink1 pink2)
    (one_not (is_fin v.p10) (is_fin v.p11) (wants wanted 4) (wants wanted 8) (is_fin v.p14 && is_fin v.p15) h)
  where
    one_not : (x y p q z : Bool) → (p || q) ≡ true → (x && (y && (not p && (not q && z)))) ≡ false
    one_not false y p q z h = refl
    one_not true false p q z h = refl
    one_not true true true q z h = refl
    one_not true true false true z h = refl
    one_not true true false false z h = absurd (false≢true h)

marked_nan : (v : Volts) (numbers : Bool) → all_finite v ≡ false → mark_number (mark_of v false true true numbers) ≡ notfinite
marked_nan v numbers h = (mark_says v false true true numbers).number ∙ (unfold rule_of in simp h)

turn_nan : (numbers : Bool) (s : NoiseGenerator) (wanted : ℕ) (draws : List ℕ) → (wants wanted 4 || wants wanted 8) ≡ true
    → mark_number (turn_of nan numbers s wanted draws).answer ≡ notfinite
unfolding turn_of
turn_nan numbers s wanted draws w = marked_nan _ numbers (volts_nan _ _ _ _ wanted w)

pub nan_told : NanTold
nan_told s c wanted draws a e w =
    let q : correlation_of s c ≡ nan = unfold correlation_of in ap (λ (x : Float). clamp_of x zer one) e ∙ clamp_nan zer one in
    ap (λ (t : Ticked NoiseGenerator). mark_number t.answer) (tick_taken s c wanted draws (accepted_taken s c wanted draws a))
    ∙ ap (λ (x : Float). mark_number (turn_of x (numbers_of c) s wanted draws).answer) q
    ∙ turn_nan (numbers_of c) s wanted draws w
