-- A string whose stretch counts as 0.0 is never cleared: no cell of its line and no filter ever holds more than 8 V.
use Rattle.std.proofs.Common.{◌≡◌, ℕ, zero, suc, ◌+◌, ◌-◌, ◌*◌, ◌/◌, ◌%◌, ◌^◌, ◌<◌, ◌≤◌, min, Bool, true, false, cond, not, T, eqb, ltb, List, length, get_or}
use Rattle.std.proofs.Common.{set, sym, refl, ◌∙◌, subst, true≢false, le_trans, le_of_eq, not-suc-le-zero, add-le-add, mul-le-mul_right, mod-lt, mul-pos}
use Rattle.std.proofs.Common.{mul-one, arith, lit<, lit≤, get_or-set_other, get_or-set_same, ltb-true}
use native.Mathlib.Decide.{ℕ_discrete}
use lib.Ieee.{Float, nan, inf, fin, binary64, add, sub, mul, neg, lt, le, eq, is_nan, fits, of_bits, to_unsigned}
use lib.Ieee.Bits.{is_true}
use lib.Ieee.Exact.{HasValue}
use lib.Ieee.Fits.{cond-fits, sub-fits}
use lib.Ieee.Positive.{positive, above, above_of_le}
use Rattle.laws.proofs.Always.{always}
use Rattle.laws.specs.Machine.{Reached}
use Rattle.laws.proofs.Interval.{Under, Within, part_of, round_sized, sized_mul, sum_under, unit_within}
use Rattle.laws.proofs.Interval.{within_add, within_finite, within_minus, within_mul, within_of, within_to}
use Rattle.laws.proofs.Order.{le_of_lt_true, float_le_trans}
use Rattle.laws.proofs.Tests.{of_true}
use Rattle.laws.proofs.Weights.{weighed}
use Rattle.laws.proofs.Zeros.{times_nought, zero_times, zero_plus, minus_zero}
use Rattle.laws.proofs.Values.{add_round, div_round, exact_at, of_int_val}
use Rattle.laws.specs.Float.{F64, zer, one, is_fin}
use Rattle.laws.specs.Lists.{over}
use Rattle.numeric.proofs.DrawLaws.{bipolar_within}
use Rattle.numeric.specs.Basic.{clamp_of, max_of, whole_of, real_of}
use Rattle.numeric.specs.Draw.{bipolar_of}
use Rattle.common.proofs.DrawLaws.{draw_below, draws_fine}
use Rattle.common.specs.Consts.{half}
use Rattle.common.specs.Tests.{rate_ok, draws_ok, draws_refusal_of}
use Rattle.common.specs.declared.Hertz.{Hertz}
use Rattle.answer.proofs.Blocks.{ticks_keep, block_keeps, block_refusal, block_fits}
use Rattle.answer.specs.Block.{after_ticks, answer_at}
use Rattle.answer.specs.Answer.{volts1, steered, clean, mark_number, accepted}
use Rattle.answer.specs.Mark.{all_numbers}
use Rattle.answer.specs.declared.Answer.{Answer}
use Rattle.karplus_strong.specs.Consts.{n_ports, loop_leak}
use Rattle.karplus_strong.specs.Line.{blank_at, blank_of, impulse_of, pulse_of, excited_at, excited_of, sum_to, mean_of, level_at, level_of, struck_of}
use Rattle.karplus_strong.specs.Step.{filter_coef_of, ap_coef_of, filter_delay_of, ap_delay_of, target_delay_of, offset_one}
use Rattle.karplus_strong.specs.Step.{offset_two, tap_of, filtered_of, stretched_of, Ticking, rest_of, step_of}
use Rattle.karplus_strong.specs.KarplusStrong.{trigger_refusal_of, first_refusal_of, karplus_strong_next_of, karplus_strong_block_of, max_len_of, room_of}
use Rattle.karplus_strong.specs.KarplusStrong.{made_unless}
use Rattle.karplus_strong.specs.KarplusStrong.{karplus_strong_reset_of, karplus_strong_set_sample_rate_of, finite_or, period_of, struck_len, strike_of}
use Rattle.karplus_strong.specs.KarplusStrong.{strike_if}
use Rattle.karplus_strong.specs.KarplusStrong.{tick_unless, karplus_strong_tick_of, Strung, strung, damping_of, brightness_of, stretch_of, controls_of}
use Rattle.karplus_strong.specs.KarplusStrong.{memo_at, period_at}
use Rattle.karplus_strong.specs.Calls.{Call, Tick, Play, Reset, SetSampleRate, Lend, strung_after, lent_of, after, FitCall, First}
use Rattle.karplus_strong.specs.Promises.{taken, NoStretch, Unstretched, NeverCleared, BlockNeverCleared}
use Rattle.karplus_strong.specs.declared.KarplusStrong.{KarplusStrong}
use Rattle.karplus_strong.specs.declared.KarplusStrongControls.{KarplusStrongControls}
use Rattle.karplus_strong.proofs.Alike.{get_d_over, length_struck}
use Rattle.karplus_strong.proofs.Parts.{Sound, damped, delay_range, made_either, heard_known, heard_number, struck_fits}
use Rattle.karplus_strong.proofs.Promised.{struck_short, block_accepts}
use Rattle.karplus_strong.proofs.Reached.{Good, tick_good, first_is, first_good, after_good}
use Rattle.karplus_strong.proofs.Ticks.{steady_mark, struck_step, good_tick}
use Rattle.karplus_strong.proofs.Weights.{tap_weights, filter_weights, exact_upto}

-- ---- sizes
zero_within : Within 3 zer
unfolding of_bits
zero_within = within_of 3 zer tt

-- ---- a strike
impulse_within : (n i : ℕ) → Within 0 (impulse_of n i)
unfolding impulse_of of_bits
impulse_within n i = go (ltb i (n / 4))
  where
    go : (b : Bool) → Within 0 (cond b one zer)
    go true = within_of 0 one tt
    go false = within_of 0 zer tt

pulse_within : (n i k : ℕ) (b : Float) → k < 2 ^ 53 → T (le zer b) → T (le b one) → Within 2 (pulse_of n b k i)
unfolding pulse_of
pulse_within n i k b h l u =
    let w : Within 0 b = unit_within b (float_le_trans (neg one) zer b (unfold le lt eq neg of_bits in tt) l, u) in
    let o : Within 0 one = unfold of_bits in within_of 0 one tt in
    within_add 1 (mul binary64 (bipolar_of k) b) (mul binary64 (impulse_of n i) (sub binary64 one b)) (lit≤ tt)
    (within_to 0 1 (mul binary64 (bipolar_of k) b) (lit≤ tt) (within_mul 0 0 (bipolar_of k) b (lit≤ tt) (bipolar_within k h) w))
    (within_mul 0 1 (impulse_of n i) (sub binary64 one b) (lit≤ tt) (impulse_within n i) (within_minus 0 one b (lit≤ tt) o w))

-- n cells of at most 4 add up to at most 4 n
sum_within : (l : List Float) (n : ℕ) → n ≤ 9611 → ((i : ℕ) → i < n → Within 2 (get_or l i nan)) → (s : Bool) × Under (4 * n) 1 s (sum_to l n)
unfolding sum_to
sum_within l zero h k = unfold neg of_bits in (true, (0, 1, lit< tt, lit≤ tt, (refl, refl)))
sum_within l (suc n) h k =
    let a = sum_within l n (le_trans (up n) h) (λ i q. k i (later i n q)) in
    let b = k n (last n) in
    let p = a.1 in
    let q = b.1 in
    subst (λ (x : Float). (s : Bool) × Under (4 * suc n) 1 s x)
    (sym (add_round (sum_to l n) (get_or l n nan) a.0 b.0 p.0 p.1 q.0 q.1 p.2 q.2 p.4 q.4))
    (sum_under a.0 b.0 (p.0 * q.1) (q.0 * p.1) (p.1 * q.1) (4 * suc n) 1 (mul-pos p.2 q.2) (lit< tt)
    (total p.0 p.1 q.0 q.1 n p.3 q.3) (exact_at false (4 * suc n) 0 (small n h) (lit≤ tt)))
  where
    up : (n : ℕ) → n ≤ suc n
    up n = omega arith

    last : (n : ℕ) → n < suc n
    last n = omega arith

    later : (i n : ℕ) → i < n → i < suc n
    later i n h = omega arith

    small : (n : ℕ) → suc n ≤ 9611 → 4 * suc n < 9007199254740992
    small n h = omega arith

    total : (a c b d n : ℕ) → a * 1 ≤ 4 * n * c → b ≤ 4 * d → (a * d + b * c) * 1 ≤ 4 * suc n * (c * d)
    total a c b d n h g = le_trans (le_of_eq (mul-one (a * d + b * c)))
        (le_trans (add-le-add (mul-le-mul_right d (le_trans (le_of_eq (sym (mul-one a))) h)) (mul-le-mul_right c g)) (le_of_eq (gather c d n)))
      where
        gather : (c d n : ℕ) → 4 * n * c * d + 4 * d * c ≡ 4 * suc n * (c * d)
        gather c d n = omega arith

mean_within : (l : List Float) (n : ℕ) → 0 < n → n ≤ 9611 → ((i : ℕ) → i < n → Within 2 (get_or l i nan)) → Within 2 (mean_of n l)
unfolding mean_of
mean_within l n N h k =
    let a = sum_within l n h k in
    let p = a.1 in
    subst (Within 2) (sym (div_round (sum_to l n) (real_of n) a.0 p.0 p.1 n 1 p.2 (lit< tt) N p.4 (of_int_val n (le_trans h (lit≤ tt)))))
    (a.0, round_sized a.0 2 (p.0 * 1) (p.1 * n) (lit≤ tt) (mul-pos p.2 N) (le_trans p.3 (le_of_eq (turn p.1 n))))
  where
    turn : (c n : ℕ) → 4 * n * c ≡ 4 * (c * n)
    turn c n = omega arith

struck_within : (n : ℕ) (b : Float) (d : List ℕ) (l : List Float) → 0 < n → n ≤ 9611 → draws_ok d n ≡ true → T (le zer b) → T (le b one) → (i : ℕ) → i < n
    → Within 3 (get_or (struck_of n b d l) i nan)
unfolding struck_of level_of excited_of level_at excited_at
struck_within n b d l N h ok lo hi i q =
    subst (Within 3) (sym (get_d_over (level_at (mean_of n x) x) n x i q))
    (within_minus 2 (get_or x i nan) (mean_of n x) (lit≤ tt) (cell i q) (mean_within x n N h cell))
  where
    x : List Float
    x = over (excited_at n b d) n l

    cell : (i : ℕ) → i < n → Within 2 (get_or x i nan)
    cell i q = subst (Within 2) (sym (get_d_over (excited_at n b d) n l i q)) (pulse_within n i (get_or d i 0) b (draw_below d n i ok q) lo hi)

-- ---- a step
-- nothing in the string is larger than 8
record Calm (s : KarplusStrong) (l : List Float) : Type 0 where
  cells : (i : ℕ) → i < s.len → Within 3 (get_or l i nan)
  lp : Within 3 s.lp_state
  x1 : Within 3 s.ap_x1
  y1 : Within 3 s.ap_y1

record CalmTick (numbers : Bool) (t : Ticking) : Type 0 where
  calm : Calm t.out.state t.line
  mark : accepted t.out.answer ≡ true → mark_number t.out.answer ≡ cond numbers clean steered

-- a delay that both taps can be read at
record Delay (x : Float) : Type 0 where
  fits : F64 x
  sign : T (positive x)
  least : T (le one x)
  most : whole_of x ≤ 9610

tap_within : (l : List Float) (from len : ℕ) (x : Float) → from < len → Delay x → ((i : ℕ) → i < len → Within 3 (get_or l i nan))
    → Within 3 (tap_of l from len x)
unfolding tap_of
tap_within l from len x h d k =
    let w = tap_weights x d.fits d.sign d.least d.most in
    weighed 3 49 (2 ^ 52 - w.0) w.0 (get_or l ((from + offset_one len (whole_of x)) % len) nan) (get_or l ((from + offset_two len (whole_of x)) % len) nan)
    (sub binary64 one (sub binary64 x (real_of (whole_of x)))) (sub binary64 x (real_of (whole_of x))) (lit≤ tt)
    (exact_at false (2 ^ 52 - w.0) 49 (less w.0) (lit≤ tt)) (exact_at false w.0 49 (short w.0 w.1) (lit≤ tt)) (whole w.0 w.1)
    (k ((from + offset_one len (whole_of x)) % len) (mod-lt (from + offset_one len (whole_of x)) {m = len} (omega arith)))
    (k ((from + offset_two len (whole_of x)) % len) (mod-lt (from + offset_two len (whole_of x)) {m = len} (omega arith)))
    w.3 w.2
  where
    less : (r : ℕ) → 4503599627370496 - r < 9007199254740992
    less r = omega arith

    short : (r : ℕ) → r ≤ 4503599627370496 → r < 9007199254740992
    short r h = omega arith

    whole : (r : ℕ) → r ≤ 4503599627370496 → 4503599627370496 - r + r ≡ 4503599627370496
    whole r h = omega arith

filtered_within : (s : KarplusStrong) (x d : Float) → T (le zer d) → T (le d one) → Within 3 x → Within 3 s.lp_state
    → Within 3 (filtered_of s x (filter_coef_of d))
unfolding filtered_of filter_coef_of
filtered_within s x d l h X L =
    let w = filter_weights d l h in
    let c = filter_coef_of d in
    weighed 3 50 w.0 (2 ^ 53 - w.0) x s.lp_state c (sub binary64 one c) (lit≤ tt) (exact_upto w.0 w.2)
    (exact_upto (2 ^ 53 - w.0) (less w.0)) (whole w.0 w.2) X L w.3 w.4
  where
    less : (p : ℕ) → 9007199254740992 - p ≤ 9007199254740992
    less p = omega arith

    whole : (p : ℕ) → p ≤ 9007199254740992 → p + (9007199254740992 - p) ≡ 9007199254740992
    whole p h = omega arith

-- a zero of either sign
none : (x : Float) → eq x zer ≡ true → (s : Bool) × HasValue (ap_coef_of x) s 0 1
unfolding ap_coef_of
none x e =
    let t = times_nought (neg half) x (unfold neg of_bits in tt) (of_true (eq x zer) e) in
    (t.0, subst (λ (v : Float). HasValue v t.0 0 1) (sym t.1) (refl, refl))

stretched_within : (s : KarplusStrong) (y x : Float) → eq x zer ≡ true → Within 3 y → Within 3 s.ap_x1 → Within 3 s.ap_y1
    → Within 3 (stretched_of s y (ap_coef_of x))
unfolding stretched_of
stretched_within s y x e w x1 y1 =
    let n = none x e in
    let a = zero_times 3 (ap_coef_of x) y n.0 n.1 w in
    let b = zero_times 3 (ap_coef_of x) s.ap_y1 n.0 n.1 y1 in
    minus_zero 3 (add binary64 (mul binary64 (ap_coef_of x) y) s.ap_x1) (mul binary64 (ap_coef_of x) s.ap_y1) b.0 (lit≤ tt) b.1
    (zero_plus 3 (mul binary64 (ap_coef_of x) y) s.ap_x1 a.0 (lit≤ tt) a.1 x1)

leaked_within : (x : Float) → Within 3 x → Within 3 (mul binary64 x loop_leak)
leaked_within x h = (h.0, sized_mul h.0 3 x loop_leak (lit≤ tt) h.1 (part_of 0 loop_leak (unfold of_bits in tt)))

step_calm : (s : KarplusStrong) (p d bend : Float) (numbers : Bool) (l : List Float) → eq bend zer ≡ true → s.write_pos < s.len → s.len ≤ length l
    → T (le zer d) → T (le d one) → Delay (target_delay_of p (filter_coef_of d) (ap_coef_of bend)) → Calm s l
    → CalmTick numbers (step_of s p d bend numbers l)
unfolding step_of
step_calm s p d bend numbers l flat h k lo hi g c =
    rw settled
    (record {
      calm = record { cells = λ i q. cell i q (ℕ_discrete i s.write_pos); lp = filtered; x1 = filtered; y1 = bent };
      mark = λ e. subst (λ (a : Answer). mark_number a ≡ cond numbers clean steered) (heard_known v false numbers settled) (steady_mark (volts1 v) numbers);
    })
  where
    x : Float
    x = tap_of l s.write_pos s.len (target_delay_of p (filter_coef_of d) (ap_coef_of bend))

    y : Float
    y = filtered_of s x (filter_coef_of d)

    z : Float
    z = stretched_of s y (ap_coef_of bend)

    v : Float
    v = mul binary64 z loop_leak

    filtered : Within 3 y
    filtered = filtered_within s x d lo hi (tap_within l s.write_pos s.len (target_delay_of p (filter_coef_of d) (ap_coef_of bend)) h g c.cells) c.lp

    bent : Within 3 z
    bent = stretched_within s y bend flat filtered c.x1 c.y1

    leaked : Within 3 v
    leaked = leaked_within z bent

    settled : is_fin v ≡ true
    settled = is_true (is_fin v) (within_finite 3 v leaked)

    cell : (i : ℕ) → i < s.len → Dec (i ≡ s.write_pos) → Within 3 (get_or (set l s.write_pos v) i nan)
    cell i q (yes e) = rw e (subst (Within 3) (sym (get_or-set_same l s.write_pos v nan (omega arith))) leaked)
    cell i q (no e) = subst (Within 3) (sym (get_or-set_other l s.write_pos i v nan e)) (c.cells i q)

-- ---- a tick
-- 1 and more, but no infinity
finite_positive : (x : Float) → T (above x) → whole_of x ≤ 9610 → T (positive x)
unfolding to_unsigned
finite_positive nan a w = absurd a
finite_positive (inf true) a w = absurd a
finite_positive (inf false) a w = absurd (let q : 18446744073709551615 ≤ 9610 = w in omega arith)
finite_positive (fin true m e) a w = absurd a
finite_positive (fin false m e) a w = a

-- the delay of a tick is such a one
abbrev delay_at : Hertz → Hertz → Float → Float → Float
delay_at r f d t = target_delay_of (period_of r f) (filter_coef_of (clamp_of (finite_or d half) zer one))
    (ap_coef_of (clamp_of (finite_or t zer) (neg one) one))

delay_fine : (r f : Hertz) (d t : Float) → rate_ok r ≡ true → T (not (is_nan f.0)) → Delay (delay_at r f d t)
delay_fine r f d t e q = record { fits = max_fits; sign = finite_positive x (above_of_le one x (unfold of_bits in tt) least) most; least = least; most = most }
  where
    x : Float
    x = delay_at r f d t

    left : Float
    left = sub binary64 (period_of r f) (filter_delay_of (filter_coef_of (clamp_of (finite_or d half) zer one)))

    bent : Float
    bent = ap_delay_of (ap_coef_of (clamp_of (finite_or t zer) (neg one) one))

    y : Float
    y = sub binary64 left bent

    most : whole_of x ≤ 9610
    most = delay_range r f d t e q

    max_fits : F64 x
    max_fits =
        unfold target_delay_of max_of in cond-fits binary64 (lt one y) y (cond (is_nan one) y one) (sub-fits binary64 left bent)
        (unfold is_nan fits of_bits in tt)

    least : T (le one x)
    least = unfold target_delay_of max_of in go (lt one y) refl
      where
        go : (b : Bool) → lt one y ≡ b → T (le one (cond b y (cond (is_nan one) y one)))
        go true h = le_of_lt_true one y (of_true (lt one y) h)
        go false h = unfold is_nan le lt eq of_bits in tt

struck_calm : (rising : Bool) (t : KarplusStrong) (p b d bend : Float) (numbers : Bool) (draws : List ℕ) (l : List Float)
    → eq bend zer ≡ true → ◌≡◌ {A = ℕ} (cond rising (draws_refusal_of (struck_len p) draws) 0) 0 → struck_len p ≤ length l → struck_len p ≤ 9611
    → t.write_pos < t.len → t.len ≤ length l → T (le zer b) → T (le b one) → T (le zer d) → T (le d one)
    → Delay (target_delay_of p (filter_coef_of d) (ap_coef_of bend)) → Calm t l
    → CalmTick numbers (step_of (strike_if rising t p b draws l).string p d bend numbers (strike_if rising t p b draws l).line)
struck_calm false t p b d bend numbers draws l flat e r n h k bl bh dl dh g c = unfold strike_if in step_calm t p d bend numbers l flat h k dl dh g c
struck_calm true t p b d bend numbers draws l flat e r n h k bl bh dl dh g c =
    unfold strike_if strike_of in
    (let q = length_struck (struck_len p) b draws l r in
    let z : 0 < struck_len p = unfold struck_len in omega arith in
    step_calm (rest_of t (struck_len p) t.trigger_edge) p d bend numbers (struck_of (struck_len p) b draws l) flat z (omega arith) dl dh g
    (record {
      cells = struck_within (struck_len p) b draws l z n (draws_fine (struck_len p) draws e) bl bh;
      lp = zero_within;
      x1 = zero_within;
      y1 = zero_within;
    }))

sound_calm : (s : KarplusStrong) (c : KarplusStrongControls) (draws : List ℕ) (l : List Float) → Good s (length l) → NoStretch c
    → trigger_refusal_of s c draws ≡ 0 → Calm s l → CalmTick (all_numbers (controls_of c)) (struck_step s c draws l)
unfolding struck_step trigger_refusal_of
sound_calm s c draws l g z e k =
    struck_calm (taken s c) _ (period_at s c) (brightness_of c) (damping_of c) (stretch_of c) (all_numbers (controls_of c)) draws l z e
    (struck_fits s c a (length l) g.room) (struck_short s c a) a.place
    (let q = a.most in let r = g.room in omega arith)
    (damped c.brightness).0 (damped c.brightness).1 (damped c.damping).0 (damped c.damping).1
    (delay_fine s.sample_rate (memo_at s c).val c.damping c.stretch a.rate (heard_number s c a))
    (record { cells = k.cells; lp = k.lp; x1 = k.x1; y1 = k.y1 })
  where
    a : Sound s
    a = g.sound

tick_calm : (s : KarplusStrong) (c : KarplusStrongControls) (draws : List ℕ) (l : List Float) → Good s (length l) → NoStretch c → Calm s l
    → CalmTick (all_numbers (controls_of c)) (karplus_strong_tick_of s c draws l)
tick_calm s c draws l g z k = rw (good_tick s c draws l g) (pick (trigger_refusal_of s c draws) refl)
  where
    pick : (n : ℕ) → trigger_refusal_of s c draws ≡ n → CalmTick (all_numbers (controls_of c)) (tick_unless n s l (struck_step s c draws l))
    pick zero e = unfold tick_unless in sound_calm s c draws l g z e k
    pick (suc n) e = unfold tick_unless accepted in record { calm = k; mark = λ h. absurd (true≢false (sym h)) }

-- ---- the other calls
blank_within : (a n : ℕ) (l : List Float) → ((i : ℕ) → i < a → Within 3 (get_or l i nan)) → (i : ℕ) → i < n → Within 3 (get_or (blank_of a n l) i nan)
unfolding blank_of blank_at
blank_within a n l h i q = subst (Within 3) (sym (get_d_over (blank_at a l) n l i q)) (go (ltb i a) refl)
  where
    go : (b : Bool) → ltb i a ≡ b → Within 3 (cond b (get_or l i nan) zer)
    go true e = h i (ltb-true i a e)
    go false e = zero_within

made_calm : (k : ℕ) (x y : Strung) → Calm x.string x.line → Calm y.string y.line
    → let z = strung_after (made_unless k x y) in Calm z.string z.line
made_calm k x y c d = made_either (λ m. Calm m.out.state m.line) k x y (λ z. d) (λ n. c)

lent_calm : (s : KarplusStrong) (l m : List Float) → Calm s l → Calm s (lent_of (strung s l) m)
unfolding lent_of
lent_calm s l m k = record {
  cells = λ i q. subst (Within 3) (sym (get_d_over (λ j. get_or l j nan) s.len m i q)) (k.cells i q);
  lp = k.lp;
  x1 = k.x1;
  y1 = k.y1;
}

-- a string that goes through ticks of such a stretch
abbrev Quiet : Strung → Type 0
Quiet y = Good y.string (length y.line) × Calm y.string y.line

tick_quiet : (c : KarplusStrongControls) (draws : List ℕ) → F64 c.voct.0 → NoStretch c → (y : Strung) → Quiet y → Quiet (karplus_strong_next_of c draws y)
tick_quiet c draws f z y q =
    let t = tick_good y.string c draws y.line q.0 f in
    (rw t.line t.state, (tick_calm y.string c draws y.line q.0 z q.1).calm)

after_calm : (x : Strung) (c : Call) → Good x.string (length x.line) → Unstretched c → Calm x.string x.line
    → Calm (after x c).string (after x c).line
unfolding after karplus_strong_reset_of karplus_strong_set_sample_rate_of
after_calm x (Tick c draws) g f k = (tick_calm x.string c draws x.line g f.1 k).calm
after_calm x (Play c draws t o m) g f k = unfold karplus_strong_block_of in (block_keeps n_ports _ _ _ Quiet (tick_quiet c draws f.0 f.1) x (g, k) t o m).1
after_calm x Reset g f k =
    made_calm _ x _ k
    (record { cells = blank_within 0 x.string.len x.line (λ i q. absurd (not-suc-le-zero q)); lp = zero_within; x1 = zero_within; y1 = zero_within })
after_calm x (SetSampleRate r) g f k =
    made_calm _ x _ k
    (record {
      cells = blank_within (min x.string.len (max_len_of r)) (max_len_of r) x.line (λ i q. k.cells i (omega arith));
      lp = k.lp;
      x1 = k.x1;
      y1 = k.y1;
    })
after_calm x (Lend l) g f k = go (eqb (room_of x.string.sample_rate (length l)) 0)
  where
    go : (b : Bool) → Calm x.string (cond b (lent_of x l) x.line)
    go true = lent_calm x.string x.line l k
    go false = k

fit : (c : Call) → Unstretched c → FitCall c
fit (Tick c draws) f = f.0
fit (Play c draws t o m) f = f.0
fit Reset f = f
fit (SetSampleRate rate) f = f
fit (Lend l) f = f

first_calm : (x : Strung) → First x → Calm x.string x.line
first_calm x f =
    let i = first_is x f in
    rw (
      i.string,
      i.line,
    ) (record {
      cells = blank_within 0 (max_len_of f.rate) f.lent (λ j q. absurd (not-suc-le-zero q));
      lp = zero_within;
      x1 = zero_within;
      y1 = zero_within;
    })

reached_quiet : (x : Strung) → Reached First Unstretched after x → Quiet x
reached_quiet x h = always Quiet (λ y i. (first_good y i, first_calm y i)) (λ y c p u. (after_good y c p.0 (fit c u), after_calm y c p.0 u p.1)) h

pub never_cleared : NeverCleared
never_cleared x h c draws f = let k = reached_quiet x h in (tick_calm x.string c draws x.line k.0 f.1 k.1).mark

pub block_never_cleared : BlockNeverCleared
unfolding answer_at
block_never_cleared x h c draws t o m f e i q =
    let k = ticks_keep Quiet (karplus_strong_next_of c draws) (tick_quiet c draws f.0 f.1) x (reached_quiet x h) i in
    let y = after_ticks (karplus_strong_next_of c draws) i x in
    (tick_calm y.string c draws y.line k.0 f.1 k.1).mark (unfold answer_at in block_accepts x c draws (length m) (omega arith) first i)
  where
    first : first_refusal_of x.string c draws (length x.line) (length m) ≡ 0
    first = unfold karplus_strong_block_of in (block_fits n_ports _ t o m _ refl (sym (block_refusal n_ports _ _ _ x t o m) ∙ e)).1
