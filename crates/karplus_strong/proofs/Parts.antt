-- How the parts of a call make up the whole, over plain values, and what an accepted call has.
use Rattle.std.proofs.Common.{◌≡◌, ℕ, zero, suc, ◌+◌, ◌-◌, ◌%◌, ◌<◌, ◌≤◌, min, Bool, true, false, cond, not, ◌&&◌, T, eqb, ltb, leb, List}
use Rattle.std.proofs.Common.{◌++◌, length, length-take, get_or, set, take, drop}
use Rattle.std.proofs.Common.{pos, sym, refl, ap, ◌∙◌, subst, true≢false, le_trans, arith, lit≤, le→leb, ltb-true, lt-ltb, ne_eqb, eqb-true, le-leb, leb-true}
use mathlib.Core.Bool.{and-false}
use Rattle.std.specs.Prelude.{Some, None, Result, Ok, Err}
use Rattle.laws.proofs.Over.{over_none}
use lib.Ieee.{Float, nan, inf, fin, binary64, add, sub, mul, div, neg, in_float, lt, le, eq, fits, is_nan, of_bits}
use lib.Ieee.Fits.{cond-fits, div-fits, sub-fits}
use lib.Ieee.Bits.{is_false}
use borrow.Author.Tests.{eqb-false}
use Rattle.laws.proofs.Number.{mul_number, le_numbers}
use Rattle.laws.proofs.Order.{lt_of_not_ge, lt_false, float_le_trans}
use Rattle.laws.proofs.Tests.{and_true, both_true, of_true, of_false}
use Rattle.laws.proofs.Values.{float_mul_comm}
use Rattle.laws.specs.Float.{zer, one, two, is_fin, F64}
use Rattle.numeric.proofs.PowerRange.{exp2_number}
use Rattle.numeric.proofs.RangeLaws.{clamp_range, period_whole, rate_whole, rate_number, whole_monotone}
use Rattle.numeric.specs.Basic.{clamp_of, max_of, whole_of, real_of}
use Rattle.numeric.specs.Power.{exp2_of}
use Rattle.common.specs.Consts.{c4, rate_low, rate_high, half, max_voct}
use Rattle.common.specs.Edge.{reset_of, rising_of}
use Rattle.common.specs.Memo.{filled, recall, Memo1, hits1, filled1, recall1, voct_to_hz_at}
use Rattle.common.specs.Pitch.{voct_to_hz}
use Rattle.common.specs.Refusal.{number_of, refused_number}
use Rattle.common.specs.Tests.{rate_ok, threshold_ok, draws_refusal_of}
use Rattle.common.proofs.RefusalLaws.{nonzero}
use Rattle.common.specs.declared.Refusal.{Refusal}
use Rattle.common.specs.declared.EdgeDetector.{EdgeDetector}
use Rattle.common.specs.declared.Hertz.{Hertz}
use Rattle.answer.proofs.Laws.{mark_known}
use Rattle.answer.specs.Answer.{volts1}
use Rattle.answer.specs.Calls.{outcome}
use Rattle.answer.specs.Mark.{all_finite, all_numbers, marked_of}
use Rattle.answer.specs.declared.Volts.{Volts}
use Rattle.answer.specs.declared.Answer.{Answer}
use Rattle.karplus_strong.specs.Consts.{twenty, loop_leak}
use Rattle.karplus_strong.specs.Shortcuts.{Cut, state_refusal_of}
use Rattle.karplus_strong.specs.Line.{blank_at, blank_of, struck_of}
use Rattle.karplus_strong.specs.Step.{filter_coef_of, ap_coef_of, filter_delay_of, ap_delay_of, target_delay_of, offset_one, offset_two}
use Rattle.karplus_strong.specs.Step.{tap_of, filtered_of, stretched_of, heard_of, rest_of, Ticking, wrote_of, cleared_of, step_of}
use Rattle.karplus_strong.specs.declared.turning.Loop.{Loop}
use Rattle.karplus_strong.specs.Shortcuts.{tuning_of, tap_at, turn_of, with_loop, after_turn, hear_of, strike_refusal_of, strike_len, strike_at}
use Rattle.karplus_strong.specs.KarplusStrong.{max_len_of, string_of, no_string, Strung, strung, line_ok, room_of, karplus_strong_refusal_of}
use Rattle.karplus_strong.specs.KarplusStrong.{karplus_strong_rate_refusal_of, Making, leaving, made_unless, karplus_strong_new_refusal_of}
use Rattle.karplus_strong.specs.KarplusStrong.{karplus_strong_new_of}
use Rattle.karplus_strong.specs.KarplusStrong.{karplus_strong_reset_of, place_of, karplus_strong_set_sample_rate_of, finite_or, period_of}
use Rattle.karplus_strong.specs.KarplusStrong.{struck_len, strike_of, strike_if, heard_string, refused_tick, tick_unless, karplus_strong_sound_of}
use Rattle.karplus_strong.specs.KarplusStrong.{karplus_strong_tick_of, damping_of, brightness_of, stretch_of, controls_of, memo_at, period_at}
use Rattle.karplus_strong.specs.KarplusStrong.{trigger_refusal_of}
use Rattle.karplus_strong.specs.declared.Heard.{Heard}
use Rattle.karplus_strong.specs.declared.KarplusStrong.{KarplusStrong}
use Rattle.karplus_strong.specs.declared.KarplusStrongControls.{KarplusStrongControls}
use Rattle.answer.specs.declared.Ticked.{Ticked}
use Rattle.karplus_strong.specs.declared.Tuning.{Tuning}
use Rattle.karplus_strong.proofs.Cells.{struck_cells}
use Rattle.karplus_strong.proofs.Periods.{rate_cut, high_period, clamped_cut}
use Rattle.karplus_strong.proofs.Delays.{filter_unit, filter_delay, allpass_delay, left_below}

-- ---- rates
pub rate_ends : (r : Hertz) → rate_ok r ≡ true → T (le rate_low r.0) × T (le r.0 rate_high)
unfolding rate_ok
rate_ends r e = let b = both_true (le rate_low r.0) (le r.0 rate_high) e in (of_true (le rate_low r.0) b.0, of_true (le r.0 rate_high) b.1)

pub rate_in : (r : Hertz) → rate_ok r ≡ true → Cut (div binary64 r.0 twenty)
rate_in r e = let l = rate_ends r e in rate_cut r.0 l.0 l.1

pub max_len_range : (r : Hertz) → rate_ok r ≡ true → (60 ≤ max_len_of r) × (max_len_of r ≤ 9610)
unfolding max_len_of
max_len_range r e =
    let l = rate_ends r e in
    let w = rate_whole r.0 l.0 l.1 in
    (omega arith, omega arith)

-- a whole number of this size is an f64
pub held : (n : ℕ) → n ≤ 9610 → T (in_float binary64 (pos n))
unfolding in_float
held n h = le→leb n 9007199254740992 (le_trans h (lit≤ tt))

-- ---- periods: whatever number the memo holds, a period is an index of the line
quotient : (r f : Hertz) → rate_ok r ≡ true → T (not (is_nan f.0)) → T (not (is_nan (div binary64 r.0 f.0)))
quotient r f e q = let l = rate_ends r e in rate_number r.0 f.0 l.0 l.1 q

two_number : T (not (is_nan two))
unfolding is_nan of_bits
two_number = tt

pub period_high : (r f : Hertz) → rate_ok r ≡ true → le twenty f.0 ≡ true → le two (div binary64 r.0 f.0) ≡ true
    → div binary64 r.0 f.0 ≡ period_of r f
unfolding period_of clamp_of max_len_of
period_high r f e h k =
    let l = rate_ends r e in
    simp (
      lt_false (div binary64 r.0 f.0) two (of_true (le two (div binary64 r.0 f.0)) k),
      high_period r.0 f.0 l.0 l.1 (of_true (le twenty f.0) h),
    )

pub period_two : (r f : Hertz) → rate_ok r ≡ true → le twenty f.0 ≡ true → le two (div binary64 r.0 f.0) ≡ false → two ≡ period_of r f
unfolding period_of clamp_of
period_two r f e h k =
    let q = (le_numbers twenty f.0 (of_true (le twenty f.0) h)).1 in
    simp (lt_of_not_ge (div binary64 r.0 f.0) two (quotient r f e q) two_number k)

pub period_cut : (r f : Hertz) → rate_ok r ≡ true → T (not (is_nan f.0)) → Cut (period_of r f)
unfolding period_of max_len_of
period_cut r f e q =
    let l = rate_ends r e in
    let c = clamped_cut (div binary64 r.0 f.0) (whole_of (div binary64 r.0 twenty)) (rate_whole r.0 l.0 l.1).1 (quotient r f e q) in (
      float_le_trans one two (clamp_of (div binary64 r.0 f.0) two (sub binary64 (real_of (whole_of (div binary64 r.0 twenty) + 10)) one))
          (unfold le lt eq of_bits in tt) c.0,
      c.1,
    )

pub period_range : (r f : Hertz) → rate_ok r ≡ true → T (not (is_nan f.0)) → (2 ≤ whole_of (period_of r f)) × (whole_of (period_of r f) + 1 ≤ max_len_of r)
unfolding period_of
period_range r f e q =
    let m = max_len_range r e in
    let p = period_whole (div binary64 r.0 f.0) (max_len_of r) (omega arith) (omega arith) (quotient r f e q) in
    (p.0, omega arith)

pub period_fits : (r f : Hertz) → F64 (period_of r f)
unfolding period_of clamp_of
period_fits r f =
    cond-fits binary64 (lt (div binary64 r.0 f.0) two) two
    (cond (lt (sub binary64 (real_of (max_len_of r)) one) (div binary64 r.0 f.0)) (sub binary64 (real_of (max_len_of r)) one) (div binary64 r.0 f.0))
    (unfold fits of_bits in tt)
    (cond-fits binary64 (lt (sub binary64 (real_of (max_len_of r)) one) (div binary64 r.0 f.0)) (sub binary64 (real_of (max_len_of r)) one)
    (div binary64 r.0 f.0) (sub-fits binary64 (real_of (max_len_of r)) one) (div-fits binary64 r.0 f.0))

-- ---- controls in their range
finite_number : (x d : Float) → is_fin d ≡ true → T (not (is_nan (finite_or x d)))
unfolding finite_or is_nan
finite_number nan nan e = absurd (true≢false (sym e))
finite_number nan (inf s) e = absurd (true≢false (sym e))
finite_number nan (fin s m k) e = tt
finite_number (inf s) nan e = absurd (true≢false (sym e))
finite_number (inf t) (inf s) e = absurd (true≢false (sym e))
finite_number (inf t) (fin s m k) e = tt
finite_number (fin s m k) d e = tt

half_fin : is_fin half ≡ true
unfolding of_bits
half_fin = refl

pub zer_fin : is_fin zer ≡ true
unfolding of_bits
zer_fin = refl

pub one_fin : is_fin one ≡ true
unfolding of_bits
one_fin = refl

pub minus_one_fin : is_fin (neg one) ≡ true
unfolding of_bits neg
minus_one_fin = refl

pub damped : (x : Float) → T (le zer (clamp_of (finite_or x half) zer one)) × T (le (clamp_of (finite_or x half) zer one) one)
damped x = clamp_range (finite_or x half) zer one (unfold le lt eq of_bits in tt) (finite_number x half half_fin)

pub stretched : (x : Float) → T (le (neg one) (clamp_of (finite_or x zer) (neg one) one)) × T (le (clamp_of (finite_or x zer) (neg one) one) one)
stretched x = clamp_range (finite_or x zer) (neg one) one (unfold le lt eq neg of_bits in tt) (finite_number x zer zer_fin)

-- the delay that is left for the line is at most the period
pub delay_range : (r f : Hertz) (d s : Float) → rate_ok r ≡ true → T (not (is_nan f.0))
    → whole_of (target_delay_of (period_of r f) (filter_coef_of (clamp_of (finite_or d half) zer one)) (ap_coef_of (clamp_of (finite_or s zer) (neg one) one)))
    ≤ 9610
unfolding target_delay_of filter_coef_of ap_coef_of filter_delay_of ap_delay_of
delay_range r f d s e q =
    let a = damped d in
    let b = stretched s in
    let u = filter_unit (clamp_of (finite_or d half) zer one) a.0 a.1 in
    let h = left_below (period_of r f) (filter_delay_of (filter_coef_of (clamp_of (finite_or d half) zer one)))
    (ap_delay_of (ap_coef_of (clamp_of (finite_or s zer) (neg one) one))) (period_fits r f) (period_cut r f e q).0
    (filter_delay (filter_coef_of (clamp_of (finite_or d half) zer one)) u.0 u.1) (allpass_delay (clamp_of (finite_or s zer) (neg one) one) b.0 b.1) in
    let w = whole_monotone (max_of (sub binary64 (sub binary64 (period_of r f) (filter_delay_of (filter_coef_of (clamp_of (finite_or d half) zer one))))
    (ap_delay_of (ap_coef_of (clamp_of (finite_or s zer) (neg one) one)))) one) (period_of r f) h in
    le_trans w (small (whole_of (period_of r f)) (max_len_of r) (period_range r f e q).1 (max_len_range r e).1)
  where
    small : (w m : ℕ) → w + 1 ≤ m → m ≤ 9610 → w ≤ 9610
    small w m h k = omega arith

-- ---- the memo's value stays a number
hz_number : (v : Float) → T (not (is_nan v)) → T (not (is_nan (voct_to_hz_at v).0))
unfolding voct_to_hz
hz_number v q =
    simp (float_mul_comm c4 (exp2_of (clamp_of v (neg max_voct) max_voct)))
    (mul_number (exp2_of (clamp_of v (neg max_voct) max_voct)) c4 (unfold of_bits in tt)
    (exp2_number (clamp_of v (neg max_voct) max_voct)
    (le_numbers (clamp_of v (neg max_voct) max_voct) max_voct (clamp_range v (neg max_voct) max_voct (unfold le lt eq neg of_bits in tt) q).1).0))

pub memo_recalled : (m : Memo1) (v : Float) → T (not (is_nan m.val.0)) → T (not (is_nan (recall1 voct_to_hz_at m (finite_or v zer)).val.0))
unfolding recall filled
memo_recalled m v h = go (hits1 m (finite_or v zer))
  where
    go : (b : Bool) → T (not (is_nan (cond b m (filled1 (finite_or v zer) (voct_to_hz_at (finite_or v zer)))).val.0))
    go true = h
    go false = hz_number (finite_or v zer) (finite_number v zer zer_fin)

-- a pitch that a string hears has such a period
pub heard_cut : (s : KarplusStrong) (x v p : Float) (m : Memo1) → rate_ok s.sample_rate ≡ true → T (not (is_nan s.freq_memo.val.0))
    → v ≡ finite_or x zer → m ≡ recall1 voct_to_hz_at s.freq_memo v → p ≡ period_of s.sample_rate m.val → Cut p
heard_cut s x v p m e q ev em ep = rw (ep, em, ev) (period_cut _ _ e (memo_recalled s.freq_memo x q))

-- ---- refusals
module _ (s : KarplusStrong) where
  -- the state itself lets a call pass, or refuses it
  pub state_passed : 0 ≡ state_refusal_of s → (rate_ok s.sample_rate ≡ true) × (line_ok s (max_len_of s.sample_rate) ≡ true)
  unfolding state_refusal_of
  state_passed h = go (rate_ok s.sample_rate) (line_ok s (max_len_of s.sample_rate)) h
    where
      go : (a b : Bool) → ◌≡◌ {A = ℕ} 0 (cond a (cond b 0 2) 1) → (a ≡ true) × (b ≡ true)
      go true true h = (refl, refl)
      go true false h = absurd (omega arith)
      go false b h = absurd (omega arith)

  pub state_stopped : (e : Refusal) (k : ℕ) → number_of e ≡ state_refusal_of s → number_of e
      ≡ cond (rate_ok s.sample_rate) (cond (line_ok s (max_len_of s.sample_rate)) k 2) 1
  unfolding state_refusal_of
  state_stopped e k h = go (rate_ok s.sample_rate) (line_ok s (max_len_of s.sample_rate)) h
    where
      go : (a b : Bool) → number_of e ≡ cond a (cond b 0 2) 1 → number_of e ≡ cond a (cond b k 2) 1
      go true true h = absurd (nonzero e h)
      go true false h = h
      go false b h = h

  -- then a call goes by its line, and a rate change by its rate and its line
  pub refusal_room : (n k m : ℕ) → 0 ≡ state_refusal_of s → m ≡ max_len_of s.sample_rate → k ≡ cond (leb (m + 2) n) 0 3 → k ≡ karplus_strong_refusal_of s n
  unfolding karplus_strong_refusal_of room_of
  refusal_room n k m h e g = let p = state_passed h in rw (p.0, p.1, ← e) g

  pub refusal_state : (n : ℕ) (e : Refusal) → number_of e ≡ state_refusal_of s → number_of e ≡ karplus_strong_refusal_of s n
  unfolding karplus_strong_refusal_of
  refusal_state n e h = state_stopped e _ h

  module _ (r : Hertz) (n : ℕ) where
    pub rate_new : rate_ok r ≡ false → 1 ≡ karplus_strong_rate_refusal_of s r n
    unfolding karplus_strong_rate_refusal_of
    rate_new e = simp (e, and-false)

    pub rate_room : (k m : ℕ) → rate_ok r ≡ true → 0 ≡ state_refusal_of s → m ≡ max_len_of r → k ≡ cond (leb (m + 2) n) 0 3
        → k ≡ karplus_strong_rate_refusal_of s r n
    unfolding karplus_strong_rate_refusal_of room_of
    rate_room k m e h f g = let p = state_passed h in rw (e, p.0, p.1, ← f) g

    pub rate_state : (e : Refusal) → rate_ok r ≡ true → number_of e ≡ state_refusal_of s → number_of e ≡ karplus_strong_rate_refusal_of s r n
    unfolding karplus_strong_rate_refusal_of
    rate_state e f h = simp (f, and_true) (state_stopped e _ h)

-- what a state has that refusals 1 and 2 let pass
pub record Sound (s : KarplusStrong) : Type 0 where
  pub rate : rate_ok s.sample_rate ≡ true
  pub least : 4 ≤ s.len
  pub most : s.len ≤ max_len_of s.sample_rate + 1
  pub place : s.write_pos < s.len
  pub value : T (not (is_nan s.freq_memo.val.0))
  pub threshold : threshold_ok s.trigger_edge.threshold ≡ true

line_sound : (s : KarplusStrong) → rate_ok s.sample_rate ≡ true → line_ok s (max_len_of s.sample_rate) ≡ true → Sound s
unfolding line_ok
line_sound s e h =
    go (leb 4 s.len) (leb s.len (max_len_of s.sample_rate + 1)) (ltb s.write_pos s.len) (is_nan s.freq_memo.val.0) refl refl refl refl h
  where
    go : (a b c d : Bool) → leb 4 s.len ≡ a → leb s.len (max_len_of s.sample_rate + 1) ≡ b → ltb s.write_pos s.len ≡ c
        → is_nan s.freq_memo.val.0 ≡ d → (a && (b && (c && (not d && threshold_ok s.trigger_edge.threshold)))) ≡ true → Sound s
    go false b c d p q t u w = absurd (true≢false (sym w))
    go true false c d p q t u w = absurd (true≢false (sym w))
    go true true false d p q t u w = absurd (true≢false (sym w))
    go true true true true p q t u w = absurd (true≢false (sym w))
    go true true true false p q t u w = record {
      rate = e;
      least = leb-true 4 s.len p;
      most = leb-true s.len (max_len_of s.sample_rate + 1) q;
      place = ltb-true s.write_pos s.len t;
      value = of_false (is_nan s.freq_memo.val.0) u;
      threshold = w;
    }

pub sound_line : (s : KarplusStrong) → Sound s → line_ok s (max_len_of s.sample_rate) ≡ true
unfolding line_ok
sound_line s a = simp (
  le-leb 4 s.len a.least,
  le-leb s.len (max_len_of s.sample_rate + 1) a.most,
  lt-ltb s.write_pos s.len a.place,
  is_false (is_nan s.freq_memo.val.0) a.value,
  a.threshold,
)

-- what a tick of such a string hears is a number, and a length that its line can take
module _ (s : KarplusStrong) (c : KarplusStrongControls) (a : Sound s) where
  pub heard_number : T (not (is_nan (memo_at s c).val.0))
  heard_number = memo_recalled s.freq_memo c.voct.0 a.value

  pub struck_range : (4 ≤ struck_len (period_at s c)) × (struck_len (period_at s c) ≤ max_len_of s.sample_rate + 1)
  unfolding struck_len
  struck_range =
      let w = period_range s.sample_rate (memo_at s c).val a.rate heard_number in
      (omega (arith, w.0), omega (arith, w.1))

  pub struck_fits : (n : ℕ) → max_len_of s.sample_rate + 2 ≤ n → struck_len (period_at s c) ≤ n
  struck_fits n h = omega (arith, struck_range.1)

  pub struck_sound : (rising : Bool) (edge : EdgeDetector) (b : Float) (d : List ℕ) (l : List Float) → edge.threshold ≡ s.trigger_edge.threshold
      → Sound (strike_if rising (heard_string s edge (memo_at s c)) (period_at s c) b d l).string
  unfolding strike_if strike_of
  struck_sound true edge b d l k = record {
    rate = a.rate;
    least = struck_range.0;
    most = struck_range.1;
    place = omega (arith, struck_range.0);
    value = heard_number;
    threshold = rw k a.threshold;
  }
  struck_sound false edge b d l k =
      record { rate = a.rate; least = a.least; most = a.most; place = a.place; value = heard_number; threshold = rw k a.threshold }

pub room_of_lem : (r : Hertz) (n : ℕ) → room_of r n ≡ 0 → max_len_of r + 2 ≤ n
unfolding room_of
room_of_lem r n e = go (leb (max_len_of r + 2) n) refl e
  where
    go : (b : Bool) → leb (max_len_of r + 2) n ≡ b → ◌≡◌ {A = ℕ} (cond b 0 3) 0 → max_len_of r + 2 ≤ n
    go true h k = leb-true (max_len_of r + 2) n h
    go false h k = absurd (omega arith)

pub accepted : (s : KarplusStrong) (n : ℕ) → karplus_strong_refusal_of s n ≡ 0 → Sound s × (max_len_of s.sample_rate + 2 ≤ n)
unfolding karplus_strong_refusal_of
accepted s n e = go (rate_ok s.sample_rate) (line_ok s (max_len_of s.sample_rate)) refl refl e
  where
    go : (a b : Bool) → rate_ok s.sample_rate ≡ a → line_ok s (max_len_of s.sample_rate) ≡ b
        → ◌≡◌ {A = ℕ} (cond a (cond b (room_of s.sample_rate n) 2) 1) 0 → Sound s × (max_len_of s.sample_rate + 2 ≤ n)
    go false b p q h = absurd (omega arith)
    go true false p q h = absurd (omega arith)
    go true true p q h = (line_sound s p q, room_of_lem s.sample_rate n h)

pub rate_accepted : (s : KarplusStrong) (r : Hertz) (n : ℕ) → karplus_strong_rate_refusal_of s r n ≡ 0 → Sound s × (rate_ok r ≡ true) × (max_len_of r + 2 ≤ n)
unfolding karplus_strong_rate_refusal_of
rate_accepted s r n e = go (rate_ok s.sample_rate) (rate_ok r) (line_ok s (max_len_of s.sample_rate)) refl refl refl e
  where
    go : (a b c : Bool) → rate_ok s.sample_rate ≡ a → rate_ok r ≡ b → line_ok s (max_len_of s.sample_rate) ≡ c
        → ◌≡◌ {A = ℕ} (cond (a && b) (cond c (room_of r n) 2) 1) 0 → Sound s × (rate_ok r ≡ true) × (max_len_of r + 2 ≤ n)
    go false b c p q t h = absurd (omega arith)
    go true false c p q t h = absurd (omega arith)
    go true true false p q t h = absurd (omega arith)
    go true true true p q t h = (line_sound s p t, q, room_of_lem r n h)

-- ---- making, reset and rate change
abbrev pub done : KarplusStrong → List Float → Making
done s l = leaving (outcome 0 s) l

abbrev pub refused : ℕ → KarplusStrong → List Float → Making
refused k s l = leaving (outcome k s) l

pub made_done : (k : ℕ) (x y : Strung) → k ≡ 0 → done y.string y.line ≡ made_unless k x y
unfolding made_unless
made_done k x y h = simp h

pub made_no : (k : ℕ) (x y : Strung) → (k ≡ 0 → ⊥) → refused k x.string x.line ≡ made_unless k x y
unfolding made_unless
made_no k x y h = simp (ne_eqb k 0 h)

pub made_parts : {x y : Making} → x ≡ y → (x.out ≡ y.out) × (x.line ≡ y.line)
made_parts e = (ap (λ (m : Making). m.out) e, ap (λ (m : Making). m.line) e)

-- what holds of both holds of what is made
pub made_either : (P : Making → Type 0) (k : ℕ) (x y : Strung) → (k ≡ 0 → P (done y.string y.line))
    → ((k ≡ 0 → ⊥) → P (refused k x.string x.line)) → P (made_unless k x y)
unfolding made_unless
made_either P k x y h g = go (eqb k 0) (eqb-true k 0) (eqb-false k 0)
  where
    go : (b : Bool) → (b ≡ true → k ≡ 0) → (b ≡ false → k ≡ 0 → ⊥) → P (cond b (done y.string y.line) (refused k x.string x.line))
    go true e f = h (e refl)
    go false e f = g (f refl)

pub made_says : (k : ℕ) (x y : Strung) → (made_unless k x y).out.refused ≡ k
made_says k x y = made_either (λ m. m.out.refused ≡ k) k x y sym (λ n. refl)

-- what new asks
module _ (r : Hertz) (v : Float) (n : ℕ) where
  pub new_rate : rate_ok r ≡ false → 1 ≡ karplus_strong_new_refusal_of r v n
  unfolding karplus_strong_new_refusal_of
  new_rate e = rw e

  pub new_threshold : rate_ok r ≡ true → threshold_ok v ≡ false → 2 ≡ karplus_strong_new_refusal_of r v n
  unfolding karplus_strong_new_refusal_of
  new_threshold e f = rw (e, f)

  pub new_room : (k m : ℕ) → rate_ok r ≡ true → threshold_ok v ≡ true → m ≡ max_len_of r → k ≡ cond (leb (m + 2) n) 0 3
      → k ≡ karplus_strong_new_refusal_of r v n
  unfolding karplus_strong_new_refusal_of room_of
  new_room k m e f q g = rw (e, f, ← q) g

  pub new_taken : karplus_strong_new_refusal_of r v n ≡ 0 → (rate_ok r ≡ true) × (threshold_ok v ≡ true) × (max_len_of r + 2 ≤ n)
  unfolding karplus_strong_new_refusal_of
  new_taken e = go (rate_ok r) (threshold_ok v) refl refl e
    where
      go : (a b : Bool) → rate_ok r ≡ a → threshold_ok v ≡ b → ◌≡◌ {A = ℕ} (cond a (cond b (room_of r n) 2) 1) 0
          → (rate_ok r ≡ true) × (threshold_ok v ≡ true) × (max_len_of r + 2 ≤ n)
      go true true p q h = (p, q, room_of_lem r n h)
      go true false p q h = absurd (omega arith)
      go false b p q h = absurd (omega arith)

-- a string of so many cells, and what a call says that is refused by r or let pass
module _ (r : Hertz) (v : Float) (l x : List Float) (o : Result (Unit {0}) Refusal) (n : ℕ)
    (q : refused_number o ≡ karplus_strong_new_refusal_of r v (length l)) (ex : x ≡ blank_of 0 n l) where
  abbrev says : Making
  says = leaving (outcome (refused_number o) (string_of r v n)) x

  pub new_no : (e : Refusal) → o ≡ Err e → n ≡ 0 → says ≡ karplus_strong_new_of r v l
  unfolding karplus_strong_new_of refused_number blank_of
  new_no e eo en = rw (← q, eo, ex, en, ← over_none (blank_at 0 l) l) (made_no _ (strung (no_string r v) l) _ (nonzero e))

  pub new_made : (u : Unit {0}) → o ≡ Ok u → n ≡ max_len_of r → says ≡ karplus_strong_new_of r v l
  unfolding karplus_strong_new_of refused_number made_unless
  new_made u eo en = rw (← q, eo, ex, en)

module _ (s : KarplusStrong) (l : List Float) where
  pub reset_no : (e : Refusal) → number_of e ≡ karplus_strong_refusal_of s (length l) → refused (number_of e) s l ≡ karplus_strong_reset_of s l
  unfolding karplus_strong_reset_of
  reset_no e q = rw (← q) (made_no _ (strung s l) _ (nonzero e))

  pub reset_made : 0 ≡ karplus_strong_refusal_of s (length l) → (u : KarplusStrong) (edge : EdgeDetector) (x : List Float)
      → u ≡ rest_of s s.len s.trigger_edge → edge ≡ reset_of s.trigger_edge
      → x ≡ blank_of 0 s.len l → done (heard_string u edge u.freq_memo) x ≡ karplus_strong_reset_of s l
  unfolding karplus_strong_reset_of made_unless
  reset_made q u edge x eu ee ex = rw (← q, eu, ee, ex)

-- a string of n cells and this place
abbrev resized : KarplusStrong → Hertz → ℕ → ℕ → KarplusStrong
resized s r n place =
    record {
      len = n;
      write_pos = place;
      sample_rate = r;
      lp_state = s.lp_state;
      ap_x1 = s.ap_x1;
      ap_y1 = s.ap_y1;
      trigger_edge = s.trigger_edge;
      freq_memo = s.freq_memo;
    }

module _ (s : KarplusStrong) (r : Hertz) (l : List Float) where
  pub rate_no : (e : Refusal) → number_of e ≡ karplus_strong_rate_refusal_of s r (length l)
      → refused (number_of e) s l ≡ karplus_strong_set_sample_rate_of s r l
  unfolding karplus_strong_set_sample_rate_of
  rate_no e q = rw (← q) (made_no _ (strung s l) _ (nonzero e))

  pub rate_made : 0 ≡ karplus_strong_rate_refusal_of s r (length l) → (n a place : ℕ) (x : List Float) → n ≡ max_len_of r → a ≡ min s.len n
      → place ≡ place_of s.write_pos n → x ≡ blank_of a n l → done (resized s r n place) x ≡ karplus_strong_set_sample_rate_of s r l
  unfolding karplus_strong_set_sample_rate_of made_unless
  rate_made q n a place x en ea ep ex = rw (← q, ep, ex, ea, en)

-- ---- the strike
-- x is a string s with the line l
abbrev pub PartsOf : Strung → KarplusStrong → List Float → Type 0
PartsOf x s l = (s ≡ x.string) × (l ≡ x.line)

pub struck_taken : (s : KarplusStrong) (n : ℕ) (b bright : Float) (d : List ℕ) (l x : List Float) (u : KarplusStrong) → n ≤ length l
    → bright ≡ clamp_of (finite_or b half) zer one → u ≡ rest_of s n s.trigger_edge → x ≡ struck_of (length (take n l)) bright d (take n l)
    → PartsOf (strike_at s (Some n) (clamp_of (finite_or b half) zer one) d l) u (x ++ drop n l)
unfolding strike_at
struck_taken s n b bright d l x u k eb eu ex =
    let size : length (take n l) ≡ n = simp length-take (omega arith) in
    rw (← eb) (eu, rw (ex, size) (struck_cells n bright d l k))

-- what is said of a strike by its rising is said of it by its cells
strike_told : (b : Bool) (n : ℕ) (d : List ℕ) → cond b (draws_refusal_of n d) 0 ≡ strike_refusal_of (cond b (Some n) None) d
unfolding strike_refusal_of
strike_told true n d = refl
strike_told false n d = refl

strike_most : (b : Bool) (m n : ℕ) → m ≤ n → strike_len (cond b (Some m) None) ≤ n
unfolding strike_len
strike_most true m n h = h
strike_most false m n h = omega arith

strike_is : (r : Bool) (s : KarplusStrong) (p b : Float) (d : List ℕ) (l : List Float)
    → strike_at s (cond r (Some (struck_len p)) None) b d l ≡ strike_if r s p b d l
unfolding strike_at strike_if strike_of
strike_is true s p b d l = refl
strike_is false s p b d l = refl

-- what was heard of an accepted tick
module _ (s : KarplusStrong) (c : KarplusStrongControls) (h : Heard) (eh : h ≡ hear_of s c) where
  pub heard_taken : (d : List ℕ) → trigger_refusal_of s c d ≡ strike_refusal_of h.strike d
  unfolding trigger_refusal_of hear_of
  heard_taken d = rw eh (strike_told _ _ d)

  pub heard_struck : (b : Float) (d : List ℕ) (l : List Float)
      → strike_at h.string h.strike b d l
      ≡ strike_if (rising_of s.trigger_edge c.trigger).rising (heard_string s (rising_of s.trigger_edge c.trigger).edge (memo_at s c)) (period_at s c) b d l
  unfolding hear_of
  heard_struck b d l = rw eh (strike_is _ _ _ b d l)

  module _ (n : ℕ) (a : Sound s) (room : max_len_of s.sample_rate + 2 ≤ n) where
    pub heard_fits : strike_len h.strike ≤ n
    unfolding hear_of
    heard_fits = rw eh (strike_most _ _ n (struck_fits s c a n room))

    pub heard_delay : whole_of (target_delay_of h.period (filter_coef_of (damping_of c)) (ap_coef_of (stretch_of c))) ≤ 9610
    unfolding hear_of
    heard_delay = rw eh (delay_range s.sample_rate (memo_at s c).val c.damping c.stretch a.rate (heard_number s c a))

    -- the string, struck or not: its place and its length
    pub struck_ready : (b : Float) (d : List ℕ) (l : List Float) (u : KarplusStrong) → u ≡ (strike_at h.string h.strike b d l).string
        → (u.write_pos < u.len) × (u.len ≤ n)
    unfolding strike_if strike_of
    struck_ready b d l u eu = rw (eu, heard_struck b d l) (go (rising_of s.trigger_edge c.trigger).rising)
      where
        heard : KarplusStrong
        heard = heard_string s (rising_of s.trigger_edge c.trigger).edge (memo_at s c)

        n' : ℕ
        n' = struck_len (period_at s c)

        go : (r : Bool) → let x = (cond r (strung (rest_of heard n' heard.trigger_edge) (struck_of n' b d l)) (strung heard l)).string in
            (x.write_pos < x.len) × (x.len ≤ n)
        go true = (omega (arith, (struck_range s c a).0), struck_fits s c a n room)
        go false = (a.place, omega (arith, a.most))

-- ---- the loop
pub tap_by : (l : List Float) (from len w : ℕ) (frac : Float) (a b : ℕ) → a ≡ (from + (len - w)) % len → b ≡ (from + (len - (w + 1))) % len
    → add binary64 (mul binary64 (get_or l a nan) (sub binary64 one frac)) (mul binary64 (get_or l b nan) frac) ≡ tap_at l from len w frac
unfolding tap_at offset_one offset_two
tap_by l from len w frac a b ea eb =
    let e : len - (w + 1) ≡ len - w - 1 = omega arith in
    rw (ea, eb, e)

pub ticked_parts : {x y : Ticking} → x ≡ y → (x.out ≡ y.out) × (x.line ≡ y.line)
ticked_parts e = (ap (λ (t : Ticking). t.out) e, ap (λ (t : Ticking). t.line) e)

-- the string after a turn
abbrev turned : KarplusStrong → ℕ → Float → Float → KarplusStrong
turned s next filtered stretched =
    record {
      len = s.len;
      write_pos = next;
      sample_rate = s.sample_rate;
      lp_state = filtered;
      ap_x1 = filtered;
      ap_y1 = stretched;
      trigger_edge = s.trigger_edge;
      freq_memo = s.freq_memo;
    }

-- what is heard is finite, or 0.0, so its mark needs no test
pub heard_known : (v : Float) (zeroed numbers : Bool) → is_fin v ≡ true → marked_of (volts1 v) zeroed true true numbers ≡ heard_of v zeroed numbers
unfolding heard_of
heard_known v zeroed numbers e = mark_known (volts1 v) zeroed true numbers (unfold all_finite of_bits in rw e refl)

module _ (s : KarplusStrong) (t : Tuning) (l : List Float) (sample : Float)
    (es : sample ≡ tap_at l s.write_pos s.len t.delay t.fraction) where
  abbrev filtered : Float
  filtered = filtered_of s sample t.filter_coef

  abbrev stretched_by : Float
  stretched_by = stretched_of s filtered t.ap_coef

  abbrev leaked : Float
  leaked = mul binary64 stretched_by loop_leak

  pub turn_clean : is_fin leaked ≡ true → (next : ℕ) (v : Volts) (a : Answer) → next ≡ (s.write_pos + 1) % s.len → v ≡ volts1 leaked
      → a ≡ marked_of v false true true t.numbers
      → record { out = record { answer = a; state = turned s next filtered stretched_by }; line = set l s.write_pos leaked } ≡ turn_of s t l
  unfolding turn_of
  turn_clean h next v a en ev ea = rw (← es, h, en, ea, ev, heard_known leaked false t.numbers h)

  pub turn_cleared : is_fin leaked ≡ false → (v : Volts) (a : Answer) (x : List Float) → v ≡ volts1 zer
      → a ≡ marked_of v true true true t.numbers → x ≡ blank_of 0 s.len l
      → record { out = record { answer = a; state = rest_of s s.len s.trigger_edge }; line = x } ≡ turn_of s t l
  unfolding turn_of
  turn_cleared h v a x ev ea ex = rw (← es, h, ea, ev, ex, heard_known zer true t.numbers zer_fin)

-- a turn of the loop is its string's
pub loop_turned : (s : KarplusStrong) (u : Loop) (t : Tuning) (l x : List Float) (r : Ticked Loop) → with_loop s u ≡ s
    → turn_of (with_loop s u) t l ≡ after_turn s r x → after_turn s r x ≡ turn_of s t l
loop_turned s u t l x r e h = sym h ∙ ap (λ (v : KarplusStrong). turn_of v t l) e

-- a step is the turn of its tuning
pub turn_is : (s : KarplusStrong) (p d t : Float) (numbers : Bool) (l : List Float) → turn_of s (tuning_of p d t numbers) l ≡ step_of s p d t numbers l
unfolding turn_of tuning_of tap_at step_of tap_of
turn_is s p d t numbers l = refl

-- what holds of both ends of a turn holds of it
pub turn_either : (P : Ticking → Type 0) (s : KarplusStrong) (t : Tuning) (l : List Float)
    → ((y z v : Float) → is_fin v ≡ true → P (wrote_of s y z v t.numbers l)) → P (cleared_of s t.numbers l) → P (turn_of s t l)
unfolding turn_of
turn_either P s t l h k = pick (is_fin v) refl
  where
    y : Float
    y = filtered_of s (tap_at l s.write_pos s.len t.delay t.fraction) t.filter_coef

    z : Float
    z = stretched_of s y t.ap_coef

    v : Float
    v = mul binary64 z loop_leak

    pick : (b : Bool) → is_fin v ≡ b → P (cond b (wrote_of s y z v t.numbers l) (cleared_of s t.numbers l))
    pick true e = h y z v e
    pick false e = k

pub step_either : (P : Ticking → Type 0) (s : KarplusStrong) (p d t : Float) (numbers : Bool) (l : List Float)
    → ((y z v : Float) → is_fin v ≡ true → P (wrote_of s y z v numbers l)) → P (cleared_of s numbers l) → P (step_of s p d t numbers l)
unfolding tuning_of
step_either P s p d t numbers l h k = subst P (turn_is s p d t numbers l) (turn_either P s (tuning_of p d t numbers) l h k)

-- ---- the tick
tick_no : (k : ℕ) (s : KarplusStrong) (l : List Float) (t : Ticking) → (k ≡ 0 → ⊥) → record { out = refused_tick s k; line = l } ≡ tick_unless k s l t
unfolding tick_unless
tick_no zero s l t h = absurd (h refl)
tick_no (suc k) s l t h = refl

module _ (s : KarplusStrong) (c : KarplusStrongControls) (d : List ℕ) (l : List Float) where
  pub tick_refused : (e : Refusal) → number_of e ≡ karplus_strong_refusal_of s (length l)
      → record { out = refused_tick s (number_of e); line = l } ≡ karplus_strong_tick_of s c d l
  unfolding karplus_strong_tick_of
  tick_refused e q = rw (← q) (tick_no _ s l (karplus_strong_sound_of s c d l) (nonzero e))

  module _ (z : 0 ≡ karplus_strong_refusal_of s (length l)) (h : Heard) (eh : h ≡ hear_of s c) where
    pub sound_refused : (e : Refusal) → number_of e ≡ strike_refusal_of h.strike d
        → record { out = refused_tick s (number_of e); line = l } ≡ karplus_strong_tick_of s c d l
    unfolding karplus_strong_tick_of karplus_strong_sound_of tick_unless
    sound_refused e q = rw (← z, heard_taken s c h eh d, ← q) (tick_no _ s l _ (nonzero e))

    module _ (k : 0 ≡ strike_refusal_of h.strike d) (t : Tuning) (u : KarplusStrong) (x : List Float)
        (et : t ≡ tuning_of h.period (damping_of c) (stretch_of c) (all_numbers (controls_of c)))
        (eu : PartsOf (strike_at h.string h.strike (brightness_of c) d l) u x) where
      sound_step : turn_of u t x ≡ karplus_strong_tick_of s c d l
      unfolding karplus_strong_tick_of karplus_strong_sound_of tick_unless hear_of
      sound_step = rw (← z, heard_taken s c h eh d, ← k, eu.0, eu.1, heard_struck s c h eh (brightness_of c) d l, et, eh) (turn_is _ _ _ _ _ _)

      pub sound_by : (r : Ticked KarplusStrong) (y : List Float) → r ≡ (turn_of u t x).out → y ≡ (turn_of u t x).line
          → (r ≡ (karplus_strong_tick_of s c d l).out) × (y ≡ (karplus_strong_tick_of s c d l).line)
      sound_by r y p q = let e = ticked_parts sound_step in (p ∙ e.0, q ∙ e.1)
