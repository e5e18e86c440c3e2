-- Shortcuts of the code: no public contract and no promise cites them, so nobody need believe them; proofs/Held.antt, Parts.antt and
-- Cuts.antt show that they are what the definitions say.
use Rattle.std.specs.Prelude.{ℕ, ◌+◌, ◌%◌, Bool, cond, T, Option, Some, None, Result, Ok, Err, List, from_bits, slice_index_or, Float}
use Rattle.std.specs.Float.{nan, binary64}
use Rattle.std.specs.Float.Ieee.{add, sub, mul, lt, le}
use Rattle.laws.specs.Float.{one, is_fin}
use Rattle.numeric.specs.Basic.{whole_of, real_of}
use Rattle.common.specs.Edge.{rising_of}
use Rattle.answer.specs.declared.Answer.{Answer}
use Rattle.karplus_strong.specs.Consts.{loop_leak}
use Rattle.karplus_strong.specs.Step.{filter_coef_of, ap_coef_of, target_delay_of, offset_one, offset_two, filtered_of, stretched_of, Ticking, wrote_of}
use Rattle.karplus_strong.specs.Line.{struck_of}
use Rattle.karplus_strong.specs.Step.{cleared_of, rest_of}
use Rattle.common.specs.Refusal.{number_of}
use Rattle.common.specs.Tests.{rate_ok, draws_refusal_of}
use Rattle.common.specs.declared.Refusal.{Refusal}
use Rattle.answer.specs.declared.Ticked.{Ticked}
use Rattle.karplus_strong.specs.KarplusStrong.{Strung, strung, max_len_of, line_ok, struck_len, heard_string, refused_tick, memo_at, period_at}
use Rattle.karplus_strong.specs.declared.Heard.{Heard}
use Rattle.karplus_strong.specs.declared.KarplusStrong.{KarplusStrong}
use Rattle.karplus_strong.specs.declared.KarplusStrongControls.{KarplusStrongControls}
use Rattle.karplus_strong.specs.declared.turning.Loop.{Loop}
use Rattle.karplus_strong.specs.declared.Tuning.{Tuning}

-- ---- the range in which a cast drops the digits of a fraction and nothing else: from 1 to below 2 ^ 52
abbrev pub Cut : Float → Type 0
Cut x = T (le one x) × T (lt x (from_bits binary64 0x4330000000000000))

-- ---- refusals 1 and 2, of the state itself
unfoldable pub state_refusal_of : KarplusStrong → ℕ
state_refusal_of s = cond (rate_ok s.sample_rate) (cond (line_ok s (max_len_of s.sample_rate)) 0 2) 1

-- ---- a step whose controls stand still: what they make of the loop is worked out once, and then only the loop turns
-- the filters, the delay in whole samples and a fraction, and whether no control is NaN
unfoldable pub tuning_of : Float → Float → Float → Bool → Tuning
tuning_of period damping stretch numbers =
    let c = filter_coef_of damping in
    let a = ap_coef_of stretch in
    let delay = target_delay_of period c a in
    record { filter_coef = c; ap_coef = a; delay = whole_of delay; fraction = sub binary64 delay (real_of (whole_of delay)); numbers = numbers }

-- tap_of at such a delay
unfoldable pub tap_at : List Float → ℕ → ℕ → ℕ → Float → Float
tap_at l pos len whole frac =
    let read = slice_index_or l ((pos + offset_one len whole) % len) nan in
    let read2 = slice_index_or l ((pos + offset_two len whole) % len) nan in
    add binary64 (mul binary64 read (sub binary64 one frac)) (mul binary64 read2 frac)

-- step_of with such a tuning
unfoldable pub turn_of : KarplusStrong → Tuning → List Float → Ticking
turn_of s t l =
    let sample = tap_at l s.write_pos s.len t.delay t.fraction in
    let filtered = filtered_of s sample t.filter_coef in
    let stretched = stretched_of s filtered t.ap_coef in
    let leaked = mul binary64 stretched loop_leak in
    cond (is_fin leaked) (wrote_of s filtered stretched leaked t.numbers l) (cleared_of s t.numbers l)

-- the string s, where its loop has come to u; and what a turn from there leaves of it
abbrev pub with_loop : KarplusStrong → Loop → KarplusStrong
with_loop s u =
    record {
      len = u.len;
      write_pos = u.write_pos;
      sample_rate = s.sample_rate;
      lp_state = u.lp_state;
      ap_x1 = u.ap_x1;
      ap_y1 = u.ap_y1;
      trigger_edge = s.trigger_edge;
      freq_memo = s.freq_memo;
    }

abbrev pub after_turn : KarplusStrong → Ticked Loop → List Float → Ticking
after_turn s t l = record { out = record { answer = t.answer; state = with_loop s t.state }; line = l }

unfoldable pub held_answer : Tuning → Strung → Answer
held_answer t x = (turn_of x.string t x.line).out.answer

unfoldable pub held_next : Tuning → Strung → Strung
held_next t x = let u = turn_of x.string t x.line in strung u.out.state u.line

-- ---- what a tick hears, and the string that it strikes: where its trigger is taken, one whose line has so many cells
unfoldable pub hear_of : KarplusStrong → KarplusStrongControls → Heard
hear_of s c =
    let risen = rising_of s.trigger_edge c.trigger in
    let period = period_at s c in
    record { string = heard_string s risen.edge (memo_at s c); period = period; strike = cond risen.rising (Some (struck_len period)) None }

unfoldable pub strike_refusal_of : Option ℕ → List ℕ → ℕ
strike_refusal_of (Some n) draws = draws_refusal_of n draws
strike_refusal_of None draws = 0

unfoldable pub strike_len : Option ℕ → ℕ
strike_len (Some n) = n
strike_len None = 0

-- strike_if, of what was heard
unfoldable pub strike_at : KarplusStrong → Option ℕ → Float → List ℕ → List Float → Strung
strike_at s (Some n) brightness draws l = strung (rest_of s n s.trigger_edge) (struck_of n brightness draws l)
strike_at s None brightness draws l = strung s l

-- a tick, or what refuses it
unfoldable pub ticking : KarplusStrong → Result (Ticked KarplusStrong) Refusal → Ticked KarplusStrong
ticking s (Ok t) = t
ticking s (Err e) = refused_tick s (number_of e)
