-- One turn of the loop: delay line, one-pole lowpass, allpass, leak. Written from tick_generic, line by line.
use Rattle.std.specs.Prelude.{ℕ, ◌+◌, ◌-◌, ◌%◌, Bool, true, false, cond, List, slice_index_or, slice_set, Float}
use Rattle.std.specs.Float.{nan, binary64}
use Rattle.std.specs.Float.Ieee.{add, sub, mul, div, neg}
use Rattle.laws.specs.Float.{zer, one, is_fin}
use Rattle.numeric.specs.Basic.{max_of, whole_of, real_of}
use Rattle.common.specs.Consts.{half}
use Rattle.common.specs.declared.EdgeDetector.{EdgeDetector}
use Rattle.answer.specs.Answer.{volts1}
use Rattle.answer.specs.Mark.{mark_of}
use Rattle.answer.specs.declared.Answer.{Answer}
use Rattle.answer.specs.declared.Ticked.{Ticked}
use Rattle.karplus_strong.specs.Consts.{spread, loop_leak}
use Rattle.karplus_strong.specs.Line.{blank_of}
use Rattle.karplus_strong.specs.declared.KarplusStrong.{KarplusStrong}

-- 0.5 + damping * 0.49
unfoldable pub filter_coef_of : Float → Float
filter_coef_of damping = add binary64 half (mul binary64 damping spread)

-- -0.5 * stretch
unfoldable pub ap_coef_of : Float → Float
ap_coef_of stretch = mul binary64 (neg half) stretch

-- (1.0 - ap_coef) / (1.0 + ap_coef)
unfoldable pub ap_delay_of : Float → Float
ap_delay_of a = div binary64 (sub binary64 one a) (add binary64 one a)

-- (1.0 - filter_coef) / filter_coef
unfoldable pub filter_delay_of : Float → Float
filter_delay_of c = div binary64 (sub binary64 one c) c

-- (period - filter_gd - ap_gd).max(1.0)
unfoldable pub target_delay_of : Float → Float → Float → Float
target_delay_of period c a = max_of (sub binary64 (sub binary64 period (filter_delay_of c)) (ap_delay_of a)) one

-- len.saturating_sub(delay_int), and one less
unfoldable pub offset_one : ℕ → ℕ → ℕ
offset_one len delay = len - delay

unfoldable pub offset_two : ℕ → ℕ → ℕ
offset_two len delay = offset_one len delay - 1

-- the two taps, weighed by the delay's fraction
unfoldable pub tap_of : List Float → ℕ → ℕ → Float → Float
tap_of l pos len delay =
    let whole = whole_of delay in
    let frac = sub binary64 delay (real_of whole) in
    let read = slice_index_or l ((pos + offset_one len whole) % len) nan in
    let read2 = slice_index_or l ((pos + offset_two len whole) % len) nan in
    add binary64 (mul binary64 read (sub binary64 one frac)) (mul binary64 read2 frac)

-- sample * filter_coef + lp_state * (1.0 - filter_coef)
unfoldable pub filtered_of : KarplusStrong → Float → Float → Float
filtered_of s sample c = add binary64 (mul binary64 sample c) (mul binary64 s.lp_state (sub binary64 one c))

-- ap_coef * filtered + ap_x1 - ap_coef * ap_y1
unfoldable pub stretched_of : KarplusStrong → Float → Float → Float
stretched_of s filtered a = sub binary64 (add binary64 (mul binary64 a filtered) s.ap_x1) (mul binary64 a s.ap_y1)

-- what a tick answers, and what it leaves in the line
pub record Ticking : Type 0 where
  pub out : Ticked KarplusStrong
  pub line : List Float

-- the one output, port 10. The string is cleared, steered or clean: nothing stands before a clamp, and it has no phase
unfoldable pub heard_of : Float → Bool → Bool → Answer
heard_of v zeroed numbers = mark_of (volts1 v) zeroed true true numbers

-- a loop at rest, of n cells: what clear_loop_state and excite leave beside the line
abbrev pub rest_of : KarplusStrong → ℕ → EdgeDetector → KarplusStrong
rest_of s n edge =
    record {
      len = n;
      write_pos = 0;
      sample_rate = s.sample_rate;
      lp_state = zer;
      ap_x1 = zer;
      ap_y1 = zer;
      trigger_edge = edge;
      freq_memo = s.freq_memo;
    }

-- a finite value goes into the line, at the write position
abbrev pub wrote_of : KarplusStrong → Float → Float → Float → Bool → List Float → Ticking
wrote_of s filtered stretched leaked numbers l = record {
  out = record {
    answer = heard_of leaked false numbers;
    state = record {
      len = s.len;
      write_pos = (s.write_pos + 1) % s.len;
      sample_rate = s.sample_rate;
      lp_state = filtered;
      ap_x1 = filtered;
      ap_y1 = stretched;
      trigger_edge = s.trigger_edge;
      freq_memo = s.freq_memo;
    };
  };
  line = slice_set l s.write_pos leaked;
}

-- another one clears the loop: clear_loop_state, and 0.0
abbrev pub cleared_of : KarplusStrong → Bool → List Float → Ticking
cleared_of s numbers l = record {
  out = record { answer = heard_of zer true numbers; state = rest_of s s.len s.trigger_edge };
  line = blank_of 0 s.len l;
}

-- `numbers` says that no control given to the tick is NaN
unfoldable pub step_of : KarplusStrong → Float → Float → Float → Bool → List Float → Ticking
step_of s period damping stretch numbers l =
    let c = filter_coef_of damping in
    let a = ap_coef_of stretch in
    let sample = tap_of l s.write_pos s.len (target_delay_of period c a) in
    let filtered = filtered_of s sample c in
    let stretched = stretched_of s filtered a in
    let leaked = mul binary64 stretched loop_leak in
    cond (is_fin leaked) (wrote_of s filtered stretched leaked numbers l) (cleared_of s numbers l)
