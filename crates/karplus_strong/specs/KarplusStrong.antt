-- KarplusStrong, written from oscillators.rs. The line is lent, so each call says what it holds afterwards.
use Rattle.std.specs.Prelude.{ℕ, zero, suc, ◌+◌, min, Bool, cond, not, ◌&&◌, Result, List, [], ◌∷◌, length, ◌==◌, is_nan, nat_le, nat_lt, Float}
use Rattle.std.specs.Float.{binary64}
use Rattle.std.specs.Float.Ieee.{sub, div, neg}
use Rattle.laws.specs.Float.{zer, one, two, is_fin}
use Rattle.numeric.specs.Basic.{clamp_of, whole_of, real_of}
use Rattle.common.specs.Consts.{half}
use Rattle.common.specs.Edge.{new_edge, reset_of, rising_of}
use Rattle.common.specs.Memo.{Memo1, new_memo1, recall1, voct_to_hz_at}
use Rattle.common.specs.Tests.{rate_ok, threshold_ok, draws_refusal_of}
use Rattle.common.specs.declared.EdgeDetector.{EdgeDetector}
use Rattle.common.specs.declared.Hertz.{Hertz}
use Rattle.common.specs.declared.Refusal.{Refusal}
use Rattle.answer.specs.Block.{Block, block, block_of, block_said}
use Rattle.answer.specs.Calls.{Outcome, outcome}
use Rattle.answer.specs.Mark.{all_numbers}
use Rattle.answer.specs.declared.Answer.{Answer}
use Rattle.answer.specs.declared.Answer.TheVariants as answer
use Rattle.answer.specs.declared.Played.{Played}
use Rattle.answer.specs.declared.Tally.{Tally}
use Rattle.answer.specs.declared.Ticked.{Ticked}
use Rattle.karplus_strong.specs.Consts.{n_ports, twenty}
use Rattle.karplus_strong.specs.Line.{blank_of, struck_of}
use Rattle.karplus_strong.specs.Step.{Ticking, rest_of, step_of}
use Rattle.karplus_strong.specs.declared.KarplusStrong.{KarplusStrong}
use Rattle.karplus_strong.specs.declared.KarplusStrongControls.{KarplusStrongControls}

-- max_len_for: (sample_rate / 20.0) as usize + 10
unfoldable pub max_len_of : Hertz → ℕ
max_len_of rate = whole_of (div binary64 rate.0 twenty) + 10

-- at rest, of this threshold and of so many cells
abbrev pub string_of : Hertz → Float → ℕ → KarplusStrong
string_of rate threshold n =
    record {
      len = n;
      write_pos = 0;
      sample_rate = rate;
      lp_state = zer;
      ap_x1 = zer;
      ap_y1 = zer;
      trigger_edge = new_edge threshold;
      freq_memo = new_memo1;
    }

abbrev pub new_karplus_strong : Hertz → Float → KarplusStrong
new_karplus_strong rate threshold = string_of rate threshold (max_len_of rate)

-- what a refused new hands out: a string without cells. Every call refuses it, by 1 where its rate is at fault and else by 2
abbrev pub no_string : Hertz → Float → KarplusStrong
no_string rate threshold = string_of rate threshold 0

-- a string with its line
pub record Strung : Type 0 where
  pub string : KarplusStrong
  pub line : List Float

abbrev pub strung : KarplusStrong → List Float → Strung
strung s l = record { string = s; line = l }

abbrev pub new_strung : Hertz → Float → List Float → Strung
new_strung rate threshold l = strung (new_karplus_strong rate threshold) (blank_of 0 (max_len_of rate) l)

-- a new one like this, in another line
abbrev pub new_like : Strung → List Float → Strung
new_like x l = new_strung x.string.sample_rate x.string.trigger_edge.threshold l

-- ---- refusals 1, 2 and 3
-- 2: a length from 4 to max_len + 1, a write position below it, a memo's value that is no NaN, and a gate's threshold
unfoldable pub line_ok : KarplusStrong → ℕ → Bool
line_ok s max_len =
    nat_le 4 s.len
    && (nat_le s.len (max_len + 1)
    && (nat_lt s.write_pos s.len
    && (not (is_nan s.freq_memo.val.0)
    && threshold_ok s.trigger_edge.threshold)))

-- 3: a lent line of max_len + 2 cells or more
unfoldable pub room_of : Hertz → ℕ → ℕ
room_of rate n = cond (nat_le (max_len_of rate + 2) n) 0 3

unfoldable pub karplus_strong_refusal_of : KarplusStrong → ℕ → ℕ
karplus_strong_refusal_of s n =
    cond (rate_ok s.sample_rate) (cond (line_ok s (max_len_of s.sample_rate)) (room_of s.sample_rate n) 2) 1

-- a rate change asks 1 of the old rate and the new, 2 by the old one's max_len and 3 by the new one's
unfoldable pub karplus_strong_rate_refusal_of : KarplusStrong → Hertz → ℕ → ℕ
karplus_strong_rate_refusal_of s rate n =
    cond (rate_ok s.sample_rate && rate_ok rate) (cond (line_ok s (max_len_of s.sample_rate)) (room_of rate n) 2) 1

-- the cells that a line needs at a rate; 0 of a rate that is refused
unfoldable pub karplus_strong_cells_of : Hertz → ℕ
karplus_strong_cells_of rate = cond (rate_ok rate) (max_len_of rate + 2) 0

-- ---- new
-- what new, reset and a rate change answer, and what they leave in the line
pub record Making : Type 0 where
  pub out : Outcome KarplusStrong
  pub line : List Float

abbrev pub leaving : Outcome KarplusStrong → List Float → Making
leaving m l = record { out = m; line = l }

-- new and done where n is 0; else old, and refused by n
unfoldable pub made_unless : ℕ → Strung → Strung → Making
made_unless n old new =
    cond (n == 0)
    (leaving (outcome 0 new.string) new.line)
    (leaving (outcome n old.string) old.line)

-- 1 on the rate, 2 on the threshold, 3 on the lent line
unfoldable pub karplus_strong_new_refusal_of : Hertz → Float → ℕ → ℕ
karplus_strong_new_refusal_of rate threshold n = cond (rate_ok rate) (cond (threshold_ok threshold) (room_of rate n) 2) 1

unfoldable pub karplus_strong_new_of : Hertz → Float → List Float → Making
karplus_strong_new_of rate threshold l =
    made_unless (karplus_strong_new_refusal_of rate threshold (length l)) (strung (no_string rate threshold) l) (new_strung rate threshold l)

-- ---- the tick
unfoldable pub finite_or : Float → Float → Float
finite_or x default = cond (is_fin x) x default

-- (sample_rate / freq).clamp(2.0, max_len as f64 - 1.0)
unfoldable pub period_of : Hertz → Hertz → Float
period_of rate freq = clamp_of (div binary64 rate.0 freq.0) two (sub binary64 (real_of (max_len_of rate)) one)

-- the line's length after a strike: period as usize + 2
unfoldable pub struck_len : Float → ℕ
struck_len period = whole_of period + 2

unfoldable pub strike_of : KarplusStrong → Float → Float → List ℕ → List Float → Strung
strike_of s period brightness draws l =
    strung (rest_of s (struck_len period) s.trigger_edge) (struck_of (struck_len period) brightness draws l)

unfoldable pub strike_if : Bool → KarplusStrong → Float → Float → List ℕ → List Float → Strung
strike_if rising s period brightness draws l = cond rising (strike_of s period brightness draws l) (strung s l)

-- the string with what the tick heard: its trigger and its pitch
abbrev pub heard_string : KarplusStrong → EdgeDetector → Memo1 → KarplusStrong
heard_string s edge memo =
    record {
      len = s.len;
      write_pos = s.write_pos;
      sample_rate = s.sample_rate;
      lp_state = s.lp_state;
      ap_x1 = s.ap_x1;
      ap_y1 = s.ap_y1;
      trigger_edge = edge;
      freq_memo = memo;
    }

abbrev pub refused_tick : KarplusStrong → ℕ → Ticked KarplusStrong
refused_tick s n = record { answer = answer.Refused n; state = s }

-- a tick goes on, unless a refusal's number isn't 0
unfoldable pub tick_unless : ℕ → KarplusStrong → List Float → Ticking → Ticking
tick_unless zero s l t = t
tick_unless (suc n) s l t = record { out = refused_tick s (suc n); line = l }

-- the controls: finite, or their default, and in their range
abbrev pub damping_of : KarplusStrongControls → Float
damping_of c = clamp_of (finite_or c.damping half) zer one

abbrev pub brightness_of : KarplusStrongControls → Float
brightness_of c = clamp_of (finite_or c.brightness half) zer one

abbrev pub stretch_of : KarplusStrongControls → Float
stretch_of c = clamp_of (finite_or c.stretch zer) (neg one) one

-- those given to a tick, in port order
abbrev pub controls_of : KarplusStrongControls → List Float
controls_of c = c.voct.0 ∷ c.trigger ∷ c.damping ∷ c.brightness ∷ c.stretch ∷ []

-- the pitch, and its period in samples
abbrev pub memo_at : KarplusStrong → KarplusStrongControls → Memo1
memo_at s c = recall1 voct_to_hz_at s.freq_memo (finite_or c.voct.0 zer)

abbrev pub period_at : KarplusStrong → KarplusStrongControls → Float
period_at s c = period_of s.sample_rate (memo_at s c).val

-- 5 and 6, asked of a tick that takes its trigger
unfoldable pub trigger_refusal_of : KarplusStrong → KarplusStrongControls → List ℕ → ℕ
trigger_refusal_of s c draws = cond (rising_of s.trigger_edge c.trigger).rising (draws_refusal_of (struck_len (period_at s c)) draws) 0

-- a tick of a state and a line that refusals 1 to 3 let pass: edge, strike if it is taken, step
unfoldable pub karplus_strong_sound_of : KarplusStrong → KarplusStrongControls → List ℕ → List Float → Ticking
karplus_strong_sound_of s c draws l =
    let risen = rising_of s.trigger_edge c.trigger in
    let struck = strike_if risen.rising (heard_string s risen.edge (memo_at s c)) (period_at s c) (brightness_of c) draws l in
    tick_unless (trigger_refusal_of s c draws) s l
    (step_of struck.string (period_at s c) (damping_of c) (stretch_of c) (all_numbers (controls_of c)) struck.line)

unfoldable pub karplus_strong_tick_of : KarplusStrong → KarplusStrongControls → List ℕ → List Float → Ticking
karplus_strong_tick_of s c draws l = tick_unless (karplus_strong_refusal_of s (length l)) s l (karplus_strong_sound_of s c draws l)

-- ---- a block of ticks of one set of controls. Each is lent the same draws; only the first can need them
-- a tick of a string with its line, and both after it
abbrev pub karplus_strong_told_of : KarplusStrongControls → List ℕ → Strung → Answer
karplus_strong_told_of c draws x = (karplus_strong_tick_of x.string c draws x.line).out.answer

abbrev pub karplus_strong_next_of : KarplusStrongControls → List ℕ → Strung → Strung
karplus_strong_next_of c draws x = let t = karplus_strong_tick_of x.string c draws x.line in strung t.out.state t.line

-- what refuses the first of n ticks over a line of so many cells; of none only the state's own numbers, 1, 2 and 3
unfoldable pub first_refusal_of : KarplusStrong → KarplusStrongControls → List ℕ → ℕ → ℕ → ℕ
first_refusal_of s c draws cells n =
    let k = karplus_strong_refusal_of s cells in
    cond (k == 0) (cond (n == 0) 0 (trigger_refusal_of s c draws)) k

-- as many ticks as there are marks
unfoldable pub karplus_strong_block_of : Strung → KarplusStrongControls → List ℕ → Tally → List Float → List ℕ → Block Strung
karplus_strong_block_of x c draws t o m =
    block_of n_ports (first_refusal_of x.string c draws (length x.line) (length m)) (karplus_strong_told_of c draws)
    (karplus_strong_next_of c draws) x t o m

-- what its call says: of a refused one what it was given stays; and the line that it leaves
abbrev pub with_line : Block KarplusStrong → List Float → Block Strung
with_line b l = block b.refused (strung b.state l) b.tally b.samples b.marks

abbrev pub strung_said : KarplusStrong → Tally → Result (Played KarplusStrong) Refusal → List Float → List ℕ → List Float → Block Strung
strung_said s t r o m l = with_line (block_said s t r o m) l

-- ---- reset and rate change
-- clear_loop_state, and the edge's own reset: the length stays, and so does the memo
abbrev pub restarted : KarplusStrong → KarplusStrong
restarted s = rest_of s s.len (reset_of s.trigger_edge)

unfoldable pub karplus_strong_reset_of : KarplusStrong → List Float → Making
karplus_strong_reset_of s l = made_unless (karplus_strong_refusal_of s (length l)) (strung s l) (strung (restarted s) (blank_of 0 s.len l))

-- 0 where the Rust would read past a shorter line
unfoldable pub place_of : ℕ → ℕ → ℕ
place_of pos len = cond (nat_lt pos len) pos 0

abbrev pub rated : KarplusStrong → Hertz → KarplusStrong
rated s rate =
    record {
      len = max_len_of rate;
      write_pos = place_of s.write_pos (max_len_of rate);
      sample_rate = rate;
      lp_state = s.lp_state;
      ap_x1 = s.ap_x1;
      ap_y1 = s.ap_y1;
      trigger_edge = s.trigger_edge;
      freq_memo = s.freq_memo;
    }

-- resize(max_len, 0.0): cut, or filled from the old length on
abbrev pub rated_line : KarplusStrong → Hertz → List Float → List Float
rated_line s rate l = blank_of (min s.len (max_len_of rate)) (max_len_of rate) l

unfoldable pub karplus_strong_set_sample_rate_of : KarplusStrong → Hertz → List Float → Making
karplus_strong_set_sample_rate_of s rate l =
    made_unless (karplus_strong_rate_refusal_of s rate (length l)) (strung s l) (strung (rated s rate) (rated_line s rate l))
