-- What the string promises: the statements. The proofs of the same names in small letters stand in proofs/.
use Rattle.std.specs.Prelude.{◌≡◌, ℕ, ◌*◌, ◌<◌, ◌≤◌, min, Bool, true, false, cond, ◌⊎◌, ◌==◌, nat_le, Float}
use Rattle.std.specs.Prelude.{Result, List, [], ◌∷◌, length, slice_index, slice_index_or}
use Rattle.std.specs.Float.{nan}
use Rattle.std.specs.Float.Ieee.{eq, lt, le}
use Rattle.laws.specs.Float.{zer, is_fin}
use Rattle.laws.specs.Machine.{Reached, replies, Settles}
use Rattle.common.specs.Consts.{five}
use Rattle.common.specs.Edge.{new_edge, rising_of}
use Rattle.common.specs.Tests.{rate_ok, threshold_ok, draws_ok}
use Rattle.common.specs.declared.Hertz.{Hertz}
use Rattle.common.specs.declared.Refusal.{Refusal}
use Rattle.answer.specs.Answer.{volts1, cleared, steered, clean, mark_number, volts_of, refusal_of, accepted}
use Rattle.answer.specs.Block.{Block, block_refusal_of, answer_at}
use Rattle.answer.specs.Promises.{Steers, AllAccepted, AllTaken}
use Rattle.answer.specs.Calls.{making, changing}
use Rattle.answer.specs.Mark.{all_numbers}
use Rattle.answer.specs.declared.Made.{Made}
use Rattle.answer.specs.declared.Played.{Played}
use Rattle.answer.specs.declared.Tally.{Tally}
use Rattle.karplus_strong.specs.Consts.{n_ports}
use Rattle.karplus_strong.specs.Step.{Ticking}
use Rattle.karplus_strong.specs.KarplusStrong.{max_len_of, Strung, strung, strung_said, new_strung, new_like, room_of}
use Rattle.karplus_strong.specs.KarplusStrong.{karplus_strong_refusal_of, karplus_strong_cells_of}
use Rattle.karplus_strong.specs.KarplusStrong.{karplus_strong_new_of, struck_len, stretch_of, controls_of, period_at, karplus_strong_tick_of}
use Rattle.karplus_strong.specs.KarplusStrong.{karplus_strong_next_of, trigger_refusal_of, first_refusal_of, karplus_strong_block_of, karplus_strong_reset_of}
use Rattle.karplus_strong.specs.KarplusStrong.{karplus_strong_told_of, karplus_strong_set_sample_rate_of, new_karplus_strong, restarted, rated}
use Rattle.karplus_strong.specs.Calls.{Call, Tick, Play, Reset, SetSampleRate, Lend, Told, strung_after, after, reply, Fit, First, ReachedKarplusStrong}
use Rattle.karplus_strong.specs.declared.KarplusStrong.{KarplusStrong}
use Rattle.karplus_strong.specs.declared.KarplusStrongControls.{KarplusStrongControls}

-- ---- new refuses a bad rate, a bad threshold and a line without room alone: at each other rate, of each threshold, in each other line, there is a
-- first string
abbrev pub NewAccepts : Type 0
NewAccepts = (rate : Hertz) (threshold : Float) (l : List Float)
    → ((karplus_strong_new_of rate threshold l).out.refused ≡ cond (rate_ok rate) (cond (threshold_ok threshold) (room_of rate (length l)) 2) 1)
    × (rate_ok rate ≡ true → threshold_ok threshold ≡ true → room_of rate (length l) ≡ 0 → First (new_strung rate threshold l))

-- ---- no call refuses but for its own input
-- whether a tick with these controls takes the trigger's edge
abbrev pub taken : KarplusStrong → KarplusStrongControls → Bool
taken s c = (rising_of s.trigger_edge c.trigger).rising

-- 1 and 2 never come, and 3 only where a caller lends a line that is too short: its own isn't. Then a tick is refused only
-- where it takes its trigger, by its draws; a block by 52, by what refuses its first tick, if it has one, and by the tally's 7; a reset
-- is done; and a rate change says only what the new rate asks.
pub record Accepts (x : Strung) : Type 0 where
  pub state : (n : ℕ) → karplus_strong_refusal_of x.string n ≡ room_of x.string.sample_rate n
  pub room : room_of x.string.sample_rate (length x.line) ≡ 0
  pub threshold : threshold_ok x.string.trigger_edge.threshold ≡ true
  pub five : lt x.string.trigger_edge.threshold five ≡ true
  pub tick : (c : KarplusStrongControls) (draws : List ℕ)
      → refusal_of (karplus_strong_told_of c draws x) ≡ trigger_refusal_of x.string c draws
  pub play : (c : KarplusStrongControls) (draws : List ℕ) (t : Tally) (o : List Float) (m : List ℕ)
      → (karplus_strong_block_of x c draws t o m).refused
      ≡ block_refusal_of (length o == n_ports * length m) (cond (length m == 0) 0 (trigger_refusal_of x.string c draws)) t (length m)
  pub reset : reply x Reset ≡ Told 0
  pub rate : (r : Hertz) → reply x (SetSampleRate r) ≡ Told (cond (rate_ok r) (room_of r (length x.line)) 1)

abbrev pub NeverRefused : Type 0
NeverRefused = (x : Strung) → ReachedKarplusStrong x → Accepts x

-- ---- an edge forgets
-- a tick that is accepted and takes the trigger's edge
pub record Strikes (x : Strung) (c : KarplusStrongControls) (draws : List ℕ) : Type 0 where
  pub is_accepted : accepted (karplus_strong_told_of c draws x) ≡ true
  pub edge : taken x.string c ≡ true

-- two lines of one size that agree below n
pub record Alike (n : ℕ) (l m : List Float) : Type 0 where
  pub size : length l ≡ length m
  pub cells : (i : ℕ) → i < n → slice_index_or l i nan ≡ slice_index_or m i nan

-- two strings that no call tells apart: they are equal, and their lines are alike below their length
pub record Same (x y : Strung) : Type 0 where
  pub string : x.string ≡ y.string
  pub line : Alike x.string.len x.line y.line

-- a call that forgets x: it replies what it would reply y, leaves the same, and from then on every call replies alike
pub record Forgotten (x y : Strung) (call : Call) : Type 0 where
  pub said : reply x call ≡ reply y call
  pub state : Same (after x call) (after y call)
  pub later : (cs : List Call) → replies after reply (after x call) cs ≡ replies after reply (after y call) cs

-- y is a new string like x, in a line of the same size
pub record Fresh (x y : Strung) : Type 0 where
  pub lent : List Float
  pub size : length lent ≡ length x.line
  pub is_new : y ≡ new_like x lent

-- such a tick makes of x what it makes of any such y
abbrev pub Forgets : Type 0
Forgets = (x : Strung) → ReachedKarplusStrong x → (c : KarplusStrongControls) (draws : List ℕ) → Fit c → Strikes x c draws
    → (y : Strung) → Fresh x y → Forgotten x y (Tick c draws)

-- and so does a block that isn't refused and whose first tick is such a one
abbrev pub BlockForgets : Type 0
BlockForgets = (x : Strung) → ReachedKarplusStrong x → (c : KarplusStrongControls) (draws : List ℕ) → Fit c → Strikes x c draws
    → (t : Tally) (o : List Float) (m : List ℕ) → 0 < length m → (karplus_strong_block_of x c draws t o m).refused ≡ 0
    → (y : Strung) → Fresh x y → Forgotten x y (Play c draws t o m)

-- and new makes one like each reached string, in each line of its line's size
abbrev pub NewThere : Type 0
NewThere = (x : Strung) → ReachedKarplusStrong x → (y : Strung) → Fresh x y → First y

-- and such a tick: after one whose trigger is not above the threshold, one with more, as 5 V are of both, and enough draws
abbrev pub EdgeComes : Type 0
EdgeComes = (x : Strung) → ReachedKarplusStrong x → (low high : KarplusStrongControls) (none draws : List ℕ)
    → Fit low → le low.trigger x.string.trigger_edge.threshold ≡ true → lt x.string.trigger_edge.threshold high.trigger ≡ true
    → 9611 ≤ length draws → draws_ok draws 9611 ≡ true
    → (accepted (karplus_strong_told_of low none x) ≡ true) × Strikes (after x (Tick low none)) high draws

-- ---- only the cells below the length count
-- a tick says and does the same over two lines that are alike there, and leaves them so
pub record SameTick (t u : Ticking) : Type 0 where
  pub out : t.out ≡ u.out
  pub line : Alike t.out.state.len t.line u.line

abbrev pub OnlyItsCells : Type 0
OnlyItsCells = (s : KarplusStrong) (c : KarplusStrongControls) (draws : List ℕ) (l m : List Float) → Alike s.len l m
    → SameTick (karplus_strong_tick_of s c draws l) (karplus_strong_tick_of s c draws m)

-- and no call tells such strings apart
abbrev pub SameReplies : Type 0
SameReplies = (x y : Strung) → Same x y → (cs : List Call) → replies after reply x cs ≡ replies after reply y cs

-- so its caller may take any other line that has room and the same cells there
abbrev pub AnyLine : Type 0
AnyLine = (x : Strung) → ReachedKarplusStrong x → (l : List Float) → room_of x.string.sample_rate (length l) ≡ 0
    → ((i : ℕ) → i < x.string.len → slice_index_or x.line i nan ≡ slice_index_or l i nan) → after x (Lend l) ≡ strung x.string l

-- and a rate change any line that has room for the new rate and the cells that the string keeps: it stays a reached one
abbrev pub RateLine : Type 0
RateLine = (x : Strung) → ReachedKarplusStrong x → (r : Hertz) → rate_ok r ≡ true → (l : List Float) → room_of r (length l) ≡ 0
    → ((i : ℕ) → i < min x.string.len (max_len_of r) → slice_index_or x.line i nan ≡ slice_index_or l i nan)
    → let m = karplus_strong_set_sample_rate_of x.string r l in (m.out.refused ≡ 0) × ReachedKarplusStrong (strung_after m)

-- and nothing is written from cell n on
pub record SamePast (n : ℕ) (l m : List Float) : Type 0 where
  pub size : length m ≡ length l
  pub cells : (i : ℕ) → n ≤ i → slice_index_or m i nan ≡ slice_index_or l i nan

-- n being the length after the call
pub record PastUntouched : Type 0 where
  pub new : (rate : Hertz) (threshold : Float) (l : List Float) → SamePast (max_len_of rate) l (karplus_strong_new_of rate threshold l).line
  pub tick : (s : KarplusStrong) (c : KarplusStrongControls) (draws : List ℕ) (l : List Float)
      → SamePast (karplus_strong_tick_of s c draws l).out.state.len l (karplus_strong_tick_of s c draws l).line
  pub block : (x : Strung) (c : KarplusStrongControls) (draws : List ℕ) (t : Tally) (o : List Float) (m : List ℕ)
      → let y = (karplus_strong_block_of x c draws t o m).state in SamePast y.string.len x.line y.line
  pub reset : (s : KarplusStrong) (l : List Float) → SamePast s.len l (karplus_strong_reset_of s l).line
  pub set_sample_rate : (s : KarplusStrong) (rate : Hertz) (l : List Float) → SamePast (max_len_of rate) l (karplus_strong_set_sample_rate_of s rate l).line

-- ---- only the draws that fill the line count, and without an edge none
pub record OnlyItsDraws : Type 0 where
  pub struck : (s : KarplusStrong) (c : KarplusStrongControls) (d e : List ℕ) (l : List Float) → struck_len (period_at s c) ≤ length d
      → struck_len (period_at s c) ≤ length e → ((i : ℕ) → i < struck_len (period_at s c) → slice_index d i ≡ slice_index e i)
      → karplus_strong_tick_of s c d l ≡ karplus_strong_tick_of s c e l
  pub unstruck : (s : KarplusStrong) (c : KarplusStrongControls) (d e : List ℕ) (l : List Float) → taken s c ≡ false
      → karplus_strong_tick_of s c d l ≡ karplus_strong_tick_of s c e l

-- ---- no tick is clean with a control that is NaN, and none is steered without one
abbrev pub NanSteers : Type 0
NanSteers = (s : KarplusStrong) (c : KarplusStrongControls) (draws : List ℕ) (l : List Float)
    → Steers (c.voct.0 ∷ c.trigger ∷ c.damping ∷ c.brightness ∷ c.stretch ∷ []) (karplus_strong_tick_of s c draws l).out.answer

-- ---- marks, for every state: with a finite sample clean, or steered where a control is NaN; or cleared with 0.0
abbrev pub steady_mark : KarplusStrongControls → ℕ
steady_mark c = cond (all_numbers (controls_of c)) clean steered

abbrev pub FiniteOrCleared : Type 0
FiniteOrCleared =
    (s : KarplusStrong) (c : KarplusStrongControls) (draws : List ℕ) (l : List Float) → let a = (karplus_strong_tick_of s c draws l).out.answer in
    accepted a ≡ true
    → ((mark_number a ≡ steady_mark c) × (is_fin (volts_of a).p10 ≡ true)) ⊎ ((mark_number a ≡ cleared) × (volts_of a ≡ volts1 zer))

-- and while its stretch counts as 0.0 or -0.0 a string is never cleared, whatever its other controls do. With another it may be: at
-- 48,000 Hz, voct 0.0 and damping 1.0, a stretch of -1.0 and 1.0 by turns drives the loop up until it overflows
abbrev pub NoStretch : KarplusStrongControls → Type 0
NoStretch c = eq (stretch_of c) zer ≡ true

abbrev pub Unstretched : Call → Type 0
Unstretched (Tick c draws) = Fit c × NoStretch c
Unstretched (Play c draws t o m) = Fit c × NoStretch c
Unstretched Reset = Unit
Unstretched (SetSampleRate rate) = Unit
Unstretched (Lend l) = Unit

abbrev pub NeverCleared : Type 0
NeverCleared = (x : Strung) → Reached First Unstretched after x → (c : KarplusStrongControls) (draws : List ℕ)
    → Unstretched (Tick c draws) → accepted (karplus_strong_told_of c draws x) ≡ true → mark_number (karplus_strong_told_of c draws x) ≡ steady_mark c

-- nor in any tick of a block that isn't refused
abbrev pub BlockNeverCleared : Type 0
BlockNeverCleared = (x : Strung) → Reached First Unstretched after x → (c : KarplusStrongControls) (draws : List ℕ) (t : Tally) (o : List Float) (m : List ℕ)
    → Unstretched (Play c draws t o m) → (karplus_strong_block_of x c draws t o m).refused ≡ 0
    → (i : ℕ) → i < length m → mark_number (answer_at (karplus_strong_told_of c draws) (karplus_strong_next_of c draws) x i) ≡ steady_mark c

-- a refused tick leaves string and line as they stood
abbrev pub RefusedLeaves : Type 0
RefusedLeaves =
    (s : KarplusStrong) (c : KarplusStrongControls) (draws : List ℕ) (l : List Float) → accepted (karplus_strong_tick_of s c draws l).out.answer ≡ false
    → ((karplus_strong_tick_of s c draws l).out.state ≡ s) × ((karplus_strong_tick_of s c draws l).line ≡ l)

-- and every tick the rate
abbrev pub KeepsRate : Type 0
KeepsRate = (s : KarplusStrong) (c : KarplusStrongControls) (draws : List ℕ) (l : List Float)
    → (karplus_strong_tick_of s c draws l).out.state.sample_rate ≡ s.sample_rate

-- ---- the gate
pub record GateSays : Type 0 where
  -- `new` makes one of the threshold that it is given
  pub new : (rate : Hertz) (threshold : Float) → (new_karplus_strong rate threshold).trigger_edge ≡ new_edge threshold
  -- a threshold that is none refuses the state, and so every call, by 2
  pub asked : (s : KarplusStrong) (n : ℕ) → rate_ok s.sample_rate ≡ true → threshold_ok s.trigger_edge.threshold ≡ false
      → karplus_strong_refusal_of s n ≡ 2
  -- a reset keeps it, and the previous sample is 0.0 then; a rate change leaves both
  pub reset : (s : KarplusStrong) → (restarted s).trigger_edge ≡ new_edge s.trigger_edge.threshold
  pub rate : (s : KarplusStrong) (r : Hertz) → (rated s r).trigger_edge ≡ s.trigger_edge

-- no call changes the threshold
abbrev pub ThresholdKept : Type 0
ThresholdKept = (x : Strung) (c : Call) → (after x c).string.trigger_edge.threshold ≡ x.string.trigger_edge.threshold

-- ---- no tick of a block is refused whose first isn't: its trigger and pitch stand still. And a tally with room takes each of their answers
abbrev pub BlockAccepts : Type 0
BlockAccepts = (x : Strung) (c : KarplusStrongControls) (draws : List ℕ) (n : ℕ) → 0 < n → first_refusal_of x.string c draws (length x.line) n ≡ 0
    → AllAccepted (karplus_strong_told_of c draws) (karplus_strong_next_of c draws) x

abbrev pub BlockTallies : Type 0
BlockTallies = (x : Strung) (c : KarplusStrongControls) (draws : List ℕ) (n : ℕ) → 0 < n → first_refusal_of x.string c draws (length x.line) n ≡ 0
    → AllTaken (karplus_strong_told_of c draws) (karplus_strong_next_of c draws) x

-- ---- a line of so many cells is enough, and a shorter one isn't
abbrev pub CellsEnough : Type 0
CellsEnough = (rate : Hertz) (threshold : Float) (l : List Float) → (karplus_strong_new_of rate threshold l).out.refused
    ≡ cond (rate_ok rate) (cond (threshold_ok threshold) (cond (nat_le (karplus_strong_cells_of rate) (length l)) 0 3) 2) 1

-- ---- what a block's call says of itself, with the line, tells what it leaves
abbrev pub StrungTells : Type 0
StrungTells = (s : KarplusStrong) (t : Tally) (b : Block Strung)
    → Settles (λ (x : Result (Played KarplusStrong) Refusal × List Float × List ℕ × List Float). strung_said s t x.0 x.1 x.2 x.3 ≡ b)

-- ---- each contract settles the answer and the line, and a block's its samples and marks
pub record Settled : Type 0 where
  pub cells : (rate : Hertz) → Settles (λ (n : ℕ). n ≡ karplus_strong_cells_of rate)
  pub new : (rate : Hertz) (threshold : Float) (l : List Float)
      → Settles (λ (r : Made KarplusStrong × List Float).
      (making r.0 ≡ (karplus_strong_new_of rate threshold l).out) × (r.1 ≡ (karplus_strong_new_of rate threshold l).line))
  pub tick : (s : KarplusStrong) (c : KarplusStrongControls) (draws : List ℕ) (l : List Float)
      → Settles (λ (r : Ticking). (r.out ≡ (karplus_strong_tick_of s c draws l).out) × (r.line ≡ (karplus_strong_tick_of s c draws l).line))
  pub block : (x : Strung) (c : KarplusStrongControls) (draws : List ℕ) (t : Tally) (o : List Float) (m : List ℕ)
      → Settles (λ (b : Block Strung). b ≡ karplus_strong_block_of x c draws t o m)
  pub reset : (s : KarplusStrong) (l : List Float)
      → Settles (λ (r : Result KarplusStrong Refusal × List Float).
      (changing s r.0 ≡ (karplus_strong_reset_of s l).out) × (r.1 ≡ (karplus_strong_reset_of s l).line))
  pub set_sample_rate : (s : KarplusStrong) (rate : Hertz) (l : List Float)
      → Settles (λ (r : Result KarplusStrong Refusal × List Float).
      (changing s r.0 ≡ (karplus_strong_set_sample_rate_of s rate l).out) × (r.1 ≡ (karplus_strong_set_sample_rate_of s rate l).line))
