-- Theorems about the Lfo: the statements. proofs/ proves each under the same name in small letters.
use Rattle.std.specs.Prelude.{Result, Bool, true, false, cond, not, ◌&&◌, List, ◌∷◌, [], ◌≡◌, ℕ, ◌*◌, ◌<◌, eqb, Float, length}
use Rattle.std.specs.Float.{nan, binary64}
use Rattle.std.specs.Float.Ieee.{lt, le, ne, add, div}
use Rattle.answer.specs.Calls.{outcome, making, changing}
use Rattle.common.specs.declared.Refusal.{Refusal}
use Rattle.answer.specs.Answer.{volts_of, accepted, mark_number, host_number, lost}
use Rattle.answer.specs.Block.{Block, block_refusal_of, ports_of}
use Rattle.answer.specs.Promises.{Steers, SoundsAs, AllAccepted, AllTaken}
use Rattle.answer.specs.Mark.{all_finite}
use Rattle.common.specs.Consts.{five}
use Rattle.common.specs.Edge.{new_edge, rising_of}
use Rattle.common.specs.Memo.{recall1}
use Rattle.common.specs.Phase.{turns, increment_of, restart_of}
use Rattle.common.specs.Ports.{wants, WantAlike}
use Rattle.common.specs.Tests.{rate_ok, phase_ok, threshold_ok}
use Rattle.laws.specs.Float.{zer, is_fin}
use Rattle.numeric.specs.Floor.{floor_of}
use Rattle.laws.specs.Machine.{replies, Settles}
use Rattle.lfo.specs.Calls.{Call, Tick, Reset, SetSampleRate, Told, Fit, after, reply, First, ReachedLfo}
use Rattle.lfo.specs.Consts.{ten, n_ports}
use Rattle.lfo.specs.Lfo.{new_lfo, new_like, lfo_refusal_of, lfo_new_of, lfo_tick_of, lfo_told_of, lfo_next_of, lfo_block_of, lfo_reset_of}
use Rattle.lfo.specs.Lfo.{lfo_set_sample_rate_of}
use Rattle.lfo.specs.Lfo.{restarted, rated}
use Rattle.lfo.specs.Small.{is_small}
use Rattle.lfo.specs.Waves.{rate_to_hz}
use Rattle.answer.specs.declared.Made.{Made}
use Rattle.answer.specs.declared.Ticked.{Ticked}
use Rattle.answer.specs.declared.Tally.{Tally}
use Rattle.common.specs.declared.Hertz.{Hertz}
use Rattle.lfo.specs.declared.Lfo.{Lfo}
use Rattle.lfo.specs.declared.LfoControls.{LfoControls}

-- ---- `new` refuses a bad rate, and then a bad threshold, alone: at each other rate there is a first state of each threshold
abbrev pub NewAccepts : Type 0
NewAccepts = (r : Hertz) (t : Float) → ((lfo_new_of r t).refused ≡ cond (rate_ok r) (cond (threshold_ok t) 0 2) 1)
    × (rate_ok r ≡ true → threshold_ok t ≡ true → First (new_lfo r t))

-- ---- a reached state refuses no call but for the call's own input
pub record Accepts (s : Lfo) : Type 0 where
  pub phase : phase_ok s.phase ≡ true
  pub threshold : threshold_ok s.reset_edge.threshold ≡ true
  pub five : lt s.reset_edge.threshold five ≡ true
  pub tick : (c : LfoControls) (wanted : ℕ) → accepted (lfo_tick_of s c wanted).answer ≡ true
  -- by its buffers' 52 and its tally's 7 alone
  pub play : (c : LfoControls) (wanted : ℕ) (t : Tally) (o : List Float) (m : List ℕ)
      → (lfo_block_of s c wanted t o m).refused ≡ block_refusal_of (eqb (length o) (n_ports * length m)) 0 t (length m)
  pub reset : reply s Reset ≡ Told 0
  pub rate : (r : Hertz) → reply s (SetSampleRate r) ≡ Told (cond (rate_ok r) 0 1)

abbrev pub NeverRefused : Type 0
NeverRefused = (s : Lfo) → ReachedLfo s → Accepts s

-- ---- the gate
pub record GateSays : Type 0 where
  -- `new` makes one of the threshold that it is given
  pub new : (r : Hertz) (t : Float) → (new_lfo r t).reset_edge ≡ new_edge t
  -- a threshold that is none refuses the state, and so every call, by 2
  pub asked : (s : Lfo) → rate_ok s.sample_rate ≡ true → threshold_ok s.reset_edge.threshold ≡ false → lfo_refusal_of s ≡ 2
  -- a reset keeps it, and the previous sample is 0.0 then; a rate change leaves both
  pub reset : (s : Lfo) → (restarted s).reset_edge ≡ new_edge s.reset_edge.threshold
  pub rate : (s : Lfo) (r : Hertz) → (rated s r).reset_edge ≡ s.reset_edge

-- no call changes the threshold
abbrev pub ThresholdKept : Type 0
ThresholdKept = (s : Lfo) (c : Call) → (after s c).reset_edge.threshold ≡ s.reset_edge.threshold

-- ---- demand 3
-- whether a tick with these controls takes the reset edge
abbrev pub taken : Lfo → LfoControls → Bool
taken s c = (rising_of s.reset_edge c.reset).rising

-- a new one like it is to be had; fed this tick it is left in the same state, and fed this tick and then any calls it answers the same
pub record Forgotten (s : Lfo) (c : LfoControls) (wanted : ℕ) : Type 0 where
  pub new : lfo_new_of s.sample_rate s.reset_edge.threshold ≡ outcome 0 (new_like s)
  pub state : after s (Tick c wanted) ≡ after (new_like s) (Tick c wanted)
  pub same : (cs : List Call) → replies after reply s (Tick c wanted ∷ cs) ≡ replies after reply (new_like s) (Tick c wanted ∷ cs)

abbrev pub Forgets : Type 0
Forgets = (s : Lfo) → ReachedLfo s → (c : LfoControls) (wanted : ℕ) → Fit c → accepted (lfo_tick_of s c wanted).answer ≡ true → taken s c ≡ true
    → Forgotten s c wanted

-- a block that takes the edge in its first tick is wholly a new one's: what it answers and what it leaves
abbrev pub BlockForgets : Type 0
BlockForgets = (s : Lfo) → ReachedLfo s → (c : LfoControls) (wanted : ℕ) (t : Tally) (o : List Float) (m : List ℕ) → Fit c
    → (lfo_block_of s c wanted t o m).refused ≡ 0 → 0 < length m → taken s c ≡ true
    → lfo_block_of s c wanted t o m ≡ lfo_block_of (new_like s) c wanted t o m

-- and such a tick is always to be had: after one with reset not above the threshold, one with reset above it, as 5 V are of both
abbrev pub EdgeComes : Type 0
EdgeComes = (s : Lfo) → ReachedLfo s → (c d : LfoControls) (v w : ℕ) → Fit c → le c.reset s.reset_edge.threshold ≡ true
    → lt s.reset_edge.threshold d.reset ≡ true
    → (accepted (lfo_tick_of (after s (Tick c v)) d w).answer ≡ true) × (taken (after s (Tick c v)) d ≡ true)

-- ---- no tick is clean with a control that is NaN, and none is steered without one
abbrev pub NanSteers : Type 0
NanSteers = (s : Lfo) (c : LfoControls) (wanted : ℕ) → Steers (c.rate ∷ c.depth ∷ c.reset ∷ []) (lfo_tick_of s c wanted).answer

-- ---- a reset that is NaN never rises, and sounds as 0 V there: where that tick is clean, this one is steered
abbrev pub low_reset : LfoControls → LfoControls
low_reset c = record { rate = c.rate; depth = c.depth; reset = zer }

abbrev pub NanReset : Type 0
NanReset = (s : Lfo) (c : LfoControls) (wanted : ℕ) → c.reset ≡ nan → SoundsAs (lfo_tick_of s c wanted).answer (lfo_tick_of s (low_reset c) wanted).answer

-- ---- a small depth sounds finite: in an accepted tick no output overflows, wanted or not
abbrev pub SmallFinite : Type 0
SmallFinite = (s : Lfo) (c : LfoControls) (wanted : ℕ) → is_small (div binary64 c.depth ten) ≡ true
    → accepted (lfo_tick_of s c wanted).answer ≡ true → all_finite (volts_of (lfo_tick_of s c wanted).answer) ≡ true

-- ---- eoc
-- what an accepted tick wraps at its end: the phase that it uses, which its edge has put to 0, plus the increment
abbrev pub summed : Lfo → LfoControls → Float
summed s c =
    add binary64 (restart_of s.phase (taken s c)).0 (increment_of (recall1 rate_to_hz s.freq_memo c.rate).val s.sample_rate).0

-- where it is wanted, eoc is 5.0 exactly where that number is finite and its floor isn't 0, which is, said without a floor: where it is finite and
-- not in [0, 1). Else it is 0.0, in a lost tick too. The depth says nothing
pub record Pulses (s : Lfo) (c : LfoControls) (wanted : ℕ) : Type 0 where
  pub by_floor : (volts_of (lfo_tick_of s c wanted).answer).p15 ≡ cond (wants wanted 32 && (is_fin (summed s c) && ne (floor_of (summed s c)) zer)) five zer
  pub by_range : (volts_of (lfo_tick_of s c wanted).answer).p15
      ≡ cond (wants wanted 32 && (is_fin (summed s c) && not (phase_ok (turns (summed s c))))) five zer
  pub in_lost : mark_number (lfo_tick_of s c wanted).answer ≡ lost → (volts_of (lfo_tick_of s c wanted).answer).p15 ≡ zer

abbrev pub EocSays : Type 0
EocSays = (s : Lfo) (c : LfoControls) (wanted : ℕ) → accepted (lfo_tick_of s c wanted).answer ≡ true → Pulses s c wanted

-- it stands beside the Rust's five outputs: ticks whose masks want the same of these agree in them, in the mark and in the state
pub record Beside (a b : Ticked Lfo) : Type 0 where
  pub volts : ports_of 5 (volts_of a.answer) ≡ ports_of 5 (volts_of b.answer)
  pub told : host_number a.answer ≡ host_number b.answer
  pub lfo : a.state ≡ b.state

abbrev pub EocBeside : Type 0
EocBeside = (s : Lfo) (c : LfoControls) (v w : ℕ) → WantAlike 5 v w → Beside (lfo_tick_of s c v) (lfo_tick_of s c w)

-- a cycle that a reset cuts off doesn't end: the edge tick of a reached Lfo has no pulse
abbrev pub EdgeSilent : Type 0
EdgeSilent = (s : Lfo) → ReachedLfo s → (c : LfoControls) (wanted : ℕ) → Fit c → taken s c ≡ true → (volts_of (lfo_tick_of s c wanted).answer).p15 ≡ zer

-- ---- bits beyond the outputs do nothing
abbrev pub BitsBeyond : Type 0
BitsBeyond = (s : Lfo) (c : LfoControls) (v w : ℕ) → WantAlike n_ports v w → lfo_tick_of s c v ≡ lfo_tick_of s c w

-- ---- no tick of a block is refused whose first isn't, and a tally with room takes each of their answers
abbrev pub BlockAccepts : Type 0
BlockAccepts = (s : Lfo) (c : LfoControls) (wanted : ℕ) → lfo_refusal_of s ≡ 0 → AllAccepted (lfo_told_of c wanted) (lfo_next_of c wanted) s

abbrev pub BlockTallies : Type 0
BlockTallies = (s : Lfo) (c : LfoControls) (wanted : ℕ) → lfo_refusal_of s ≡ 0 → AllTaken (lfo_told_of c wanted) (lfo_next_of c wanted) s

-- ---- each contract settles its answer
pub record Settled : Type 0 where
  pub new : (r : Hertz) (t : Float) → Settles (λ (m : Made Lfo). making m ≡ lfo_new_of r t)
  pub tick : (s : Lfo) (c : LfoControls) (wanted : ℕ) → Settles (λ (t : Ticked Lfo). t ≡ lfo_tick_of s c wanted)
  pub block : (s : Lfo) (c : LfoControls) (wanted : ℕ) (t : Tally) (o : List Float) (m : List ℕ)
      → Settles (λ (b : Block Lfo). b ≡ lfo_block_of s c wanted t o m)
  pub reset : (s : Lfo) → Settles (λ (m : Result Lfo Refusal). changing s m ≡ lfo_reset_of s)
  pub set_sample_rate : (s : Lfo) (r : Hertz) → Settles (λ (m : Result Lfo Refusal). changing s m ≡ lfo_set_sample_rate_of s r)
