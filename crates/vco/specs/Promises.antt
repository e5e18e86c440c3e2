-- Theorems about the Vco: the statements. The proofs of the same names in small letters stand in proofs/.
use Rattle.std.specs.Prelude.{Result, ◌≡◌, Bool, true, false, cond, List, [], ◌∷◌, ℕ, ◌*◌, ◌<◌, eqb, Float, length}
use Rattle.std.specs.Float.{nan, binary64}
use Rattle.std.specs.Float.Ieee.{lt, le, neg, of_bits}
use Rattle.laws.specs.Float.{zer}
use Rattle.laws.specs.Machine.{replies, Settles}
use Rattle.common.specs.Consts.{gate_threshold, five, half}
use Rattle.common.specs.Edge.{new_edge, rising_of}
use Rattle.common.specs.Ports.{WantAlike}
use Rattle.common.specs.Tests.{rate_ok, phase_ok, threshold_ok}
use Rattle.common.specs.declared.Hertz.{Hertz}
use Rattle.common.specs.declared.Refusal.{Refusal}
use Rattle.answer.specs.Calls.{outcome, making, changing}
use Rattle.answer.specs.declared.Made.{Made}
use Rattle.answer.specs.Answer.{accepted, volts_of, volts4}
use Rattle.answer.specs.Block.{Block, block_refusal_of}
use Rattle.answer.specs.Promises.{Steers, SoundsAs, AllAccepted, AllTaken}
use Rattle.answer.specs.declared.Answer.TheVariants as answer
use Rattle.answer.specs.declared.Tally.{Tally}
use Rattle.vco.specs.Consts.{n_ports}
use Rattle.vco.specs.Vco.{new_vco, new_like, vco_refusal_of, vco_new_of, vco_tick_of, vco_told_of, vco_next_of, vco_block_of, vco_reset_of}
use Rattle.vco.specs.Vco.{restarted, rated}
use Rattle.vco.specs.Vco.{vco_set_sample_rate_of}
use Rattle.vco.specs.Calls.{Call, Tick, Reset, SetSampleRate, Told, Fit, after, reply, First, ReachedVco}
use Rattle.vco.specs.declared.Vco.{Vco}
use Rattle.vco.specs.declared.VcoControls.{VcoControls}
use Rattle.answer.specs.declared.Ticked.{Ticked}

-- ---- `new` refuses a bad rate, and then a bad threshold, alone: at each other rate there is a first state of each threshold
abbrev pub NewAccepts : Type 0
NewAccepts = (r : Hertz) (t : Float) → ((vco_new_of r t).refused ≡ cond (rate_ok r) (cond (threshold_ok t) 0 2) 1)
    × (rate_ok r ≡ true → threshold_ok t ≡ true → First (new_vco r t))

-- ---- a reached state refuses no call but for the call's own input
pub record Accepts (s : Vco) : Type 0 where
  pub phase : phase_ok s.phase ≡ true
  pub threshold : threshold_ok s.sync_edge.threshold ≡ true
  pub five : lt s.sync_edge.threshold five ≡ true
  pub tick : (c : VcoControls) (wanted : ℕ) → accepted (vco_tick_of s c wanted).answer ≡ true
  -- by its buffers' 52 and its tally's 7 alone
  pub play : (c : VcoControls) (wanted : ℕ) (t : Tally) (o : List Float) (m : List ℕ)
      → (vco_block_of s c wanted t o m).refused ≡ block_refusal_of (eqb (length o) (n_ports * length m)) 0 t (length m)
  pub reset : reply s Reset ≡ Told 0
  pub rate : (r : Hertz) → reply s (SetSampleRate r) ≡ Told (cond (rate_ok r) 0 1)

abbrev pub NeverRefused : Type 0
NeverRefused = (s : Vco) → ReachedVco s → Accepts s

-- ---- the gate
pub record GateSays : Type 0 where
  -- `new` makes one of the threshold that it is given
  pub new : (r : Hertz) (t : Float) → (new_vco r t).sync_edge ≡ new_edge t
  -- a threshold that is none refuses the state, and so every call, by 2
  pub asked : (s : Vco) → rate_ok s.sample_rate ≡ true → threshold_ok s.sync_edge.threshold ≡ false → vco_refusal_of s ≡ 2
  -- a reset keeps it, and the previous sample is 0.0 then; a rate change leaves both
  pub reset : (s : Vco) → (restarted s).sync_edge ≡ new_edge s.sync_edge.threshold
  pub rate : (s : Vco) (r : Hertz) → (rated s r).sync_edge ≡ s.sync_edge

-- no call changes the threshold
abbrev pub ThresholdKept : Type 0
ThresholdKept = (s : Vco) (c : Call) → (after s c).sync_edge.threshold ≡ s.sync_edge.threshold

-- ---- demand 3
-- whether a tick with these controls takes the sync edge
abbrev pub taken : Vco → VcoControls → Bool
taken s c = (rising_of s.sync_edge c.sync).rising

-- what a new one like it does, fed this tick first
pub record Forgotten (s : Vco) (c : VcoControls) (wanted : ℕ) : Type 0 where
  -- it is to be had and accepts the tick
  pub new : vco_new_of s.sample_rate s.sync_edge.threshold ≡ outcome 0 (new_like s)
  pub accepts : accepted (vco_tick_of (new_like s) c wanted).answer ≡ true
  -- in the edge tick: all but saw, square and mark
  pub sin : (volts_of (vco_tick_of s c wanted).answer).p10 ≡ (volts_of (vco_tick_of (new_like s) c wanted).answer).p10
  pub tri : (volts_of (vco_tick_of s c wanted).answer).p11 ≡ (volts_of (vco_tick_of (new_like s) c wanted).answer).p11
  -- it leaves the same state
  pub state : after s (Tick c wanted) ≡ after (new_like s) (Tick c wanted)
  -- and answers the same to every call after it
  pub later : (cs : List Call) → replies after reply (after s (Tick c wanted)) cs ≡ replies after reply (after (new_like s) (Tick c wanted)) cs

abbrev pub Forgets : Type 0
Forgets = (s : Vco) → ReachedVco s → (c : VcoControls) (wanted : ℕ) → Fit c → accepted (vco_tick_of s c wanted).answer ≡ true → taken s c ≡ true
    → Forgotten s c wanted

-- a block that takes the edge in its first tick leaves what a new one's leaves
abbrev pub BlockForgets : Type 0
BlockForgets = (s : Vco) → ReachedVco s → (c : VcoControls) (wanted : ℕ) (t : Tally) (o : List Float) (m : List ℕ) → Fit c
    → (vco_block_of s c wanted t o m).refused ≡ 0 → 0 < length m → taken s c ≡ true
    → (vco_block_of s c wanted t o m).state ≡ (vco_block_of (new_like s) c wanted t o m).state

-- and such a tick is always to be had: after one with sync not above the threshold, one with sync above it, as 5 V are of both
pub record Comes (s : Vco) (c d : VcoControls) (wanted : ℕ) : Type 0 where
  pub first : accepted (vco_tick_of s c wanted).answer ≡ true
  pub second : accepted (vco_tick_of (after s (Tick c wanted)) d wanted).answer ≡ true
  pub edge : taken (after s (Tick c wanted)) d ≡ true

abbrev pub EdgeComes : Type 0
EdgeComes = (s : Vco) → ReachedVco s → (c d : VcoControls) (wanted : ℕ) → le c.sync s.sync_edge.threshold ≡ true
    → lt s.sync_edge.threshold d.sync ≡ true
    → Comes s c d wanted

-- ---- no tick is clean with a control that is NaN, and none is steered without one
abbrev pub NanSteers : Type 0
NanSteers = (s : Vco) (c : VcoControls) (wanted : ℕ)
    → Steers (c.voct.0 ∷ c.fm.0 ∷ c.pw ∷ c.sync ∷ c.fm_lin ∷ []) (vco_tick_of s c wanted).answer

-- ---- a sync that is NaN never rises, and sounds as 0 V there: where that tick is clean, this one is steered
abbrev pub low_sync : VcoControls → VcoControls
low_sync c = record { voct = c.voct; fm = c.fm; pw = c.pw; sync = zer; fm_lin = c.fm_lin }

abbrev pub NanSync : Type 0
NanSync = (s : Vco) (c : VcoControls) (wanted : ℕ) → c.sync ≡ nan → SoundsAs (vco_tick_of s c wanted).answer (vco_tick_of s (low_sync c) wanted).answer

-- ---- bits beyond the outputs do nothing
abbrev pub BitsBeyond : Type 0
BitsBeyond = (s : Vco) (c : VcoControls) (v w : ℕ) → WantAlike n_ports v w → vco_tick_of s c v ≡ vco_tick_of s c w

-- ---- no tick of a block is refused whose first isn't, and a tally with room takes each of their answers
abbrev pub BlockAccepts : Type 0
BlockAccepts = (s : Vco) (c : VcoControls) (wanted : ℕ) → vco_refusal_of s ≡ 0 → AllAccepted (vco_told_of c wanted) (vco_next_of c wanted) s

abbrev pub BlockTallies : Type 0
BlockTallies = (s : Vco) (c : VcoControls) (wanted : ℕ) → vco_refusal_of s ≡ 0 → AllTaken (vco_told_of c wanted) (vco_next_of c wanted) s

-- ---- each contract settles its answer
pub record Settled : Type 0 where
  pub new : (r : Hertz) (t : Float) → Settles (λ (m : Made Vco). making m ≡ vco_new_of r t)
  pub tick : (s : Vco) (c : VcoControls) (wanted : ℕ) → Settles (λ (t : Ticked Vco). t ≡ vco_tick_of s c wanted)
  pub block : (s : Vco) (c : VcoControls) (wanted : ℕ) (t : Tally) (o : List Float) (m : List ℕ)
      → Settles (λ (b : Block Vco). b ≡ vco_block_of s c wanted t o m)
  pub reset : (s : Vco) → Settles (λ (m : Result Vco Refusal). changing s m ≡ vco_reset_of s)
  pub set_sample_rate : (s : Vco) (r : Hertz) → Settles (λ (m : Result Vco Refusal). changing s m ≡ vco_set_sample_rate_of s r)

-- ---- the scope's example 10: the frame that `render` prints
-- 48,000 Hz; voct 0, fm 0, pw 0.5, sync 0 and fm_lin -5 V
abbrev pub frame_rate : Hertz
frame_rate = record { 0 = of_bits binary64 0x40e7700000000000 }

abbrev pub frame_controls : VcoControls
frame_controls = record { voct = record { 0 = zer }; fm = record { 0 = zer }; pw = half; sync = zer; fm_lin = neg five }

abbrev pub FirstFrame : Type 0
FirstFrame =
    (vco_tick_of (new_vco frame_rate gate_threshold) frame_controls 15).answer
    ≡ answer.Clean
    (volts4
    (of_bits binary64 0)
    (of_bits binary64 0xc014000000000000)
    (of_bits binary64 0xc014000000000000)
    (of_bits binary64 0x4014000000000000))
