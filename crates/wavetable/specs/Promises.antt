-- Theorems about the Wavetable: the statements. proofs/ proves each under the same name in small letters.
use Rattle.std.specs.Prelude.{Result, Bool, true, false, cond, List, ◌∷◌, [], ◌≡◌, ℕ, ◌*◌, ◌<◌, eqb, Float, length}
use Rattle.std.specs.Float.{nan}
use Rattle.std.specs.Float.Ieee.{lt, le}
use Rattle.answer.specs.Answer.{accepted}
use Rattle.answer.specs.Calls.{outcome, making, changing}
use Rattle.answer.specs.Block.{Block, block_refusal_of}
use Rattle.answer.specs.Promises.{Steers, SoundsAs, AllAccepted, AllTaken}
use Rattle.answer.specs.declared.Made.{Made}
use Rattle.answer.specs.declared.Tally.{Tally}
use Rattle.answer.specs.declared.Ticked.{Ticked}
use Rattle.common.specs.Consts.{five}
use Rattle.common.specs.Edge.{new_edge, rising_of}
use Rattle.common.specs.Tests.{rate_ok, phase_ok, threshold_ok}
use Rattle.laws.specs.Float.{zer, one}
use Rattle.laws.specs.Machine.{replies, Settles}
use Rattle.wavetable.specs.Bank.{Filled, fill_table_of, fill_bank_of}
use Rattle.wavetable.specs.Calls.{Call, Fit, after, reply, First, ReachedWavetable, Tick, Reset, SetSampleRate, Told}
use Rattle.wavetable.specs.Consts.{n_ports, bank_size}
use Rattle.wavetable.specs.Wavetable.{new_wavetable, new_like, edge_of, wavetable_refusal_of, wavetable_tick_refusal_of, wavetable_told_of}
use Rattle.wavetable.specs.Wavetable.{wavetable_next_of, restarted, rated}
use Rattle.wavetable.specs.Wavetable.{wavetable_new_of, wavetable_tick_of, wavetable_block_of, wavetable_reset_of, wavetable_set_sample_rate_of}
use Rattle.common.specs.declared.Hertz.{Hertz}
use Rattle.common.specs.declared.Refusal.{Refusal}
use Rattle.wavetable.specs.declared.Wavetable.{Wavetable}
use Rattle.wavetable.specs.declared.WavetableControls.{WavetableControls}

-- ---- `new` refuses a bad rate, and then a bad threshold, alone: at each other rate there is a first state of each threshold
abbrev pub NewAccepts : Type 0
NewAccepts = (r : Hertz) (t : Float) → ((wavetable_new_of r t).refused ≡ cond (rate_ok r) (cond (threshold_ok t) 0 2) 1)
    × (rate_ok r ≡ true → threshold_ok t ≡ true → First (new_wavetable r t))

-- ---- a reached state refuses no call but for the call's own input: a tick for its bank's size alone, a block for that, for samples
-- that don't fit its marks, or for a tally without room
pub record Accepts (s : Wavetable) : Type 0 where
  pub phase : phase_ok s.phase ≡ true
  pub threshold : threshold_ok s.threshold ≡ true
  pub five : lt s.threshold five ≡ true
  pub tick : (c : WavetableControls) (bank : List Float) → accepted (wavetable_tick_of s c bank).answer ≡ eqb (length bank) bank_size
  pub play : (c : WavetableControls) (t : Tally) (bank o : List Float) (m : List ℕ)
      → (wavetable_block_of s c t bank o m).refused
      ≡ block_refusal_of (eqb (length o) (n_ports * length m)) (cond (eqb (length bank) bank_size) 0 4) t (length m)
  pub reset : reply s Reset ≡ Told 0
  pub rate : (r : Hertz) → reply s (SetSampleRate r) ≡ Told (cond (rate_ok r) 0 1)

abbrev pub NeverRefused : Type 0
NeverRefused = (s : Wavetable) → ReachedWavetable s → Accepts s

-- ---- the gate
pub record GateSays : Type 0 where
  -- `new` makes one of the threshold that it is given
  pub new : (r : Hertz) (t : Float) → edge_of (new_wavetable r t) ≡ new_edge t
  -- a threshold that is none refuses the state, and so every call, by 2
  pub asked : (s : Wavetable) → rate_ok s.sample_rate ≡ true → threshold_ok s.threshold ≡ false → wavetable_refusal_of s ≡ 2
  -- a reset keeps it, and the previous sample is 0.0 then; a rate change leaves both
  pub reset : (s : Wavetable) → edge_of (restarted s) ≡ new_edge s.threshold
  pub rate : (s : Wavetable) (r : Hertz) → edge_of (rated s r) ≡ edge_of s

-- no call changes the threshold
abbrev pub ThresholdKept : Type 0
ThresholdKept = (s : Wavetable) (c : Call) → (after s c).threshold ≡ s.threshold

-- ---- demand 3
-- the tick takes the sync edge
abbrev pub taken : Wavetable → WavetableControls → Bool
taken s c = (rising_of (edge_of s) c.sync).rising

-- a new one like it is to be had; this tick leaves both in the same state, and fed it and then any calls, blocks among them,
-- each lent the same bank, both answer the same
pub record Forgotten (s : Wavetable) (c : WavetableControls) (bank : List Float) : Type 0 where
  pub new : wavetable_new_of s.sample_rate s.threshold ≡ outcome 0 (new_like s)
  pub state : after s (Tick c bank) ≡ after (new_like s) (Tick c bank)
  pub same : (cs : List Call) → replies after reply s (Tick c bank ∷ cs) ≡ replies after reply (new_like s) (Tick c bank ∷ cs)

abbrev pub Forgets : Type 0
Forgets = (s : Wavetable) → ReachedWavetable s → (c : WavetableControls) (bank : List Float) → Fit c
    → accepted (wavetable_tick_of s c bank).answer ≡ true → taken s c ≡ true → Forgotten s c bank

-- a block whose first tick takes the edge is that of a new one, if it isn't refused
abbrev pub BlockForgets : Type 0
BlockForgets = (s : Wavetable) → ReachedWavetable s → (c : WavetableControls) (t : Tally) (bank o : List Float) (m : List ℕ) → Fit c
    → (wavetable_block_of s c t bank o m).refused ≡ 0 → 0 < length m → taken s c ≡ true
    → wavetable_block_of s c t bank o m ≡ wavetable_block_of (new_like s) c t bank o m

-- and such a tick is always to be had: after one with sync not above the threshold, one with sync above it, as 5 V are of both
abbrev pub EdgeComes : Type 0
EdgeComes = (s : Wavetable) → ReachedWavetable s → (c d : WavetableControls) (bank : List Float) → Fit c → length bank ≡ bank_size
    → le c.sync s.threshold ≡ true → lt s.threshold d.sync ≡ true
    → (accepted (wavetable_tick_of (after s (Tick c bank)) d bank).answer ≡ true) × (taken (after s (Tick c bank)) d ≡ true)

-- ---- no tick is clean with a control that is NaN, and none is steered without one
abbrev pub NanSteers : Type 0
NanSteers = (s : Wavetable) (c : WavetableControls) (bank : List Float)
    → Steers (c.v_oct.0 ∷ c.table ∷ c.morph ∷ c.sync ∷ []) (wavetable_tick_of s c bank).answer

-- ---- a NaN on the table input plays the second table alone, as table 0 with morph 1 does: the same volts, and the same state after it. Where that
-- tick is clean, this one is steered: such a preset sounds steady, and isn't finished
abbrev pub second_table : WavetableControls → WavetableControls
second_table c = record { v_oct = c.v_oct; table = zer; morph = one; sync = c.sync }

abbrev pub NanTable : Type 0
NanTable = (s : Wavetable) (c : WavetableControls) (bank : List Float) → c.table ≡ nan
    → SoundsAs (wavetable_tick_of s c bank).answer (wavetable_tick_of s (second_table c) bank).answer
    × ((wavetable_tick_of s c bank).state ≡ (wavetable_tick_of s (second_table c) bank).state)

-- ---- a sync that is NaN never rises, and sounds as 0 V there: where that tick is clean, this one is steered
abbrev pub low_sync : WavetableControls → WavetableControls
low_sync c = record { v_oct = c.v_oct; table = c.table; morph = c.morph; sync = zer }

abbrev pub NanSync : Type 0
NanSync = (s : Wavetable) (c : WavetableControls) (bank : List Float) → c.sync ≡ nan
    → SoundsAs (wavetable_tick_of s c bank).answer (wavetable_tick_of s (low_sync c) bank).answer

-- ---- no tick of a block is refused whose first isn't, and a tally with room takes each of their answers
abbrev pub BlockAccepts : Type 0
BlockAccepts = (s : Wavetable) (c : WavetableControls) (bank : List Float) → wavetable_tick_refusal_of s (length bank) ≡ 0
    → AllAccepted (wavetable_told_of c bank) (wavetable_next_of c bank) s

abbrev pub BlockTallies : Type 0
BlockTallies = (s : Wavetable) (c : WavetableControls) (bank : List Float) → wavetable_tick_refusal_of s (length bank) ≡ 0
    → AllTaken (wavetable_told_of c bank) (wavetable_next_of c bank) s

-- ---- each contract settles its answer, and what a fill or a block leaves in the lent slices
pub record Settled : Type 0 where
  pub new : (r : Hertz) (t : Float) → Settles (λ (m : Made Wavetable). making m ≡ wavetable_new_of r t)
  pub tick : (s : Wavetable) (c : WavetableControls) (bank : List Float) → Settles (λ (a : Ticked Wavetable). a ≡ wavetable_tick_of s c bank)
  pub block : (s : Wavetable) (c : WavetableControls) (t : Tally) (bank o : List Float) (m : List ℕ)
      → Settles (λ (b : Block Wavetable). b ≡ wavetable_block_of s c t bank o m)
  pub reset : (s : Wavetable) → Settles (λ (m : Result Wavetable Refusal). changing s m ≡ wavetable_reset_of s)
  pub set_sample_rate : (s : Wavetable) (r : Hertz) → Settles (λ (m : Result Wavetable Refusal). changing s m ≡ wavetable_set_sample_rate_of s r)
  pub fill_table : (table : ℕ) (l : List Float) → Settles (λ (f : Filled). f ≡ fill_table_of table l)
  pub fill_bank : (l : List Float) → Settles (λ (f : Filled). f ≡ fill_bank_of l)
