-- Theorems about the FormantOsc: the statements. proofs/ proves each under the same name in small letters.
use Rattle.std.specs.Prelude.{Result, true, false, cond, List, [], ◌∷◌, ◌⊎◌, ◌≡◌, ℕ, suc, ◌<◌, ◌*◌, eqb, Float, length, get_or}
use Rattle.std.specs.Float.{nan, binary64}
use Rattle.std.specs.Float.Ieee.{div, of_bits}
use Rattle.answer.specs.Answer.{notfinite, lost, steered, clean, told, mark_number, accepted}
use Rattle.answer.specs.Block.{Block, block_refusal_of}
use Rattle.answer.specs.Calls.{making, changing}
use Rattle.answer.specs.Promises.{Steers, AllAccepted, AllTaken}
use Rattle.answer.specs.declared.Made.{Made}
use Rattle.answer.specs.declared.Tally.{Tally}
use Rattle.answer.specs.declared.Ticked.{Ticked}
use Rattle.common.specs.Consts.{five}
use Rattle.common.specs.Tests.{rate_ok, phase_ok}
use Rattle.common.specs.declared.Hertz.{Hertz}
use Rattle.common.specs.declared.Refusal.{Refusal}
use Rattle.formant_osc.specs.Calls.{Fit, reply, First, ReachedFormantOsc, Later, Reset, SetSampleRate, Told}
use Rattle.formant_osc.specs.Consts.{n_ports}
use Rattle.formant_osc.specs.FormantOsc.{new_formant_osc, formant_osc_new_of, formant_osc_rung, formant_osc_tick_of, formant_osc_block_of, formant_osc_reset_of}
use Rattle.formant_osc.specs.FormantOsc.{formant_osc_set_sample_rate_of, formant_osc_refusal_of, formant_osc_told_of, formant_osc_next_of}
use Rattle.formant_osc.specs.declared.FormantOscControls.{FormantOscControls}
use Rattle.formant_osc.specs.declared.FormantOsc.{FormantOsc}
use Rattle.laws.specs.Float.{F64, zer, is_fin}
use Rattle.laws.specs.Lists.{tab}
use Rattle.laws.specs.Machine.{Settles}
use Rattle.numeric.specs.Power.{exp2_of}

-- ---- `new` refuses a bad rate alone: at each other one there is a first state
abbrev pub NewAccepts : Type 0
NewAccepts = (r : Hertz) → ((formant_osc_new_of r).refused ≡ cond (rate_ok r) 0 1) × (rate_ok r ≡ true → F64 r.0 → First (new_formant_osc r))

-- ---- a reached state refuses no call but for the call's own input: a block for samples that don't fit its marks, or for a tally
-- without room
pub record Accepts (s : FormantOsc) : Type 0 where
  pub phase : phase_ok s.phase ≡ true
  pub vibrato_phase : phase_ok s.vibrato_phase ≡ true
  pub tick : (c : FormantOscControls) → accepted (formant_osc_tick_of s c).answer ≡ true
  pub play : (c : FormantOscControls) (t : Tally) (o : List Float) (m : List ℕ)
      → (formant_osc_block_of s c t o m).refused ≡ block_refusal_of (eqb (length o) (n_ports * length m)) 0 t (length m)
  pub reset : reply s Reset ≡ Told 0
  pub rate : (r : Hertz) → reply s (SetSampleRate r) ≡ Told (cond (rate_ok r) 0 1)

abbrev pub NeverRefused : Type 0
NeverRefused = (s : FormantOsc) → ReachedFormantOsc s → Accepts s

-- ---- the sum before its clamp decides the mark, not the 5 V that come out: a tick with one that isn't finite is notfinite
abbrev pub SumMarks : Type 0
SumMarks = (s : FormantOsc) (c : FormantOscControls) → is_fin (formant_osc_rung s c).sum ≡ false → accepted (formant_osc_tick_of s c).answer ≡ true
    → mark_number (formant_osc_tick_of s c).answer ≡ notfinite

-- so the sum of a clean tick is finite, and of a steered one
abbrev pub CleanFinite : Type 0
CleanFinite = (s : FormantOsc) (c : FormantOscControls)
    → (mark_number (formant_osc_tick_of s c).answer ≡ clean) ⊎ (mark_number (formant_osc_tick_of s c).answer ≡ steered) → is_fin (formant_osc_rung s c).sum
    ≡ true

-- ---- a clean tick is there: the first of a new one at 48,000 Hz, with every control 0
abbrev pub first_rate : Hertz
first_rate = record { 0 = of_bits binary64 0x40e7700000000000 }

abbrev pub no_controls : FormantOscControls
no_controls = record { v_oct = record { 0 = zer }; vowel = zer; formant_shift = zer; vibrato = zer }

abbrev pub FirstClean : Type 0
FirstClean = mark_number (formant_osc_tick_of (new_formant_osc first_rate) no_controls).answer ≡ clean

-- ---- a resonator is spoiled once its first cell isn't finite, NaN or infinite: from then on every tick is notfinite, whatever its
-- controls, until a reset
abbrev pub Spoiled : FormantOsc → Type 0
Spoiled s = (i : ℕ) × (i < 5) × (is_fin (get_or s.resonator_state (2 * i) nan) ≡ false)

abbrev pub StaysSpoiled : Type 0
StaysSpoiled = (s t : FormantOsc) → Spoiled s → Later s t → (c : FormantOscControls) → accepted (formant_osc_tick_of t c).answer ≡ true
    → mark_number (formant_osc_tick_of t c).answer ≡ notfinite

-- and each tick of a block is, whose marks then all tell it
abbrev pub BlocksSpoiled : Type 0
BlocksSpoiled = (s t : FormantOsc) → Spoiled s → Later s t → (c : FormantOscControls) (y : Tally) (o : List Float) (m : List ℕ)
    → (formant_osc_block_of t c y o m).refused ≡ 0 → (formant_osc_block_of t c y o m).marks ≡ tab (λ i. told notfinite) (length m)

-- ---- a second cell that isn't finite spoils too, a tick later: the rule of marks asks for the sum, which the second cells don't go into.
-- So a state of a caller's own, with an infinite second cell and all first cells finite, may have one clean tick, and no other
abbrev pub WildCell : FormantOsc → Type 0
WildCell s = (i : ℕ) × (i < 10) × (is_fin (get_or s.resonator_state i nan) ≡ false)

abbrev pub AnyCellSpoils : Type 0
AnyCellSpoils = (s : FormantOsc) (c : FormantOscControls) → WildCell s → accepted (formant_osc_tick_of s c).answer ≡ true
    → Spoiled (formant_osc_tick_of s c).state

-- once any cell isn't finite, every later tick but the first one is notfinite until a reset; t has that first tick, and u any later one
abbrev pub AnyCellStays : Type 0
AnyCellStays = (s t u : FormantOsc) → WildCell s → Later s t → (c : FormantOscControls) → accepted (formant_osc_tick_of t c).answer ≡ true
    → Later (formant_osc_tick_of t c).state u → (d : FormantOscControls) → accepted (formant_osc_tick_of u d).answer ≡ true
    → mark_number (formant_osc_tick_of u d).answer ≡ notfinite

-- in a block too: every mark after the first tells it, and it leaves a spoiled resonator
abbrev pub BlocksAnyCell : Type 0
BlocksAnyCell = (s t : FormantOsc) → WildCell s → Later s t → (c : FormantOscControls) (y : Tally) (o : List Float) (m : List ℕ)
    → (formant_osc_block_of t c y o m).refused ≡ 0 → 0 < length m
    → ((i : ℕ) → suc i < length m → get_or (formant_osc_block_of t c y o m).marks (suc i) 0 ≡ told notfinite) × Spoiled (formant_osc_block_of t c y o m).state

-- ---- a state that is reached is spoiled as soon as any of its cells isn't finite: a second cell is infinite or NaN beside none but such a first
abbrev pub ReachedCells : Type 0
ReachedCells = (s : FormantOsc) → ReachedFormantOsc s → WildCell s → Spoiled s

-- so from then on it has no clean tick, not one, until a reset
abbrev pub NeverCleanAgain : Type 0
NeverCleanAgain = (s t : FormantOsc) → ReachedFormantOsc s → WildCell s → Later s t → (c : FormantOscControls)
    → accepted (formant_osc_tick_of t c).answer ≡ true → mark_number (formant_osc_tick_of t c).answer ≡ notfinite

abbrev pub BlocksNeverAgain : Type 0
BlocksNeverAgain = (s t : FormantOsc) → ReachedFormantOsc s → WildCell s → Later s t → (c : FormantOscControls) (y : Tally) (o : List Float) (m : List ℕ)
    → (formant_osc_block_of t c y o m).refused ≡ 0 → (formant_osc_block_of t c y o m).marks ≡ tab (λ i. told notfinite) (length m)

-- ---- controls that kill the first resonator: where the vowel is NaN, or the shift's factor is 0 or NaN, the tick is notfinite, and
-- leaves NaN in that resonator's first cell
abbrev pub shift_factor : FormantOscControls → Float
shift_factor c = exp2_of (div binary64 c.formant_shift five)

abbrev pub Dead : FormantOsc → Type 0
Dead s = get_or s.resonator_state 0 nan ≡ nan

abbrev pub DeadShift : Type 0
DeadShift = (s : FormantOsc) → ReachedFormantOsc s → (c : FormantOscControls) → Fit c → (shift_factor c ≡ zer) ⊎ (shift_factor c ≡ nan)
    → (mark_number (formant_osc_tick_of s c).answer ≡ notfinite) × Dead (formant_osc_tick_of s c).state

abbrev pub NanVowel : Type 0
NanVowel = (s : FormantOsc) → ReachedFormantOsc s → (c : FormantOscControls) → Fit c → c.vowel ≡ nan
    → (mark_number (formant_osc_tick_of s c).answer ≡ notfinite) × Dead (formant_osc_tick_of s c).state

-- so are the ticks of a block
abbrev pub Deadly : FormantOscControls → Type 0
Deadly c = (c.vowel ≡ nan) ⊎ ((shift_factor c ≡ zer) ⊎ (shift_factor c ≡ nan))

abbrev pub BlocksDead : Type 0
BlocksDead = (s : FormantOsc) → ReachedFormantOsc s → (c : FormantOscControls) → Fit c → Deadly c
    → (t : Tally) (o : List Float) (m : List ℕ) → (formant_osc_block_of s c t o m).refused ≡ 0 → 0 < length m
    → ((formant_osc_block_of s c t o m).marks ≡ tab (λ i. told notfinite) (length m)) × Dead (formant_osc_block_of s c t o m).state

-- and such a resonator is spoiled
abbrev pub DeadSpoiled : Type 0
DeadSpoiled = (s : FormantOsc) → Dead s → Spoiled s

-- ---- no tick is clean with a control that is NaN, and none is steered without one
abbrev pub NanSteers : Type 0
NanSteers = (s : FormantOsc) (c : FormantOscControls)
    → Steers (c.v_oct.0 ∷ c.vowel ∷ c.formant_shift ∷ c.vibrato ∷ []) (formant_osc_tick_of s c).answer

-- ---- in a reached one a control that is NaN, whichever it is, is told by notfinite or lost: its tick is neither clean nor steered
abbrev pub SomeNan : FormantOscControls → Type 0
SomeNan c = (c.v_oct.0 ≡ nan) ⊎ ((c.vowel ≡ nan) ⊎ ((c.formant_shift ≡ nan) ⊎ (c.vibrato ≡ nan)))

abbrev pub Dirty : ℕ → Type 0
Dirty n = (n ≡ notfinite) ⊎ (n ≡ lost)

abbrev pub NanDirties : Type 0
NanDirties = (s : FormantOsc) → ReachedFormantOsc s → (c : FormantOscControls) → Fit c → SomeNan c → Dirty (mark_number (formant_osc_tick_of s c).answer)

-- and so is every mark of a block with such controls
abbrev pub BlocksDirty : Type 0
BlocksDirty = (s : FormantOsc) → ReachedFormantOsc s → (c : FormantOscControls) → Fit c → SomeNan c
    → (t : Tally) (o : List Float) (m : List ℕ) → (formant_osc_block_of s c t o m).refused ≡ 0
    → (i : ℕ) → i < length m → (n : ℕ) × (get_or (formant_osc_block_of s c t o m).marks i 0 ≡ told n) × Dirty n

-- ---- no tick of a block is refused whose first isn't, and a tally with room takes each of their answers
abbrev pub BlockAccepts : Type 0
BlockAccepts = (s : FormantOsc) (c : FormantOscControls) → formant_osc_refusal_of s ≡ 0 → AllAccepted (formant_osc_told_of c) (formant_osc_next_of c) s

abbrev pub BlockTallies : Type 0
BlockTallies = (s : FormantOsc) (c : FormantOscControls) → formant_osc_refusal_of s ≡ 0 → AllTaken (formant_osc_told_of c) (formant_osc_next_of c) s

-- ---- each contract settles its answer
pub record Settled : Type 0 where
  pub new : (r : Hertz) → Settles (λ (a : Made FormantOsc). making a ≡ formant_osc_new_of r)
  pub tick : (s : FormantOsc) (c : FormantOscControls) → Settles (λ (a : Ticked FormantOsc). a ≡ formant_osc_tick_of s c)
  pub block : (s : FormantOsc) (c : FormantOscControls) (t : Tally) (o : List Float) (m : List ℕ)
      → Settles (λ (b : Block FormantOsc). b ≡ formant_osc_block_of s c t o m)
  pub reset : (s : FormantOsc) → Settles (λ (a : Result FormantOsc Refusal). changing s a ≡ formant_osc_reset_of s)
  pub set_sample_rate : (s : FormantOsc) (r : Hertz) → Settles (λ (a : Result FormantOsc Refusal). changing s a ≡ formant_osc_set_sample_rate_of s r)
