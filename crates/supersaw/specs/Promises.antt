-- Theorems about the Supersaw: the statements. proofs/ proves each under the same name in small letters.
use Rattle.std.specs.Prelude.{Result, ◌≡◌, true, cond, List, [], ◌∷◌, ℕ, ◌*◌, ◌<◌, eqb, Float, length}
use Rattle.laws.specs.Machine.{Settles}
use Rattle.common.specs.Phase.{turns}
use Rattle.common.specs.Tests.{rate_ok, phase_ok}
use Rattle.common.specs.declared.Hertz.{Hertz}
use Rattle.common.specs.declared.Refusal.{Refusal}
use Rattle.answer.specs.Calls.{making, changing}
use Rattle.answer.specs.declared.Made.{Made}
use Rattle.answer.specs.Answer.{accepted}
use Rattle.answer.specs.Block.{Block, block_refusal_of}
use Rattle.answer.specs.Promises.{Steers, AllAccepted, AllTaken}
use Rattle.answer.specs.declared.Tally.{Tally}
use Rattle.supersaw.specs.Consts.{n_ports}
use Rattle.supersaw.specs.Voices.{at}
use Rattle.supersaw.specs.Supersaw.{new_supersaw, supersaw_refusal_of, supersaw_new_of, supersaw_tick_of, supersaw_told_of, supersaw_next_of}
use Rattle.supersaw.specs.Supersaw.{supersaw_block_of, supersaw_reset_of, supersaw_set_sample_rate_of}
use Rattle.supersaw.specs.Calls.{Told, Reset, SetSampleRate, reply, First, ReachedSupersaw}
use Rattle.supersaw.specs.declared.Supersaw.{Supersaw}
use Rattle.supersaw.specs.declared.SupersawControls.{SupersawControls}
use Rattle.answer.specs.declared.Ticked.{Ticked}

-- ---- `new` refuses a bad rate alone: at each other one there is a first state
abbrev pub NewAccepts : Type 0
NewAccepts = (r : Hertz) → ((supersaw_new_of r).refused ≡ cond (rate_ok r) 0 1) × (rate_ok r ≡ true → First (new_supersaw r))

-- ---- a reached state refuses no call but for the call's own input
pub record Accepts (s : Supersaw) : Type 0 where
  pub phases : (i : ℕ) → i < 7 → phase_ok (turns (at s.phases i)) ≡ true
  pub sub_phase : phase_ok s.sub_phase ≡ true
  pub tick : (c : SupersawControls) → accepted (supersaw_tick_of s c).answer ≡ true
  -- by its buffers' 52 and its tally's 7 alone
  pub play : (c : SupersawControls) (t : Tally) (o : List Float) (m : List ℕ)
      → (supersaw_block_of s c t o m).refused ≡ block_refusal_of (eqb (length o) (n_ports * length m)) 0 t (length m)
  pub reset : reply s Reset ≡ Told 0
  pub rate : (r : Hertz) → reply s (SetSampleRate r) ≡ Told (cond (rate_ok r) 0 1)

abbrev pub NeverRefused : Type 0
NeverRefused = (s : Supersaw) → ReachedSupersaw s → Accepts s

-- ---- no tick is clean with a control that is NaN, and none is steered without one
abbrev pub NanSteers : Type 0
NanSteers = (s : Supersaw) (c : SupersawControls) → Steers (c.voct.0 ∷ c.detune ∷ c.mix ∷ []) (supersaw_tick_of s c).answer

-- ---- no tick of a block is refused whose first isn't, and a tally with room takes each of their answers. Seven phases stand in
-- the code's array
abbrev pub BlockAccepts : Type 0
BlockAccepts = (s : Supersaw) (c : SupersawControls) → length s.phases ≡ 7 → supersaw_refusal_of s ≡ 0 → AllAccepted (supersaw_told_of c) (supersaw_next_of c) s

abbrev pub BlockTallies : Type 0
BlockTallies = (s : Supersaw) (c : SupersawControls) → length s.phases ≡ 7 → supersaw_refusal_of s ≡ 0 → AllTaken (supersaw_told_of c) (supersaw_next_of c) s

-- ---- each contract settles its answer
pub record Settled : Type 0 where
  pub new : (r : Hertz) → Settles (λ (m : Made Supersaw). making m ≡ supersaw_new_of r)
  pub tick : (s : Supersaw) (c : SupersawControls) → Settles (λ (t : Ticked Supersaw). t ≡ supersaw_tick_of s c)
  pub block : (s : Supersaw) (c : SupersawControls) (t : Tally) (o : List Float) (m : List ℕ)
      → Settles (λ (b : Block Supersaw). b ≡ supersaw_block_of s c t o m)
  pub reset : (s : Supersaw) → Settles (λ (m : Result Supersaw Refusal). changing s m ≡ supersaw_reset_of s)
  pub set_sample_rate : (s : Supersaw) (r : Hertz) → Settles (λ (m : Result Supersaw Refusal). changing s m ≡ supersaw_set_sample_rate_of s r)
