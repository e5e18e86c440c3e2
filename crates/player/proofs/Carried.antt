-- A player's oscillator among the others: a tick of the player is a tick of it, and so is a block.
use mathlib.Core.Bool.{Bool, true, false, cond}
use mathlib.Core.List.{List}
use mathlib.Core.Path.{◌≡◌, refl, sym, ap, ◌∙◌}
use Prim.Native.Nat.{ℕ, zero, suc, ◌*◌}
use lib.Dec.{eqb}
use lib.Ieee.{Float}
use lib.ListN.{length}
use Rattle.laws.specs.Lists.{tab}
use Rattle.answer.specs.Answer.{host_number, volts_of, refusal_of, accepted}
use Rattle.answer.specs.Promises.{AllAccepted}
use Rattle.answer.specs.Block.{Block, block, counted_to, after_ticks, ports_of, joined, block_refusal_of, answer_at, ticks_of, block_of}
use Rattle.answer.specs.declared.Answer.{Answer}
use Rattle.answer.specs.declared.Tally.{Tally}
use Rattle.vco.proofs.Held as vco-held
use Rattle.vco.specs.Vco.{vco_tick_of, vco_block_of}
use Rattle.vco.specs.declared.Vco.{Vco}
use Rattle.vco.specs.declared.VcoControls.{VcoControls}
use Rattle.lfo.proofs.Held as lfo-held
use Rattle.lfo.specs.Lfo.{lfo_tick_of, lfo_block_of}
use Rattle.lfo.specs.declared.Lfo.{Lfo}
use Rattle.lfo.specs.declared.LfoControls.{LfoControls}
use Rattle.supersaw.proofs.Held as supersaw-held
use Rattle.supersaw.specs.Supersaw.{supersaw_tick_of, supersaw_block_of}
use Rattle.supersaw.specs.declared.Supersaw.{Supersaw}
use Rattle.supersaw.specs.declared.SupersawControls.{SupersawControls}
use Rattle.formant_osc.proofs.Held as formant-held
use Rattle.formant_osc.specs.FormantOsc.{formant_osc_tick_of, formant_osc_block_of}
use Rattle.formant_osc.specs.declared.FormantOsc.{FormantOsc}
use Rattle.formant_osc.specs.declared.FormantOscControls.{FormantOscControls}
use Rattle.frame.specs.Frames.{ports_in}
use Rattle.player.specs.Begin.{vco_all, lfo_all}
use Rattle.player.specs.Player.{kind_of, sound_of, answer_by, next_by, play_by, played_of}
use Rattle.player.specs.declared.Controls.{Controls}
use Rattle.player.specs.declared.Controls.TheVariants as controls
use Rattle.player.specs.declared.Player.{Player}

-- `among` puts the oscillator that the controls are for into a player
pub record Carries {S : Type 0} (c : Controls) (answer : S → Answer) (next : S → S) (among : S → Player) : Type 0 where
  pub same_answer : (s : S) → answer_by c (among s) ≡ answer s
  pub same_next : (s : S) → next_by c (among s) ≡ among (next s)

module _ {S : Type 0} {c : Controls} {answer : S → Answer} {next : S → S} {among : S → Player} (h : Carries c answer next among) where
  after_carried : (n : ℕ) (s : S) → after_ticks (next_by c) n (among s) ≡ among (after_ticks next n s)
  unfolding after_ticks
  after_carried zero s = refl
  after_carried (suc n) s = ap (next_by c) (after_carried n s) ∙ h.same_next (after_ticks next n s)

  pub answer_carried : (s : S) (i : ℕ) → answer_at (answer_by c) (next_by c) (among s) i ≡ answer_at answer next s i
  unfolding answer_at
  answer_carried s i = ap (answer_by c) (after_carried i s) ∙ h.same_answer (after_ticks next i s)

  pub accepted_carried : (s : S) → AllAccepted answer next s → AllAccepted (answer_by c) (next_by c) (among s)
  accepted_carried s all i = ap accepted (answer_carried s i) ∙ all i

  carried : Block S → Block Player
  carried b = block b.refused (among b.state) b.tally b.samples b.marks

  ticks_carried : (ports n : ℕ) (s : S) (t : Tally) → carried (ticks_of ports answer next n s t) ≡ ticks_of ports (answer_by c) (next_by c) n (among s) t
  unfolding ticks_of carried
  ticks_carried ports n s t =
      λ i. block 0 (sym (after_carried n s) i) (counted_to t (λ (k : ℕ). host_number (sym (answer_carried s k) i)) n)
      (joined (λ (k : ℕ). ports_of ports (volts_of (sym (answer_carried s k) i))) n) (tab (λ (k : ℕ). host_number (sym (answer_carried s k) i)) n)

  block_carried : (ports number : ℕ) (s : S) (t : Tally) (o : List Float) (m : List ℕ)
      → carried (block_of ports number answer next s t o m) ≡ block_of ports number (answer_by c) (next_by c) (among s) t o m
  unfolding block_of carried
  block_carried ports number s t o m = go (eqb n 0)
    where
      n : ℕ
      n = block_refusal_of (eqb (length o) (ports * length m)) number t (length m)

      go : (b : Bool) → carried (cond b (ticks_of ports answer next (length m) s t) (block n s t o m))
          ≡ cond b (ticks_of ports (answer_by c) (next_by c) (length m) (among s) t) (block n (among s) t o m)
      go true = ticks_carried ports (length m) s t
      go false = refl

  -- what its block leaves is what the player's leaves
  played : (number : ℕ) (s : S) (t : Tally) (o : List Float) (m : List ℕ) (r : ℕ) (s' : S) (t' : Tally) (o' : List Float) (m' : List ℕ)
      → refusal_of (answer s) ≡ number → block r s' t' o' m' ≡ block_of (ports_in (kind_of c)) number answer next s t o m
      → block r (among s') t' o' m' ≡ play_by c (among s) t o m
  unfolding play_by carried
  played number s t o m r s' t' o' m' refusal e =
      ap carried e ∙ block_carried (ports_in (kind_of c)) number s t o m
      ∙ ap (λ (n : ℕ). block_of (ports_in (kind_of c)) n (answer_by c) (next_by c) (among s) t o m) (sym (ap refusal_of (h.same_answer s) ∙ refusal))

pub chosen : (p : Player) (c : Controls) (t : Tally) (o : List Float) (m : List ℕ) (b : Block Player) → p.controls ≡ c → b ≡ play_by c p t o m
    → b ≡ played_of p t o m
chosen p c t o m b e h = h ∙ ap (λ (x : Controls). play_by x p t o m) (sym e)

-- ---- each oscillator
module _ (p : Player) where
  abbrev pub with_vco : Vco → Player
  with_vco s = record { controls = p.controls; vco = s; lfo = p.lfo; supersaw = p.supersaw; formant = p.formant }

  abbrev pub with_lfo : Lfo → Player
  with_lfo s = record { controls = p.controls; vco = p.vco; lfo = s; supersaw = p.supersaw; formant = p.formant }

  abbrev pub with_supersaw : Supersaw → Player
  with_supersaw s = record { controls = p.controls; vco = p.vco; lfo = p.lfo; supersaw = s; formant = p.formant }

  abbrev pub with_formant : FormantOsc → Player
  with_formant s = record { controls = p.controls; vco = p.vco; lfo = p.lfo; supersaw = p.supersaw; formant = s }

  pub vco_carries : (c : VcoControls) → Carries (controls.Vco c) (λ s. (vco_tick_of s c vco_all).answer) (λ s. (vco_tick_of s c vco_all).state) with_vco
  unfolding sound_of
  vco_carries c = record { same_answer = λ s. refl; same_next = λ s. refl }

  pub lfo_carries : (c : LfoControls) → Carries (controls.Lfo c) (λ s. (lfo_tick_of s c lfo_all).answer) (λ s. (lfo_tick_of s c lfo_all).state) with_lfo
  unfolding sound_of
  lfo_carries c = record { same_answer = λ s. refl; same_next = λ s. refl }

  pub supersaw_carries : (c : SupersawControls)
      → Carries (controls.Supersaw c) (λ s. (supersaw_tick_of s c).answer) (λ s. (supersaw_tick_of s c).state) with_supersaw
  unfolding sound_of
  supersaw_carries c = record { same_answer = λ s. refl; same_next = λ s. refl }

  pub formant_carries : (c : FormantOscControls)
      → Carries (controls.Formant c) (λ s. (formant_osc_tick_of s c).answer) (λ s. (formant_osc_tick_of s c).state) with_formant
  unfolding sound_of
  formant_carries c = record { same_answer = λ s. refl; same_next = λ s. refl }

  module _ (t u : Tally) (o after : List Float) (m marked : List ℕ) (r : ℕ) where
    pub vco_played : (c : VcoControls) (s : Vco) → block r s u after marked ≡ vco_block_of p.vco c vco_all t o m
        → block r (with_vco s) u after marked ≡ play_by (controls.Vco c) p t o m
    unfolding vco_block_of kind_of ports_in
    vco_played c s = played (vco_carries c) _ p.vco t o m r s u after marked (vco-held.tick_refusal p.vco c vco_all)

    pub lfo_played : (c : LfoControls) (s : Lfo) → block r s u after marked ≡ lfo_block_of p.lfo c lfo_all t o m
        → block r (with_lfo s) u after marked ≡ play_by (controls.Lfo c) p t o m
    unfolding lfo_block_of kind_of ports_in
    lfo_played c s = played (lfo_carries c) _ p.lfo t o m r s u after marked (lfo-held.tick_refusal p.lfo c lfo_all)

    pub supersaw_played : (c : SupersawControls) (s : Supersaw) → block r s u after marked ≡ supersaw_block_of p.supersaw c t o m
        → block r (with_supersaw s) u after marked ≡ play_by (controls.Supersaw c) p t o m
    unfolding supersaw_block_of kind_of ports_in
    supersaw_played c s = played (supersaw_carries c) _ p.supersaw t o m r s u after marked (supersaw-held.tick_refusal p.supersaw c)

    pub formant_played : (c : FormantOscControls) (s : FormantOsc) → block r s u after marked ≡ formant_osc_block_of p.formant c t o m
        → block r (with_formant s) u after marked ≡ play_by (controls.Formant c) p t o m
    unfolding formant_osc_block_of kind_of ports_in
    formant_played c s = played (formant_carries c) _ p.formant t o m r s u after marked (formant-held.tick_refusal p.formant c)
