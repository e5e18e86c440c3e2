-- A sum that isn't finite makes a tick notfinite; and what isn't finite in a resonator's first cell stays so, and goes through the sum.
use mathlib.Core.Bool.{Bool, true, false, false≢true, ◌&&◌}
use mathlib.Core.List.{List}
use mathlib.Core.Logic.{◌⊎◌, inl, inr}
use mathlib.Core.Path.{◌≡◌, refl, sym, ap, ◌∙◌, subst}
use Prim.Native.Nat.{ℕ, zero, suc, ◌<◌, ◌*◌}
use native.Mathlib.Omega.{arith}
use lib.Ieee.{Float, nan}
use lib.ListN.{length, get_or}
use Rattle.answer.proofs.Blocks.{ticks_keep, block_keeps}
use Rattle.answer.proofs.Laws.{mark_says}
use Rattle.answer.specs.Answer.{mark_number, accepted, notfinite, steered, clean, told}
use Rattle.answer.specs.Block.{after_ticks, answer_at, mark_at}
use Rattle.answer.specs.Mark.{all_finite, rule_of, mark_of}
use Rattle.answer.specs.declared.Tally.{Tally}
use Rattle.answer.specs.declared.Volts.{Volts}
use Rattle.formant_osc.specs.Consts.{n_ports}
use Rattle.formant_osc.proofs.Either.{tick_either, made_either}
use Rattle.formant_osc.proofs.Taken.{taken_accepts, taken_marks, is_told}
use Rattle.formant_osc.specs.Calls.{Call, Tick, Play, Reset, SetSampleRate, after, NoReset, Later}
use Rattle.formant_osc.specs.FormantOsc.{coef_memo_of, formant_osc_rung, formant_osc_sound_of, formant_osc_tick_of}
use Rattle.formant_osc.specs.FormantOsc.{formant_osc_told_of, formant_osc_next_of, formant_osc_block_of}
use Rattle.formant_osc.specs.FormantOsc.{rated, formant_osc_set_sample_rate_of}
use Rattle.formant_osc.specs.Promises.{SumMarks, CleanFinite, Spoiled, StaysSpoiled, BlocksSpoiled}
use Rattle.formant_osc.specs.Sound.{glottal_pulse, resonate_of, plus, rung_of}
use Rattle.formant_osc.specs.declared.FormantOscControls.{FormantOscControls}
use Rattle.answer.specs.declared.Ticked.{Ticked}
use Rattle.formant_osc.specs.declared.FormantOsc.{FormantOsc}
use Rattle.laws.proofs.Always.{always}
use Rattle.laws.proofs.Number.{add_wild_l, add_wild_r, mul_wild_l, mul_wild_r}
use Rattle.laws.proofs.Over.{tab_ext}
use Rattle.laws.specs.Float.{is_fin}
use Rattle.laws.specs.Lists.{tab}

-- ---- the mark
unfinished : (v : Volts) (sums phases numbers : Bool) → sums ≡ false → mark_number (mark_of v false sums phases numbers) ≡ notfinite
unfolding rule_of
unfinished v sums phases numbers e = (mark_says v false sums phases numbers).number ∙ ap (λ (b : Bool). rule_of false (b && all_finite v) phases numbers) e

pub sound_unfinished : (s : FormantOsc) (c : FormantOscControls) → is_fin (formant_osc_rung s c).sum ≡ false
    → mark_number (formant_osc_sound_of s c).answer ≡ notfinite
unfolding formant_osc_sound_of
sound_unfinished s c e = unfinished _ _ _ _ e

abbrev Unfinished : Ticked FormantOsc → Type 0
Unfinished t = accepted t.answer ≡ true → mark_number t.answer ≡ notfinite

pub sum_marks : SumMarks
unfolding accepted
sum_marks s c e = tick_either Unfinished s c (λ a. sound_unfinished s c e) (λ n a. absurd (false≢true a))

pub clean_finite : CleanFinite
unfolding mark_number
clean_finite s c = tick_either (λ (t : Ticked FormantOsc). Steady (mark_number t.answer) → is_fin (formant_osc_rung s c).sum ≡ true) s c
    (go (is_fin (formant_osc_rung s c).sum) refl) (λ n h. absurd (none h))
  where
    Steady : ℕ → Type 0
    Steady n = (n ≡ clean) ⊎ (n ≡ steered)

    none : Steady 0 → ⊥
    none (inl h) = omega arith
    none (inr h) = omega arith

    go : (b : Bool) → is_fin (formant_osc_rung s c).sum ≡ b → Steady (mark_number (formant_osc_sound_of s c).answer) → b ≡ true
    go true e h = refl
    go false e (inl h) = absurd (let k = sound_unfinished s c e in omega arith)
    go false e (inr h) = absurd (let k = sound_unfinished s c e in omega arith)

-- ---- through a resonator
out_wild : (b0 a1 a2 s0 s1 x : Float) → is_fin s0 ≡ false → is_fin (resonate_of b0 a1 a2 s0 s1 x).out ≡ false
unfolding resonate_of
out_wild b0 a1 a2 s0 s1 x h = add_wild_r _ _ h

cell_wild : (b0 a1 a2 s0 s1 x : Float) → is_fin s0 ≡ false → is_fin (resonate_of b0 a1 a2 s0 s1 x).s0 ≡ false
unfolding resonate_of
cell_wild b0 a1 a2 s0 s1 x h = add_wild_l _ _ (mul_wild_r _ _ (add_wild_r _ _ h))

-- ---- through the sum
pub plus_out : (sum out amplitude : Float) → is_fin out ≡ false → is_fin (plus sum out amplitude) ≡ false
plus_out sum out amplitude h = add_wild_r _ _ (mul_wild_l _ _ h)

pub plus_sum : (sum out amplitude : Float) → is_fin sum ≡ false → is_fin (plus sum out amplitude) ≡ false
plus_sum sum out amplitude h = add_wild_l _ _ h

rung_sum : (c l : List Float) (x : Float) (i : ℕ) → i < 5 → is_fin (get_or l (2 * i) nan) ≡ false → is_fin (rung_of c l x).sum ≡ false
unfolding rung_of
rung_sum c l x zero h e = plus_sum _ _ _ (plus_sum _ _ _ (plus_sum _ _ _ (plus_sum _ _ _ (plus_out _ _ _ (out_wild _ _ _ _ _ x e)))))
rung_sum c l x (suc zero) h e = plus_sum _ _ _ (plus_sum _ _ _ (plus_sum _ _ _ (plus_out _ _ _ (out_wild _ _ _ _ _ x e))))
rung_sum c l x (suc (suc zero)) h e = plus_sum _ _ _ (plus_sum _ _ _ (plus_out _ _ _ (out_wild _ _ _ _ _ x e)))
rung_sum c l x (suc (suc (suc zero))) h e = plus_sum _ _ _ (plus_out _ _ _ (out_wild _ _ _ _ _ x e))
rung_sum c l x (suc (suc (suc (suc zero)))) h e = plus_out _ _ _ (out_wild _ _ _ _ _ x e)
rung_sum c l x (suc (suc (suc (suc (suc i))))) h e = absurd (omega arith)

pub rung_cell : (c l : List Float) (x : Float) (i : ℕ) → i < 5 → is_fin (get_or l (2 * i) nan) ≡ false → is_fin (get_or (rung_of c l x).state (2 * i) nan)
    ≡ false
unfolding rung_of
rung_cell c l x zero h e = cell_wild _ _ _ _ _ x e
rung_cell c l x (suc zero) h e = cell_wild _ _ _ _ _ x e
rung_cell c l x (suc (suc zero)) h e = cell_wild _ _ _ _ _ x e
rung_cell c l x (suc (suc (suc zero))) h e = cell_wild _ _ _ _ _ x e
rung_cell c l x (suc (suc (suc (suc zero)))) h e = cell_wild _ _ _ _ _ x e
rung_cell c l x (suc (suc (suc (suc (suc i))))) h e = absurd (omega arith)

-- ---- a spoiled state sounds notfinite, and stays spoiled until a reset
pub spoiled_sum : (s : FormantOsc) (c : FormantOscControls) → Spoiled s → is_fin (formant_osc_rung s c).sum ≡ false
unfolding formant_osc_rung
spoiled_sum s c p = rung_sum (coef_memo_of s c).val s.resonator_state (glottal_pulse s.phase.0) p.0 p.1 p.2

spoiled_sound : (s : FormantOsc) (c : FormantOscControls) → Spoiled s → Spoiled (formant_osc_sound_of s c).state
unfolding formant_osc_sound_of formant_osc_rung
spoiled_sound s c p = (p.0, p.1, rung_cell (coef_memo_of s c).val s.resonator_state (glottal_pulse s.phase.0) p.0 p.1 p.2)

pub spoiled_tick : (c : FormantOscControls) (s : FormantOsc) → Spoiled s → Spoiled (formant_osc_tick_of s c).state
spoiled_tick c s p = tick_either (λ (t : Ticked FormantOsc). Spoiled t.state) s c (spoiled_sound s c p) (λ n. p)

spoiled_after : (s : FormantOsc) (c : Call) → Spoiled s → NoReset c → Spoiled (after s c)
unfolding after
spoiled_after s (Tick c) p n = spoiled_tick c s p
spoiled_after s (Play c t o m) p n = unfold formant_osc_block_of in block_keeps n_ports _ _ _ Spoiled (spoiled_tick c) s p t o m
spoiled_after s Reset p n = absurd n
spoiled_after s (SetSampleRate r) p n = unfold formant_osc_set_sample_rate_of in made_either Spoiled _ s (rated s r) p p

spoiled_later : (s : FormantOsc) {t : FormantOsc} → Spoiled s → Later s t → Spoiled t
spoiled_later s p = always Spoiled (λ t e. subst Spoiled (sym e) p) spoiled_after

pub stays_spoiled : StaysSpoiled
stays_spoiled s t p h c = sum_marks t c (spoiled_sum t c (spoiled_later s p h))

-- ---- and so do its blocks: one that is taken, each of whose ticks is notfinite
pub unfinished_marks : (s : FormantOsc) (c : FormantOscControls) (t : Tally) (o : List Float) (m : List ℕ) → (formant_osc_block_of s c t o m).refused ≡ 0
    → ((i : ℕ) → mark_number (answer_at (formant_osc_told_of c) (formant_osc_next_of c) s i) ≡ notfinite)
    → (formant_osc_block_of s c t o m).marks ≡ tab (λ i. told notfinite) (length m)
unfinished_marks s c t o m r h =
    taken_marks s c t o m r ∙ tab_ext (mark_at (formant_osc_told_of c) (formant_osc_next_of c) s) (λ i. told notfinite) (length m) (λ i l. each i)
  where
    each : (i : ℕ) → mark_at (formant_osc_told_of c) (formant_osc_next_of c) s i ≡ told notfinite
    each i = is_told (answer_at (formant_osc_told_of c) (formant_osc_next_of c) s i) (taken_accepts s c t o m r i) ∙ ap told (h i)

pub blocks_spoiled : BlocksSpoiled
unfolding answer_at
blocks_spoiled s t p h c y o m r =
    unfinished_marks t c y o m r
    (λ i.
    let u = after_ticks (formant_osc_next_of c) i t in
    let k = ticks_keep Spoiled (formant_osc_next_of c) (spoiled_tick c) t (spoiled_later s p h) i in
    sum_marks u c (spoiled_sum u c k) (taken_accepts t c y o m r i))
