-- A cell that isn't finite, be it the second, leaves a spoiled resonator; and no call but a reset makes every cell finite again.
use mathlib.Core.Bool.{true, false, false≢true}
use mathlib.Core.List.{List}
use mathlib.Core.Logic.{◌⊎◌, inl, inr}
use mathlib.Core.Path.{◌≡◌, refl, sym, ap, ◌∙◌, subst}
use Prim.Native.Nat.{ℕ, zero, suc, ◌+◌, ◌<◌, ◌*◌}
use native.Mathlib.Omega.{arith}
use lib.Ieee.{Float, nan}
use lib.ListN.{length, get_or}
use Rattle.answer.proofs.Blocks.{block_keeps}
use Rattle.answer.specs.Answer.{accepted, notfinite, told}
use Rattle.answer.specs.Block.{after_ticks, answer_at}
use Rattle.formant_osc.specs.Consts.{n_ports}
use Rattle.formant_osc.proofs.Either.{tick_either, made_either}
use Rattle.formant_osc.proofs.Spoiled.{sum_marks, rung_cell, spoiled_sum, spoiled_tick, stays_spoiled}
use Rattle.formant_osc.proofs.Taken.{taken_accepts, taken_state, taken_mark}
use Rattle.formant_osc.specs.Calls.{Call, Tick, Play, Reset, SetSampleRate, after, NoReset, Later}
use Rattle.formant_osc.specs.FormantOsc.{coef_memo_of, formant_osc_rung, formant_osc_sound_of, formant_osc_tick_of, formant_osc_next_of}
use Rattle.formant_osc.specs.FormantOsc.{formant_osc_block_of, rated, formant_osc_set_sample_rate_of}
use Rattle.formant_osc.specs.Promises.{Spoiled, WildCell, AnyCellSpoils, AnyCellStays, BlocksAnyCell}
use Rattle.formant_osc.specs.Sound.{glottal_pulse, resonate_of, rung_of}
use Rattle.formant_osc.specs.declared.FormantOscControls.{FormantOscControls}
use Rattle.answer.specs.declared.Ticked.{Ticked}
use Rattle.formant_osc.specs.declared.FormantOsc.{FormantOsc}
use Rattle.laws.proofs.Always.{always}
use Rattle.laws.proofs.Number.{add_wild_r}
use Rattle.laws.specs.Float.{is_fin}

-- the second cell goes into the first
second_wild : (b0 a1 a2 s0 s1 x : Float) → is_fin s1 ≡ false → is_fin (resonate_of b0 a1 a2 s0 s1 x).s0 ≡ false
unfolding resonate_of
second_wild b0 a1 a2 s0 s1 x h = add_wild_r _ _ h

rung_second : (c l : List Float) (x : Float) (i : ℕ) → i < 5 → is_fin (get_or l (2 * i + 1) nan) ≡ false → is_fin (get_or (rung_of c l x).state (2 * i) nan)
    ≡ false
unfolding rung_of
rung_second c l x zero h e = second_wild _ _ _ _ _ x e
rung_second c l x (suc zero) h e = second_wild _ _ _ _ _ x e
rung_second c l x (suc (suc zero)) h e = second_wild _ _ _ _ _ x e
rung_second c l x (suc (suc (suc zero))) h e = second_wild _ _ _ _ _ x e
rung_second c l x (suc (suc (suc (suc zero)))) h e = second_wild _ _ _ _ _ x e
rung_second c l x (suc (suc (suc (suc (suc i))))) h e = absurd (omega arith)

-- ---- a cell is a resonator's first or its second
pub parity : (i : ℕ) → (j : ℕ) × ((i ≡ 2 * j) ⊎ (i ≡ 2 * j + 1))
parity zero = (0, inl refl)
parity (suc i) = next (parity i)
  where
    next : (j : ℕ) × ((i ≡ 2 * j) ⊎ (i ≡ 2 * j + 1)) → (j : ℕ) × ((suc i ≡ 2 * j) ⊎ (suc i ≡ 2 * j + 1))
    next (j, inl e) = (j, inr (omega arith))
    next (j, inr e) = (suc j, inl (omega arith))

rung_any : (c l : List Float) (x : Float) (i : ℕ) → i < 10 → is_fin (get_or l i nan) ≡ false
    → (j : ℕ) × (j < 5) × (is_fin (get_or (rung_of c l x).state (2 * j) nan) ≡ false)
rung_any c l x i h e = go (parity i)
  where
    go : (j : ℕ) × ((i ≡ 2 * j) ⊎ (i ≡ 2 * j + 1)) → (j : ℕ) × (j < 5) × (is_fin (get_or (rung_of c l x).state (2 * j) nan) ≡ false)
    go (j, inl q) = let k : j < 5 = omega arith in (j, k, rung_cell c l x j k (ap (λ (n : ℕ). is_fin (get_or l n nan)) (sym q) ∙ e))
    go (j, inr q) = let k : j < 5 = omega arith in (j, k, rung_second c l x j k (ap (λ (n : ℕ). is_fin (get_or l n nan)) (sym q) ∙ e))

-- ---- the tick
wild_sound : (s : FormantOsc) (c : FormantOscControls) → WildCell s → Spoiled (formant_osc_sound_of s c).state
unfolding formant_osc_sound_of formant_osc_rung
wild_sound s c p = rung_any (coef_memo_of s c).val s.resonator_state (glottal_pulse s.phase.0) p.0 p.1 p.2

pub any_cell_spoils : AnyCellSpoils
unfolding accepted
any_cell_spoils s c p =
    tick_either (λ (t : Ticked FormantOsc). accepted t.answer ≡ true → Spoiled t.state) s c (λ a. wild_sound s c p) (λ n a. absurd (false≢true a))

-- ---- later calls
spoiled_wild : (s : FormantOsc) → Spoiled s → WildCell s
spoiled_wild s (i, h, e) = (2 * i, omega arith, e)

wild_tick : (c : FormantOscControls) (s : FormantOsc) → WildCell s → WildCell (formant_osc_tick_of s c).state
wild_tick c s p =
    tick_either (λ (t : Ticked FormantOsc). WildCell t.state) s c (spoiled_wild (formant_osc_sound_of s c).state (wild_sound s c p)) (λ n. p)

wild_after : (s : FormantOsc) (c : Call) → WildCell s → NoReset c → WildCell (after s c)
unfolding after
wild_after s (Tick c) p n = wild_tick c s p
wild_after s (Play c t o m) p n = unfold formant_osc_block_of in block_keeps n_ports _ _ _ WildCell (wild_tick c) s p t o m
wild_after s Reset p n = absurd n
wild_after s (SetSampleRate r) p n = unfold formant_osc_set_sample_rate_of in made_either WildCell _ s (rated s r) p p

wild_later : (s : FormantOsc) {t : FormantOsc} → WildCell s → Later s t → WildCell t
wild_later s p = always WildCell (λ t e. subst WildCell (sym e) p) wild_after

pub any_cell_stays : AnyCellStays
any_cell_stays s t u p h c a k = stays_spoiled (formant_osc_tick_of t c).state u (any_cell_spoils t c (wild_later s p h) a) k

-- ---- a block: each state in it but the first is spoiled
spoiled_at : (s : FormantOsc) (c : FormantOscControls) → WildCell s → accepted (formant_osc_tick_of s c).answer ≡ true → (i : ℕ)
    → Spoiled (after_ticks (formant_osc_next_of c) (suc i) s)
unfolding after_ticks
spoiled_at s c p a zero = any_cell_spoils s c p a
spoiled_at s c p a (suc i) = spoiled_tick c _ (spoiled_at s c p a i)

pub blocks_any_cell : BlocksAnyCell
unfolding answer_at
blocks_any_cell s t p h c y o m r l = (marked, subst Spoiled (sym (taken_state t c y o m r)) (last (length m) l))
  where
    spoiled : (i : ℕ) → Spoiled (after_ticks (formant_osc_next_of c) (suc i) t)
    spoiled = spoiled_at t c (wild_later s p h) (unfold after_ticks in taken_accepts t c y o m r 0)

    last : (n : ℕ) → 0 < n → Spoiled (after_ticks (formant_osc_next_of c) n t)
    last zero z = absurd (omega arith)
    last (suc n) z = spoiled n

    marked : (i : ℕ) → suc i < length m → get_or (formant_osc_block_of t c y o m).marks (suc i) 0 ≡ told notfinite
    marked i k =
        let u = after_ticks (formant_osc_next_of c) (suc i) t in
        taken_mark t c y o m r (suc i) k
        ∙ ap told (sum_marks u c (spoiled_sum u c (spoiled i)) (taken_accepts t c y o m r (suc i)))
