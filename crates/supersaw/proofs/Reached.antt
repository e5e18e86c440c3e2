-- A reached Supersaw has a good rate and good phases, so that no call on it is refused but for its own input.
use mathlib.Core.Bool.{Bool, true, false}
use mathlib.Core.List.{List}
use mathlib.Core.Path.{◌≡◌, refl, sym, ap, ◌∙◌, subst}
use Prim.Native.Nat.{ℕ, zero, suc, ◌*◌, ◌≤◌, ◌<◌}
use native.Mathlib.Nat.{le_refl, le_of_lt}
use lib.Dec.{eqb}
use lib.ListN.{length, length-set, set}
use lib.Seq.{get_or-set_same, get_or-set_other}
use lib.Ieee.{Float, nan, binary64, div, round, lt, le, eq, of_bits, of_int}
use lib.Ieee.Fits.{add-fits}
use borrow.Author.Tests.{eqb-true, eqb-false}
use Rattle.laws.proofs.Always.{always}
use Rattle.laws.proofs.Tests.{passed}
use Rattle.laws.specs.Lists.{all, tab}
use Rattle.common.proofs.PhaseLaws.{wrap_in, zero_in}
use Rattle.common.specs.Phase.{turns}
use Rattle.common.specs.Tests.{rate_ok, phase_ok}
use Rattle.common.specs.declared.Hertz.{Hertz}
use Rattle.answer.specs.Calls.{Outcome, made_unless}
use Rattle.answer.proofs.Calls.{made_cases, made_number}
use Rattle.answer.proofs.Blocks.{block_keeps, block_refusal}
use Rattle.answer.proofs.Laws.{mark_says}
use Rattle.answer.specs.Answer.{accepted}
use Rattle.answer.specs.Block.{block_refusal_of}
use Rattle.laws.proofs.All.{all_at, all_of}
use Rattle.supersaw.specs.Consts.{n_ports}
use Rattle.supersaw.specs.Calls.{Call, Tick, Play, Reset, SetSampleRate, Told, after, reply, First, ReachedSupersaw}
use Rattle.supersaw.specs.Promises.{NewAccepts, NeverRefused}
use Rattle.supersaw.specs.Supersaw.{start_phases, phases_ok, new_supersaw, supersaw_refusal_of, supersaw_rate_refusal_of, supersaw_new_of}
use Rattle.supersaw.specs.Supersaw.{supersaw_sound_of, supersaw_tick_of, supersaw_block_of, restarted, supersaw_reset_of, rated, supersaw_set_sample_rate_of}
use Rattle.supersaw.specs.Voices.{at, voice_of, voices_of}
use Rattle.supersaw.specs.declared.Supersaw.{Supersaw}
use Rattle.supersaw.specs.declared.SupersawControls.{SupersawControls}
use Rattle.answer.specs.declared.Ticked.{Ticked}

-- seven phases, each in [0, 1)
record Phases (ps : List Float) : Type 0 where
  size : length ps ≡ 7
  ok : (i : ℕ) → i < 7 → phase_ok (turns (at ps i)) ≡ true

set_ok : (ps : List Float) (n : ℕ) (x : Float) → n < 7 → phase_ok (turns x) ≡ true → Phases ps → Phases (set ps n x)
set_ok ps n x l e h = record { size = length-set ps n x ∙ h.size; ok = λ i k. go i k (eqb i n) refl }
  where
    go : (i : ℕ) → i < 7 → (b : Bool) → eqb i n ≡ b → phase_ok (turns (at (set ps n x) i)) ≡ true
    go i k true q =
        subst (λ (j : ℕ). phase_ok (turns (at (set ps n x) j)) ≡ true) (sym (eqb-true i n q))
        (ap (λ (z : Float). phase_ok (turns z)) (get_or-set_same ps n x nan (subst (λ (z : ℕ). n < z) (sym h.size) l)) ∙ e)
    go i k false q = ap (λ (z : Float). phase_ok (turns z)) (get_or-set_other ps n i x nan (eqb-false i n q)) ∙ h.ok i k

voices_ok : (detune : Float) (base rate : Hertz) (ps : List Float) → Phases ps → (n : ℕ) → n ≤ 7 → Phases (voices_of detune base rate ps n).phases
unfolding voices_of voice_of
voices_ok detune base rate ps h zero l = h
voices_ok detune base rate ps h (suc n) l =
    set_ok (voices_of detune base rate ps n).phases n _ l (wrap_in _ (add-fits binary64 _ _)) (voices_ok detune base rate ps h n (le_of_lt l))

start_ok : all (λ i. phase_ok (turns (at start_phases i))) 7 ≡ true
unfolding all start_phases tab phase_ok le lt eq of_bits of_int div round
start_ok = refl

start : Phases start_phases
start = record { size = unfold start_phases tab in refl; ok = all_at (λ (i : ℕ). phase_ok (turns (at start_phases i))) 7 start_ok }

record Good (s : Supersaw) : Type 0 where
  rate : rate_ok s.sample_rate ≡ true
  phases : Phases s.phases
  low : phase_ok s.sub_phase ≡ true

good_new : (r : Hertz) → rate_ok r ≡ true → Good (new_supersaw r)
unfolding new_supersaw
good_new r h = record { rate = h; phases = start; low = zero_in }

not_refused : (s : Supersaw) → Good s → supersaw_refusal_of s ≡ 0
unfolding supersaw_refusal_of
not_refused s h = simp (h.rate, seven, h.low)
  where
    seven : phases_ok s.phases ≡ true
    seven = unfold phases_ok in all_of (λ (i : ℕ). phase_ok (turns (at s.phases i))) 7 h.phases.ok

good_sound : (s : Supersaw) → Good s → (c : SupersawControls) → Good (supersaw_sound_of s c).state
unfolding supersaw_sound_of
good_sound s h c = record { rate = h.rate; phases = voices_ok _ _ _ _ h.phases 7 (le_refl 7); low = wrap_in _ (add-fits binary64 _ _) }

tick_is : (s : Supersaw) → Good s → (c : SupersawControls) → supersaw_tick_of s c ≡ supersaw_sound_of s c
unfolding supersaw_tick_of
tick_is s h c = simp (not_refused s h)

-- ---- so it stays one
first_good : (s : Supersaw) → First s → Good s
unfolding supersaw_new_of
first_good s f =
    let new = new_supersaw f.0 in
    let number = ap (λ (m : Outcome Supersaw). m.refused) f.1 in
    let g = good_new f.0 (passed (rate_ok f.0) 0 (sym (made_number _ new new) ∙ number)) in
    subst Good (ap (λ (m : Outcome Supersaw). m.state) f.1) (made_cases (λ m. Good m.state) _ new new (λ e. g) g)

good_tick : (s : Supersaw) → Good s → (c : SupersawControls) → Good (supersaw_tick_of s c).state
good_tick s h c = subst (λ (t : Ticked Supersaw). Good t.state) (sym (tick_is s h c)) (good_sound s h c)

rated_good : (s : Supersaw) (r : Hertz) → Good s → supersaw_rate_refusal_of s r ≡ 0 → Good (rated s r)
unfolding supersaw_rate_refusal_of
rated_good s r h e = record { rate = passed (rate_ok r) (supersaw_refusal_of s) e; phases = h.phases; low = h.low }

good_after : (s : Supersaw) (c : Call) → Good s → Good (after s c)
unfolding after supersaw_block_of supersaw_reset_of supersaw_set_sample_rate_of
good_after s (Tick c) h = good_tick s h c
good_after s (Play c t o m) h = block_keeps n_ports _ _ _ Good (λ r g. good_tick r g c) s h t o m
good_after s Reset h = made_cases (λ m. Good m.state) _ s (restarted s) (λ e. record { rate = h.rate; phases = start; low = zero_in }) h
good_after s (SetSampleRate r) h = made_cases (λ m. Good m.state) (supersaw_rate_refusal_of s r) s (rated s r) (rated_good s r h) h

good : {s : Supersaw} → ReachedSupersaw s → Good s
good = always Good first_good (λ s c h f. good_after s c h)

sound_accepted : (s : Supersaw) (c : SupersawControls) → accepted (supersaw_sound_of s c).answer ≡ true
unfolding supersaw_sound_of
sound_accepted s c = (mark_says _ _ _ _ _).is_accepted

-- ---- the promises
pub new_accepts : NewAccepts
unfolding supersaw_new_of
new_accepts r = (made_number _ _ _, λ ok. (r, unfold made_unless in simp ok))

pub never_refused : NeverRefused
unfolding reply supersaw_block_of supersaw_reset_of supersaw_set_sample_rate_of
never_refused s h =
    let g = good h in
    let n = not_refused s g in
    record {
      phases = g.phases.ok;
      sub_phase = g.low;
      tick = λ c. rw (tick_is s g c) (sound_accepted s c);
      play = λ c t o m. block_refusal n_ports _ _ _ s t o m
          ∙ ap (λ (k : ℕ). block_refusal_of (eqb (length o) (n_ports * length m)) k t (length m)) n;
      reset = ap Told (made_number _ _ _ ∙ n);
      rate = λ r. ap Told (made_number _ _ _ ∙ (unfold supersaw_rate_refusal_of in simp n));
    }
