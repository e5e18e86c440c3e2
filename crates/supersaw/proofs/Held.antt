-- A block's ticks are ticks of the phases alone: its voct stands still.
use mathlib.Core.Bool.{Bool, true}
use mathlib.Core.List.{List}
use mathlib.Core.Path.{◌≡◌, refl, sym, ap, ◌∙◌}
use Prim.Native.Nat.{ℕ, ◌+◌, ◌<◌}
use native.Mathlib.Numerals.{add-one}
use native.Mathlib.Omega.{arith}
use lib.Dec.{lit<}
use lib.Ieee.Fits.{add-fits}
use lib.Ieee.{Float, nan, binary64, add}
use lib.ListN.{length}
use Rattle.answer.proofs.Blocks.{Holds, held_accepted, all_taken}
use Rattle.answer.proofs.Laws.{mark_says, refused_by, mark_steers, tick_steers}
use Rattle.answer.specs.Answer.{refusal_of}
use Rattle.answer.specs.Block.{after_ticks, answer_at}
use Rattle.answer.specs.Mark.{all_numbers}
use Rattle.common.proofs.MemoLaws.{recall1_again}
use Rattle.common.proofs.PhaseLaws.{wrap_in}
use Rattle.common.specs.Memo.{recall1, voct_to_hz_at}
use Rattle.common.specs.Phase.{turns, wrap_of}
use Rattle.common.specs.Tests.{phase_ok}
use Rattle.common.specs.Memo.{Memo1}
use Rattle.laws.proofs.Over.{length_tab, get_or_tab}
use Rattle.laws.specs.Float.{zer, one}
use Rattle.laws.specs.Lists.{all, tab}
use Rattle.numeric.specs.Basic.{clamp_of}
use Rattle.supersaw.proofs.LaneLaws.{advanced_of, ticked_of, sound_is, accepts}
use Rattle.laws.proofs.All.{all_of}
use Rattle.supersaw.specs.Shortcuts.{lanes_of, incs_of, wraps_of, sums_of, moved_of, stepped_of, held_told, held_next}
use Rattle.supersaw.specs.Supersaw.{phases_ok, controls_of, supersaw_refusal_of, supersaw_sound_of, supersaw_tick_of, supersaw_told_of, supersaw_next_of}
use Rattle.supersaw.specs.Voices.{at}
use Rattle.supersaw.specs.Promises.{NanSteers, BlockAccepts, BlockTallies}
use Rattle.supersaw.specs.declared.Supersaw.{Supersaw}
use Rattle.supersaw.specs.declared.SupersawControls.{SupersawControls}
use Rattle.answer.specs.declared.Ticked.{Ticked}

-- ---- a turn of the loop
module _ (dt : List Float) (mix : Float) (numbers : Bool) (first : List Float) (i : ℕ) (t : List Float) (u : Ticked (List Float))
    (e : u ≡ stepped_of t dt mix numbers) (z : t ≡ after_ticks (held_next dt mix numbers) i first) where
  pub heard : u.answer ≡ answer_at (held_told dt mix numbers) (held_next dt mix numbers) first i
  unfolding answer_at
  heard = simp (e, z)

  pub moved : u.state ≡ after_ticks (held_next dt mix numbers) (i + 1) first
  unfolding after_ticks
  moved = rw add-one (simp (e, z))

-- ---- the whole
abbrev held_memo : Supersaw → SupersawControls → Memo1
held_memo s c = recall1 voct_to_hz_at s.freq_memo c.voct.0

abbrev pub held_incs : Supersaw → SupersawControls → List Float
held_incs s c = incs_of (clamp_of c.detune zer one) (held_memo s c).val s.sample_rate

abbrev pub held_mix : SupersawControls → Float
held_mix c = clamp_of c.mix zer one

abbrev pub held_numbers : SupersawControls → Bool
held_numbers c = all_numbers (controls_of c)

-- the state in a block whose phases are t, from the second tick on
abbrev state_of : Supersaw → SupersawControls → List Float → Supersaw
state_of s c t = advanced_of s t (held_memo s c)

-- eight phases, none of which refuses
pub record Good (t : List Float) : Type 0 where
  pub whole : tab (at t) 8 ≡ t
  pub phases : phases_ok t ≡ true
  pub low : phase_ok (turns (at t 7)) ≡ true

first_good : (s : Supersaw) → supersaw_refusal_of s ≡ 0 → Good (lanes_of s.phases s.sub_phase)
unfolding lanes_of phases_ok all tab
first_good s h = let a = accepts s h in record { whole = refl; phases = a.1.0; low = a.1.1 }

sum_at : (t dt : List Float) (i : ℕ) → i < 8 → at (wraps_of (sums_of t dt)) i ≡ wrap_of (add binary64 (at t i) (at dt i))
unfolding wraps_of sums_of
sum_at t dt i l = get_or_tab nan (λ (j : ℕ). wrap_of (at (sums_of t dt) j)) 8 i l
    ∙ ap wrap_of (get_or_tab nan (λ (j : ℕ). add binary64 (at t j) (at dt j)) 8 i l)

wraps_good : (t dt : List Float) → Good (wraps_of (sums_of t dt))
wraps_good t dt = record { whole = unfold wraps_of tab in refl; phases = seven; low = ok 7 (lit< tt) }
  where
    ok : (i : ℕ) → i < 8 → phase_ok (turns (at (wraps_of (sums_of t dt)) i)) ≡ true
    ok i l = ap (λ (z : Float). phase_ok (turns z)) (sum_at t dt i l) ∙ wrap_in _ (add-fits binary64 _ _)

    seven : phases_ok (wraps_of (sums_of t dt)) ≡ true
    seven = unfold phases_ok in all_of (λ (i : ℕ). phase_ok (turns (at (wraps_of (sums_of t dt)) i))) 7 (λ i l. ok i (omega arith))

held_good : (dt : List Float) (mix : Float) (numbers : Bool) (t : List Float) → Good (held_next dt mix numbers t)
unfolding stepped_of moved_of
held_good dt mix numbers t = wraps_good t dt

lanes_back : (t : List Float) → tab (at t) 8 ≡ t → t ≡ lanes_of (tab (at t) 7) (turns (at t 7))
lanes_back t h = sym h ∙ (unfold lanes_of tab in refl)

state_accepted : (s : Supersaw) (c : SupersawControls) (t : List Float) → supersaw_refusal_of s ≡ 0 → Good t → supersaw_refusal_of (state_of s c t) ≡ 0
unfolding supersaw_refusal_of
state_accepted s c t h g = simp ((accepts s h).0, seven, g.low)
  where
    seven : phases_ok (tab (at t) 7) ≡ true
    seven = unfold phases_ok all tab in g.phases

tick_sounds : (s : Supersaw) (c : SupersawControls) → supersaw_refusal_of s ≡ 0 → supersaw_tick_of s c ≡ supersaw_sound_of s c
unfolding supersaw_tick_of
tick_sounds s c h = simp h

abbrev held_tick : Supersaw → SupersawControls → List Float → Ticked Supersaw
held_tick s c t = ticked_of s (stepped_of t (held_incs s c) (held_mix c) (held_numbers c)) (held_memo s c)

first_sound : (s : Supersaw) (c : SupersawControls) → length s.phases ≡ 7 → supersaw_sound_of s c ≡ held_tick s c (lanes_of s.phases s.sub_phase)
first_sound s c k = sym (sound_is s c k)

-- in such a state a tick finds its frequency in the memo
held_sound : (s : Supersaw) (c : SupersawControls) (t : List Float) → tab (at t) 8 ≡ t → supersaw_sound_of (state_of s c t) c ≡ held_tick s c t
held_sound s c t h = sym (sound_is (state_of s c t) c (length_tab (at t) 7)) ∙ simp (recall1_again voct_to_hz_at s.freq_memo c.voct.0, ← lanes_back t h)

pub holds : (s : Supersaw) (c : SupersawControls) → supersaw_refusal_of s ≡ 0 → length s.phases ≡ 7
    → Holds (supersaw_told_of c) (supersaw_next_of c) (held_told (held_incs s c) (held_mix c) (held_numbers c))
    (held_next (held_incs s c) (held_mix c) (held_numbers c))
    (state_of s c) Good s (lanes_of s.phases s.sub_phase)
holds s c h k =
    record {
      good = first_good s h;
      first = ap (λ (t : Ticked Supersaw). t.answer) (tick_sounds s c h ∙ first_sound s c k);
      second = ap (λ (t : Ticked Supersaw). t.state) (tick_sounds s c h ∙ first_sound s c k);
      stays = λ t g. held_good (held_incs s c) (held_mix c) (held_numbers c) t;
      answers = λ t g. ap (λ (r : Ticked Supersaw). r.answer) (tick_sounds (state_of s c t) c (state_accepted s c t h g) ∙ held_sound s c t g.whole);
      moves = λ t g. ap (λ (r : Ticked Supersaw). r.state) (tick_sounds (state_of s c t) c (state_accepted s c t h g) ∙ held_sound s c t g.whole);
    }

-- ---- so none of them is refused
pub block_accepts : BlockAccepts
block_accepts s c k h = held_accepted _ _ _ _ _ _ _ _ (holds s c h k) (λ t. unfold stepped_of moved_of in (mark_says _ _ _ _ _).is_accepted)

pub block_tallies : BlockTallies
block_tallies s c k h = all_taken _ _ s (block_accepts s c k h)

-- ---- a tick is refused by what refuses its state
pub tick_refusal : (s : Supersaw) (c : SupersawControls) → refusal_of (supersaw_tick_of s c).answer ≡ supersaw_refusal_of s
unfolding supersaw_tick_of supersaw_sound_of
tick_refusal s c = refused_by (λ (t : Ticked Supersaw). t.answer) (supersaw_refusal_of s) _ _ (mark_says _ _ _ _ _).is_accepted refl

-- ---- and marked over its controls
pub nan_steers : NanSteers
unfolding supersaw_tick_of supersaw_sound_of
nan_steers s c = tick_steers (λ (t : Ticked Supersaw). t.answer) (controls_of c) (supersaw_refusal_of s) _ _ (mark_steers _ _ _ _ (controls_of c)) refl
