-- The answers of a score's frames, one by one.
use Prim.Native.Nat.{ℕ, zero, suc}
use mathlib.Core.List.{List, [], ◌∷◌, ◌++◌}
use mathlib.Core.Path.{◌≡◌, refl, sym, ap, subst, ◌∙◌}
use lib.Ieee.{Float}
use lib.ListN.{length}
use Rattle.laws.specs.Lists.{tab}
use Rattle.laws.proofs.Over.{length_tab, tab_ext}
use Rattle.answer.specs.Block.{after_ticks, answer_at}
use Rattle.answer.specs.declared.Answer.{Answer}
use Rattle.score.specs.declared.Inputs.{Inputs}
use Rattle.score.specs.declared.Inputs.TheVariants as inputs
use Rattle.score.specs.declared.Score.{Score}
use Rattle.player.specs.Begin.{threshold_of, vco_controls, lfo_controls, supersaw_controls, formant_controls}
use Rattle.player.specs.Frames.{heard_at}
use Rattle.player.specs.Play.{answers, heard_from, heard_of}
use Rattle.player.specs.Player.{controls_of, player_from, answer_by, next_by}
use Rattle.player.specs.Promises.{Every, FramesAccepted}
use Rattle.player.proofs.Accepted.{heard_accepted}
use Rattle.player.proofs.Carried.{answer_carried, vco_carries, lfo_carries, supersaw_carries, formant_carries}

module _ {S : Type 0} (a : S → Answer) (n : S → S) where
  after_first : (k : ℕ) (s : S) → after_ticks n k (n s) ≡ n (after_ticks n k s)
  unfolding after_ticks
  after_first zero s = refl
  after_first (suc k) s = ap n (after_first k s)

  answers_last : (k : ℕ) (s : S) → answers a n (suc k) s ≡ answers a n k s ++ (answer_at a n s k ∷ [])
  unfolding answers answer_at after_ticks
  answers_last zero s = refl
  answers_last (suc k) s =
      ap (λ (l : List Answer). a s ∷ l) (answers_last k (n s)) ∙ ap (λ (t : S). (a s ∷ answers a n k (n s)) ++ (a t ∷ [])) (after_first k s)

  answers_tab : (k : ℕ) (s : S) → answers a n k s ≡ tab (answer_at a n s) k
  unfolding answers tab
  answers_tab zero s = refl
  answers_tab (suc k) s = answers_last k s ∙ ap (λ (l : List Answer). l ++ (answer_at a n s k ∷ [])) (answers_tab k s)

-- the player answers as the score's own oscillator does
heard_from_lem : (i : Inputs) (hz : ℕ) (t : Float) (n : ℕ)
    → heard_from i hz t n ≡ tab (answer_at (answer_by (controls_of i)) (next_by (controls_of i)) (player_from i hz t)) n
unfolding heard_from controls_of player_from
heard_from_lem (inputs.Vco i) hz t n =
    answers_tab _ _ n _ ∙ tab_ext _ _ n (λ k h. sym (answer_carried (vco_carries (player_from (inputs.Vco i) hz t) (vco_controls i)) _ k))
heard_from_lem (inputs.Lfo i) hz t n =
    answers_tab _ _ n _ ∙ tab_ext _ _ n (λ k h. sym (answer_carried (lfo_carries (player_from (inputs.Lfo i) hz t) (lfo_controls i)) _ k))
heard_from_lem (inputs.Supersaw i) hz t n =
    answers_tab _ _ n _ ∙ tab_ext _ _ n (λ k h. sym (answer_carried (supersaw_carries (player_from (inputs.Supersaw i) hz t) (supersaw_controls i)) _ k))
heard_from_lem (inputs.Formant i) hz t n =
    answers_tab _ _ n _ ∙ tab_ext _ _ n (λ k h. sym (answer_carried (formant_carries (player_from (inputs.Formant i) hz t) (formant_controls i)) _ k))

pub heard_tab : (s : Score) → heard_of s ≡ tab (heard_at s) s.head.frames
unfolding heard_of heard_at
heard_tab s = heard_from_lem s.inputs s.head.hz (threshold_of s.head.gate) s.head.frames

pub frames_heard : (s : Score) → length (heard_of s) ≡ s.head.frames
frames_heard s = ap length (heard_tab s) ∙ length_tab (heard_at s) s.head.frames

-- ---- each of them
module _ (P : Answer → Type 0) where
  every_last : (xs : List Answer) (a : Answer) → Every P xs → P a → Every P (xs ++ (a ∷ []))
  unfolding Every
  every_last [] a h p = (p, tt)
  every_last (x ∷ xs) a (q, h) p = (q, every_last xs a h p)

  every_tab : (f : ℕ → Answer) → ((i : ℕ) → P (f i)) → (n : ℕ) → Every P (tab f n)
  unfolding Every tab
  every_tab f h zero = tt
  every_tab f h (suc n) = every_last (tab f n) (f n) (every_tab f h n) (h n)

pub frames_accepted : FramesAccepted
frames_accepted s ok = subst (Every _) (sym (heard_tab s)) (every_tab _ (heard_at s) (heard_accepted s ok) s.head.frames)
