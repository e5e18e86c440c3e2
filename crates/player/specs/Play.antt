-- What `render` prints of a score, written from the scope, "The score and its program": each frame is one tick of a new
-- oscillator with the same inputs and all outputs wanted; the tally is given each answer.
use Rattle.std.specs.Prelude.{ℕ, zero, suc, List, [], ◌∷◌, ◌++◌, Float, Result, Ok, Err}
use Rattle.answer.specs.Tally.{tally_after}
use Rattle.answer.specs.declared.Answer.{Answer}
use Rattle.score.specs.declared.Osc.{Osc}
use Rattle.score.specs.declared.Inputs.{Inputs}
use Rattle.score.specs.declared.Inputs.TheVariants.{Vco, Lfo, Supersaw, Formant}
use Rattle.score.specs.Score.{score_of}
use Rattle.score.specs.Keys.{owner_of}
use Rattle.score.specs.declared.Score.{Score}
use Rattle.score.specs.Refusal.{refusal_number}
use Rattle.score.specs.declared.Refusal.{Refusal}
use Rattle.vco.specs.Vco.{new_vco, vco_tick_of}
use Rattle.lfo.specs.Lfo.{new_lfo, lfo_tick_of}
use Rattle.supersaw.specs.Supersaw.{new_supersaw, supersaw_tick_of}
use Rattle.formant_osc.specs.FormantOsc.{new_formant_osc, formant_osc_tick_of}
use Rattle.frame.specs.Frame.{frame_text}
use Rattle.frame.specs.End.{end_text, refused_text}
use Rattle.player.specs.Begin.{vco_all, lfo_all, rate_of, threshold_of, vco_controls, lfo_controls, supersaw_controls, formant_controls}

-- what n ticks answer, from a state on; the state after a tick is `next`
unfoldable pub answers : {S : Type 0} → (S → Answer) → (S → S) → ℕ → S → List Answer
answers answer next zero s = []
answers answer next (suc n) s = answer s ∷ answers answer next n (next s)

-- n ticks of a new oscillator of this rate and threshold, which not every one has
unfoldable pub heard_from : Inputs → ℕ → Float → ℕ → List Answer
heard_from (Vco i) hz t n =
    let c = vco_controls i in
    answers (λ s. (vco_tick_of s c vco_all).answer) (λ s. (vco_tick_of s c vco_all).state) n (new_vco (rate_of hz) t)
heard_from (Lfo i) hz t n =
    let c = lfo_controls i in
    answers (λ s. (lfo_tick_of s c lfo_all).answer) (λ s. (lfo_tick_of s c lfo_all).state) n (new_lfo (rate_of hz) t)
heard_from (Supersaw i) hz t n =
    let c = supersaw_controls i in
    answers (λ s. (supersaw_tick_of s c).answer) (λ s. (supersaw_tick_of s c).state) n (new_supersaw (rate_of hz))
heard_from (Formant i) hz t n =
    let c = formant_controls i in
    answers (λ s. (formant_osc_tick_of s c).answer) (λ s. (formant_osc_tick_of s c).state) n (new_formant_osc (rate_of hz))

unfoldable pub heard_of : Score → List Answer
heard_of s = heard_from s.inputs s.head.hz (threshold_of s.head.gate) s.head.frames

-- the texts of the frames from n on
unfoldable pub frames_text : Osc → ℕ → List Answer → List ℕ
frames_text o n [] = []
frames_text o n (a ∷ xs) = frame_text o n a ++ frames_text o (suc n) xs

-- the frames, and what comes once at the end, by the counts of a new tally that is given each answer
unfoldable pub play_of : Score → List ℕ
play_of s = frames_text (owner_of s.inputs) 0 (heard_of s) ++ end_text s.head.frames (tally_after (heard_of s))

-- what it prints of a text: the score that it reads as, or the refusal
abbrev pub printed_of : Result Score Refusal → List ℕ
printed_of (Ok s) = play_of s
printed_of (Err why) = refused_text (refusal_number why)

unfoldable pub render_of : List ℕ → List ℕ
render_of text = printed_of (score_of text)
