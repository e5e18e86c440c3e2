-- Theorems about scores: the statements. The proofs of the same names in small letters stand in proofs/.
use Rattle.std.specs.Prelude.{ℕ, ◌≤◌, ◌<◌, List, ◌++◌, ◌≡◌, negsuc, nat_abs, length, take, Option, Some, None, Ok, Err}
use Rattle.score.specs.Keys.{osc_key, name_of, hz_key, frames_key, owner_of}
use Rattle.score.specs.Refusal.{refusal_number}
use Rattle.score.specs.Score.{score_of}
use Rattle.score.specs.Text.{line_text, key_text, gate_text, inputs_text, text_of}
use Rattle.score.specs.declared.Control.{Control}
use Rattle.score.specs.declared.Control.TheVariants.{Microvolts, Nan}
use Rattle.score.specs.declared.Inputs.{Inputs}
use Rattle.score.specs.declared.Inputs.TheVariants.{Vco, Lfo, Supersaw, Formant}
use Rattle.score.specs.declared.Head.{Head}
use Rattle.score.specs.declared.Score.{Score}
use Rattle.score.specs.declared.Refusal.{Refusal}
use Rattle.score.specs.declared.Refusal.TheVariants.{TooLong}

-- ---- the scores of the scope: hz is 1000 to 192000, the gate's issue absent, 1 or 2, frames 1 to 480000, an input microvolts from
-- -10000000 to 10000000 or nan
abbrev pub ValidInput : Control → Type 0
ValidInput (Microvolts n) = nat_abs n ≤ 10000000
ValidInput Nan = Unit {0}

abbrev pub ValidInputs : Inputs → Type 0
ValidInputs (Vco i) = ValidInput i.voct × ValidInput i.fm × ValidInput i.pw × ValidInput i.sync × ValidInput i.fm_lin
ValidInputs (Lfo i) = ValidInput i.rate × ValidInput i.depth × ValidInput i.reset
ValidInputs (Supersaw i) = ValidInput i.voct × ValidInput i.detune × ValidInput i.mix
ValidInputs (Formant i) = ValidInput i.v_oct × ValidInput i.vowel × ValidInput i.formant_shift × ValidInput i.vibrato

abbrev pub ValidGate : Option ℕ → Type 0
ValidGate None = Unit {0}
ValidGate (Some n) = (1 ≤ n) × (n ≤ 2)

pub record ValidHead (h : Head) : Type 0 where
  pub hz_least : 1000 ≤ h.hz
  pub hz_most : h.hz ≤ 192000
  pub gate : ValidGate h.gate
  pub frames_least : 1 ≤ h.frames
  pub frames_most : h.frames ≤ 480000

pub record Valid (s : Score) : Type 0 where
  pub head : ValidHead s.head
  pub inputs : ValidInputs s.inputs

-- ---- the texts that are accepted are those of the valid scores, one text each
-- every valid score is read: its text reads as its values
abbrev pub ValidRead : Type 0
ValidRead = (s : Score) → Valid s → score_of (text_of s) ≡ Ok s

-- and only valid ones are
abbrev pub ReadValid : Type 0
ReadValid = (text : List ℕ) (s : Score) → score_of text ≡ Ok s → Valid s

-- and a text that is accepted is the text of its values, so no two texts have the same values
abbrev pub ScoreText : Type 0
ScoreText = (text : List ℕ) (score : Score) → score_of text ≡ Ok score → text_of score ≡ text

-- the gate's line stands between hz and frames and says nothing of the other values: the lines before and after it read as the same score but for
-- the gate, whether it is left out, says 1 or says 2
abbrev pub gated : Option ℕ → Score → Score
gated g s = record { head = record { hz = s.head.hz; gate = g; frames = s.head.frames }; inputs = s.inputs }

abbrev pub to_hz : Score → List ℕ
to_hz s = line_text osc_key (name_of (owner_of s.inputs)) ++ key_text hz_key s.head.hz

abbrev pub from_frames : Score → List ℕ
from_frames s = key_text frames_key s.head.frames ++ inputs_text s.inputs

abbrev pub GateLine : Type 0
GateLine = (s : Score) (g : Option ℕ) → Valid s → ValidGate g → score_of (to_hz s ++ (gate_text g ++ from_frames s)) ≡ Ok (gated g s)

-- no valid score's text has more than 117 bytes, and one has 117
abbrev pub longest : Score
longest =
    let low : Control = Microvolts (negsuc 9999999) in
    record {
      head = record { hz = 192000; gate = Some 2; frames = 480000 };
      inputs = Formant (record { v_oct = low; vowel = low; formant_shift = low; vibrato = low });
    }

abbrev pub LongestText : Type 0
LongestText = ((s : Score) → Valid s → length (text_of s) ≤ 117) × Valid longest × (length (text_of longest) ≡ 117)

-- ---- the others are refused by 20 to 23
abbrev pub Refusals : Type 0
Refusals = (text : List ℕ) (why : Refusal) → score_of text ≡ Err why → (20 ≤ refusal_number why) × (refusal_number why ≤ 23)

-- by 20 exactly those over 1,024 bytes
abbrev pub LongRefused : Type 0
LongRefused = (text : List ℕ) → (1024 < length text → score_of text ≡ Err TooLong) × (score_of text ≡ Err TooLong → 1024 < length text)

-- so of a longer text 1,025 bytes decide
abbrev pub EnoughRead : Type 0
EnoughRead = (text : List ℕ) → score_of (take 1025 text) ≡ score_of text
