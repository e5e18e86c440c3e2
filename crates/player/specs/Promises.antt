-- Theorems about playing a score: the statements. The proofs of the same names in small letters stand in proofs/.
use Rattle.std.specs.Prelude.{ℕ, ◌+◌, ◌*◌, ◌≤◌, Bool, true, false, List, [], ◌∷◌, ◌++◌, ◌≡◌, Float, length, Option, Some, None, Ok}
use Rattle.std.specs.Float.{binary64}
use Rattle.std.specs.Float.Ieee.{of_bits}
use Rattle.laws.specs.Machine.{Settles}
use Rattle.answer.specs.Answer.{mark_number, accepted, clean}
use Rattle.answer.specs.Block.{Block, block}
use Rattle.answer.specs.Promises.{CountsAll}
use Rattle.answer.specs.Tally.{tally_after}
use Rattle.answer.specs.declared.Answer.{Answer}
use Rattle.answer.specs.declared.Tally.{Tally}
use Rattle.common.specs.Edge.{new_edge}
use Rattle.common.specs.Tests.{rate_ok}
use Rattle.line.specs.Bytes.{ascii}
use Rattle.score.specs.Score.{score_of}
use Rattle.score.specs.Promises.{Valid, gated}
use Rattle.score.specs.Keys.{owner_of}
use Rattle.score.specs.declared.Control.{Control}
use Rattle.score.specs.declared.Control.TheVariants.{Microvolts, Nan}
use Rattle.score.specs.declared.FormantInputs.{FormantInputs}
use Rattle.score.specs.declared.Inputs.{Inputs}
use Rattle.score.specs.declared.Inputs.TheVariants as inputs
use Rattle.score.specs.declared.Score.{Score}
use Rattle.score.specs.declared.SupersawInputs.{SupersawInputs}
use Rattle.frame.specs.End.{claimed_of, end_text}
use Rattle.frame.specs.Frames.{ports_in, played_text}
use Rattle.player.specs.Begin.{rate_of, threshold_of}
use Rattle.player.specs.Frames.{player_at, tally_at, samples_from, marks_from, text_from}
use Rattle.player.specs.Play.{heard_of, play_of, render_of}
use Rattle.player.specs.Player.{controls_of, player_of, played_of}
use Rattle.player.specs.declared.Controls.{Controls}
use Rattle.player.specs.declared.Player.{Player}

-- ---- the frames in pieces are all frames
abbrev pub Pieces : Type 0
Pieces = (s : Score) (k j n : ℕ) → text_from s k (j + n) ≡ text_from s k j ++ text_from s (k + j) n

-- and all frames, with the end, are what is printed of the score
abbrev pub Plays : Type 0
Plays = (s : Score) → text_from s 0 s.head.frames ++ end_text s.head.frames (tally_at s s.head.frames) ≡ play_of s

-- ---- how long a piece can be; a frame's number has at most 10 digits
abbrev pub PieceLength : Type 0
PieceLength = (s : Score) (k n : ℕ) → k + n ≤ 10000000000 → length (text_from s k n) ≤ 158 * n

-- ---- the rate of a valid score, as each one that is read is, is a good one
abbrev pub ValidRate : Type 0
ValidRate = (s : Score) → Valid s → rate_ok (rate_of s.head.hz) ≡ true

-- ---- no frame at a good rate is refused
unfoldable pub Every : (Answer → Type 0) → List Answer → Type 0
Every P [] = Unit {0}
Every P (a ∷ xs) = P a × Every P xs

abbrev pub Accepted : Answer → Type 0
Accepted a = accepted a ≡ true

abbrev pub FramesAccepted : Type 0
FramesAccepted = (s : Score) → rate_ok (rate_of s.head.hz) ≡ true → Every Accepted (heard_of s)

-- ---- a render is claimed exactly when every frame is clean
abbrev pub Clean : Answer → Type 0
Clean a = mark_number a ≡ clean

abbrev pub claims : Score → Bool
claims s = claimed_of s.head.frames (tally_after (heard_of s))

pub record ClaimedWhenClean (s : Score) : Type 0 where
  pub only : claims s ≡ true → Every Clean (heard_of s)
  pub always : Every Clean (heard_of s) → claims s ≡ true

abbrev pub ClaimedClean : Type 0
ClaimedClean = (s : Score) → s.head.frames ≤ 4294967295 → ClaimedWhenClean s

-- ---- and it never is with an input that is nan, whichever it is: a NaN control is told in the first frame already
abbrev pub inputs_in : Inputs → List Control
inputs_in (inputs.Vco i) = i.voct ∷ i.fm ∷ i.pw ∷ i.sync ∷ i.fm_lin ∷ []
inputs_in (inputs.Lfo i) = i.rate ∷ i.depth ∷ i.reset ∷ []
inputs_in (inputs.Supersaw i) = i.voct ∷ i.detune ∷ i.mix ∷ []
inputs_in (inputs.Formant i) = i.v_oct ∷ i.vowel ∷ i.formant_shift ∷ i.vibrato ∷ []

unfoldable pub some_nan : List Control → Bool
some_nan [] = false
some_nan (Microvolts n ∷ xs) = some_nan xs
some_nan (Nan ∷ xs) = true

abbrev pub NanUnclaimed : Type 0
NanUnclaimed = (s : Score) → 1 ≤ s.head.frames → s.head.frames ≤ 4294967295 → some_nan (inputs_in s.inputs) ≡ true → claims s ≡ false

-- ---- so of a score that is read: a tick for each frame, all of them accepted and all begun, each counted by its mark
pub record Rendered (s : Score) : Type 0 where
  pub frames : length (heard_of s) ≡ s.head.frames
  pub accepts : Every Accepted (heard_of s)
  pub counts : CountsAll (heard_of s)
  pub begun : (tally_after (heard_of s)).begun ≡ s.head.frames
  pub claimed : ClaimedWhenClean s
  pub with_nan : some_nan (inputs_in s.inputs) ≡ true → claims s ≡ false

abbrev pub ReadRenders : Type 0
ReadRenders = (text : List ℕ) (s : Score) → score_of text ≡ Ok s → Rendered s

-- ---- and none of its frames is refused, played from any frame on, so many at a time: what is played is what the scope has
abbrev pub PlaysOn : Type 0
PlaysOn = (text : List ℕ) (s : Score) → score_of text ≡ Ok s → (k n : ℕ) → k + n ≤ s.head.frames
    → (o : List Float) (m : List ℕ) → length m ≡ n → length o ≡ ports_in (owner_of s.inputs) * n
    → played_of (player_at s k) (tally_at s k) o m ≡ block 0 (player_at s (k + n)) (tally_at s (k + n)) (samples_from s k n) (marks_from s k n)

-- and so is what is printed of it
abbrev pub PrintsOn : Type 0
PrintsOn = (text : List ℕ) (s : Score) → score_of text ≡ Ok s → (k n : ℕ) → k + n ≤ s.head.frames
    → played_text (owner_of s.inputs) k (samples_from s k n) (marks_from s k n) ≡ text_from s k n

-- ---- the gate's line
-- 2.5 V in issue 1 and without a line, 1.0 V in issue 2
pub record Issues : Type 0 where
  pub absent : threshold_of None ≡ of_bits binary64 0x4004000000000000
  pub first : threshold_of (Some 1) ≡ of_bits binary64 0x4004000000000000
  pub second : threshold_of (Some 2) ≡ of_bits binary64 0x3ff0000000000000

-- both oscillators that have a gate are new ones of that threshold
pub record MadeWith (s : Score) : Type 0 where
  pub vco : (player_of s).vco.sync_edge ≡ new_edge (threshold_of s.head.gate)
  pub lfo : (player_of s).lfo.reset_edge ≡ new_edge (threshold_of s.head.gate)

abbrev pub GateHeld : Type 0
GateHeld = (s : Score) → MadeWith s

-- so a score without the line plays as one of issue 1
abbrev pub GateAbsent : Type 0
GateAbsent = (s : Score) → play_of (gated None s) ≡ play_of (gated (Some 1) s)

-- and where the oscillator has no gate, the line does nothing
pub record GateIdle : Type 0 where
  pub supersaw : (s : Score) (g h : Option ℕ) (i : SupersawInputs) → s.inputs ≡ inputs.Supersaw i → play_of (gated g s) ≡ play_of (gated h s)
  pub formant : (s : Score) (g h : Option ℕ) (i : FormantInputs) → s.inputs ≡ inputs.Formant i → play_of (gated g s) ≡ play_of (gated h s)

-- ---- each contract settles its answer and the lent buffers
pub record Settled : Type 0 where
  pub from : (i : Inputs) → Settles (λ (c : Controls). c ≡ controls_of i)
  pub new : (s : Score) → Settles (λ (p : Player). p ≡ player_of s)
  pub play : (p : Player) (t : Tally) (o : List Float) (m : List ℕ) → Settles (λ (b : Block Player). b ≡ played_of p t o m)

-- ---- the scope's example
abbrev pub Worked : Type 0
Worked =
    render_of (ascii "osc=vco\nhz=48000\nframes=1\nvoct=0\nfm=0\npw=500000\nsync=0\nfm_lin=-5000000\n")
    ≡ ascii "n=0\nmark=clean\nsin=0000000000000000\ntri=C014000000000000\nsaw=C014000000000000\nsqr=4014000000000000\n"
    ++ ascii "begun=1\nfinished=1\ncleared=0\nnotfinite=0\nlost=0\nsteered=0\nclaimed=yes\n"
