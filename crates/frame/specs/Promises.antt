-- Theorems about the texts: the statements. The proofs of the same names in small letters stand in proofs/.
use Rattle.std.specs.Prelude.{ℕ, ◌+◌, ◌≤◌, ◌<◌, Bool, true, List, ◌≡◌, Float, length}
use Rattle.laws.specs.Lists.{tab}
use Rattle.laws.specs.Machine.{Settles}
use Rattle.text.specs.Settled.{PutSettles}
use Rattle.text.specs.declared.Page.{Page}
use Rattle.answer.specs.Answer.{host_number, volts_of, accepted}
use Rattle.answer.specs.Block.{ports_of, joined}
use Rattle.answer.specs.declared.Answer.{Answer}
use Rattle.answer.specs.declared.Tally.{Tally}
use Rattle.score.specs.declared.Osc.{Osc}
use Rattle.frame.specs.Frame.{frame_text}
use Rattle.frame.specs.Frames.{ports_in, played_text}
use Rattle.frame.specs.End.{claimed_of, end_text, refused_text}

-- ---- what samples and marks tell of accepted ticks prints as their answers
abbrev pub ToldPrints : Type 0
ToldPrints = (o : Osc) (first n : ℕ) (f : ℕ → Answer) → ((i : ℕ) → i < n → accepted (f i) ≡ true) → first + n ≤ 4294967295
    → played_text o first (joined (λ (i : ℕ). ports_of (ports_in o) (volts_of (f i))) n) (tab (λ (i : ℕ). host_number (f i)) n)
    ≡ joined (λ (i : ℕ). frame_text o (first + i) (f i)) n

-- ---- how long a text can be; a u32 has at most 10 digits
abbrev pub Short : ℕ → Type 0
Short n = n < 10000000000

pub record ShortTally (t : Tally) : Type 0 where
  pub begun : Short t.begun
  pub finished : Short t.finished
  pub cleared : Short t.cleared
  pub notfinite : Short t.notfinite
  pub lost : Short t.lost
  pub steered : Short t.steered

abbrev pub FrameLength : Type 0
FrameLength = (o : Osc) (n : ℕ) (a : Answer) → Short n → length (frame_text o n a) ≤ 158

abbrev pub EndLength : Type 0
EndLength = (frames : ℕ) (t : Tally) → ShortTally t → length (end_text frames t) ≤ 124

abbrev pub RefusedLength : Type 0
RefusedLength = (n : ℕ) → Short n → length (refused_text n) ≤ 19

-- ---- claimed is yes exactly when finished = begun = frames
pub record ClaimedWhen (frames : ℕ) (t : Tally) : Type 0 where
  pub only : claimed_of frames t ≡ true → (t.finished ≡ t.begun) × (t.begun ≡ frames)
  pub always : t.finished ≡ t.begun → t.begun ≡ frames → claimed_of frames t ≡ true

abbrev pub ClaimedSays : Type 0
ClaimedSays = (frames : ℕ) (t : Tally) → ClaimedWhen frames t

-- ---- each contract settles its answer and the page
pub record Settled : Type 0 where
  pub ports_of : (o : Osc) → Settles (λ (n : ℕ). n ≡ ports_in o)
  pub put_frames : (p : Page) (o : Osc) (first : ℕ) (samples : List Float) (marks : List ℕ) → PutSettles p (played_text o first samples marks)
  pub put_frame : (p : Page) (o : Osc) (n : ℕ) (a : Answer) → PutSettles p (frame_text o n a)
  pub put_end : (p : Page) (frames : ℕ) (t : Tally) → PutSettles p (end_text frames t)
  pub put_refused : (p : Page) (n : ℕ) → PutSettles p (refused_text n)
  pub claimed : (frames : ℕ) (t : Tally) → Settles (λ (b : Bool). b ≡ claimed_of frames t)
