-- The frames of a score, numbered from 0 on, and where their playing stands.
use Rattle.std.specs.Prelude.{List, ℕ, ◌+◌, Float}
use Rattle.laws.specs.Lists.{tab}
use Rattle.answer.specs.Answer.{host_number, volts_of}
use Rattle.answer.specs.Block.{after_ticks, answer_at, ports_of, joined}
use Rattle.answer.specs.Tally.{tally_after}
use Rattle.answer.specs.declared.Answer.{Answer}
use Rattle.answer.specs.declared.Tally.{Tally}
use Rattle.score.specs.Keys.{owner_of}
use Rattle.score.specs.declared.Score.{Score}
use Rattle.frame.specs.Frame.{frame_text}
use Rattle.frame.specs.Frames.{ports_in}
use Rattle.player.specs.Player.{controls_of, player_of, answer_by, next_by}
use Rattle.player.specs.declared.Player.{Player}

-- what frame k answers
unfoldable pub heard_at : Score → ℕ → Answer
heard_at s k = let c = controls_of s.inputs in answer_at (answer_by c) (next_by c) (player_of s) k

-- the player before frame k, and the tally that was given the answers of the frames before it
unfoldable pub player_at : Score → ℕ → Player
player_at s k = after_ticks (next_by (controls_of s.inputs)) k (player_of s)

unfoldable pub tally_at : Score → ℕ → Tally
tally_at s k = tally_after (tab (heard_at s) k)

-- n frames from k on: their samples, marks and texts
unfoldable pub samples_from : Score → ℕ → ℕ → List Float
samples_from s k n = joined (λ (i : ℕ). ports_of (ports_in (owner_of s.inputs)) (volts_of (heard_at s (k + i)))) n

unfoldable pub marks_from : Score → ℕ → ℕ → List ℕ
marks_from s k n = tab (λ (i : ℕ). host_number (heard_at s (k + i))) n

unfoldable pub text_from : Score → ℕ → ℕ → List ℕ
text_from s k n = joined (λ (i : ℕ). frame_text (owner_of s.inputs) (k + i) (heard_at s (k + i))) n
