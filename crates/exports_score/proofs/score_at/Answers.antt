-- `score_at`: hz, frames and the issue are asked first.
use mathlib.Core.Path.{ap, ◌∙◌}
use Rattle.std.specs.Prelude.{Ok}
use Rattle.score.proofs.Steps.{stopped}
use Rattle.exports_score.specs.Cells.{gate_at, score_at}
use Rattle.exports_score.specs.Shortcuts.{held_at}
use Rattle.exports_score.proofs.Cells.{u32_is}
use Rattle.exports_score.proofs.score_at.Goals as goal

pub returns-in_err-hz : goal.returns-in_err-hz
unfolding held_at
returns-in_err-hz c = rw (stopped _ c.from_residual.ensures.1) (simp (← c.in_err-hz.ensures))

pub returns-in_err-frames : goal.returns-in_err-frames
unfolding held_at
returns-in_err-frames c = rw (stopped _ c.from_residual-in_err-frames.ensures.1) (simp (← c.in_ok-hz.ensures, ← c.in_err-frames.ensures))

pub returns-in_err-issue : goal.returns-in_err-issue
unfolding held_at
returns-in_err-issue c = rw (stopped _ c.from_residual-in_err-issue.ensures.1)
    (simp (← c.in_ok-hz.ensures, ← c.in_ok-frames.ensures, ← c.in_err-issue.ensures))

pub returns-in_err-osc : goal.returns-in_err-osc
unfolding held_at score_at
returns-in_err-osc c = rw (stopped _ c.from_residual-in_err-osc.ensures.1)
    (simp (← c.in_ok-hz.ensures, ← c.in_ok-frames.ensures, ← c.in_ok-issue.ensures, ← c.in_err-osc.ensures))

pub returns-in_err-inputs : goal.returns-in_err-inputs
unfolding held_at score_at
returns-in_err-inputs c = rw (stopped _ c.from_residual-in_err-inputs.ensures.1) (simp (
  ← c.in_ok-hz.ensures,
  ← c.in_ok-frames.ensures,
  ← c.in_ok-issue.ensures,
  ← c.in_ok-osc.ensures,
  ← c.in_err-inputs.ensures,
))

pub returns : goal.returns
unfolding held_at score_at
returns c = let hz = u32_is _ _ c.in_ok-hz.ensures in
    let frames = u32_is _ _ c.in_ok-frames.ensures in
    let gate = c.gate_at.ensures ∙ ap gate_at (u32_is _ _ c.in_ok-issue.ensures) in
    simp (
      ← c.in_ok-hz.ensures,
      ← c.in_ok-frames.ensures,
      ← c.in_ok-issue.ensures,
      ← c.in_ok-osc.ensures,
      ← c.in_ok-inputs.ensures,
    ) (λ i. Ok (record { head = record { hz = hz i; gate = gate i; frames = frames i }; inputs = c.in_ok-inputs.inputs }))
