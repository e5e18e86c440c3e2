-- `score_writer::check_controls` meets its contract: those passed are taken, so what is left decides. Assumes nothing.
use mathlib.Core.Path.{◌≡◌}
use lib.ListN.{drop}
use Rattle.score_writer.specs.Writing.{controls_refusal}
use Rattle.score_writer.proofs.check_controls.Given as goal

abbrev pub invariant-loop-c : goal.invariant-loop-c
invariant-loop-c l = controls_refusal l.controls ≡ controls_refusal (drop l.c-index l.controls)
