-- `frame::put_frames`: after i turns the texts of i frames are put.
use mathlib.Core.Path.{◌≡◌}
use Rattle.text.specs.Page.{with_text}
use Rattle.frame.specs.Frames.{told_texts}
use Rattle.frame.proofs.put_frames.Given as goal

abbrev pub invariant-loop-i : goal.invariant-loop-i
invariant-loop-i l = l.page ≡ with_text l.fn.page (told_texts l.osc l.first l.samples l.marks l.i)
