-- `score_writer::put_vco`: a line after the other.
use mathlib.Core.List.{append_assoc, append-nil}
use Rattle.text.proofs.PageLaws.{page_then}
use Rattle.score_writer.proofs.put_vco.Goals as goal

pub returns : goal.returns
returns c = simp (
  c.put_control-5.ensures,
  c.put_control-4.ensures,
  c.put_control-3.ensures,
  c.put_control-2.ensures,
  c.put_control.ensures,
  page_then,
  append_assoc,
  append-nil,
)
