use mathlib.Core.Path.{◌∙◌}
use lib.ListN.{set, length-set}
use Rattle.boundary.proofs.put_edge.Goals as goal

pub shape_of-part : goal.shape_of-part
shape_of-part c = let a = c.args in
    simp (c.put_float-2.ensures, c.put_float.ensures)
    (length-set (set a.part.now 0 a.e.prev) 1 a.e.threshold ∙ length-set a.part.now 0 a.e.prev)

pub returns : goal.returns
returns c = simp (c.put_float-2.ensures, c.put_float.ensures)
