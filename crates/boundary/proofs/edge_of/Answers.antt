use Rattle.boundary.proofs.edge_of.Goals as goal

pub returns : goal.returns
returns c = simp (c.float_at-2.ensures, c.float_at.ensures)
