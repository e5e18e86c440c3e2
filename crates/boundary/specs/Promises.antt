-- Theorems about flat states: the statements. The proofs of the same names in small letters stand in proofs/.
use Rattle.std.specs.Prelude.{List, [], ◌∷◌, ◌++◌, ◌≡◌, Float, length, Ok}
use Rattle.answer.specs.declared.Tally.{Tally}
use Rattle.boundary.specs.Edge.{n_edge, edge_floats, edge_at}
use Rattle.boundary.specs.Flat.{tally_from, counts_of}
use Rattle.common.specs.declared.EdgeDetector.{EdgeDetector}

-- the counts hold the whole tally
abbrev pub CountsBack : Type 0
CountsBack = (t : Tally) → tally_from (counts_of t) ≡ Ok t

-- and an edge record's floats the whole record, wherever they stand
abbrev pub EdgeBack : Type 0
EdgeBack = (e : EdgeDetector) (before after : List Float) → edge_at (before ++ (edge_floats e ++ after)) (length before) ≡ e

-- in this order
abbrev pub EdgeOrder : Type 0
EdgeOrder = (e : EdgeDetector) → edge_floats e ≡ e.prev ∷ e.threshold ∷ []

abbrev pub EdgeSize : Type 0
EdgeSize = (e : EdgeDetector) → length (edge_floats e) ≡ n_edge
