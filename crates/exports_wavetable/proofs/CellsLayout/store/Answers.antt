use mathlib.Core.List.{[], ◌∷◌}
use native.Mathlib.Omega.{arith}
use lib.ListN.{length-set}
use lib.Seq.{length-sets}
use Rattle.laws.proofs.Slices.{stored, byte}
use Rattle.boundary.proofs.Laws.{edge_put}
use Rattle.wavetable.specs.Wavetable.{edge_of}
use Rattle.exports_wavetable.specs.State.{floats_of, wholes_of}
use Rattle.exports_wavetable.proofs.CellsLayout.store.Goals as goal

pub slice_bounds-put_edge-end : goal.slice_bounds-put_edge-end
slice_bounds-put_edge-end c = simp length-set (omega arith)

pub bounds-floats-4 : goal.bounds-floats-4
bounds-floats-4 c = let a = c.args in
    let e = edge_put a.floats.now _ 0 (a.s.phase.0 ∷ a.s.sample_rate.0 ∷ []) (edge_of a.s) (omega arith) c.put_edge.ensures in
    rw e (simp length-set (omega arith))

pub bounds-wholes-1 : goal.bounds-wholes-1
bounds-wholes-1 c = simp length-set (omega arith)

pub shape_of-floats : goal.shape_of-floats
unfolding floats_of
shape_of-floats c = let a = c.args in
    let e = edge_put a.floats.now _ 0 (a.s.phase.0 ∷ a.s.sample_rate.0 ∷ []) (edge_of a.s) (omega arith) c.put_edge.ensures in
    rw e (length-sets a.floats.now 0 (floats_of a.s))

pub returns : goal.returns
unfolding floats_of wholes_of
returns c = let a = c.args in
    let e = edge_put a.floats.now _ 0 (a.s.phase.0 ∷ a.s.sample_rate.0 ∷ []) (edge_of a.s) (omega arith) c.put_edge.ensures in
    (rw e (stored a.floats.now (floats_of a.s) c.requires.0), simp byte (stored a.wholes.now (wholes_of a.s) c.requires.1))
