use mathlib.Core.List.{[], ◌∷◌}
use native.Mathlib.Omega.{arith}
use lib.ListN.{length-set}
use lib.Seq.{length-sets}
use Rattle.laws.proofs.Slices.{stored, byte}
use Rattle.boundary.proofs.Laws.{edge_put}
use Rattle.exports_karplus_strong.specs.State.{floats_of, wholes_of}
use Rattle.exports_karplus_strong.proofs.CellsLayout.store.Goals as goal

pub slice_bounds-put_edge-end : goal.slice_bounds-put_edge-end
slice_bounds-put_edge-end c = simp length-set (omega arith)

pub bounds-floats-6 : goal.bounds-floats-6
bounds-floats-6 c = let a = c.args in
    let e = edge_put a.floats.now _ 0 (a.s.sample_rate.0 ∷ a.s.lp_state ∷ a.s.ap_x1 ∷ a.s.ap_y1 ∷ []) a.s.trigger_edge (omega arith) c.put_edge.ensures in
    rw e (simp length-set (omega arith))

pub bounds-wholes-1 : goal.bounds-wholes-1
bounds-wholes-1 c = simp length-set (omega arith)

pub bounds-wholes-2 : goal.bounds-wholes-2
bounds-wholes-2 c = simp length-set (omega arith)

pub bounds-wholes-3 : goal.bounds-wholes-3
bounds-wholes-3 c = simp length-set (omega arith)

pub shape_of-floats : goal.shape_of-floats
unfolding floats_of
shape_of-floats c = let a = c.args in
    let e = edge_put a.floats.now _ 0 (a.s.sample_rate.0 ∷ a.s.lp_state ∷ a.s.ap_x1 ∷ a.s.ap_y1 ∷ []) a.s.trigger_edge (omega arith) c.put_edge.ensures in
    rw e (length-sets a.floats.now 0 (floats_of a.s))

pub returns : goal.returns
unfolding floats_of wholes_of
returns c = let a = c.args in
    let e = edge_put a.floats.now _ 0 (a.s.sample_rate.0 ∷ a.s.lp_state ∷ a.s.ap_x1 ∷ a.s.ap_y1 ∷ []) a.s.trigger_edge (omega arith) c.put_edge.ensures in
    (rw e (stored a.floats.now (floats_of a.s) c.requires.0), simp byte (stored a.wholes.now (wholes_of a.s) c.requires.1))
