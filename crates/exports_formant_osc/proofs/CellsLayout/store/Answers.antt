use Rattle.std.proofs.Common.{rules, ◌≡◌, length}
use Rattle.laws.proofs.Slices.{stored, byte}
use Rattle.exports_formant_osc.proofs.Stores.{all_stored}
use Rattle.exports_formant_osc.specs.State.{wholes_of}
use Rattle.exports_formant_osc.proofs.CellsLayout.store.Goals as goal

pub returns : goal.returns
unfolding wholes_of
returns c = let a = c.args in
    let cells : length a.s.resonator_state ≡ 10 = search rules in
    let coefs : length a.s.coef_memo.val ≡ 15 = search rules in (
      all_stored a.s a.floats.now _ _ c.requires.0 cells coefs c.store_cells.ensures c.store_cells-2.ensures,
      simp byte (stored a.wholes.now (wholes_of a.s) c.requires.1),
    )
