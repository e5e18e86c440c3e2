use mathlib.Core.Path.{◌≡◌}
use lib.ListN.{length}
use Rattle.laws.proofs.Slices.{stored}
use Rattle.exports_noise_generator.proofs.Slices.{state_stored}
use Rattle.exports_noise_generator.specs.State.{floats_of, wholes_of}
use borrow.Author.Rules.{rules}
use Rattle.exports_noise_generator.proofs.CellsLayout.store.Goals as goal

pub returns : goal.returns
unfolding floats_of wholes_of
returns c = let a = c.args in
    let h1 : length a.s.pink.rows ≡ 16 = search (rules, c.well_formed.0.1.1.0) in
    let e2 = c.put_rows-2.ensures in
    let h2 : length a.s.pink2.rows ≡ 16 = search (rules, c.well_formed.0.1.1.1.0) in (
      state_stored a.floats.now _ _ a.s.pink.rows a.s.pink2.rows _ _ _ _ c.requires.0 h1 h2 c.put_rows.ensures e2,
      stored a.wholes.now (wholes_of a.s) c.requires.1,
    )
