use mathlib.Core.Path.{refl, sym, ap, ◌∙◌}
use Prim.Native.Nat.{◌-◌}
use native.Mathlib.Nat.{le_trans, le_of_eq}
use native.Mathlib.Omega.{arith}
use lib.ListN.{length-set}
use Rattle.wavetable.proofs.Cells.{series_cell, right_more}
use Rattle.wavetable.proofs.Counts.{terms_anti, terms_most}
use Rattle.wavetable.specs.Bank.{sum_of}
use Rattle.wavetable.specs.Shortcuts.{series_number}
use Rattle.wavetable.proofs.bank.Series.column.Goals as goal

pub loop-level-init : goal.loop-level-init
unfolding sum_of
loop-level-init c = record { size = c.told-part; fewer = λ l h. omega arith; sum = refl; right = c.requires.2 }

pub extend-sum-requires : goal.extend-sum-requires
extend-sum-requires c = let s = c.loop-level.invariant in
    let e = c.terms-n.ensures in (
      le_trans (s.fewer (c.loop-level.level - 1) (omega arith)) (le_of_eq (sym e)),
      le_trans (le_of_eq e) (terms_most (series_number c.args.self) (c.loop-level.level - 1)),
      s.sum,
      c.requires.1,
    )

pub loop-level-preserved : goal.loop-level-preserved
loop-level-preserved c = let s = c.loop-level.invariant in
    let e = c.terms-n.ensures in
    let t = series_number c.args.self in record {
      size = simp length-set s.size;
      fewer = λ l h. le_trans (le_of_eq e) (terms_anti t l (c.loop-level.level - 1) (omega arith));
      sum = c.extend-sum.ensures;
      right = right_more t c.args.i (c.loop-level.level - 1) c.loop-level.level c.loop-level.part _ (omega arith) s.size c.requires.0
          (omega arith)
          (series_cell c.args.self _ _ _ _ (c.extend-sum.ensures ∙ ap (λ x. sum_of t x c.args.i) e) c.scale-by.ensures) s.right;
    }
