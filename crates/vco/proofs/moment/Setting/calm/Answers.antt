use mathlib.Core.Path.{sym, ◌∙◌}
use borrow.Author.Rules.{rules}
use lib.Ieee.{binary64, fits}
use Rattle.laws.proofs.Tests.{of_true}
use Rattle.numeric.proofs.BasicLaws.{fabs_twice}
use Rattle.vco.proofs.CalmLaws.{quiet_of}
use Rattle.vco.proofs.moment.Setting.calm.Goals as goal
use Rattle.vco.proofs.moment.Setting.calm.Goals.{then-half-dt_abs, else-half-dt_abs, then-half-dt_abs-2, else-half-dt_abs-2}

pub returns-then-edge-dt_abs : goal.returns-then-edge-dt_abs
returns-then-edge-dt_abs c e =
    elim c.if-half-dt_abs-2.branch [
      | then-half-dt_abs-2 w ↦ elim c.if-half-dt_abs.branch [
        | then-half-dt_abs v ↦
            let p = of_true (fits binary64 c.args.now.phase.0) (search rules) in
            let near = simp (c.fabs-dt_abs.ensures, c.fabs-half.ensures) at v.if-half-dt_abs.true in
            let far = simp (c.fabs-dt_abs.ensures, c.fabs-half.ensures) at (sym v.value-is ∙ w.if-half-dt_abs-2.true) in
            let low = simp (c.fabs-dt_abs.ensures, c.pw_edge-edge.ensures) at (sym w.value-is ∙ c.if-edge-dt_abs.true) in
            let high = simp (c.fabs-dt_abs.ensures, c.pw_edge-edge.ensures) at e in
            quiet_of _ _ _ _ p (of_true _ (simp c.fabs-dt_abs.ensures at c.fabs-dt_abs.type_inv)) c.args.now.in_turn (fabs_twice c.args.self.dt.0)
            c.in-None.is near far low high
        | else-half-dt_abs v ↦ absurd (cc)
      ]
      | else-half-dt_abs-2 w ↦ absurd (cc)
    ]
