use mathlib.Core.Bool.{true≢false}
use mathlib.Core.Path.{sym, ◌∙◌}
use borrow.Author.Tests.{ne_eqb, eq-eqb}
use Rattle.lfo.specs.Waves.{sine_of, shared_sine}
use Rattle.lfo.proofs.Setting.shared_sine.Goals as goal
use Rattle.lfo.proofs.Setting.shared_sine.Goals.{then-self-ne0, else-self-ne0}

pub returns-then-shared : goal.returns-then-shared
unfolding shared_sine sine_of
returns-then-shared c =
    elim c.if-self-ne0.branch [
      | then-self-ne0 w ↦ simp (c.sin.ensures, ne_eqb _ _ w.if-self-ne0.true)
      | else-self-ne0 w ↦ simp (c.sin.ensures, eq-eqb _ _ w.if-self-ne0.false, sym w.shared-is ∙ c.if-shared.true)
    ]

pub returns-else-shared : goal.returns-else-shared
unfolding shared_sine
returns-else-shared c =
    elim c.if-self-ne0.branch [
      | then-self-ne0 w ↦ absurd (true≢false (simp (ne_eqb _ _ w.if-self-ne0.true) at (sym w.shared-is ∙ c.if-shared.false)))
      | else-self-ne0 w ↦ simp (eq-eqb _ _ w.if-self-ne0.false, sym w.shared-is ∙ c.if-shared.false)
    ]
