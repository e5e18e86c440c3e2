use mathlib.Core.Path.{refl}
use borrow.Author.Tests.{eq-eqb, ne_eqb}
use Rattle.std.proofs.lemmas.Result.{err_from_is_err_and}
use Rattle.common.proofs.RefusalLaws.{passed, stopped}
use Rattle.common.specs.Refusal.{number_of, refused_number}
use Rattle.boundary.specs.Flat.{tick_sizes_of}
use Rattle.boundary.proofs.tick_sizes.Goals as goal

pub returns-in_err-sizes : goal.returns-in_err-sizes
unfolding tick_sizes_of refused_number
returns-in_err-sizes c =
    let p = err_from_is_err_and c.from_residual.result c.from_residual.ensures.1 in
    rw (p.1, p.2) (stopped c.in_err-sizes.field-0.0 _ _ c.in_err-sizes.ensures refl _ (λ k. k))

pub returns-then-samples-ns : goal.returns-then-samples-ns
unfolding tick_sizes_of refused_number
returns-then-samples-ns c = simp (eq-eqb _ _ c.if-samples-ns.true) (passed _ c.in_ok-sizes.ensures _ _)

pub returns-else-samples-ns : goal.returns-else-samples-ns
unfolding tick_sizes_of refused_number number_of
returns-else-samples-ns c = simp (ne_eqb _ _ c.if-samples-ns.false) (passed _ c.in_ok-sizes.ensures _ _)
