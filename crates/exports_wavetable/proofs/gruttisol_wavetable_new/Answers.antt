use mathlib.Core.Path.{ap, ◌∙◌}
use Rattle.boundary.proofs.Lent.{kept_changing}
use Rattle.boundary.specs.Flat.{kept_sized}
use Rattle.exports_wavetable.specs.Calls.{wavetable_new_at}
use Rattle.exports_wavetable.specs.State.{n_floats, n_wholes, floats_of, wholes_of}
use Rattle.exports_wavetable.proofs.gruttisol_wavetable_new.Goals as goal

pub returns : goal.returns
unfolding wavetable_new_at
returns c = let f = c.args.floats.now in
    let w = c.args.wholes.now in
    c.keep.ensures
    ∙ ap (λ k. kept_sized n_floats n_wholes k f w)
    (kept_changing floats_of wholes_of f w _ _ _ (c.accepted.ensures ∙ c.new-made.ensures))
