use mathlib.Core.Path.{sym, ap}
use Rattle.std.specs.Prelude.{Ok}
use Rattle.std.proofs.lemmas.Result.{err_from_is_err_and}
use Rattle.boundary.proofs.Flat.{block_sized, then_ok, then_err}
use Rattle.boundary.specs.Flat.{state_played}
use Rattle.boundary.proofs.block_state.Goals as goal

pub returns-in_err-tally : goal.returns-in_err-tally
unfolding state_played
returns-in_err-tally g c =
    let p = err_from_is_err_and c.from_residual.result c.from_residual.ensures.1 in
    rw (p.1, p.2) (then_err _ _ _ (sym (simp (c.FLOATS.ensures, c.WHOLES.ensures) at c.in_err-tally.ensures)))

pub state-requires : goal.state-requires
state-requires g c =
    let s = block_sized _ _ _ _ _ c.in_ok-tally.tally (sym (simp (c.FLOATS.ensures, c.WHOLES.ensures) at c.in_ok-tally.ensures)) in (s.0, s.1)

pub returns : goal.returns
unfolding state_played
returns g c =
    then_ok _ _ _ _ (sym (simp (c.FLOATS.ensures, c.WHOLES.ensures) at c.in_ok-tally.ensures))
    (ap (λ s. Ok (record { state = s; tally = c.in_ok-tally.tally })) c.state.ensures)
