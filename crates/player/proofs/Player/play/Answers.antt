-- `Player::play`: the block of the oscillator that the controls are for, or what refused it.
use Rattle.std.proofs.lemmas.Result.{err_from_is_err_and}
use Rattle.answer.specs.Block.{block_said}
use Rattle.player.proofs.Carried.{chosen, vco_played, lfo_played, supersaw_played, formant_played}
use Rattle.player.proofs.Player.play.Goals as goal

pub returns-in_ok-played-in-Vco : goal.returns-in_ok-played-in-Vco
unfolding block_said
returns-in_ok-played-in-Vco c = chosen _ _ _ _ _ _ c.in-Vco.is (vco_played c.args.self _ _ _ _ _ _ _ _ _ c.in_ok-played-in-Vco.ensures)

pub returns-in_err-played-in-Vco : goal.returns-in_err-played-in-Vco
unfolding block_said
returns-in_err-played-in-Vco c =
    let p = err_from_is_err_and c.from_residual.result c.from_residual.ensures.1 in
    rw (p.1, p.2) (chosen _ _ _ _ _ _ c.in-Vco.is (vco_played c.args.self _ _ _ _ _ _ _ _ _ c.in_err-played-in-Vco.ensures))

pub returns-in_ok-played-in-Lfo : goal.returns-in_ok-played-in-Lfo
unfolding block_said
returns-in_ok-played-in-Lfo c = chosen _ _ _ _ _ _ c.in-Lfo.is (lfo_played c.args.self _ _ _ _ _ _ _ _ _ c.in_ok-played-in-Lfo.ensures)

pub returns-in_err-played-in-Lfo : goal.returns-in_err-played-in-Lfo
unfolding block_said
returns-in_err-played-in-Lfo c =
    let p = err_from_is_err_and c.from_residual-in_err-played-in-Lfo.result c.from_residual-in_err-played-in-Lfo.ensures.1 in
    rw (p.1, p.2) (chosen _ _ _ _ _ _ c.in-Lfo.is (lfo_played c.args.self _ _ _ _ _ _ _ _ _ c.in_err-played-in-Lfo.ensures))

pub returns-in_ok-played-in-Supersaw : goal.returns-in_ok-played-in-Supersaw
unfolding block_said
returns-in_ok-played-in-Supersaw c = chosen _ _ _ _ _ _ c.in-Supersaw.is (supersaw_played c.args.self _ _ _ _ _ _ _ _ _ c.in_ok-played-in-Supersaw.ensures)

pub returns-in_err-played-in-Supersaw : goal.returns-in_err-played-in-Supersaw
unfolding block_said
returns-in_err-played-in-Supersaw c =
    let p = err_from_is_err_and c.from_residual-in_err-played-in-Supersaw.result c.from_residual-in_err-played-in-Supersaw.ensures.1 in
    rw (p.1, p.2) (chosen _ _ _ _ _ _ c.in-Supersaw.is (supersaw_played c.args.self _ _ _ _ _ _ _ _ _ c.in_err-played-in-Supersaw.ensures))

pub returns-in_ok-played-in-Formant : goal.returns-in_ok-played-in-Formant
unfolding block_said
returns-in_ok-played-in-Formant c = chosen _ _ _ _ _ _ c.in-Formant.is (formant_played c.args.self _ _ _ _ _ _ _ _ _ c.in_ok-played-in-Formant.ensures)

pub returns-in_err-played-in-Formant : goal.returns-in_err-played-in-Formant
unfolding block_said
returns-in_err-played-in-Formant c =
    let p = err_from_is_err_and c.from_residual-in_err-played-in-Formant.result c.from_residual-in_err-played-in-Formant.ensures.1 in
    rw (p.1, p.2) (chosen _ _ _ _ _ _ c.in-Formant.is (formant_played c.args.self _ _ _ _ _ _ _ _ _ c.in_err-played-in-Formant.ensures))
