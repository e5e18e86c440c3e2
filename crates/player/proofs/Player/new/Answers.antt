-- `Player::new`: the fields of a score's player.
use mathlib.Core.Path.{ap, ◌∙◌}
use Rattle.answer.specs.Calls.{Outcome}
use Rattle.vco.specs.declared.Vco.{Vco}
use Rattle.lfo.specs.declared.Lfo.{Lfo}
use Rattle.supersaw.specs.declared.Supersaw.{Supersaw}
use Rattle.formant_osc.specs.declared.FormantOsc.{FormantOsc}
use Rattle.player.proofs.New.{vco_new, lfo_new, supersaw_new, formant_new}
use Rattle.player.specs.Player.{player_from}
use Rattle.player.proofs.Player.new.Goals as goal

pub returns : goal.returns
unfolding player_from
returns c =
    simp (
      ap (λ (m : Outcome Vco). m.state) c.new.ensures ∙ vco_new _ _,
      ap (λ (m : Outcome Lfo). m.state) c.new-2.ensures ∙ lfo_new _ _,
      ap (λ (m : Outcome Supersaw). m.state) c.new-3.ensures ∙ supersaw_new _,
      ap (λ (m : Outcome FormantOsc). m.state) c.new-4.ensures ∙ formant_new _,
      c.rate_of-rate.ensures,
      c.threshold_of-threshold.ensures,
      c.from.ensures,
    )
