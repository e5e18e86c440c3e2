use Rattle.vco.specs.Vco.{vco_volts_of, vco_answer_of}
use Rattle.vco.proofs.moment.Setting.smoothed.Goals as goal

pub returns : goal.returns
unfolding vco_answer_of vco_volts_of
returns c = simp (
  c.mark.ensures,
  c.is_finite.ensures,
  c.of-volts.ensures,
  c.out-3.ensures,
  c.out-2.ensures,
  c.out.ensures,
  c.stepped-sqr.ensures,
  c.square.ensures,
  c.level-sqr_step.ensures,
  c.stepped-saw.ensures,
  c.saw.ensures,
  c.triangle-tri.ensures,
  c.polyblamp-2.ensures,
  c.corner_half.ensures,
  c.polyblamp.ensures,
  c.polyblep-fall.ensures,
  c.pw_edge.ensures,
  c.polyblep-wrap.ensures,
  c.fabs.ensures,
  c.requires,
)
