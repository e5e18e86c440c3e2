use Rattle.lfo.proofs.Shared.{sin_shared, uni_shared}
use Rattle.lfo.specs.Lfo.{lfo_outputs_of}
use Rattle.lfo.specs.Waves.{shared_sine}
use Rattle.lfo.proofs.Setting.outputs.Goals as goal

pub returns : goal.returns
unfolding lfo_outputs_of shared_sine
returns c = simp (
  c.of.ensures,
  c.eoc.ensures,
  c.sin_uni.ensures,
  c.sqr.ensures,
  c.saw.ensures,
  c.tri.ensures,
  c.sin.ensures,
  c.shared_sine-sine.ensures,
  sin_shared,
  uni_shared,
)
