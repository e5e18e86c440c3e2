use mathlib.Core.Path.{sym, ◌∙◌}
use lib.Ieee.{binary64, fits}
use Rattle.laws.proofs.Tests.{of_true}
use Rattle.formant_osc.proofs.Still.{still_pitch}
use Rattle.formant_osc.proofs.Vibrato.pitch.Goals as goal

pub returns-then-is_still : goal.returns-then-is_still
returns-then-is_still c = let v = c.args.self.v_oct in
    sym
    (still_pitch v c.args.self.depth c.args.phase.0 (of_true (fits binary64 v.0) c.well_formed.0.1.1.0.1.1.0.1)
    (sym c.phase_ok.ensures ∙ c.if-phase_ok.true) (sym c.is_still.ensures ∙ c.if-is_still.true))
