use Rattle.formant_osc.proofs.Held.{driven}
use Rattle.formant_osc.proofs.drive.Goals as goal

pub returns : goal.returns
returns c = let a = c.args in
    let sway = c.sway-swayed.ensures in
    let pulse = c.pulse.ensures in
    let said = driven a.vibrato.v_oct a.vibrato.depth a.sample_rate a.start _ _ c.requires.2 _ sway.samples_after _ _ _ _ sway.value pulse.value
    pulse.samples_after pulse.marks_after in
    record { value = said.0; samples_after = said.1.0; marks_after = said.1.1 }
