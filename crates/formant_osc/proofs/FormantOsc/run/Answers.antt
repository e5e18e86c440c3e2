use Rattle.formant_osc.proofs.Held.{accepts, heard_again, ran}
use Rattle.formant_osc.proofs.FormantOsc.run.Goals as goal

pub drive-end-requires : goal.drive-end-requires
drive-end-requires c = let r = c.requires in
    ((accepts _ r.0).2, heard_again c.args.self _ _ _ c.freqs.ensures c.vibrato.ensures, r.2)

pub returns : goal.returns
returns c = let a = c.args in
    let driven = c.drive-end.ensures in
    let voiced = c.voice.ensures in
    let said = ran a.self a.c _ _ _ _ _ _ _ _ _ _ _ c.requires.0 c.requires.1 c.are_numbers-numbers.ensures c.vibrato.ensures c.freqs.ensures
    c.coefs-coef_memo.ensures driven.value driven.samples_after driven.marks_after voiced.value voiced.samples_after voiced.marks_after in
    record { value = said.0; samples_after = said.1.0; marks_after = said.1.1 }
