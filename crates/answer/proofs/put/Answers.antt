use Rattle.answer.proofs.put.Goals as goal

pub returns : goal.returns
returns c = record { samples_after = simp (c.put_frame.ensures, c.samples.ensures); marks_after = simp (c.put_mark.ensures, c.host_number.ensures) }
