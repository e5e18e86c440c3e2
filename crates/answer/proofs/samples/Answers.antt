use Rattle.answer.specs.Answer.{volts_of}
use Rattle.answer.proofs.samples.Goals as goal

pub returns-in-Cleared : goal.returns-in-Cleared
unfolding volts_of
returns-in-Cleared c = simp c.in-Cleared.is

pub returns-in-NotFinite : goal.returns-in-NotFinite
unfolding volts_of
returns-in-NotFinite c = simp c.in-NotFinite.is

pub returns-in-Lost : goal.returns-in-Lost
unfolding volts_of
returns-in-Lost c = simp c.in-Lost.is

pub returns-in-Clean : goal.returns-in-Clean
unfolding volts_of
returns-in-Clean c = simp c.in-Clean.is

pub returns-in-Steered : goal.returns-in-Steered
unfolding volts_of
returns-in-Steered c = simp c.in-Steered.is

pub returns-in-Refused : goal.returns-in-Refused
unfolding volts_of
returns-in-Refused c = simp (c.of.ensures, c.in-Refused.is)
