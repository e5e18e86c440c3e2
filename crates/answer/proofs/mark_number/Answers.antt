use Rattle.answer.specs.Answer.{mark_number}
use Rattle.answer.proofs.mark_number.Goals as goal

pub returns-in-Cleared : goal.returns-in-Cleared
unfolding mark_number
returns-in-Cleared c = simp c.in-Cleared.is

pub returns-in-NotFinite : goal.returns-in-NotFinite
unfolding mark_number
returns-in-NotFinite c = simp c.in-NotFinite.is

pub returns-in-Lost : goal.returns-in-Lost
unfolding mark_number
returns-in-Lost c = simp c.in-Lost.is

pub returns-in-Clean : goal.returns-in-Clean
unfolding mark_number
returns-in-Clean c = simp c.in-Clean.is

pub returns-in-Steered : goal.returns-in-Steered
unfolding mark_number
returns-in-Steered c = simp c.in-Steered.is

pub returns-in-Refused : goal.returns-in-Refused
unfolding mark_number
returns-in-Refused c = simp c.in-Refused.is
