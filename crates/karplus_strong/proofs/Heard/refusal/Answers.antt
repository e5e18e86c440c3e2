use Rattle.common.specs.Refusal.{refused_number}
use Rattle.karplus_strong.specs.Shortcuts.{strike_refusal_of}
use Rattle.karplus_strong.proofs.Heard.refusal.Goals as goal

pub returns-in-Some : goal.returns-in-Some
unfolding strike_refusal_of
returns-in-Some c = rw c.in-Some.is c.draws_refusal.ensures

pub returns-in-None : goal.returns-in-None
unfolding refused_number strike_refusal_of
returns-in-None c = rw c.in-None.is
