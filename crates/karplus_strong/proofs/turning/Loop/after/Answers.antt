use Rattle.karplus_strong.proofs.Ring.{next_place, first_place}
use Rattle.karplus_strong.proofs.turning.Loop.after.Goals as goal

pub returns-then-next-self : goal.returns-then-next-self
returns-then-next-self c = next_place _ _ c.if-next-self.true

pub returns-else-next-self : goal.returns-else-next-self
returns-else-next-self c = first_place _ _ c.args.self.in_line c.if-next-self.false
