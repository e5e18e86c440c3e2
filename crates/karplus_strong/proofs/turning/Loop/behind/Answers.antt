use Rattle.karplus_strong.proofs.Ring.{back_near, back_round, back_oldest}
use Rattle.karplus_strong.proofs.turning.Loop.behind.Goals as goal

pub returns-then-delay-self : goal.returns-then-delay-self
returns-then-delay-self c = back_near _ _ _ c.args.self.in_line c.if-delay-self.true

pub returns-then-delay-self-2 : goal.returns-then-delay-self-2
returns-then-delay-self-2 c = back_round _ _ _ c.if-delay-self.false c.if-delay-self-2.true

pub returns-else-delay-self-2 : goal.returns-else-delay-self-2
returns-else-delay-self-2 c = back_oldest _ _ _ c.args.self.in_line c.if-delay-self-2.false
