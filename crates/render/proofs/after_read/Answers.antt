-- `after_read`: each test is one of the definition's.
use Rattle.render.proofs.Taking.{step_failed, step_ended, step_on}
use Rattle.render.proofs.after_read.Goals as goal

pub returns-then-more-eq0 : goal.returns-then-more-eq0
returns-then-more-eq0 c = step_ended _ _ _ _ _ c.in-Ok.is c.min-more.ensures c.if-more-eq0.true

pub returns-else-more-eq0 : goal.returns-else-more-eq0
returns-else-more-eq0 c = step_on _ _ _ _ _ c.in-Ok.is c.min-more.ensures c.if-more-eq0.false

pub returns-in-Err : goal.returns-in-Err
returns-in-Err c = step_failed _ _ _ _ c.in-Err.is
