use Rattle.vco.proofs.CalmLaws.{quiet_answer}
use Rattle.vco.proofs.moment.Setting.heard.Goals as goal

pub returns-then-calm : goal.returns-then-calm
returns-then-calm c = let quiet = c.calm.ensures c.if-calm.true in
    let a = c.args in
    simp (c.marked.ensures, c.plain-volts.ensures)
    (quiet_answer a.now.at a.now.phase.0 a.now.p_old.0 a.self.pw a.self.dt.0 a.self.wanted a.self.numbers a.now.in_turn quiet)
