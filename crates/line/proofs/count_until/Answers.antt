-- `line::count_until` meets its contract. Assumes nothing.
use Rattle.line.proofs.Laws.{until_found}
use Rattle.line.proofs.count_until.Goals as goal

pub returns : goal.returns
returns c = until_found c.args.byte c.args.t.now c.place_of.ensures c.unwrap_or.ensures
