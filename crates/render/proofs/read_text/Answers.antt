-- `read_text`: each turn has more bytes than the last, all within the room.
use native.Mathlib.Omega.{arith}
use Rattle.render.proofs.Taking.{on_reaches, stop_within, text_within}
use Rattle.render.proofs.read_text.Goals as goal

pub loop-n-smaller : goal.loop-n-smaller
loop-n-smaller g c =
    let (more, within) = on_reaches _ _ _ _ c.read_on.ensures c.in-Continue.is in
    omega arith

pub loop-n-preserved : goal.loop-n-preserved
loop-n-preserved g c = (on_reaches _ _ _ _ c.read_on.ensures c.in-Continue.is).1

pub returns-in-Break : goal.returns-in-Break
returns-in-Break g c = stop_within _ _ _ _ c.read_on.ensures c.in-Break.is

pub returns : goal.returns
returns g c = text_within _ _ c.loop-n.invariant
