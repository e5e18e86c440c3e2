-- Each contract, being two equations, settles what it speaks of.
use Rattle.laws.proofs.Settled as laws
use Rattle.score_writer.specs.Settled.{Settled}

pub settled : Settled
settled = record { write = λ s out. laws.both _ _ }
