-- Each contract, being one equation, settles what it speaks of.
use Rattle.laws.proofs.Settled as laws
use Rattle.exports_score.specs.Promises.{Settled}

pub settled : Settled
settled = record { read = λ text f w. laws.settled _; values = λ text m w. laws.settled _; write = λ m w t l. laws.settled _ }
