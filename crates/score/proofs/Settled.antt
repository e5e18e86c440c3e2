-- Every contract is one equation, and one equation settles an answer.
use Rattle.laws.proofs.Settled as laws
use Rattle.score.specs.Settled.{Settled}

pub settled : Settled
settled =
    record {
      volts = λ c. laws.settled _;
      number_in = λ c. laws.settled _;
      owner_of = λ i. laws.settled _;
      within = λ n least most. laws.settled _;
      control_of = λ n. laws.settled _;
      read = λ text. laws.settled _;
      name = λ o. laws.settled _;
      number = λ why. laws.settled _;
    }
