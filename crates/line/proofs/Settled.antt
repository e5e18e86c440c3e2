-- Every contract is one equation, and one equation settles an answer.
use Rattle.laws.proofs.Settled as laws
use Rattle.line.specs.Settled.{Settled}

pub settled : Settled
settled =
    record {
      same = λ a b. laws.settled _;
      reader_is_line = λ r key. laws.settled _;
      reader_value = λ r. laws.settled _;
      reader_next = λ r. laws.settled _;
      number_of = λ v. laws.settled _;
    }
