-- Every contract is one equation, and one equation settles an answer.
use Rattle.laws.proofs.Settled as laws
use Rattle.numeric.specs.Settled.{Settled}

pub settled : Settled
settled =
    record {
      is_finite = λ x. laws.settled _;
      fabs = λ x. laws.settled _;
      clamp = λ x y z. laws.settled _;
      min = λ x y. laws.settled _;
      max = λ x y. laws.settled _;
      least = λ a b. laws.settled _;
      to_u64 = λ x. laws.settled _;
      to_usize = λ x. laws.settled _;
      of_u64 = λ x. laws.settled _;
      bits = λ x. laws.settled _;
      of_bits = λ x. laws.settled _;
      floor = λ x. laws.settled _;
      draw = λ x. laws.settled _;
      bipolar = λ x. laws.settled _;
      exp2 = λ x. laws.settled _;
      pow3000 = λ x. laws.settled _;
      sin = λ x. laws.settled _;
      cos = λ x. laws.settled _;
    }
