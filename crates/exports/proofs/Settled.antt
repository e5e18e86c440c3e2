-- Each contract, being equations, settles what it speaks of.
use Rattle.laws.proofs.Settled as laws
use Rattle.exports.specs.Settled.{Settled}

pub settled : Settled
settled =
    record {
      is_finite = λ x. laws.settled _;
      fabs = λ x. laws.settled _;
      clamp = λ x lo hi. laws.settled _;
      min = λ a b. laws.settled _;
      max = λ a b. laws.settled _;
      to_u64 = λ x. laws.settled _;
      of_u64 = λ n. laws.settled _;
      bits = λ x. laws.settled _;
      of_bits = λ b. laws.settled _;
      floor = λ x. laws.settled _;
      draw = λ k. laws.settled _;
      bipolar = λ k. laws.settled _;
      exp2 = λ x. laws.settled _;
      pow3000 = λ r. laws.settled _;
      sin = λ x. laws.settled _;
      cos = λ x. laws.settled _;
      voct_to_hz = λ voct. laws.settled _;
      wrap_phase = λ x. laws.settled _;
      wrap_turned = λ x. laws.settled _;
      polyblep = λ t dt. laws.settled _;
      polyblamp = λ t dt. laws.settled _;
      tally_take = λ code counts. laws.settled _;
    }
