-- Each contract is one equation, so it settles its answer.
use Rattle.answer.proofs.Calls.{making_settled, changing_settled}
use Rattle.formant_osc.specs.Promises.{Settled}
use Rattle.laws.proofs.Settled as laws

pub settled : Settled
settled =
    record {
      new = λ r. making_settled _;
      tick = λ s c. laws.settled _;
      block = λ s c t o m. laws.settled _;
      reset = λ s. changing_settled s _;
      set_sample_rate = λ s r. changing_settled s _;
    }
