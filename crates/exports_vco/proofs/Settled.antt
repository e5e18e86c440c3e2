-- What is stored is read back, and each contract, being one equation, settles what it speaks of.
use Rattle.boundary.proofs.Flat.{flag}
use Rattle.exports_vco.specs.Promises.{ReadBack, Settled}
use Rattle.exports_vco.specs.State.{state_of, floats_of, wholes_of}
use Rattle.laws.proofs.Settled as laws

pub read_back : ReadBack
unfolding state_of floats_of wholes_of
read_back s = simp flag

pub settled : Settled
settled =
    record {
      new = λ rate threshold f w. laws.settled _;
      tick = λ c wanted f w o. laws.settled _;
      block = λ c wanted f w k o m. laws.settled _;
      reset = λ f w. laws.settled _;
      set_sample_rate = λ rate f w. laws.settled _;
    }
