-- What is stored is read back, and each contract, being one equation, settles what it speaks of.
use Rattle.boundary.proofs.Flat.{flag}
use Rattle.laws.proofs.Settled as laws
use Rattle.exports_karplus_strong.specs.Promises.{ReadBack, Settled}
use Rattle.exports_karplus_strong.specs.State.{state_of, floats_of, wholes_of}

pub read_back : ReadBack
unfolding state_of floats_of wholes_of
read_back s = simp flag

pub settled : Settled
settled =
    record {
      cells = λ rate. laws.settled _;
      new = λ rate threshold f w l. laws.settled _;
      tick = λ voct trigger damping brightness stretch f w l draws o. laws.settled _;
      block = λ voct trigger damping brightness stretch f w l draws k o m. laws.settled _;
      reset = λ f w l. laws.settled _;
      set_sample_rate = λ rate f w l. laws.settled _;
    }
