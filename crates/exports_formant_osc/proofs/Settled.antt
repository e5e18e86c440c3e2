-- What is stored is read back, and each contract, being one equation, settles what it speaks of.
use Rattle.boundary.proofs.Flat.{flag}
use Rattle.exports_formant_osc.proofs.Stores.{whole}
use Rattle.exports_formant_osc.specs.Promises.{ReadBack, Settled}
use Rattle.exports_formant_osc.specs.State.{state_of, floats_of, wholes_of}
use Rattle.laws.proofs.Settled as laws
use Rattle.laws.specs.Lists.{tab}

pub read_back : ReadBack
unfolding state_of floats_of wholes_of tab
read_back s h k =
    let p = whole s.resonator_state 10 h in
    let q = whole s.coef_memo.val 15 k in
    simp (flag, p, q)

pub settled : Settled
settled =
    record {
      new = λ rate f w. laws.settled _;
      tick = λ v_oct vowel shift vibrato f w o. laws.settled _;
      block = λ v_oct vowel shift vibrato f w k o m. laws.settled _;
      reset = λ f w. laws.settled _;
      set_sample_rate = λ rate f w. laws.settled _;
    }
