-- What is stored is read back, and each contract, being one equation, settles what it speaks of.
use mathlib.Core.Path.{◌≡◌, refl}
use lib.Ieee.{nan}
use Rattle.boundary.proofs.Flat.{flag}
use Rattle.exports_supersaw.specs.Promises.{ReadBack, Settled}
use Rattle.exports_supersaw.specs.State.{state_of, floats_of, wholes_of}
use Rattle.laws.proofs.Over.{by_cells}
use Rattle.laws.proofs.Settled as laws
use Rattle.laws.specs.Lists.{tab}
use Rattle.supersaw.specs.Voices.{at}

pub read_back : ReadBack
unfolding state_of floats_of wholes_of tab
read_back s h =
    let p : s.phases ≡ tab (at s.phases) 7 = by_cells nan (at s.phases) 7 s.phases h (λ i l. refl) in
    simp (flag, ← p)

pub settled : Settled
settled =
    record {
      new = λ rate f w. laws.settled _;
      tick = λ voct detune mix f w o. laws.settled _;
      block = λ voct detune mix f w k o m. laws.settled _;
      reset = λ f w. laws.settled _;
      set_sample_rate = λ rate f w. laws.settled _;
    }
