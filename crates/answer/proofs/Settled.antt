-- Every contract is one equation, or two of which each settles its part.
use Rattle.laws.proofs.Settled as laws
use Rattle.common.proofs.RefusalLaws.{refusal_settled}
use Rattle.answer.proofs.Calls.{changing_settled}
use Rattle.answer.specs.Settled.{Settled}

pub settled : Settled
settled =
    record {
      volts_of = λ ports. laws.settled _;
      ticked_refused = λ s why. laws.settled _;
      made_accepted = λ m. changing_settled m.state _;
      mark_number = λ a. laws.settled _;
      is_accepted = λ a. laws.settled _;
      host_number = λ a. laws.settled _;
      numbers = λ controls. laws.settled _;
      marked = λ v zeroed finite phases numbers. laws.settled _;
      mark = λ v zeroed sums phases numbers. laws.settled _;
      tally_new = laws.settled _;
      tally_take = λ t a. laws.settled _;
      answer_of = λ number v. laws.settled _;
      samples = λ a. laws.settled _;
      tally_has_room = λ t n. laws.settled _;
      tally_take_marks = λ t marks. laws.settled _;
      block_refusal = λ ports samples number t n. laws.settled _;
      block_outcome = λ ports samples first t n. refusal_settled _;
      put = λ a ports i samples marks. laws.both _ _;
    }
