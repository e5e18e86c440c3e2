-- Every contract is one equation, or two of which each settles its part.
use Rattle.laws.proofs.Settled as laws
use Rattle.common.proofs.RefusalLaws.{refusal_settled}
use Rattle.boundary.specs.Settled.{Settled}

pub settled : Settled
settled =
    record {
      sizes = λ nf nw f w. refusal_settled _;
      tick_sizes = λ nf nw ns f w o. refusal_settled _;
      tally_of = λ counts. laws.settled _;
      block_tally = λ nf nw f w counts. laws.settled _;
      put_counts = λ t counts. laws.both _ _;
      edge_of = λ part. laws.settled _;
      put_edge = λ e part. laws.settled _;
      state = λ nf nw state_of f w. laws.settled _;
      keep = λ nf nw floats_of wholes_of r f w. laws.settled _;
      tick_state = λ nf nw ns state_of f w o. laws.settled _;
      hear = λ nf nw ns floats_of wholes_of samples_of t f w o. laws.settled _;
      block_state = λ nf nw state_of f w k. laws.settled _;
      keep_block = λ nf nw floats_of wholes_of r f w k. laws.settled _;
    }
