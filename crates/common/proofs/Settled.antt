-- Every contract is one equation, and one equation settles an answer.
use Rattle.laws.proofs.Settled as laws
use Rattle.common.proofs.RefusalLaws.{refusal_settled}
use Rattle.common.specs.Settled.{Settled}

pub settled : Settled
settled =
    record {
      voct_to_hz = λ v. laws.settled _;
      wrap_phase = λ x. laws.settled _;
      wrap_of_several = λ x. laws.settled _;
      polyblep = λ t dt. laws.settled _;
      polyblamp = λ t dt. laws.settled _;
      increment = λ freq rate. laws.settled _;
      restart = λ phase rising. laws.settled _;
      key3 = λ x y z. laws.settled _;
      memo_new = λ k v. laws.settled _;
      memo_hits = λ same m k. laws.settled _;
      memo_filled = λ k v. laws.settled _;
      memo_voct_to_hz = λ m v. laws.settled _;
      edge_new = λ t. laws.settled _;
      edge_rising = λ e v. laws.settled _;
      edge_rising_above = λ e v t. laws.settled _;
      edge_rising_frac = λ e v. laws.settled _;
      edge_rising_frac_above = λ e v t. laws.settled _;
      edge_reset = λ e. laws.settled _;
      out = λ want x. laws.settled _;
      rate_ok = λ r. laws.settled _;
      phase_ok = λ p. laws.settled _;
      threshold_ok = λ t. laws.settled _;
      gated_refusal = λ r p t. refusal_settled _;
      draws_refusal = λ n draws. refusal_settled _;
      refusal_number = λ e. laws.settled _;
    }
