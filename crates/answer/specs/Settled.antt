-- For each public function: any two answers that its contract allows are equal. The contract is the equation under Settles.
use Rattle.std.specs.Prelude.{◌≡◌, Bool, List, ℕ, ◌*◌, eqb, Float, length, set, Result}
use Rattle.laws.specs.Machine.{Settles}
use Rattle.common.specs.Refusal.{refused_number}
use Rattle.common.specs.declared.Refusal.{Refusal}
use Rattle.answer.specs.Answer.{volts_from, mark_number, host_number, accepted, answer_of}
use Rattle.answer.specs.Answer as answers
use Rattle.answer.specs.Block.{room_for, marks_taken, framed, block_refusal_of}
use Rattle.answer.specs.Mark.{all_numbers, marked_of, mark_of}
use Rattle.answer.specs.Tally.{new_tally, tally_of}
use Rattle.answer.specs.Calls.{refused_tick, making, changing}
use Rattle.answer.specs.declared.Made.{Made}
use Rattle.answer.specs.declared.Ticked.{Ticked}
use Rattle.answer.specs.declared.Volts.{Volts}
use Rattle.answer.specs.declared.Answer.{Answer}
use Rattle.answer.specs.declared.Tally.{Tally}

pub record Settled : Type 1 where
  pub volts_of : (ports : List Float) → Settles (λ (r : Volts). r ≡ volts_from ports)
  pub ticked_refused : {S : Type 0} (s : S) (why : Refusal) → Settles (λ (r : Ticked S). r ≡ refused_tick s why)
  pub made_accepted : {S : Type 0} (m : Made S) → Settles (λ (r : Result S Refusal). changing m.state r ≡ making m)
  pub mark_number : (a : Answer) → Settles (λ (r : ℕ). r ≡ mark_number a)
  pub is_accepted : (a : Answer) → Settles (λ (r : Bool). r ≡ accepted a)
  pub host_number : (a : Answer) → Settles (λ (r : ℕ). r ≡ host_number a)
  pub numbers : (controls : List Float) → Settles (λ (r : Bool). r ≡ all_numbers controls)
  pub marked : (v : Volts) (zeroed finite phases numbers : Bool) → Settles (λ (r : Answer). r ≡ marked_of v zeroed finite phases numbers)
  pub mark : (v : Volts) (zeroed sums phases numbers : Bool) → Settles (λ (r : Answer). r ≡ mark_of v zeroed sums phases numbers)
  pub tally_new : Settles (λ (r : Tally). r ≡ new_tally)
  pub tally_take : (t : Tally) (a : Answer) → Settles (λ (r : Result Tally Refusal). r ≡ tally_of t a)
  pub answer_of : (number : ℕ) (v : Volts) → Settles (λ (r : Answer). r ≡ answer_of number v)
  pub samples : (a : Answer) → Settles (λ (r : Volts). r ≡ answers.volts_of a)
  pub tally_has_room : (t : Tally) (n : ℕ) → Settles (λ (r : Bool). r ≡ room_for t n)
  pub tally_take_marks : (t : Tally) (marks : List ℕ) → Settles (λ (r : Result Tally Refusal). r ≡ marks_taken t marks)
  pub block_refusal : (ports samples number : ℕ) (t : Tally) (n : ℕ) → Settles (λ (r : ℕ). r ≡ block_refusal_of (eqb samples (ports * n)) number t n)
  pub block_outcome : (ports samples : ℕ) (first : Result (Unit {0}) Refusal) (t : Tally) (n : ℕ)
      → Settles (λ (r : Result (Unit {0}) Refusal). refused_number r ≡ block_refusal_of (eqb samples (ports * n)) (refused_number first) t n)
  -- the samples and the marks that it leaves
  pub put : (a : Answer) (ports i : ℕ) (samples : List Float) (marks : List ℕ)
      → Settles (λ (r : List Float × List ℕ). (r.0 ≡ framed ports (length marks) i (answers.volts_of a) samples) × (r.1 ≡ set marks i (answers.host_number a)))
