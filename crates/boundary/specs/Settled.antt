-- For each public function: any two answers that its contract allows are equal. The contract is the equation under Settles.
use Rattle.std.specs.Prelude.{List, ◌≡◌, ℕ, Float, length, Result}
use Rattle.std.proofs.lemmas.List.Edits.{sets}
use Rattle.answer.specs.declared.Played as answers
use Rattle.answer.specs.declared.Tally.{Tally}
use Rattle.answer.specs.declared.Ticked.{Ticked}
use Rattle.answer.specs.declared.Volts.{Volts}
use Rattle.common.specs.Refusal.{refused_number}
use Rattle.common.specs.declared.Refusal.{Refusal}
use Rattle.boundary.specs.Edge.{edge_at, edge_floats}
use Rattle.boundary.specs.Flat.{sizes_of, tick_sizes_of, tally_from, tally_sized, counts_outcome, counts_put}
use Rattle.boundary.specs.Flat.{state_sized, state_heard, state_played, Kept, kept_result, kept_sized, Heard, heard_of, heard_sized, Left, left_by, left_sized}
use Rattle.common.specs.declared.EdgeDetector.{EdgeDetector}
use Rattle.laws.specs.Machine.{Settles}

pub record Settled : Type 1 where
  pub sizes : (nf nw : ℕ) (f : List Float) (w : List ℕ) → Settles (λ (r : Result (Unit {0}) Refusal). refused_number r ≡ sizes_of nf nw (length f) (length w))
  pub tick_sizes : (nf nw ns : ℕ) (f : List Float) (w : List ℕ) (o : List Float)
      → Settles (λ (r : Result (Unit {0}) Refusal). refused_number r ≡ tick_sizes_of nf nw ns (length f) (length w) (length o))
  pub tally_of : (counts : List ℕ) → Settles (λ (r : Result Tally Refusal). r ≡ tally_from counts)
  pub block_tally : (nf nw : ℕ) (f : List Float) (w counts : List ℕ) → Settles (λ (r : Result Tally Refusal). r ≡ tally_sized nf nw f w counts)
  -- what it says, and the slice that it leaves
  pub put_counts : (t : Tally) (counts : List ℕ)
      → Settles (λ (a : Result (Unit {0}) Refusal × List ℕ). (a.0 ≡ counts_outcome counts) × (a.1 ≡ counts_put t counts))
  pub edge_of : (part : List Float) → Settles (λ (r : EdgeDetector). r ≡ edge_at part 0)
  pub put_edge : (e : EdgeDetector) (part : List Float) → Settles (λ (r : List Float). r ≡ sets part 0 (edge_floats e))
  -- ---- of any layout: how many floats, whole numbers and samples there are, what state they are, and what a state is in them
  pub state : {S : Type 0} (nf nw : ℕ) (state_of : List Float → List ℕ → S) (f : List Float) (w : List ℕ)
      → Settles (λ (r : Result S Refusal). r ≡ state_sized nf nw state_of f w)
  pub keep : {S : Type 0} (nf nw : ℕ) (floats_of : S → List Float) (wholes_of : S → List ℕ) (r : Result S Refusal) (f : List Float) (w : List ℕ)
      → Settles (λ (k : Kept). k ≡ kept_sized nf nw (kept_result floats_of wholes_of r f w) f w)
  pub tick_state : {S : Type 0} (nf nw ns : ℕ) (state_of : List Float → List ℕ → S) (f : List Float) (w : List ℕ) (o : List Float)
      → Settles (λ (r : Result S Refusal). r ≡ state_heard nf nw ns state_of f w o)
  pub hear : {S : Type 0} (nf nw ns : ℕ) (floats_of : S → List Float) (wholes_of : S → List ℕ) (samples_of : Volts → List Float) (t : Ticked S)
      (f : List Float) (w : List ℕ) (o : List Float)
      → Settles (λ (h : Heard). h ≡ heard_sized nf nw ns (heard_of floats_of wholes_of samples_of t.answer t.state f w o) f w o)
  pub block_state : {S : Type 0} (nf nw : ℕ) (state_of : List Float → List ℕ → S) (f : List Float) (w k : List ℕ)
      → Settles (λ (r : Result (answers.Played S) Refusal). r ≡ state_played nf nw state_of f w k)
  pub keep_block : {S : Type 0} (nf nw : ℕ) (floats_of : S → List Float) (wholes_of : S → List ℕ) (r : Result (answers.Played S) Refusal)
      (f : List Float) (w k : List ℕ)
      → Settles (λ (l : Left). l ≡ left_sized nf nw (left_by floats_of wholes_of r f w k) f w k)
