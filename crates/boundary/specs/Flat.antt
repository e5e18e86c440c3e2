-- What an exported call leaves: the number that it answers, and what stands in the lent slices. `floats_of` and `wholes_of` are the
-- floats and the whole numbers of an oscillator's state, nf and nw how many it has; `samples_of` are its samples, ns how many.
use Rattle.std.specs.Prelude.{cond, List, [], ◌∷◌, ℕ, eqb, Float, length, get_or, Result, Ok, Err}
use Rattle.common.specs.Refusal.{number_of}
use Rattle.answer.specs.Calls.{Outcome}
use Rattle.answer.specs.Answer.{host_number, volts_of, accepted}
use Rattle.answer.specs.Block.{Block}
use Rattle.answer.specs.declared.Volts.{Volts}
use Rattle.answer.specs.declared.Answer.{Answer}
use Rattle.answer.specs.declared.Played as answers
use Rattle.answer.specs.declared.Tally.{Tally}
use Rattle.common.specs.declared.Refusal.{Refusal}
use Rattle.common.specs.declared.Refusal.TheVariants as refusal

-- ---- lengths
-- 0, or what refuses the lengths of floats and wholes
unfoldable pub sizes_of : ℕ → ℕ → ℕ → ℕ → ℕ
sizes_of nf nw f w = cond (eqb f nf) (cond (eqb w nw) 0 51) 50

-- and that of samples after them
unfoldable pub tick_sizes_of : ℕ → ℕ → ℕ → ℕ → ℕ → ℕ → ℕ
tick_sizes_of nf nw ns f w o = let n = sizes_of nf nw f w in cond (eqb n 0) (cond (eqb o ns) 0 52) n

-- ---- a call without samples
pub record Kept : Type 0 where
  pub code : ℕ
  pub floats : List Float
  pub wholes : List ℕ

abbrev pub kept : ℕ → List Float → List ℕ → Kept
kept n f w = record { code = n; floats = f; wholes = w }

-- 0 and the new state, or what refused it
unfoldable pub kept_by : {S : Type 0} → (S → List Float) → (S → List ℕ) → Outcome S → List Float → List ℕ → Kept
kept_by floats_of wholes_of x f w = cond (eqb x.refused 0) (kept 0 (floats_of x.state) (wholes_of x.state)) (kept x.refused f w)

-- the same of a state that is left, or of what refused it
unfoldable pub kept_result : {S : Type 0} → (S → List Float) → (S → List ℕ) → Result S Refusal → List Float → List ℕ → Kept
kept_result floats_of wholes_of (Ok s) f w = kept 0 (floats_of s) (wholes_of s)
kept_result floats_of wholes_of (Err e) f w = kept (number_of e) f w

-- x, unless the lengths refuse
unfoldable pub fitting : {T : Type 0} → ℕ → ℕ → List Float → List ℕ → Result T Refusal → Result T Refusal
fitting nf nw f w x = cond (eqb (length f) nf) (cond (eqb (length w) nw) x (Err refusal.Wholes)) (Err refusal.Floats)

-- the state that floats and wholes hold
abbrev pub state_sized : {S : Type 0} → ℕ → ℕ → (List Float → List ℕ → S) → List Float → List ℕ → Result S Refusal
state_sized nf nw state_of f w = fitting nf nw f w (Ok (state_of f w))

-- what a state gives, or what refused it
unfoldable pub after_state : {S T : Type 0} → Result S Refusal → (S → Result T Refusal) → Result T Refusal
after_state (Ok s) then = then s
after_state (Err e) then = Err e

-- k, unless the lengths refuse
unfoldable pub kept_sized : ℕ → ℕ → Kept → List Float → List ℕ → Kept
kept_sized nf nw k f w = let n = sizes_of nf nw (length f) (length w) in cond (eqb n 0) k (kept n f w)

-- ---- a tick, with its samples
pub record Heard : Type 0 where
  pub code : ℕ
  pub floats : List Float
  pub wholes : List ℕ
  pub samples : List Float

abbrev pub heard : ℕ → List Float → List ℕ → List Float → Heard
heard n f w o = record { code = n; floats = f; wholes = w; samples = o }

-- the number of its answer; the state and the samples only of an accepted tick
unfoldable pub heard_of : {S : Type 0} → (S → List Float) → (S → List ℕ) → (Volts → List Float) → Answer → S → List Float → List ℕ → List Float
    → Heard
heard_of floats_of wholes_of samples_of a s f w o =
    cond (accepted a) (heard (host_number a) (floats_of s) (wholes_of s) (samples_of (volts_of a))) (heard (host_number a) f w o)

unfoldable pub heard_sized : ℕ → ℕ → ℕ → Heard → List Float → List ℕ → List Float → Heard
heard_sized nf nw ns h f w o = let n = tick_sizes_of nf nw ns (length f) (length w) (length o) in cond (eqb n 0) h (heard n f w o)

-- the state that a tick begins with, unless the lengths refuse
unfoldable pub state_heard : {S : Type 0} → ℕ → ℕ → ℕ → (List Float → List ℕ → S) → List Float → List ℕ → List Float → Result S Refusal
state_heard nf nw ns state_of f w o = after_state (state_sized nf nw state_of f w) (λ s. cond (eqb (length o) ns) (Ok s) (Err refusal.Samples))

-- ---- a tally as counts: begun, finished, cleared, notfinite, lost, steered. Any other number of counts is refused by 53.
abbrev pub n_counts : ℕ
n_counts = 6

unfoldable pub tally_from : List ℕ → Result Tally Refusal
tally_from l =
    let t : Tally =
    record { begun = get_or l 0 0; finished = get_or l 1 0; cleared = get_or l 2 0; notfinite = get_or l 3 0; lost = get_or l 4 0; steered = get_or l 5 0 } in
    cond (eqb (length l) n_counts) (Ok t) (Err refusal.Counts)

-- after the lengths of floats and wholes
abbrev pub tally_sized : ℕ → ℕ → List Float → List ℕ → List ℕ → Result Tally Refusal
tally_sized nf nw f w k = fitting nf nw f w (tally_from k)

unfoldable pub counts_of : Tally → List ℕ
counts_of t = t.begun ∷ t.finished ∷ t.cleared ∷ t.notfinite ∷ t.lost ∷ t.steered ∷ []

-- what putting them says of itself, and what it leaves
unfoldable pub counts_outcome : List ℕ → Result (Unit {0}) Refusal
counts_outcome l = cond (eqb (length l) n_counts) (Ok tt) (Err refusal.Counts)

unfoldable pub counts_put : Tally → List ℕ → List ℕ
counts_put t l = cond (eqb (length l) n_counts) (counts_of t) l

-- ---- a block
pub record Played : Type 0 where
  pub code : ℕ
  pub floats : List Float
  pub wholes : List ℕ
  pub counts : List ℕ
  pub samples : List Float
  pub marks : List ℕ

abbrev pub played : ℕ → List Float → List ℕ → List ℕ → List Float → List ℕ → Played
played n f w k o m = record { code = n; floats = f; wholes = w; counts = k; samples = o; marks = m }

-- 0, the state and the counts after it, or what refused it
unfoldable pub played_of : {S : Type 0} → (S → List Float) → (S → List ℕ) → Block S → List Float → List ℕ → List ℕ → Played
played_of floats_of wholes_of b f w k =
    cond (eqb b.refused 0)
    (played 0 (floats_of b.state) (wholes_of b.state) (counts_of b.tally) b.samples b.marks)
    (played b.refused f w k b.samples b.marks)

-- the state and the tally that a block begins with, unless lengths or counts refuse
unfoldable pub state_played : {S : Type 0} → ℕ → ℕ → (List Float → List ℕ → S) → List Float → List ℕ → List ℕ → Result (answers.Played S) Refusal
state_played nf nw state_of f w k = after_state (tally_sized nf nw f w k) (λ t. Ok (record { state = state_of f w; tally = t }))

-- what a block leaves beside its samples and marks
pub record Left : Type 0 where
  pub code : ℕ
  pub floats : List Float
  pub wholes : List ℕ
  pub counts : List ℕ

abbrev pub left : ℕ → List Float → List ℕ → List ℕ → Left
left n f w k = record { code = n; floats = f; wholes = w; counts = k }

-- 0, the state and the counts, or what refused the block
unfoldable pub left_by : {S : Type 0} → (S → List Float) → (S → List ℕ) → Result (answers.Played S) Refusal → List Float → List ℕ → List ℕ → Left
left_by floats_of wholes_of (Ok p) f w k = left 0 (floats_of p.state) (wholes_of p.state) (counts_of p.tally)
left_by floats_of wholes_of (Err e) f w k = left (number_of e) f w k

unfoldable pub left_from : Result Tally Refusal → Left → List Float → List ℕ → List ℕ → Left
left_from (Ok t) l f w k = l
left_from (Err e) l f w k = left (number_of e) f w k

-- l, unless lengths or counts refuse
unfoldable pub left_sized : ℕ → ℕ → Left → List Float → List ℕ → List ℕ → Left
left_sized nf nw l f w k = left_from (tally_sized nf nw f w k) l f w k

-- p of the tally that the counts are, unless lengths or counts refuse
unfoldable pub played_from : Result Tally Refusal → (Tally → Played) → List Float → List ℕ → List ℕ → List Float → List ℕ → Played
played_from (Ok t) p f w k o m = p t
played_from (Err e) p f w k o m = played (number_of e) f w k o m

unfoldable pub played_sized : ℕ → ℕ → (Tally → Played) → List Float → List ℕ → List ℕ → List Float → List ℕ → Played
played_sized nf nw p f w k o m = played_from (tally_sized nf nw f w k) p f w k o m
