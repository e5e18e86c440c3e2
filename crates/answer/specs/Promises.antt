-- Theorems about answers, marks and the tally: the statements. proofs/Laws.antt proves each under the same name in small letters.
use Rattle.std.specs.Prelude.{◌≡◌, Bool, true, false, ◌&&◌, List, ℕ, ◌+◌, ◌≤◌, ◌<◌, Float, length, get_or, Result}
use Rattle.std.specs.Float.{nan}
use Rattle.std.specs.Float.Ieee.{is_nan}
use Rattle.laws.specs.Machine.{Settles}
use Rattle.common.specs.Refusal.{refused_number}
use Rattle.common.specs.declared.Refusal.{Refusal}
use Rattle.answer.specs.Answer.{mark_number, host_number, volts_of, accepted, cleared, notfinite, lost, steered, clean}
use Rattle.answer.specs.Block.{Block, block_said, room_for, counted_to, answer_at, mark_at}
use Rattle.answer.specs.Mark.{all_finite, all_numbers, mark_of, rule_of}
use Rattle.answer.specs.Tally.{Run, run, new_run, sum_of, many, accepted_in, tally_after, tally_or, tally_of}
use Rattle.answer.specs.declared.Volts.{Volts}
use Rattle.answer.specs.declared.Answer.{Answer}
use Rattle.answer.specs.declared.Answer.TheVariants as answer
use Rattle.answer.specs.declared.Played.{Played}
use Rattle.answer.specs.declared.Tally.{Tally}

-- a marked tick is an accepted one, keeps its volts, and has the number of the first rule that applies
pub record Marked (v : Volts) (zeroed sums phases numbers : Bool) : Type 0 where
  pub is_accepted : accepted (mark_of v zeroed sums phases numbers) ≡ true
  pub volts : volts_of (mark_of v zeroed sums phases numbers) ≡ v
  pub number : mark_number (mark_of v zeroed sums phases numbers) ≡ rule_of zeroed (sums && all_finite v) phases numbers

abbrev pub MarkSays : Type 0
MarkSays = (v : Volts) (zeroed sums phases numbers : Bool) → Marked v zeroed sums phases numbers

-- the rules in their order: each applies where none before it does
pub record InOrder (v : Volts) (zeroed sums phases numbers : Bool) : Type 0 where
  pub cleared : zeroed ≡ true → mark_number (mark_of v zeroed sums phases numbers) ≡ cleared
  pub notfinite : zeroed ≡ false → (sums && all_finite v) ≡ false → mark_number (mark_of v zeroed sums phases numbers) ≡ notfinite
  pub lost : zeroed ≡ false → (sums && all_finite v) ≡ true → phases ≡ false → mark_number (mark_of v zeroed sums phases numbers) ≡ lost
  pub steered : zeroed ≡ false → (sums && all_finite v) ≡ true → phases ≡ true → numbers ≡ false
      → mark_number (mark_of v zeroed sums phases numbers) ≡ steered
  pub clean : zeroed ≡ false → (sums && all_finite v) ≡ true → phases ≡ true → numbers ≡ true
      → mark_number (mark_of v zeroed sums phases numbers) ≡ clean

abbrev pub MarksInOrder : Type 0
MarksInOrder = (v : Volts) (zeroed sums phases numbers : Bool) → InOrder v zeroed sums phases numbers

-- so a tick that would be clean is steered once a control given to it is NaN
abbrev pub CleanSteered : Type 0
CleanSteered = (v : Volts) (zeroed sums phases numbers : Bool) → mark_number (mark_of v zeroed sums phases numbers) ≡ clean
    → mark_number (mark_of v zeroed sums phases false) ≡ steered

-- all_numbers asks each control by itself, and an infinity is a number: no sum of them could stand for it
abbrev pub NumbersSay : Type 0
NumbersSay = (xs : List Float)
    → (all_numbers xs ≡ true → (i : ℕ) → i < length xs → is_nan (get_or xs i nan) ≡ false)
    × (((i : ℕ) → i < length xs → is_nan (get_or xs i nan) ≡ false) → all_numbers xs ≡ true)

-- what a mark says of the controls given to the tick: none of a clean one's is NaN, and some of a steered one's is; so a tick with a NaN is
-- never clean, and one without is never steered. Each oscillator promises this of every tick, under the name NanSteers, of the list of its
-- controls
pub record Steers (controls : List Float) (a : Answer) : Type 0 where
  pub when_clean : mark_number a ≡ clean → all_numbers controls ≡ true
  pub when_steered : mark_number a ≡ steered → all_numbers controls ≡ false

-- a sounds as b does, and where b is clean a is steered: what a NaN in the place of a number does that sounds the same
pub record SoundsAs (a b : Answer) : Type 0 where
  pub volts : volts_of a ≡ volts_of b
  pub mark : mark_number b ≡ clean → mark_number a ≡ steered

-- the numbers that a host is told, none of which ever changes its meaning
pub record Told (v : Volts) : Type 0 where
  pub cleared : host_number (answer.Cleared v) ≡ 11
  pub notfinite : host_number (answer.NotFinite v) ≡ 12
  pub lost : host_number (answer.Lost v) ≡ 13
  pub clean : host_number (answer.Clean v) ≡ 14
  pub steered : host_number (answer.Steered v) ≡ 15

abbrev pub ToldNumbers : Type 0
ToldNumbers = (v : Volts) → Told v

-- each count is the number of answers with that mark that the tally took; begun is the number of accepted ticks that it took, and the sum
-- of the counts
pub record Counts (r : Run) : Type 0 where
  pub cleared : r.tally.cleared ≡ many cleared r.took
  pub notfinite : r.tally.notfinite ≡ many notfinite r.took
  pub lost : r.tally.lost ≡ many lost r.took
  pub steered : r.tally.steered ≡ many steered r.took
  pub finished : r.tally.finished ≡ many clean r.took
  pub begun : r.tally.begun ≡ accepted_in r.took
  pub sum : r.tally.begun ≡ sum_of r.tally
  pub top : r.tally.begun ≤ 4294967295

-- from new, after any list of answers
abbrev pub TallyCounts : Type 0
TallyCounts = (xs : List Answer) → Counts (run new_run xs)

-- and while the accepted ticks are at most 4,294,967,295 it takes each of them, so that none is missing from a count
pub record CountsAll (xs : List Answer) : Type 0 where
  pub cleared : (tally_after xs).cleared ≡ many cleared xs
  pub notfinite : (tally_after xs).notfinite ≡ many notfinite xs
  pub lost : (tally_after xs).lost ≡ many lost xs
  pub steered : (tally_after xs).steered ≡ many steered xs
  pub finished : (tally_after xs).finished ≡ many clean xs
  pub begun : (tally_after xs).begun ≡ accepted_in xs
  pub sum : (tally_after xs).begun ≡ sum_of (tally_after xs)

abbrev pub TallyTakesAll : Type 0
TallyTakesAll = (xs : List Answer) → accepted_in xs ≤ 4294967295 → CountsAll xs

-- the tally t takes the answer a, and is then u
abbrev pub Takes : Tally → Answer → Tally → Type 0
Takes t a u = (refused_number (tally_of t a) ≡ 0) × (tally_or t (tally_of t a) ≡ u)

-- a refused tick leaves a tally that adds up as it stood
abbrev pub RefusedNowhere : Type 0
RefusedNowhere = (t : Tally) (a : Answer) → accepted a ≡ false → t.begun ≡ sum_of t → Takes t a t

-- a tally with room for n answers takes each of n that are accepted, in order, and is then the one that a block leaves
abbrev pub BlockCounts : Type 0
BlockCounts = (t : Tally) (a : ℕ → Answer) (n : ℕ) → ((i : ℕ) → i < n → accepted (a i) ≡ true) → room_for t n ≡ true
    → (i : ℕ) → i < n → Takes (counted_to t (λ j. host_number (a j)) i) (a i) (counted_to t (λ j. host_number (a j)) (i + 1))

-- the same of an oscillator's ticks: each is accepted, whatever their number
abbrev pub AllAccepted : {S : Type 0} → (S → Answer) → (S → S) → S → Type 0
AllAccepted answer next s = (i : ℕ) → accepted (answer_at answer next s i) ≡ true

-- and a tally takes their answers one by one
abbrev pub AllTaken : {S : Type 0} → (S → Answer) → (S → S) → S → Type 0
AllTaken answer next s = (t : Tally) (n : ℕ) → room_for t n ≡ true
    → (i : ℕ) → i < n → Takes (counted_to t (mark_at answer next s) i) (answer_at answer next s i) (counted_to t (mark_at answer next s) (i + 1))

-- and where only the first n ticks are known to be accepted
abbrev pub AcceptedTo : {S : Type 0} → (S → Answer) → (S → S) → S → ℕ → Type 0
AcceptedTo answer next s n = (i : ℕ) → i < n → accepted (answer_at answer next s i) ≡ true

abbrev pub TakenTo : {S : Type 0} → (S → Answer) → (S → S) → S → ℕ → Type 0
TakenTo answer next s n = (t : Tally) → room_for t n ≡ true
    → (i : ℕ) → i < n → Takes (counted_to t (mark_at answer next s) i) (answer_at answer next s i) (counted_to t (mark_at answer next s) (i + 1))

-- what a block's call says of itself tells what it leaves: its answer, the samples and the marks
abbrev pub BlockTells : Type 1
BlockTells = (S : Type 0) (s : S) (t : Tally) (b : Block S)
    → Settles (λ (x : Result (Played S) Refusal × List Float × List ℕ). block_said s t x.0 x.1 x.2 ≡ b)
