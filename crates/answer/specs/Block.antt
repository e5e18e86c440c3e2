-- A block: n ticks of one set of controls, one after another, and their tally. One text for every oscillator.
use Rattle.std.specs.Prelude.{Bool, cond, ◌&&◌, List, [], ◌∷◌, ◌++◌, ℕ, zero, suc, ◌+◌, ◌*◌, eqb, leb, ltb, Float, length, get_or, take, Result, Ok, Err}
use Rattle.std.proofs.lemmas.List.Edits.{sets}
use Rattle.laws.specs.Lists.{tab}
use Rattle.common.specs.Refusal.{number_of}
use Rattle.answer.specs.Answer.{host_number, volts_of, cleared, notfinite, lost, steered, clean, told}
use Rattle.answer.specs.Tally.{adds_up, one_if}
use Rattle.common.specs.declared.Refusal.{Refusal}
use Rattle.common.specs.declared.Refusal.TheVariants as refusal
use Rattle.answer.specs.declared.Volts.{Volts}
use Rattle.answer.specs.declared.Answer.{Answer}
use Rattle.answer.specs.declared.Tally.{Tally}
use Rattle.answer.specs.declared.Played.{Played}

-- ---- the tally of many marks, by the numbers that a host is told
-- how many of f 0, .., f (n - 1) are k
unfoldable pub many_to : ℕ → (ℕ → ℕ) → ℕ → ℕ
many_to k f zero = 0
many_to k f (suc n) = many_to k f n + one_if (f n) k

-- so many more answers of each mark
unfoldable pub grown_by : Tally → ℕ → ℕ → ℕ → ℕ → ℕ → Tally
grown_by t cleans cleareds notfinites losts steereds =
    record {
      begun = t.begun + (cleans + cleareds + notfinites + losts + steereds);
      finished = t.finished + cleans;
      cleared = t.cleared + cleareds;
      notfinite = t.notfinite + notfinites;
      lost = t.lost + losts;
      steered = t.steered + steereds;
    }

-- each count grows by the number of its marks among f 0, .., f (n - 1)
unfoldable pub counted_to : Tally → (ℕ → ℕ) → ℕ → Tally
counted_to t f n =
    grown_by t (many_to (told clean) f n) (many_to (told cleared) f n) (many_to (told notfinite) f n) (many_to (told lost) f n) (many_to (told steered) f n)

-- n more answers can be taken: neither reason for 7 comes
unfoldable pub room_for : Tally → ℕ → Bool
room_for t n = adds_up t && leb (t.begun + n) 4294967295

abbrev pub cells_of : List ℕ → ℕ → ℕ
cells_of l i = get_or l i 0

-- the marks of a buffer, or 7 where there isn't room for all; a number that is no mark's counts nowhere, as a refused tick
unfoldable pub marks_taken : Tally → List ℕ → Result Tally Refusal
marks_taken t m = cond (room_for t (length m)) (Ok (counted_to t (cells_of m) (length m))) (Err refusal.Tally)

-- ---- ticks one after another; `next` is the state after a tick
unfoldable pub after_ticks : {S : Type 0} → (S → S) → ℕ → S → S
after_ticks next zero s = s
after_ticks next (suc n) s = next (after_ticks next n s)

-- the outputs of an oscillator that has so many, in port order
unfoldable pub ports_of : ℕ → Volts → List Float
ports_of ports v = take ports (v.p10 ∷ v.p11 ∷ v.p12 ∷ v.p13 ∷ v.p14 ∷ v.p15 ∷ [])

-- tick i's outputs at their place among the samples of n ticks with so many ports each; samples that aren't those are left
unfoldable pub framed : ℕ → ℕ → ℕ → Volts → List Float → List Float
framed ports n i v l = cond (eqb (length l) (ports * n) && ltb i n) (sets l (ports * i) (ports_of ports v)) l

-- f 0, f 1, .., f (n - 1) joined
unfoldable pub joined : {A : Type 0} → (ℕ → List A) → ℕ → List A
joined f zero = []
joined f (suc n) = joined f n ++ f n

-- ---- a block of as many ticks as there are marks, its samples tick by tick
pub record Block (S : Type 0) : Type 0 where
  pub refused : ℕ
  pub state : S
  pub tally : Tally
  pub samples : List Float
  pub marks : List ℕ

abbrev pub block : {S : Type 0} → ℕ → S → Tally → List Float → List ℕ → Block S
block n s t o m = record { refused = n; state = s; tally = t; samples = o; marks = m }

-- 0, or what refuses it: 52 where samples doesn't fit marks, then what refuses its ticks (of most oscillators the first alone; of noise the draws
-- of all), then the tally's 7
unfoldable pub block_refusal_of : Bool → ℕ → Tally → ℕ → ℕ
block_refusal_of fits number t n = cond fits (cond (eqb number 0) (cond (room_for t n) 0 7) number) 52

-- what tick i answers: `answer` of the state that those before it leave; the number that a host is told of it, and its samples
unfoldable pub answer_at : {S : Type 0} → (S → Answer) → (S → S) → S → ℕ → Answer
answer_at answer next s i = answer (after_ticks next i s)

abbrev pub mark_at : {S : Type 0} → (S → Answer) → (S → S) → S → ℕ → ℕ
mark_at answer next s i = host_number (answer_at answer next s i)

abbrev pub frame_at : {S : Type 0} → ℕ → (S → Answer) → (S → S) → S → ℕ → List Float
frame_at ports answer next s i = ports_of ports (volts_of (answer_at answer next s i))

-- what n ticks leave
unfoldable pub ticks_of : {S : Type 0} → ℕ → (S → Answer) → (S → S) → ℕ → S → Tally → Block S
ticks_of ports answer next n s t =
    block 0 (after_ticks next n s) (counted_to t (mark_at answer next s) n) (joined (frame_at ports answer next s) n) (tab (mark_at answer next s) n)

-- a refused block leaves everything
unfoldable pub block_of : {S : Type 0} → ℕ → ℕ → (S → Answer) → (S → S) → S → Tally → List Float → List ℕ → Block S
block_of ports number answer next s t o m =
    let n = block_refusal_of (eqb (length o) (ports * length m)) number t (length m) in
    cond (eqb n 0) (ticks_of ports answer next (length m) s t) (block n s t o m)

-- what a block's call says: of a refused one what it was given stays
unfoldable pub block_said : {S : Type 0} → S → Tally → Result (Played S) Refusal → List Float → List ℕ → Block S
block_said s t (Ok p) o m = block 0 p.state p.tally o m
block_said s t (Err e) o m = block (number_of e) s t o m
