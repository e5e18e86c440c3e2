-- The tally takes the answers of all frames, each of which begins; and a render is claimed exactly when every frame is clean.
use Prim.Native.Nat.{ℕ, suc, ◌+◌, ◌≤◌}
use mathlib.Core.Bool.{Bool, true, false, cond}
use mathlib.Core.List.{List, [], ◌∷◌}
use mathlib.Core.Path.{◌≡◌, refl}
use native.Mathlib.Omega.{arith}
use lib.Dec.{eqb}
use lib.ListN.{length}
use borrow.Author.Tests.{eq-eqb, eqb-true}
use Rattle.answer.specs.Answer.{mark_number, accepted, cleared, notfinite, lost, steered, clean}
use Rattle.answer.proofs.Laws.{tally_takes_all}
use Rattle.answer.specs.Promises.{CountsAll}
use Rattle.answer.specs.Tally.{one_if, many, accepted_in, tally_after}
use Rattle.answer.specs.declared.Answer.{Answer}
use Rattle.answer.specs.declared.Answer.TheVariants as answer
use Rattle.score.specs.declared.Score.{Score}
use Rattle.frame.proofs.Claim.{claimed_says}
use Rattle.player.specs.Play.{heard_of}
use Rattle.player.specs.Promises.{Every, Accepted, Clean, ClaimedClean}
use Rattle.player.proofs.Heard.{frames_heard}

-- ---- all begin
accepted_most : (xs : List Answer) → accepted_in xs ≤ length xs
unfolding accepted_in
accepted_most [] = omega arith
accepted_most (a ∷ xs) = go (accepted a) (accepted_most xs)
  where
    go : (b : Bool) → accepted_in xs ≤ length xs → accepted_in xs + cond b 1 0 ≤ suc (length xs)
    go true h = omega arith
    go false h = omega arith

pub all_begin : (xs : List Answer) → Every Accepted xs → accepted_in xs ≡ length xs
unfolding accepted_in Every
all_begin [] h = refl
all_begin (a ∷ xs) (c, h) = let m = all_begin xs h in rw c (omega arith)

-- ---- every frame is clean
one_is : (n k : ℕ) → one_if n k ≡ 1 → n ≡ k
unfolding one_if
one_is n k h = go (eqb n k) refl h
  where
    go : (b : Bool) → eqb n k ≡ b → ◌≡◌ {A = ℕ} (cond b 1 0) 1 → n ≡ k
    go true e h = eqb-true n k e
    go false e h = absurd (none h)
      where
        none : ◌≡◌ {A = ℕ} 0 1 → ⊥
        none h = omega arith

-- an answer has one mark at most
marks_most : (xs : List Answer) → many clean xs + many cleared xs + many notfinite xs + many lost xs + many steered xs ≤ length xs
unfolding many one_if mark_number
marks_most [] = omega arith
marks_most (answer.Cleared v ∷ xs) = omega (arith, marks_most xs)
marks_most (answer.NotFinite v ∷ xs) = omega (arith, marks_most xs)
marks_most (answer.Lost v ∷ xs) = omega (arith, marks_most xs)
marks_most (answer.Clean v ∷ xs) = omega (arith, marks_most xs)
marks_most (answer.Steered v ∷ xs) = omega (arith, marks_most xs)
marks_most (answer.Refused n ∷ xs) = omega (arith, marks_most xs)

one_most : (a : Answer) → one_if (mark_number a) clean ≤ 1
unfolding one_if
one_most a = go (eqb (mark_number a) clean)
  where
    go : (b : Bool) → cond b 1 0 ≤ 1
    go true = omega arith
    go false = omega arith

all_clean : (xs : List Answer) → many clean xs ≡ length xs → Every Clean xs
unfolding many Every
all_clean [] h = tt
all_clean (a ∷ xs) h =
    let m = marks_most xs in
    let o = one_most a in
    (one_is (mark_number a) clean (omega arith), all_clean xs (omega arith))

clean_all : (xs : List Answer) → Every Clean xs → many clean xs ≡ length xs
unfolding many Every
clean_all [] h = refl
clean_all (a ∷ xs) (c, h) = let m = clean_all xs h in omega (arith, counts_one a c)
  where
    counts_one : (a : Answer) → mark_number a ≡ clean → one_if (mark_number a) clean ≡ 1
    counts_one a c = unfold one_if in rw (eq-eqb (mark_number a) clean c) refl

-- ---- so of a score's frames
pub heard_counts : (s : Score) → s.head.frames ≤ 4294967295 → CountsAll (heard_of s)
heard_counts s h = tally_takes_all (heard_of s) (omega (arith, accepted_most (heard_of s), frames_heard s))

pub claimed_clean : ClaimedClean
claimed_clean s h =
    let xs = heard_of s in
    let l = frames_heard s in
    let c = heard_counts s h in
    let m = marks_most xs in
    let w = claimed_says s.head.frames (tally_after xs) in
    record {
      only = λ e. all_clean xs (let (a, b) = w.only e in omega (arith, c.finished));
      always =
          λ e.
          let n = clean_all xs e in
          w.always (omega (arith, c.finished, c.sum, c.cleared, c.notfinite, c.lost, c.steered))
          (omega (arith, c.finished, c.sum, c.cleared, c.notfinite, c.lost, c.steered));
    }
