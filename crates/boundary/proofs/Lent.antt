-- What an exported call makes of the state that it is lent, for any layout: from what the functions of this crate promise to the number and the slices that
-- its definition leaves.
use mathlib.Core.Bool.{Bool, true, false, cond}
use mathlib.Core.List.{List}
use mathlib.Core.Path.{◌≡◌, refl, sym, ap, ◌∙◌}
use Prim.Native.Nat.{ℕ}
use lib.Dec.{eqb}
use lib.Ieee.{Float}
use lib.ListN.{length}
use Rattle.std.specs.Prelude.{Result, Ok, Err}
use Rattle.common.proofs.RefusalLaws.{refuses, nonzero, passed, stopped}
use Rattle.common.specs.Refusal.{number_of, refused_number}
use Rattle.common.specs.declared.Refusal.{Refusal}
use Rattle.common.specs.declared.Refusal.TheVariants as refusal
use Rattle.answer.specs.Block.{Block, block_said}
use Rattle.answer.specs.Calls.{Outcome, changing}
use Rattle.answer.specs.declared.Played as answers
use Rattle.answer.specs.declared.Tally.{Tally}
use Rattle.boundary.specs.Flat.{after_state, counts_of, fitting, sizes_of, tick_sizes_of, tally_sized, state_sized, state_heard, state_played}
use Rattle.boundary.specs.Flat.{kept_by, kept_result, kept}
use Rattle.boundary.specs.Flat.{Left, left_by, left_from, left_sized, Played, played, played_of, played_from, played_sized}

-- ---- an answer is one or the other
ok_same : {S : Type 0} (s t : S) → ◌≡◌ {A = Result S Refusal} (Ok s) (Ok t) → s ≡ t
ok_same s t h = ap (λ x. taken s x) h
  where
    taken : {S : Type 0} → S → Result S Refusal → S
    taken d (Ok x) = x
    taken d (Err e) = d

err_same : {S : Type 0} (d e : Refusal) → ◌≡◌ {A = Result S Refusal} (Err d) (Err e) → d ≡ e
err_same d e h = ap (λ x. refused d x) h
  where
    refused : {S : Type 0} → Refusal → Result S Refusal → Refusal
    refused d (Ok x) = d
    refused d (Err e) = e

ok_not_err : {S : Type 0} (s : S) (e : Refusal) → Ok s ≡ Err e → ⊥
unfolding refused_number
ok_not_err s e h = nonzero e (sym (ap refused_number h))

-- ---- what is lent, unless the lengths refuse it
module _ {S : Type 0} (nf nw : ℕ) (state_of : List Float → List ℕ → S) (f : List Float) (w : List ℕ) where
  -- the state that lengths let pass
  pub lent : (s : S) → Ok s ≡ state_sized nf nw state_of f w → s ≡ state_of f w
  unfolding fitting
  lent s h = go (eqb (length f) nf) (eqb (length w) nw) h
    where
      go : (a b : Bool) → Ok s ≡ cond a (cond b (Ok (state_of f w)) (Err refusal.Wholes)) (Err refusal.Floats) → s ≡ state_of f w
      go true true k = ok_same s (state_of f w) k
      go true false k = absurd (ok_not_err s refusal.Wholes k)
      go false b k = absurd (ok_not_err s refusal.Floats k)

  -- which nothing refuses
  pub lent_zero : (s : S) → Ok s ≡ state_sized nf nw state_of f w → 0 ≡ sizes_of nf nw (length f) (length w)
  unfolding fitting sizes_of
  lent_zero s h = go (eqb (length f) nf) (eqb (length w) nw) h
    where
      go : (a b : Bool) → Ok s ≡ cond a (cond b (Ok (state_of f w)) (Err refusal.Wholes)) (Err refusal.Floats) → ◌≡◌ {A = ℕ} 0 (cond a (cond b 0 51) 50)
      go true true k = refl
      go true false k = absurd (ok_not_err s refusal.Wholes k)
      go false b k = absurd (ok_not_err s refusal.Floats k)

  -- and the number of what refuses them
  pub unlent : (e : Refusal) → Err e ≡ state_sized nf nw state_of f w → number_of e ≡ sizes_of nf nw (length f) (length w)
  unfolding fitting sizes_of refused_number number_of
  unlent e h = go (eqb (length f) nf) (eqb (length w) nw) h
    where
      go : (a b : Bool) → Err e ≡ cond a (cond b (Ok (state_of f w)) (Err refusal.Wholes)) (Err refusal.Floats) → number_of e ≡ cond a (cond b 0 51) 50
      go true true k = absurd (ok_not_err (state_of f w) e (sym k))
      go true false k = ap refused_number k
      go false b k = ap refused_number k

-- and of a tick's samples too
module _ {S : Type 0} (nf nw ns : ℕ) (state_of : List Float → List ℕ → S) (f : List Float) (w : List ℕ) (o : List Float) where
  pub lent_tick : (s : S) → Ok s ≡ state_heard nf nw ns state_of f w o → s ≡ state_of f w
  unfolding state_heard after_state
  lent_tick s h = go (state_sized nf nw state_of f w) refl (eqb (length o) ns) h
    where
      go : (x : Result S Refusal) → state_sized nf nw state_of f w ≡ x → (b : Bool) → Ok s ≡ after_state x (λ t. cond b (Ok t) (Err refusal.Samples))
          → s ≡ state_of f w
      go (Ok t) e true k = lent nf nw state_of f w s (k ∙ sym e)
      go (Ok t) e false k = absurd (ok_not_err s refusal.Samples k)
      go (Err y) e b k = absurd (ok_not_err s y k)

  pub unlent_tick : (e : Refusal) → Err e ≡ state_heard nf nw ns state_of f w o → number_of e ≡ tick_sizes_of nf nw ns (length f) (length w) (length o)
  unfolding state_heard after_state tick_sizes_of refused_number number_of
  unlent_tick e h = go (state_sized nf nw state_of f w) refl (eqb (length o) ns) h
    where
      n : ℕ
      n = sizes_of nf nw (length f) (length w)

      go : (x : Result S Refusal) → state_sized nf nw state_of f w ≡ x → (b : Bool) → Err e ≡ after_state x (λ t. cond b (Ok t) (Err refusal.Samples))
          → number_of e ≡ cond (eqb n 0) (cond b 0 52) n
      go (Ok t) q true k = absurd (ok_not_err t e (sym k))
      go (Ok t) q false k = ap refused_number k ∙ passed n (lent_zero nf nw state_of f w t (sym q)) 52 n
      go (Err y) q b k = ap refused_number k ∙ stopped y n (number_of y) (unlent nf nw state_of f w y (sym q)) refl (cond b 0 52) (λ i. i)

-- the state and the tally of a block
module _ {S : Type 0} (nf nw : ℕ) (state_of : List Float → List ℕ → S) (f : List Float) (w k : List ℕ) where
  pub lent_block : (s : S) (t : Tally) → ◌≡◌ {A = Result (answers.Played S) Refusal} (Ok (record { state = s; tally = t })) (state_played nf nw state_of f w k)
      → (s ≡ state_of f w) × (tally_sized nf nw f w k ≡ Ok t)
  unfolding state_played after_state
  lent_block s t h = go (tally_sized nf nw f w k) h
    where
      began : Tally → answers.Played S
      began u = record { state = state_of f w; tally = u }

      given : answers.Played S
      given = record { state = s; tally = t }

      go : (x : Result Tally Refusal) → Ok given ≡ after_state x (λ u. Ok (began u)) → (s ≡ state_of f w) × (x ≡ Ok t)
      go (Ok u) q = let p = ok_same given (began u) q in
          (ap (λ (y : answers.Played S). y.state) p, sym (ap (λ (y : answers.Played S). Ok y.tally) p))
      go (Err e) q = absurd (ok_not_err given e q)

  pub unlent_block : (e : Refusal) → Err e ≡ state_played nf nw state_of f w k → tally_sized nf nw f w k ≡ Err e
  unfolding state_played after_state
  unlent_block e h = go (tally_sized nf nw f w k) h
    where
      began : Tally → answers.Played S
      began u = record { state = state_of f w; tally = u }

      go : (x : Result Tally Refusal) → Err e ≡ after_state x (λ u. Ok (began u)) → x ≡ Err e
      go (Ok u) q = absurd (ok_not_err (began u) e (sym q))
      go (Err y) q = ap Err (sym (err_same e y q))

-- ---- what is left
module _ {S : Type 0} (floats_of : S → List Float) (wholes_of : S → List ℕ) (f : List Float) (w : List ℕ) where
  -- by a change of the state s
  pub kept_changing : (s : S) (r : Result S Refusal) (x : Outcome S) → changing s r ≡ x
      → kept_result floats_of wholes_of r f w ≡ kept_by floats_of wholes_of x f w
  unfolding changing kept_result kept_by
  kept_changing s (Ok t) x h = ap (λ y. cond (eqb y.refused 0) (kept 0 (floats_of y.state) (wholes_of y.state)) (kept y.refused f w)) h
  kept_changing s (Err e) x h =
      unkept ∙ ap (λ y. cond (eqb y.refused 0) (kept 0 (floats_of y.state) (wholes_of y.state)) (kept y.refused f w)) h
    where
      unkept : kept (number_of e) f w ≡ cond (eqb (number_of e) 0) (kept 0 (floats_of s) (wholes_of s)) (kept (number_of e) f w)
      unkept = simp (refuses e)

  -- by a block of it
  pub played_left : (nf nw : ℕ) (k : List ℕ) (s : S) (t : Tally) (r : Result (answers.Played S) Refusal) (l : Left) (o : List Float) (m : List ℕ) (b : Block S)
      → tally_sized nf nw f w k ≡ Ok t → l ≡ left_sized nf nw (left_by floats_of wholes_of r f w k) f w k → block_said s t r o m ≡ b
      → played l.code l.floats l.wholes l.counts o m ≡ played_of floats_of wholes_of b f w k
  unfolding left_sized left_from left_by block_said played_of
  played_left nf nw k s t (Ok p) l o m b z q h =
      ap (λ (y : Left). played y.code y.floats y.wholes y.counts o m) (q ∙ ap (λ x. left_from x (left_by floats_of wholes_of (Ok p) f w k) f w k) z)
      ∙ ap (λ y. played_of floats_of wholes_of y f w k) h
  played_left nf nw k s t (Err e) l o m b z q h =
      ap (λ (y : Left). played y.code y.floats y.wholes y.counts o m) (q ∙ ap (λ x. left_from x (left_by floats_of wholes_of (Err e) f w k) f w k) z)
      ∙ unplayed
      ∙ ap (λ y. played_of floats_of wholes_of y f w k) h
    where
      unplayed : played (number_of e) f w k o m
          ≡ cond (eqb (number_of e) 0) (played 0 (floats_of s) (wholes_of s) (counts_of t) o m) (played (number_of e) f w k o m)
      unplayed = simp (refuses e)

-- a block's call
module _ (nf nw : ℕ) (p : Tally → Played) (f : List Float) (w k : List ℕ) (o : List Float) (m : List ℕ) where
  pub played_pass : (t : Tally) (r : Played) → tally_sized nf nw f w k ≡ Ok t → r ≡ p t → r ≡ played_sized nf nw p f w k o m
  unfolding played_sized played_from
  played_pass t r h q = q ∙ sym (ap (λ x. played_from x p f w k o m) h)

  pub played_stop : (e : Refusal) (j : ℕ) → tally_sized nf nw f w k ≡ Err e → j ≡ number_of e → played j f w k o m ≡ played_sized nf nw p f w k o m
  unfolding played_sized played_from
  played_stop e j h g = ap (λ i. played i f w k o m) g ∙ sym (ap (λ x. played_from x p f w k o m) h)
