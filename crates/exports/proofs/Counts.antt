-- The tally's call, put together from what its parts promise.
use mathlib.Core.List.{List}
use mathlib.Core.Path.{◌≡◌, sym, ap, ◌∙◌}
use Prim.Native.Nat.{ℕ}
use borrow.Author.Tests.{eq-eqb}
use Rattle.laws.specs.Float.{zer}
use Rattle.answer.specs.Answer.{answer_of, volts1}
use Rattle.answer.specs.Tally.{tally_of}
use Rattle.answer.specs.declared.Answer.{Answer}
use Rattle.answer.specs.declared.Tally.{Tally}
use Rattle.std.specs.Prelude.{Ok, Err}
use Rattle.common.specs.Refusal.{number_of}
use Rattle.common.specs.declared.Refusal.{Refusal}
use Rattle.boundary.proofs.Flat.{all_counts}
use Rattle.boundary.specs.Flat.{tally_from, counts_put}
use Rattle.exports.specs.Counts.{kept, kept_by, given_to, tally_at}

module _ (code : ℕ) (l : List ℕ) where
  pub not_counts : (e : Refusal) (j : ℕ) → Err e ≡ tally_from l → j ≡ number_of e → kept j l ≡ tally_at code l
  unfolding tally_at given_to
  not_counts e j h g = ap (λ i. kept i l) g ∙ ap (given_to code l) h

  module _ (t : Tally) (h : Ok t ≡ tally_from l) (a : Answer) (ea : a ≡ answer_of code (volts1 zer)) where
    given : tally_at code l ≡ kept_by l (tally_of t a)
    unfolding tally_at given_to
    given = sym (ap (given_to code l) h) ∙ sym (ap (λ b. kept_by l (tally_of t b)) ea)

    pub refused : (e : Refusal) (j : ℕ) → Err e ≡ tally_of t a → j ≡ number_of e → kept j l ≡ tally_at code l
    unfolding kept_by
    refused e j er g = ap (λ i. kept i l) g ∙ ap (kept_by l) er ∙ sym given

    pub taken : (n : Tally) (m : List ℕ) → Ok n ≡ tally_of t a → m ≡ counts_put n l → kept 0 m ≡ tally_at code l
    unfolding kept_by counts_put
    taken n m en em = ap (kept 0) (em ∙ simp (eq-eqb _ _ (all_counts l t (sym h)))) ∙ ap (kept_by l) en ∙ sym given
