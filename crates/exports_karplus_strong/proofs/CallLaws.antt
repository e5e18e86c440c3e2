-- An exported call with a line, as its code has it: boundary's laws, and the line beside them.
use mathlib.Core.Bool.{Bool, true, false, cond}
use mathlib.Core.List.{List}
use mathlib.Core.Path.{◌≡◌, refl, sym, ap, ◌∙◌}
use Prim.Native.Nat.{ℕ}
use lib.Dec.{eqb}
use lib.Ieee.{Float}
use lib.ListN.{length}
use Rattle.std.specs.Prelude.{Result, Ok, Err}
use Rattle.answer.specs.Block.{Block, block_said}
use Rattle.answer.specs.Calls.{changing}
use Rattle.answer.specs.declared.Played as answers
use Rattle.answer.specs.declared.Tally.{Tally}
use Rattle.boundary.proofs.Flat.{kept_stop, heard_stop}
use Rattle.boundary.proofs.Lent.{kept_changing, lent_zero, played_left, played_pass, played_stop}
use Rattle.boundary.specs.Flat.{after_state, sizes_of, tick_sizes_of, state_sized, state_heard, Kept, kept, kept_result, kept_sized}
use Rattle.boundary.specs.Flat.{Heard, heard, heard_of, heard_sized, Played, played, played_of, tally_sized, left_by, left_sized}
use Rattle.boundary.specs.Flat as flat
use Rattle.common.proofs.RefusalLaws.{nonzero, passed, stopped}
use Rattle.common.specs.Refusal.{number_of, refused_number}
use Rattle.common.specs.declared.Refusal.{Refusal}
use Rattle.common.specs.declared.Refusal.TheVariants as refusal
use Rattle.karplus_strong.specs.Step.{Ticking}
use Rattle.karplus_strong.specs.KarplusStrong.{Making, Strung, with_line}
use Rattle.karplus_strong.specs.declared.KarplusStrong.{KarplusStrong}
use Rattle.exports_karplus_strong.specs.State.{n_floats, n_wholes, n_samples, state_of, floats_of, wholes_of, samples_of}
use Rattle.exports_karplus_strong.specs.Calls.{line_sized, kept_of, left, sounded, sounded_sized, rung, strung_floats, strung_wholes, line_from, rung_sized}
use Rattle.exports_karplus_strong.specs.Calls as calls

-- n is what the lengths refuse: 0, or the number of e
line_pass : (n : ℕ) → 0 ≡ n → (x y l : List Float) → x ≡ y → x ≡ line_sized n y l
unfolding line_sized
line_pass n z x y l h = h ∙ passed n z y l

line_stop : (e : Refusal) (n : ℕ) → number_of e ≡ n → (y l : List Float) → l ≡ line_sized n y l
unfolding line_sized
line_stop e n h y l = stopped e n (number_of e) h refl y (λ k. l)

-- ---- without samples: a change of the string s
module _ (f : List Float) (w : List ℕ) (l : List Float) (m : Making) where
  pub left_pass : 0 ≡ sizes_of n_floats n_wholes (length f) (length w) → (s : KarplusStrong) (r : Result KarplusStrong Refusal) (k : Kept) (x : List Float)
      → k ≡ kept_sized n_floats n_wholes (kept_result floats_of wholes_of r f w) f w → changing s r ≡ m.out → x ≡ m.line
      → left k x ≡ calls.left_sized m f w l
  unfolding calls.left_sized
  left_pass z s r k x ek er ex =
      let e = ek ∙ ap (λ y. kept_sized n_floats n_wholes y f w) (kept_changing floats_of wholes_of f w s r m.out er) in
      let q = line_pass _ z x m.line l ex in
      (λ i. left (e i) (q i))

  pub left_stop : (e : Refusal) (j : ℕ) → number_of e ≡ sizes_of n_floats n_wholes (length f) (length w) → j ≡ number_of e
      → left (kept j f w) l ≡ calls.left_sized m f w l
  unfolding calls.left_sized
  left_stop e j h g =
      let k = kept_stop n_floats n_wholes f w e j h g (kept_of m.out f w) in
      let q = line_stop e _ h m.line l in
      (λ i. left (k i) (q i))

-- ---- a tick: lengths that give a state refuse nothing
pub heard_zero : (f : List Float) (w : List ℕ) (o : List Float) (s : KarplusStrong) → Ok s ≡ state_heard n_floats n_wholes n_samples state_of f w o
    → 0 ≡ tick_sizes_of n_floats n_wholes n_samples (length f) (length w) (length o)
unfolding state_heard after_state tick_sizes_of refused_number
heard_zero f w o s h = go (state_sized n_floats n_wholes state_of f w) refl (eqb (length o) n_samples) h
  where
    n : ℕ
    n = sizes_of n_floats n_wholes (length f) (length w)

    go : (x : Result KarplusStrong Refusal) → state_sized n_floats n_wholes state_of f w ≡ x → (b : Bool)
        → Ok s ≡ after_state x (λ t. cond b (Ok t) (Err refusal.Samples)) → 0 ≡ cond (eqb n 0) (cond b 0 52) n
    go (Ok t) e true k = passed n (lent_zero n_floats n_wholes state_of f w t (sym e)) 0 n
    go (Ok t) e false k = absurd (nonzero refusal.Samples (sym (ap refused_number k)))
    go (Err y) e b k = absurd (nonzero y (sym (ap refused_number k)))

module _ (f : List Float) (w : List ℕ) (o l : List Float) where
  pub sounded_pass : 0 ≡ tick_sizes_of n_floats n_wholes n_samples (length f) (length w) (length o) → (t : Ticking) (h : Heard) (x : List Float)
      → h ≡ heard_sized n_floats n_wholes n_samples (heard_of floats_of wholes_of samples_of t.out.answer t.out.state f w o) f w o → x ≡ t.line
      → sounded h x ≡ sounded_sized t f w o l
  unfolding sounded_sized
  sounded_pass z t h x eh ex = let q = line_pass _ z x t.line l ex in (λ i. sounded (eh i) (q i))

  pub sounded_stop : (t : Ticking) (e : Refusal) (j : ℕ) → number_of e ≡ tick_sizes_of n_floats n_wholes n_samples (length f) (length w) (length o)
      → j ≡ number_of e → sounded (heard j f w o) l ≡ sounded_sized t f w o l
  unfolding sounded_sized
  sounded_stop t e j h g =
      let k = heard_stop n_floats n_wholes n_samples f w o e j h g (heard_of floats_of wholes_of samples_of t.out.answer t.out.state f w o) in
      let q = line_stop e _ h t.line l in
      (λ i. sounded (k i) (q i))

-- ---- a block: its tally is the counts', unless lengths or counts refuse
module _ (b : Tally → Block Strung) (f : List Float) (w : List ℕ) (l : List Float) (k : List ℕ) (o : List Float) (m : List ℕ) where
  abbrev ps : Tally → Played
  ps t = played_of strung_floats strung_wholes (b t) f w k

  -- of the string s, over p, q and x: the samples, the marks and the line that it leaves
  pub rung_pass : (s : KarplusStrong) (t : Tally) → tally_sized n_floats n_wholes f w k ≡ Ok t → (r : Result (answers.Played KarplusStrong) Refusal)
      (u : flat.Left) (p : List Float) (q : List ℕ) (x : List Float) → u ≡ left_sized n_floats n_wholes (left_by floats_of wholes_of r f w k) f w k
      → with_line (block_said s t r p q) x ≡ b t
      → rung (played u.code u.floats u.wholes u.counts p q) x ≡ rung_sized b f w l k o m
  unfolding rung_sized line_from played_of
  rung_pass s t z r u p q x eu eb =
      let own = played_left floats_of wholes_of f w n_floats n_wholes k s t r u p q _ z eu refl in
      let all = own ∙ ap (λ (y : Block Strung). played_of strung_floats strung_wholes y f w k) eb in
      let e = played_pass n_floats n_wholes ps f w k o m t _ z all in
      let y : x ≡ line_from (tally_sized n_floats n_wholes f w k) b l = ap (λ (y : Block Strung). y.state.line) eb ∙ sym (ap (λ v. line_from v b l) z) in
      (λ i. rung (e i) (y i))

  pub rung_stop : (e : Refusal) (j : ℕ) → tally_sized n_floats n_wholes f w k ≡ Err e → j ≡ number_of e
      → rung (played j f w k o m) l ≡ rung_sized b f w l k o m
  unfolding rung_sized line_from
  rung_stop e j h g =
      let p = played_stop n_floats n_wholes ps f w k o m e j h g in
      let y : l ≡ line_from (tally_sized n_floats n_wholes f w k) b l = sym (ap (λ v. line_from v b l) h) in
      (λ i. rung (p i) (y i))
