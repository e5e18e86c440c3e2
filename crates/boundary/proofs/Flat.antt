-- Lengths that nothing refuses, a bool that is read back from a whole number, and exported calls as their code has them.
use mathlib.Core.Bool.{Bool, true, false, cond, true≢false, not}
use mathlib.Core.List.{List}
use mathlib.Core.Path.{◌≡◌, refl, sym, ap, ◌∙◌}
use Prim.Native.Nat.{ℕ}
use native.Mathlib.Omega.{arith}
use lib.Dec.{eqb}
use lib.Ieee.{Float}
use lib.ListN.{length}
use borrow.Author.Tests.{eqb-true, eq-eqb}
use Rattle.laws.proofs.Tests.{eqb_yes}
use Rattle.common.proofs.RefusalLaws.{reason, reason_back, nonzero, passed, stopped}
use Rattle.boundary.specs.Flat.{after_state, state_heard, fitting, sizes_of, tick_sizes_of, tally_from, tally_sized, n_counts}
use Rattle.boundary.specs.Flat.{Kept, kept, kept_sized, Heard, heard, heard_sized, Left, left, left_from, left_sized}
use Rattle.std.specs.Prelude.{Result, Ok, Err}
use Rattle.common.specs.Refusal.{number_of, refused_number}
use Rattle.common.specs.declared.Refusal.{Refusal}
use Rattle.common.specs.declared.Refusal.TheVariants as refusal
use Rattle.answer.specs.declared.Tally.{Tally}

pub sized : (nf nw f w n : ℕ) → n ≡ sizes_of nf nw f w → n ≡ 0 → (f ≡ nf) × (w ≡ nw)
unfolding sizes_of
sized nf nw f w n e z = go (eqb f nf) (eqb w nw) refl refl (sym e ∙ z)
  where
    go : (a b : Bool) → eqb f nf ≡ a → eqb w nw ≡ b → ◌≡◌ {A = ℕ} (cond a (cond b 0 51) 50) 0 → (f ≡ nf) × (w ≡ nw)
    go true true p q h = (eqb-true f nf p, eqb-true w nw q)
    go true false p q h = absurd (omega arith)
    go false b p q h = absurd (omega arith)

-- one length after others that n refuses: no other than `wanted`, which k refuses
after : (n k f wanted : ℕ) → (k ≡ 0 → ⊥) → cond (eqb n 0) (cond (eqb f wanted) 0 k) n ≡ 0 → (n ≡ 0) × (f ≡ wanted)
after n k f wanted d = go (eqb n 0) (eqb f wanted) refl refl
  where
    go : (a b : Bool) → eqb n 0 ≡ a → eqb f wanted ≡ b → cond a (cond b 0 k) n ≡ 0 → (n ≡ 0) × (f ≡ wanted)
    go true true p q h = (eqb-true n 0 p, eqb-true f wanted q)
    go true false p q h = absurd (d h)
    go false b p q h = absurd (true≢false (sym (eqb_yes n 0 h) ∙ p))

pub tick_sized : (nf nw ns f w o n : ℕ) → n ≡ tick_sizes_of nf nw ns f w o → n ≡ 0 → (f ≡ nf) × (w ≡ nw) × (o ≡ ns)
unfolding tick_sizes_of
tick_sized nf nw ns f w o n e z =
    let a = after (sizes_of nf nw f w) 52 o ns (λ h. omega arith) (sym e ∙ z) in
    let s = sized nf nw f w _ refl a.0 in
    (s.0, s.1, a.1)

-- counts that are a tally's
pub all_counts : (l : List ℕ) (t : Tally) → tally_from l ≡ Ok t → length l ≡ n_counts
unfolding tally_from refused_number number_of
all_counts l t g = go _ (eqb (length l) n_counts) refl (ap refused_number g)
  where
    go : (u : Tally) (b : Bool) → eqb (length l) n_counts ≡ b → refused_number {T = Tally} (cond b (Ok u) (Err refusal.Counts)) ≡ 0 → length l ≡ n_counts
    go u true p h = eqb-true (length l) n_counts p
    go u false p h = absurd (omega arith)

-- lengths that are right before what is answered
pub fits : {T : Type 0} (nf nw : ℕ) (f : List Float) (w : List ℕ) (x : Result T Refusal) (t : T) → fitting nf nw f w x ≡ Ok t
    → (length f ≡ nf) × (length w ≡ nw) × (x ≡ Ok t)
unfolding fitting refused_number number_of
fits nf nw f w x t h = go (eqb (length f) nf) (eqb (length w) nw) refl refl h
  where
    go : (a b : Bool) → eqb (length f) nf ≡ a → eqb (length w) nw ≡ b → cond a (cond b x (Err refusal.Wholes)) (Err refusal.Floats) ≡ Ok t
        → (length f ≡ nf) × (length w ≡ nw) × (x ≡ Ok t)
    go true true p q h = (eqb-true (length f) nf p, eqb-true (length w) nw q, h)
    go true false p q h = let k = ap refused_number h in absurd (omega arith)
    go false b p q h = let k = ap refused_number h in absurd (omega arith)

pub block_sized : (nf nw : ℕ) (f : List Float) (w k : List ℕ) (t : Tally) → tally_sized nf nw f w k ≡ Ok t
    → (length f ≡ nf) × (length w ≡ nw) × (length k ≡ n_counts)
block_sized nf nw f w k t h = let r = fits nf nw f w (tally_from k) t h in (r.0, r.1, all_counts k t r.2)

-- what the lengths let pass, and what they refuse
pub fit : {T : Type 0} (nf nw : ℕ) (f : List Float) (w : List ℕ) → 0 ≡ sizes_of nf nw (length f) (length w) → (x : Result T Refusal) → x ≡ fitting nf nw f w x
unfolding fitting
fit nf nw f w h x = let s = sized nf nw (length f) (length w) 0 h refl in simp (eq-eqb _ _ s.0, eq-eqb _ _ s.1)

pub unfit : {T : Type 0} (nf nw : ℕ) (f : List Float) (w : List ℕ) (e : Refusal) → number_of e ≡ sizes_of nf nw (length f) (length w)
    → (x : Result T Refusal) → Err e ≡ fitting nf nw f w x
unfolding fitting sizes_of reason
unfit nf nw f w e h x = go (eqb (length f) nf) (eqb (length w) nw) h
  where
    go : (a b : Bool) → number_of e ≡ cond a (cond b 0 51) 50 → Err e ≡ cond a (cond b x (Err refusal.Wholes)) (Err refusal.Floats)
    go true true k = absurd (nonzero e k)
    go true false k = ap Err (sym (reason_back e) ∙ ap reason k)
    go false b k = ap Err (sym (reason_back e) ∙ ap reason k)

-- and of a tick's samples too
module _ {S : Type 0} (nf nw ns : ℕ) (state_of : List Float → List ℕ → S) (f : List Float) (w : List ℕ) (o : List Float) where
  pub fit_tick : 0 ≡ tick_sizes_of nf nw ns (length f) (length w) (length o) → (s : S) → s ≡ state_of f w → Ok s ≡ state_heard nf nw ns state_of f w o
  unfolding state_heard after_state fitting
  fit_tick z s h = let l = tick_sized nf nw ns (length f) (length w) (length o) 0 z refl in
      simp (eq-eqb _ _ l.0, eq-eqb _ _ l.1, eq-eqb _ _ l.2, h)

  pub unfit_tick : (e : Refusal) → number_of e ≡ tick_sizes_of nf nw ns (length f) (length w) (length o) → Err e ≡ state_heard nf nw ns state_of f w o
  unfolding state_heard after_state tick_sizes_of sizes_of fitting reason
  unfit_tick e h = go (eqb (length f) nf) (eqb (length w) nw) (eqb (length o) ns) h
    where
      go : (a b d : Bool) → number_of e ≡ (let n : ℕ = cond a (cond b 0 51) 50 in cond (eqb n 0) (cond d 0 52) n)
          → Err e ≡ after_state (cond a (cond b (Ok (state_of f w)) (Err refusal.Wholes)) (Err refusal.Floats)) (λ s. cond d (Ok s) (Err refusal.Samples))
      go true true true k = absurd (nonzero e k)
      go true true false k = ap Err (sym (reason_back e) ∙ ap reason k)
      go true false d k = ap Err (sym (reason_back e) ∙ ap reason k)
      go false b d k = ap Err (sym (reason_back e) ∙ ap reason k)

-- a bool that is read back from a whole number
pub flag : (b : Bool) → not (eqb (cond b 1 0) 0) ≡ b
flag true = refl
flag false = refl

-- ---- a call as its code has it, where the lengths let it pass, and where they refuse it
-- without samples
module _ (nf nw : ℕ) (f : List Float) (w : List ℕ) where
  pub kept_pass : 0 ≡ sizes_of nf nw (length f) (length w) → (r k : Kept) → r ≡ k → r ≡ kept_sized nf nw k f w
  unfolding kept_sized
  kept_pass h r k q = q ∙ passed _ h k _

  pub kept_stop : (e : Refusal) (j : ℕ) → number_of e ≡ sizes_of nf nw (length f) (length w) → j ≡ number_of e → (k : Kept)
      → kept j f w ≡ kept_sized nf nw k f w
  unfolding kept_sized
  kept_stop e j h g k = stopped e _ j h g k (λ i. kept i f w)

-- a tick
module _ (nf nw ns : ℕ) (f : List Float) (w : List ℕ) (o : List Float) where
  pub heard_pass : 0 ≡ tick_sizes_of nf nw ns (length f) (length w) (length o) → (r h : Heard) → r ≡ h → r ≡ heard_sized nf nw ns h f w o
  unfolding heard_sized
  heard_pass z r h q = q ∙ passed _ z h _

  pub heard_stop : (e : Refusal) (j : ℕ) → number_of e ≡ tick_sizes_of nf nw ns (length f) (length w) (length o) → j ≡ number_of e → (h : Heard)
      → heard j f w o ≡ heard_sized nf nw ns h f w o
  unfolding heard_sized
  heard_stop e j z g h = stopped e _ j z g h (λ i. heard i f w o)

-- a block
module _ (nf nw : ℕ) (f : List Float) (w k : List ℕ) where
  pub left_pass : (t : Tally) → tally_sized nf nw f w k ≡ Ok t → (r l : Left) → r ≡ l → r ≡ left_sized nf nw l f w k
  unfolding left_sized left_from
  left_pass t h r l q = q ∙ sym (ap (λ x. left_from x l f w k) h)

  pub left_stop : (e : Refusal) (j : ℕ) → tally_sized nf nw f w k ≡ Err e → j ≡ number_of e → (l : Left) → left j f w k ≡ left_sized nf nw l f w k
  unfolding left_sized left_from
  left_stop e j h g l = ap (λ i. left i f w k) g ∙ sym (ap (λ x. left_from x l f w k) h)

-- ---- what a state gives, and what refused it
pub then_ok : {S T : Type 0} (x : Result S Refusal) (s : S) (then : S → Result T Refusal) (r : Result T Refusal) → x ≡ Ok s → r ≡ then s
    → r ≡ after_state x then
unfolding after_state
then_ok x s then r h q = q ∙ sym (ap (λ y. after_state y then) h)

pub then_err : {S T : Type 0} (x : Result S Refusal) (e : Refusal) (then : S → Result T Refusal) → x ≡ Err e → Err e ≡ after_state x then
unfolding after_state
then_err x e then h = sym (ap (λ y. after_state y then) h)
