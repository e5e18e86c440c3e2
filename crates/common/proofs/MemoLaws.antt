-- A coherent memo is left the same by a hit and by a miss.
use mathlib.Core.Bool.{Bool, ◌&&◌, true, false, cond, true≢false}
use mathlib.Core.Logic.{inl, inr}
use mathlib.Core.Path.{◌≡◌, refl, sym, ap, ◌∙◌, subst}
use Prim.Native.Nat.{ℕ}
use lib.Dec.{eqb}
use lib.Ieee.{Float, binary64, of_bits, to_bits}
use lib.Ieee.Bits.{of_bits-to_bits}
use borrow.Author.Tests.{eqb-true, eq-eqb}
use Rattle.laws.proofs.Tests.{both_true}
use Rattle.laws.specs.Float.{F64}
use Rattle.common.specs.declared.Hertz.{Hertz}
use Rattle.common.specs.declared.Memo.{Memo}
use Rattle.common.specs.Memo.{hits, filled, recall, Memo1, filled1, recall1, Key3, key3, same3, Memo3, filled3, recall3}
use Rattle.common.specs.Promises.{Tells, Coherent, Coherent1, Coherent3, RecallIs, Recall1Is, Recall3Is, RecallAgain, Recall1Again, Recall3Again}

-- ---- of any key
pub recall_is : RecallIs
unfolding recall hits
recall_is K V same tells f m h k = go (m.valid && same m.key k) refl h
  where
    go : (b : Bool) → (m.valid && same m.key k) ≡ b → Coherent f m → cond b m (filled k (f k)) ≡ filled k (f k)
    go false e c = refl
    go true e (inl none) = absurd (true≢false (sym (both_true m.valid (same m.key k) e).0 ∙ none))
    go true e (inr (j, made)) =
        let held : m.key ≡ j = unfold filled in ap (λ (n : Memo K V). n.key) made in
        made ∙ ap (λ (i : K). filled i (f i)) (sym held ∙ tells m.key k (both_true m.valid (same m.key k) e).1)

-- what a recall leaves is a hit for the same key
pub recall_again : RecallAgain
unfolding recall hits filled
recall_again K V same alike v m k = go (hits same m k) refl
  where
    hit : Memo K V
    hit = filled k v

    go : (b : Bool) → hits same m k ≡ b → recall same v (cond b m hit) k ≡ cond b m hit
    go true e = simp e
    go false e = simp (alike k)

-- ---- keys that are bits: one f64 for each pattern
pub bits_back : (x : Float) → F64 x → of_bits binary64 (to_bits binary64 x) ≡ x
bits_back x t = of_bits-to_bits binary64 x t

pub tells1 : Tells eqb
tells1 a b e = eqb-true a b e

pub alike1 : (k : ℕ) → eqb k k ≡ true
alike1 k = eq-eqb k k refl

pub tells3 : Tells same3
tells3 a b e =
    let outer = both_true (eqb a.0 b.0 && eqb a.1 b.1) (eqb a.2 b.2) e in
    let inner = both_true (eqb a.0 b.0) (eqb a.1 b.1) outer.0 in
    λ i. (eqb-true a.0 b.0 inner.0 i, eqb-true a.1 b.1 inner.1 i, eqb-true a.2 b.2 outer.1 i)

pub alike3 : (k : Key3) → same3 k k ≡ true
alike3 k = simp (alike1 k.0, alike1 k.1, alike1 k.2)

-- what a closure computes of one number, as a function of its bits, and of three
of_one : {V : Type 0} → (Float → V) → ℕ → V
of_one f k = f (of_bits binary64 k)

of_three : {V : Type 0} → (Float → Float → Float → V) → Key3 → V
of_three f k = f (of_bits binary64 k.0) (of_bits binary64 k.1) (of_bits binary64 k.2)

one_back : {V : Type 0} (f : Float → V) (x : Float) → F64 x → f x ≡ of_one f (to_bits binary64 x)
unfolding of_one
one_back f x t = ap f (sym (bits_back x t))

three_back : {V : Type 0} (f : Float → Float → Float → V) (x y z : Float) → F64 x → F64 y → F64 z → f x y z ≡ of_three f (key3 x y z)
unfolding of_three
three_back f x y z t u v = λ i. f (sym (bits_back x t) i) (sym (bits_back y u) i) (sym (bits_back z v) i)

coherent_one : (f : Float → Hertz) (m : Memo1) → Coherent1 f m → Coherent (of_one f) m
coherent_one f m (inl none) = inl none
coherent_one f m (inr (x, t, made)) = inr (to_bits binary64 x, made ∙ ap (filled1 x) (one_back f x t))

coherent_three : (f : Float → Float → Float → Hertz) (m : Memo3) → Coherent3 f m → Coherent (of_three f) m
coherent_three f m (inl none) = inl none
coherent_three f m (inr (x, y, z, t, u, v, made)) = inr (key3 x y z, made ∙ ap (filled3 x y z) (three_back f x y z t u v))

pub recall1_is : Recall1Is
recall1_is f m h x t =
    subst (λ v. recall eqb v m (to_bits binary64 x) ≡ filled1 x v) (sym (one_back f x t))
    (recall_is ℕ Hertz eqb tells1 (of_one f) m (coherent_one f m h) (to_bits binary64 x))

pub recall3_is : Recall3Is
recall3_is f m h x y z t u v =
    subst (λ w. recall same3 w m (key3 x y z) ≡ filled3 x y z w) (sym (three_back f x y z t u v))
    (recall_is Key3 Hertz same3 tells3 (of_three f) m (coherent_three f m h) (key3 x y z))

-- so it stays coherent
pub recalled1 : (f : Float → Hertz) (m : Memo1) → Coherent1 f m → (x : Float) → F64 x → Coherent1 f (recall1 f m x)
recalled1 f m h x t = inr (x, t, recall1_is f m h x t)

pub recalled3 : (f : Float → Float → Float → Hertz) (m : Memo3) → Coherent3 f m → (x y z : Float) → F64 x → F64 y → F64 z → Coherent3 f (recall3 f m x y z)
recalled3 f m h x y z t u v = inr (x, y, z, t, u, v, recall3_is f m h x y z t u v)

pub recall1_again : Recall1Again
recall1_again f m x = recall_again ℕ Hertz eqb alike1 (f x) m (to_bits binary64 x)

pub recall3_again : Recall3Again
recall3_again f m x y z = recall_again Key3 Hertz same3 alike3 (f x y z) m (key3 x y z)
