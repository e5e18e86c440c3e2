-- Lent draws: the digits of several together, what refusals 5 and 6 leave, and which draws they read.
use mathlib.Core.Bool.{Bool, true, false, cond, ◌&&◌}
use mathlib.Core.List.{List, [], ◌∷◌}
use mathlib.Core.Logic.{⊎_elim}
use mathlib.Core.Path.{◌≡◌, refl, sym, ap, ◌∙◌}
use Prim.Native.Nat.{ℕ, zero, suc, ◌≤◌, ◌<◌, ◌^◌}
use native.Mathlib.Nat.{eq-or-lt_of_le, le_of_eq, le_of_suc-le-suc, not-suc-le-zero}
use native.Mathlib.Numerals.{add-one}
use native.Mathlib.Omega.{arith}
use lib.Bits.{bit_or, or_lt, or_add_and, and_le_l, and_le_r}
use lib.Dec.{leb, ltb}
use lib.ListN.{length, get_or, take}
use borrow.Author.Tests.{ltb-true, ltb-false, lt-ltb, le-ltb, leb-true, le-leb, lt-leb}
use Rattle.std.proofs.lemmas.List.{get_or-take, length-take-le, take_all, take_more}
use Rattle.std.proofs.lemmas.List.Sums.{fold-append}
use Rattle.std.specs.Prelude.{fold}
use Rattle.laws.proofs.Tests.{both_true}
use Rattle.common.specs.Tests.{draws_ok, draws_refusal_of}

-- two numbers are below 2 ^ k where all their digits together are
pub or_below : (k a b : ℕ) → ltb (bit_or a b) (2 ^ k) ≡ (ltb a (2 ^ k) && ltb b (2 ^ k))
or_below k a b = go (ltb a (2 ^ k)) (ltb b (2 ^ k)) refl refl
  where
    go : (p q : Bool) → ltb a (2 ^ k) ≡ p → ltb b (2 ^ k) ≡ q → ltb (bit_or a b) (2 ^ k) ≡ (p && q)
    go true true e f = lt-ltb (bit_or a b) (2 ^ k) (or_lt k a b (ltb-true a (2 ^ k) e) (ltb-true b (2 ^ k) f))
    go true false e f = let h = ltb-false b (2 ^ k) f in let l = and_le_l a b in let s = or_add_and a b in le-ltb (bit_or a b) (2 ^ k) (omega arith)
    go false q e f = let h = ltb-false a (2 ^ k) e in let r = and_le_r a b in let s = or_add_and a b in le-ltb (bit_or a b) (2 ^ k) (omega arith)

-- ---- what a call that isn't refused knows
pub draws_enough : (n : ℕ) (d : List ℕ) → draws_refusal_of n d ≡ 0 → n ≤ length d
unfolding draws_refusal_of
draws_enough n d e = go (leb n (length d)) (draws_ok d n) refl e
  where
    go : (a b : Bool) → leb n (length d) ≡ a → ◌≡◌ {A = ℕ} (cond a (cond b 0 6) 5) 0 → n ≤ length d
    go true b h e = leb-true n (length d) h
    go false b h e = absurd (omega arith)

pub draws_fine : (n : ℕ) (d : List ℕ) → draws_refusal_of n d ≡ 0 → draws_ok d n ≡ true
unfolding draws_refusal_of
draws_fine n d e = go (leb n (length d)) (draws_ok d n) refl e
  where
    go : (a b : Bool) → draws_ok d n ≡ b → ◌≡◌ {A = ℕ} (cond a (cond b 0 6) 5) 0 → draws_ok d n ≡ true
    go true true h e = h
    go true false h e = absurd (omega arith)
    go false b h e = absurd (omega arith)

-- one that is refused by 5
pub draws_few : (n : ℕ) (d : List ℕ) → length d < n → 5 ≡ draws_refusal_of n d
unfolding draws_refusal_of
draws_few n d h = simp (lt-leb n (length d) h)

-- and what it takes
pub draws_taken : (n : ℕ) (d : List ℕ) → n ≤ length d → draws_ok d n ≡ true → draws_refusal_of n d ≡ 0
unfolding draws_refusal_of
draws_taken n d h k = simp (le-leb n (length d) h, k)

pub draws_bad : (n : ℕ) (d : List ℕ) → n ≤ length d → draws_ok d n ≡ false → 6 ≡ draws_refusal_of n d
unfolding draws_refusal_of
draws_bad n d h k = simp (le-leb n (length d) h, k)

-- ---- draw by draw
pub draw_below : (d : List ℕ) (n i : ℕ) → draws_ok d n ≡ true → i < n → get_or d i 0 < 2 ^ 53
unfolding draws_ok
draw_below d zero i e h = absurd (not-suc-le-zero h)
draw_below d (suc n) i e h =
    let b = both_true (draws_ok d n) (ltb (get_or d n 0) 9007199254740992) e in
    ⊎_elim (λ (q : i ≡ n). rw q (ltb-true (get_or d n 0) 9007199254740992 b.1)) (λ (l : i < n). draw_below d n i b.0 l)
    (eq-or-lt_of_le (le_of_suc-le-suc h))

pub draws_less : (d : List ℕ) (n m : ℕ) → m ≤ n → draws_ok d n ≡ true → draws_ok d m ≡ true
unfolding draws_ok
draws_less d zero zero h e = refl
draws_less d zero (suc m) h e = absurd (not-suc-le-zero h)
draws_less d (suc n) m h e =
    let b = both_true (draws_ok d n) (ltb (get_or d n 0) 9007199254740992) e in
    ⊎_elim (λ (q : m ≡ suc n). rw q e) (λ (q : m < suc n). draws_less d n m (le_of_suc-le-suc q) b.0) (eq-or-lt_of_le h)

-- only the first n are read
pub draws_same : (d e : List ℕ) (n : ℕ) → ((i : ℕ) → i < n → get_or d i 0 ≡ get_or e i 0) → draws_ok d n ≡ draws_ok e n
unfolding draws_ok
draws_same d e zero h = refl
draws_same d e (suc n) h = let a = draws_same d e n (λ i l. h i (omega arith)) in let b = h n (omega arith) in simp (a, b)

-- so they are the whole of a slice of n
pub draws_first : (n : ℕ) (d : List ℕ) → n ≤ length d → draws_ok (take n d) (length (take n d)) ≡ draws_ok d n
draws_first n d h = rw (length-take-le n d h) (draws_same (take n d) d n (λ i l. get_or-take n d i 0 l))

pub refusal_draws : (n : ℕ) (d e : List ℕ) → n ≤ length d → n ≤ length e → ((i : ℕ) → i < n → get_or d i 0 ≡ get_or e i 0) → draws_refusal_of n d
    ≡ draws_refusal_of n e
unfolding draws_refusal_of
refusal_draws n d e h k s = simp (le-leb n (length d) h, le-leb n (length e) k, draws_same d e n s)

-- all digits together are below 2 ^ 53 where each draw is
digits_first : (d : List ℕ) (i : ℕ) → i ≤ length d → ltb (fold bit_or 0 (take i d)) 9007199254740992 ≡ draws_ok d i
unfolding draws_ok
digits_first d zero h = refl
digits_first d (suc i) h =
    let digits = fold bit_or 0 (take i d) in
    ap (λ (l : List ℕ). ltb (fold bit_or 0 l) 9007199254740992) (ap (λ (k : ℕ). take k d) (sym (add-one i)) ∙ take_more d i 0 h)
    ∙ ap (λ (n : ℕ). ltb n 9007199254740992) (fold-append bit_or 0 (take i d) (get_or d i 0 ∷ []))
    ∙ or_below 53 digits (get_or d i 0)
    ∙ ap (λ (b : Bool). b && ltb (get_or d i 0) 9007199254740992) (digits_first d i (omega arith))

pub digits_all : (d : List ℕ) → ltb (fold bit_or 0 d) 9007199254740992 ≡ draws_ok d (length d)
digits_all d =
    ap (λ (l : List ℕ). ltb (fold bit_or 0 l) 9007199254740992) (sym (take_all (length d) d (le_of_eq refl))) ∙ digits_first d (length d) (le_of_eq refl)

-- what draws_refusal needs
pub ruleset draws_told = (draws_few, draws_taken, draws_bad, draws_first)
