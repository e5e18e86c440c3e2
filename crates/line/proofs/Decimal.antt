-- What is read as a number is written again as it stood. Assumes nothing.
use Prim.Native.Nat.{ℕ, suc, ◌+◌, ◌-◌, ◌*◌, ◌/◌, ◌%◌, ◌<◌, ◌≤◌}
use mathlib.Core.Path.{◌≡◌, refl, ap, sym, subst, ◌∙◌}
use mathlib.Core.List.{List, [], ◌∷◌, ◌++◌, append_assoc, append-nil}
use mathlib.Core.Bool.{Bool, true, false, cond}
use native.Mathlib.Omega.{arith}
use lib.ListN.{length}
use Rattle.std.specs.Prelude.{Option, Some, None, option_and_then}
use lib.Dec.{ltb, eqb}
use borrow.Author.Tests.{ltb-false, eqb-true, eqb-false}
use Rattle.text.specs.Decimal.{decimal_text}
use Rattle.text.proofs.DecimalLaws.{decimal_small, decimal_large, glyph_small}
use Rattle.line.specs.Bytes.{ascii, same_of}
use Rattle.line.specs.Number.{digits_from, digits_of, negative_of, signed_of, number_of, number_text}
use Rattle.line.specs.Promises.{NumberText}
use Rattle.line.proofs.Laws.{empty, same_equal}
use Rattle.line.specs.declared.Number.{Number}
use Rattle.line.specs.declared.Number.TheVariants.{Whole, Nan}

-- ---- a number's digits, by the last of them
small : (n : ℕ) → n < 10 → decimal_text n ≡ (48 + n) ∷ []
small n h = decimal_small n h ∙ ap (λ (b : ℕ). b ∷ []) (glyph_small n h)

large : (n : ℕ) → 10 ≤ n → decimal_text n ≡ decimal_text (n / 10) ++ ((48 + n % 10) ∷ [])
large n h = decimal_large n h ∙ ap (λ (b : ℕ). decimal_text (n / 10) ++ (b ∷ [])) (glyph_small (n % 10) (omega arith))

-- one more digit at the end
last : (m b : ℕ) → 0 < m → 48 ≤ b → b ≤ 57 → decimal_text (m * 10 + (b - 48)) ≡ decimal_text m ++ (b ∷ [])
last m b h l g =
    let e : (m * 10 + (b - 48)) / 10 ≡ m = omega arith in
    let f : 48 + (m * 10 + (b - 48)) % 10 ≡ b = omega arith in
    large (m * 10 + (b - 48)) (omega arith) ∙ (λ i. decimal_text (e i) ++ (f i ∷ []))

-- digits read after those of m
data After (m : ℕ) (xs : List ℕ) : Option Number → Type 0 where
  right : (n : ℕ) → decimal_text n ≡ decimal_text m ++ xs → After m xs (Some (Whole false n))
  wrong : After m xs None

module _ (m b : ℕ) (bs : List ℕ) (h : 0 < m) where
  digit : {x : Option Number} → 48 ≤ b → b ≤ 57 → After (m * 10 + (b - 48)) bs x → After m (b ∷ bs) x
  digit l g (right n e) = right n (e ∙ ap (λ (l : List ℕ). l ++ bs) (last m b h l g) ∙ append_assoc (decimal_text m) (b ∷ []) bs)
  digit l g wrong = wrong

  byte : (x : Option Number) (t u : Bool) → ltb b 48 ≡ t → ltb 57 b ≡ u → After (m * 10 + (b - 48)) bs x
      → After m (b ∷ bs) (cond t None (cond u None x))
  byte x true u et eu r = wrong
  byte x false true et eu r = wrong
  byte x false false et eu r = digit (ltb-false b 48 et) (ltb-false 57 b eu) r

after : (m : ℕ) (xs : List ℕ) → 0 < m → After m xs (digits_from m xs)
unfolding digits_from
after m [] h = right m (sym (append-nil (decimal_text m)))
after m (b ∷ bs) h = byte m b bs h (digits_from (m * 10 + (b - 48)) bs) (ltb b 48) (ltb 57 b) refl refl (after (m * 10 + (b - 48)) bs (omega arith))

-- a run of digits, and what it reads as
data Digits (v : List ℕ) : Option Number → Type 0 where
  digits : (n : ℕ) → decimal_text n ≡ v → Digits v (Some (Whole false n))
  none : Digits v None

module _ (b : ℕ) (bs : List ℕ) where
  -- the first digit isn't 0
  run : {x : Option Number} → 48 < b → b ≤ 57 → After (0 * 10 + (b - 48)) bs x → Digits (b ∷ bs) x
  run l g (right n e) =
      let f : 48 + (0 * 10 + (b - 48)) ≡ b = omega arith in
      digits n (e ∙ ap (λ (l : List ℕ). l ++ bs) (small (0 * 10 + (b - 48)) (omega arith) ∙ ap (λ (j : ℕ). j ∷ []) f))
  run l g wrong = none

  bytes : (t u : Bool) → ltb b 48 ≡ t → ltb 57 b ≡ u → (b ≡ 48 → ⊥)
      → Digits (b ∷ bs) (cond t None (cond u None (digits_from (0 * 10 + (b - 48)) bs)))
  bytes true u et eu ne = none
  bytes false true et eu ne = none
  bytes false false et eu ne =
      let l : 48 < b = omega (arith, ltb-false b 48 et, ne) in
      run l (ltb-false 57 b eu) (after (0 * 10 + (b - 48)) bs (omega arith))

  form : (t u w z : Bool) → eqb b 48 ≡ w → eqb (suc (length bs)) 1 ≡ z
      → Digits (b ∷ bs) (cond t None (cond u None (cond w (cond z (Some (Whole false 0)) None) (digits_from 0 (b ∷ bs)))))
  unfolding digits_from
  form true u w z ew ez = none
  form false true w z ew ez = none
  form false false true true ew ez =
      let e : length bs ≡ 0 = omega (arith, eqb-true (suc (length bs)) 1 ez) in
      digits 0 (small 0 (omega arith) ∙ ap (λ (i : ℕ). i ∷ []) (sym (eqb-true b 48 ew)) ∙ ap (λ (l : List ℕ). b ∷ l) (sym (empty bs e)))
  form false false true false ew ez = none
  form false false false z ew ez = bytes (ltb b 48) (ltb 57 b) refl refl (eqb-false b 48 ew)

digits_of_lem : (v : List ℕ) → Digits v (digits_of v)
unfolding digits_of
digits_of_lem [] = none
digits_of_lem (b ∷ bs) = form b bs (eqb (suc (length bs)) 0) (ltb _ (suc (length bs))) (eqb b 48) (eqb (suc (length bs)) 1) refl refl

-- a value, and what it reads as
data Text (v : List ℕ) : Option Number → Type 0 where
  text : (x : Number) → number_text x ≡ v → Text v (Some x)
  bad : Text v None

plus : {v : List ℕ} {x : Option Number} → Digits v x → Text v x
unfolding number_text
plus (digits n e) = text (Whole false n) e
plus none = bad

minus : {v : List ℕ} {x : Option Number} → Digits v x → Text (45 ∷ v) (option_and_then negative_of x)
unfolding number_text negative_of
minus {v} (digits n e) = zero_test (eqb n 0)
  where
    zero_test : (t : Bool) → Text (45 ∷ v) (cond t None (Some (Whole true n)))
    zero_test true = bad
    zero_test false = text (Whole true n) (ap (λ (l : List ℕ). 45 ∷ l) e)
minus none = bad

sign : (b : ℕ) (bs : List ℕ) (t u : Bool) → eqb b 45 ≡ u
    → Text (b ∷ bs) (cond t None (cond u (option_and_then negative_of (digits_of bs)) (digits_of (b ∷ bs))))
sign b bs true u e = bad
sign b bs false true e = subst (λ (i : ℕ). Text (i ∷ bs) (option_and_then negative_of (digits_of bs))) (sym (eqb-true b 45 e)) (minus (digits_of_lem bs))
sign b bs false false e = plus (digits_of_lem (b ∷ bs))

signed : (v : List ℕ) → Text v (signed_of v)
unfolding signed_of
signed [] = bad
signed (b ∷ bs) = sign b bs (eqb (suc (length bs)) 0) (eqb b 45) refl

nan_or : (v : List ℕ) (t : Bool) → same_of v (ascii "nan") ≡ t → Text v (cond t (Some Nan) (signed_of v))
unfolding number_text
nan_or v true e = text Nan (sym (same_equal v (ascii "nan") e))
nan_or v false e = signed v

told : {v : List ℕ} {x : Number} {r : Option Number} → Text v r → r ≡ Some x → number_text x ≡ v
told {v} {x} (text y e) p = let q : y ≡ x = cc in ap number_text (sym q) ∙ e
told bad p = absurd (let z : ◌≡◌ {A = ℕ} 0 1 = cc in omega arith)

pub number_text_lem : NumberText
unfolding number_of
number_text_lem v x p = told (nan_or v (same_of v (ascii "nan")) refl) p

-- no value is -0
pub no_minus_zero : (v : List ℕ) → number_of v ≡ Some (Whole true 0) → ⊥
unfolding number_of number_text signed_of digits_of negative_of same_of
no_minus_zero v p =
    let e : 45 ∷ 48 ∷ [] ≡ v = ap (λ (l : List ℕ). 45 ∷ l) (sym (small 0 (omega arith))) ∙ number_text_lem v (Whole true 0) p in
    contradiction (sym p ∙ ap number_of (sym e))
  where
    contradiction : Some (Whole true 0) ≡ None → ⊥
    contradiction q = let z : ◌≡◌ {A = ℕ} 0 1 = cc in omega arith
