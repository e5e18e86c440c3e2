-- One step of each definition that a loop follows, and parts of a text. Assumes nothing.
use mathlib.Core.Bool.{Bool, true, false, cond}
use mathlib.Core.List.{List, [], ◌∷◌, ◌++◌, append_assoc}
use mathlib.Core.Logic.{inl, inr}
use mathlib.Core.Path.{◌≡◌, refl, sym, ap, ◌∙◌}
use Prim.Native.Nat.{ℕ, ◌+◌, ◌≤◌, ◌-◌, suc, ◌<◌, ◌^◌, ◌*◌}
use native.Mathlib.Nat.{pow-succ', pow-le-pow_right}
use native.Mathlib.Numerals.{add-one}
use native.Mathlib.Omega.{arith}
use lib.Dec.{leb, ltb, eqb}
use lib.ListN.{length, get_or, take, drop, length-drop, length-take, drop_of_length-le}
use Rattle.std.specs.Prelude.{Some, None, Option, unwrap_or, option_and_then, ◌&&◌, ◌||◌, ◌⊎◌}
use Rattle.std.specs.List.{position_from, list_any}
use Rattle.std.specs.Cmp.Lexicographic.{pointwise}
use lib.Seq.{drop-cons, drop-drop}
use borrow.Author.Tests.{lt-ltb, le-ltb, leb-true, leb-false, eqb-true, ne_eqb, eq-eqb}
use Rattle.line.specs.Bytes.{same_of, has_of, until_of, past_of}
use Rattle.line.specs.Line.{line_of, after_line, key_of, value_of, is_line, next_of}
use Rattle.line.specs.Number.{digits_from, digits_of, negative_of, signed_of}
use Rattle.line.specs.declared.Number.{Number}
use Rattle.line.specs.declared.Number.TheVariants.{Whole}

pub no : false ≡ true → ⊥
no p = let z : ◌≡◌ {A = ℕ} 0 1 = cc in omega arith

-- where the first of a byte stands, and the text's length where there is none
until_from : (x i : ℕ) (t : List ℕ) → unwrap_or (position_from (λ b. eqb b x) i t) (i + length t) ≡ i + length (until_of x t)
unfolding until_of
until_from x i [] = refl
until_from x i (b ∷ bs) = step (eqb b x) (until_from x (i + 1) bs)
  where
    step : (e : Bool) → unwrap_or (position_from (λ b. eqb b x) (i + 1) bs) (i + 1 + length bs) ≡ i + 1 + length (until_of x bs)
        → unwrap_or (cond e (Some i) (position_from (λ b. eqb b x) (i + 1) bs)) (i + suc (length bs)) ≡ i + length (cond e [] (b ∷ until_of x bs))
    step true h = omega arith
    step false h =
        let n : i + suc (length bs) ≡ i + 1 + length bs = omega arith in
        ap (unwrap_or (position_from (λ b. eqb b x) (i + 1) bs)) n ∙ h ∙ omega arith

pub until_found : (x : ℕ) (t : List ℕ) {r : Option ℕ} {n : ℕ} → r ≡ position_from (λ b. eqb b x) 0 t → n ≡ unwrap_or r (length t)
    → n ≡ length (until_of x t)
until_found x t p e =
    let zero : (n : ℕ) → 0 + n ≡ n = λ n. omega arith in
    e ∙ ap (λ (r : Option ℕ). unwrap_or r (length t)) p
    ∙ ap (unwrap_or (position_from (λ b. eqb b x) 0 t)) (sym (zero (length t))) ∙ until_from x 0 t ∙ zero _

-- a test of which the first arm is none
otherwise : (b : Bool) {r : Option Number} → r ≡ None → cond b None r ≡ None
otherwise true e = refl
otherwise false e = e

module _ (s : List ℕ) (i : ℕ) (h : i < length s) where
  pub digits_other : (n : ℕ) → (get_or s i 0 < 48) ⊎ (57 < get_or s i 0) → digits_from n (drop i s) ≡ None
  unfolding digits_from
  digits_other n (inl e) = simp (drop-cons s i 0 h, lt-ltb (get_or s i 0) 48 e)
  digits_other n (inr e) = simp (drop-cons s i 0 h, lt-ltb 57 (get_or s i 0) e) (otherwise (ltb (get_or s i 0) 48) refl)

  pub digits_next : (n : ℕ) → 48 ≤ get_or s i 0 → get_or s i 0 ≤ 57 → digits_from n (drop i s) ≡ digits_from (n * 10 + (get_or s i 0 - 48)) (drop (i + 1) s)
  unfolding digits_from
  digits_next n l e = simp (add-one, drop-cons s i 0 h, le-ltb (get_or s i 0) 48 l, le-ltb 57 (get_or s i 0) e)

pub digits_end : (s : List ℕ) (i n : ℕ) → length s ≤ i → digits_from n (drop i s) ≡ Some (Whole false n)
unfolding digits_from
digits_end s i n h = simp (drop_of_length-le s h)

-- what is refused before the first digit is read, and what is left for the loop
module _ (v : List ℕ) where
  pub no_digits : length v ≡ 0 → digits_of v ≡ None
  unfolding digits_of
  no_digits e = simp (eq-eqb (length v) 0 e)

  pub many_digits : 12 < length v → digits_of v ≡ None
  unfolding digits_of
  many_digits h = simp (lt-ltb 12 (length v) h) (otherwise (eqb (length v) 0) refl)

  pub zero_first : get_or v 0 0 ≡ 48 → (length v ≡ 1 → ⊥) → digits_of v ≡ None
  unfolding digits_of
  zero_first e n = simp (eq-eqb (get_or v 0 0) 48 e, ne_eqb (length v) 1 n) (otherwise (eqb (length v) 0) (otherwise (ltb _ (length v)) refl))

  pub other_first : (length v ≡ 0 → ⊥) → length v ≤ 12 → (get_or v 0 0 ≡ 48 → ⊥) → digits_of v ≡ digits_from 0 v
  unfolding digits_of
  other_first n h e = simp (ne_eqb (length v) 0 n, le-ltb 12 (length v) h, ne_eqb (get_or v 0 0) 48 e)

pub zero_alone : (v : List ℕ) → get_or v 0 0 ≡ 48 → length v ≡ 1 → digits_of v ≡ digits_from 0 v
unfolding digits_of digits_from
zero_alone [] e n = absurd (omega arith)
zero_alone (b ∷ []) e n = simp e
zero_alone (b ∷ c ∷ cs) e n = absurd (let m : suc (suc (length cs)) ≡ 1 = n in omega arith)

-- a minus sign comes first, or none
pub signed_minus : (v d : List ℕ) {r : Option Number} → pointwise eqb (take 1 v) (45 ∷ []) ≡ true → d ≡ drop 1 v → r ≡ digits_of d
    → signed_of v ≡ option_and_then negative_of r
unfolding signed_of
signed_minus [] d p e f = absurd (no p)
signed_minus (b ∷ bs) d {r} p e f = simp (ne_eqb (suc (length bs)) 0 (λ z. omega arith), minus (eqb b 45) p, ← e, ← f)
  where
    minus : (t : Bool) → (t && true) ≡ true → t ≡ true
    minus true p = refl
    minus false p = p

pub signed_plain : (v : List ℕ) → pointwise eqb (take 1 v) (45 ∷ []) ≡ false → signed_of v ≡ digits_of v
unfolding signed_of digits_of
signed_plain [] p = refl
signed_plain (b ∷ bs) p = simp (ne_eqb (suc (length bs)) 0 (λ z. omega arith), plain (eqb b 45) p)
  where
    plain : (t : Bool) → (t && true) ≡ false → t ≡ false
    plain true p = p
    plain false p = refl

pub empty : (l : List ℕ) → length l ≡ 0 → l ≡ []
empty [] e = refl
empty (b ∷ bs) e = absurd (none e)
  where
    none : suc (length bs) ≡ 0 → ⊥
    none e = omega arith

-- `==` of two slices is the same as byte for byte
pub same_pointwise : (s t : List ℕ) → pointwise eqb s t ≡ same_of s t
unfolding same_of
same_pointwise [] [] = refl
same_pointwise [] (b ∷ bs) = refl
same_pointwise (b ∷ bs) [] = refl
same_pointwise (b ∷ bs) (c ∷ cs) = step (eqb b c) (same_pointwise bs cs)
  where
    step : (e : Bool) → pointwise eqb bs cs ≡ same_of bs cs → (e && pointwise eqb bs cs) ≡ cond e (same_of bs cs) false
    step true h = h
    step false h = refl

-- what is the same is equal
both : {b c : ℕ} {bs cs : List ℕ} (t : Bool) → eqb b c ≡ t → (same_of bs cs ≡ true → bs ≡ cs) → cond t (same_of bs cs) false ≡ true → b ∷ bs ≡ c ∷ cs
both {b} {c} {bs} {cs} true e f p = ap (λ (x : ℕ). x ∷ bs) (eqb-true b c e) ∙ ap (λ (l : List ℕ). c ∷ l) (f p)
both false e f p = absurd (no p)

pub same_equal : (s t : List ℕ) → same_of s t ≡ true → s ≡ t
unfolding same_of
same_equal [] [] p = refl
same_equal [] (c ∷ cs) p = absurd (no p)
same_equal (b ∷ bs) [] p = absurd (no p)
same_equal (b ∷ bs) (c ∷ cs) p = both (eqb b c) refl (same_equal bs cs) p

-- 12 digits stay below 10 ^ 12
pub ten_fold : (n d i : ℕ) → n < 10 ^ i → d ≤ 9 → n * 10 + d < 10 ^ (i + 1)
ten_fold n d i h l = rw (add-one, pow-succ' 10 i) (omega arith)

pub twelve : (n i : ℕ) → n < 10 ^ i → i ≤ 12 → n < 10 ^ 12
twelve n i h l = omega (arith, pow-le-pow_right {n = 10} (omega arith) {i = i} {j = 12} l)

-- where the rest begins
pub drop_back : (s : List ℕ) (k : ℕ) → drop (length s - length (drop k s)) s ≡ drop k s
drop_back s k = tests (leb k (length s)) refl
  where
    tests : (b : Bool) → leb k (length s) ≡ b → drop (length s - length (drop k s)) s ≡ drop k s
    tests true e =
        let h : k ≤ length s = leb-true k (length s) e in
        let i : length s - length (drop k s) ≡ k = omega (arith, length-drop k s) in
        ap (λ (j : ℕ). drop j s) i
    tests false e =
        let h : length s < k = leb-false k (length s) e in
        let i : length s ≤ length s - length (drop k s) = omega (arith, length-drop k s) in
        drop_of_length-le s i ∙ sym (drop_of_length-le s {i = k} (omega arith))

-- the parts before and after a byte, by how many stand before it
module _ (x b : ℕ) (bs : List ℕ) where
  take_step : (e : Bool) → take (length (until_of x bs)) bs ≡ until_of x bs → take (length (cond e [] (b ∷ until_of x bs))) (b ∷ bs)
      ≡ cond e [] (b ∷ until_of x bs)
  take_step true h = refl
  take_step false h = ap (λ (l : List ℕ). b ∷ l) h

  drop_step : (e : Bool) → drop (suc (length (until_of x bs))) bs ≡ past_of x bs
      → drop (suc (length (cond e [] (b ∷ until_of x bs)))) (b ∷ bs) ≡ cond e bs (past_of x bs)
  drop_step true h = refl
  drop_step false h = h

pub until_take : (x : ℕ) (t : List ℕ) → take (length (until_of x t)) t ≡ until_of x t
unfolding until_of
until_take x [] = refl
until_take x (b ∷ bs) = take_step x b bs (eqb b x) (until_take x bs)

-- the part that a count of its bytes takes
pub until_part : (x : ℕ) (t : List ℕ) (n : ℕ) → n ≡ length (until_of x t) → take n t ≡ until_of x t
until_part x t n e = ap (λ (i : ℕ). take i t) e ∙ until_take x t

pub past_drop : (x : ℕ) (t : List ℕ) → drop (suc (length (until_of x t))) t ≡ past_of x t
unfolding until_of past_of
past_drop x [] = refl
past_drop x (b ∷ bs) = drop_step x b bs (eqb b x) (past_drop x bs)

pub past_part : (x : ℕ) (t : List ℕ) (n : ℕ) → n ≡ length (until_of x t) → drop (n + 1) t ≡ past_of x t
past_part x t n e = ap (λ (i : ℕ). drop i t) (add-one n ∙ ap suc e) ∙ past_drop x t

pub until_short : (x : ℕ) (t : List ℕ) → length (until_of x t) ≤ length t
until_short x t = omega (arith, ap length (until_take x t), length-take (length (until_of x t)) t)

pub past_short : (x : ℕ) (t : List ℕ) → length (past_of x t) ≤ length t
past_short x t = omega (arith, ap length (past_drop x t), length-drop (suc (length (until_of x t))) t)

-- the library's test of each byte asks whether the byte stands there
pub has_any : (x : ℕ) (t : List ℕ) → list_any (λ b. eqb b x) t ≡ has_of x t
unfolding has_of
has_any x [] = refl
has_any x (b ∷ bs) = step (eqb b x) (has_any x bs)
  where
    step : (e : Bool) → list_any (λ b. eqb b x) bs ≡ has_of x bs → (e || list_any (λ b. eqb b x) bs) ≡ cond e true (has_of x bs)
    step true h = refl
    step false h = h

-- the text after a line is the text from the next place on
next_rest : (s : List ℕ) (at : ℕ) → drop (next_of s at) s ≡ after_line (drop at s)
unfolding next_of after_line
next_rest s at =
    let n : ℕ = suc (length (until_of 10 (drop at s))) in
    let e : drop (at + n) s ≡ past_of 10 (drop at s) = sym (drop-drop n at s) ∙ past_drop 10 (drop at s) in
    ap (λ (l : List ℕ). drop (length s - length l) s) (sym e) ∙ drop_back s (at + n) ∙ e

pub after_line_lem : (s : List ℕ) (at n : ℕ) → n ≡ next_of s at → after_line (drop at s) ≡ drop n s
after_line_lem s at n e = sym (next_rest s at) ∙ ap (λ (i : ℕ). drop i s) (sym e)

-- the parts of a text that has the byte make the text
split_step : (x b : ℕ) (bs : List ℕ) (e : Bool) → eqb b x ≡ e → (has_of x bs ≡ true → until_of x bs ++ (x ∷ past_of x bs) ≡ bs) → cond e true (has_of x bs)
    ≡ true
    → cond e [] (b ∷ until_of x bs) ++ (x ∷ cond e bs (past_of x bs)) ≡ b ∷ bs
split_step x b bs true e f p = ap (λ (i : ℕ). i ∷ bs) (sym (eqb-true b x e))
split_step x b bs false e f p = ap (λ (l : List ℕ). b ∷ l) (f p)

split : (x : ℕ) (t : List ℕ) → has_of x t ≡ true → until_of x t ++ (x ∷ past_of x t) ≡ t
unfolding has_of until_of past_of
split x [] p = absurd (no p)
split x (b ∷ bs) p = split_step x b bs (eqb b x) refl (split x bs) p

-- a line and the text after it make the text
pub line_split : (key t : List ℕ) → is_line key t ≡ true → key ++ (61 ∷ (value_of t ++ (10 ∷ after_line t))) ≡ t
unfolding is_line key_of value_of line_of after_line
line_split key t p = tests (has_of 10 t) (has_of 61 (until_of 10 t)) refl refl p
  where
    tests : (a b : Bool) → has_of 10 t ≡ a → has_of 61 (until_of 10 t) ≡ b → cond a (cond b (same_of (until_of 61 (until_of 10 t)) key) false) false ≡ true
        → key ++ (61 ∷ (past_of 61 (until_of 10 t) ++ (10 ∷ past_of 10 t))) ≡ t
    tests true true ea eb p =
        ap (λ (l : List ℕ). l ++ (61 ∷ (past_of 61 (until_of 10 t) ++ (10 ∷ past_of 10 t)))) (sym (same_equal (until_of 61 (until_of 10 t)) key p))
        ∙ sym (append_assoc (until_of 61 (until_of 10 t)) (61 ∷ past_of 61 (until_of 10 t)) (10 ∷ past_of 10 t))
        ∙ ap (λ (l : List ℕ). l ++ (10 ∷ past_of 10 t)) (split 61 (until_of 10 t) eb)
        ∙ split 10 t ea
    tests true false ea eb p = absurd (no p)
    tests false b ea eb p = absurd (no p)
