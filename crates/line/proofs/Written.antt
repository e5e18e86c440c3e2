-- What is written as a number, or as a line, is read again. Assumes nothing.
use Prim.Native.Nat.{ℕ, zero, suc, ◌+◌, ◌-◌, ◌*◌, ◌/◌, ◌%◌, ◌<◌, ◌≤◌, ◌^◌}
use mathlib.Core.Path.{◌≡◌, refl, ap, sym, subst, ◌∙◌}
use mathlib.Core.List.{List, [], ◌∷◌, ◌++◌, append_assoc}
use mathlib.Core.Bool.{Bool, true, false, cond}
use native.Mathlib.Omega.{arith}
use lib.ListN.{length}
use Rattle.std.specs.Prelude.{Some, None}
use lib.Dec.{ltb, eqb, lit≤}
use borrow.Author.Tests.{le-ltb, ne_eqb, eq-eqb}
use Rattle.text.specs.Decimal.{decimal_from, decimal_text}
use Rattle.text.specs.Hex.{glyph}
use Rattle.text.proofs.DecimalLaws.{every, glyph_small, decimal_short}
use Rattle.line.specs.Bytes.{ascii, same_of, has_of, until_of, past_of}
use Rattle.line.specs.Line.{line_of, after_line, key_of, value_of, is_line}
use Rattle.line.specs.Number.{digits_from, digits_of, negative_of, signed_of, number_of, number_text}
use Rattle.line.specs.Promises.{NumberRead}
use Rattle.line.proofs.Laws.{no}
use Rattle.line.specs.declared.Number.{Number}
use Rattle.line.specs.declared.Number.TheVariants.{Whole, Nan}

-- ---- digits that are read, and one more of them
no_number : {n : ℕ} → None ≡ Some (Whole false n) → ⊥
no_number q = let z : ◌≡◌ {A = ℕ} 0 1 = cc in omega arith

same_size : {m n : ℕ} → Some (Whole false m) ≡ Some (Whole false n) → m ≡ n
same_size q = cc

one_digit : (m d : ℕ) → d ≤ 9 → digits_from m ((48 + d) ∷ []) ≡ Some (Whole false (m * 10 + d))
unfolding digits_from
one_digit m d h =
    let e : 48 + d - 48 ≡ d = omega arith in
    simp (le-ltb (48 + d) 48 (omega arith), le-ltb 57 (48 + d) (omega arith), e)

module _ (n d : ℕ) (h : d ≤ 9) where
  abbrev More : ℕ → List ℕ → Type 0
  More m xs = digits_from m xs ≡ Some (Whole false n) → digits_from m (xs ++ ((48 + d) ∷ [])) ≡ Some (Whole false (n * 10 + d))

  byte : (m b : ℕ) (bs : List ℕ) (t u : Bool) → More (m * 10 + (b - 48)) bs
      → cond t None (cond u None (digits_from (m * 10 + (b - 48)) bs)) ≡ Some (Whole false n)
      → cond t None (cond u None (digits_from (m * 10 + (b - 48)) (bs ++ ((48 + d) ∷ [])))) ≡ Some (Whole false (n * 10 + d))
  byte m b bs true u f e = absurd (no_number e)
  byte m b bs false true f e = absurd (no_number e)
  byte m b bs false false f e = f e

  more_digits : (m : ℕ) (xs : List ℕ) → More m xs
  unfolding digits_from
  more_digits m [] e = one_digit m d h ∙ ap (λ (i : ℕ). Some (Whole false (i * 10 + d))) (same_size e)
  more_digits m (b ∷ bs) e = byte m b bs (ltb b 48) (ltb 57 b) (more_digits (m * 10 + (b - 48)) bs) e

-- ---- what holds of one digit, and of one more after those of a tenth, holds of every number
module _ (P : ℕ → List ℕ → Type 0) (one : (n : ℕ) → n < 10 → P n ((48 + n) ∷ []))
    (more : (n : ℕ) (t : List ℕ) → 10 ≤ n → P (n / 10) t → P n (t ++ ((48 + n % 10) ∷ []))) where
  each_number : (n : ℕ) → P n (decimal_text n)
  each_number = every P (λ n h. rw (glyph_small n h) (one n h)) (λ n t h p. rw (glyph_small (n % 10) (omega arith)) (more n t h p))

-- its digits are read as the number
read_one : (n : ℕ) → n < 10 → digits_from 0 ((48 + n) ∷ []) ≡ Some (Whole false n)
read_one n h = let q : 0 * 10 + n ≡ n = omega arith in one_digit 0 n (omega arith) ∙ ap (λ (i : ℕ). Some (Whole false i)) q

read_more : (n : ℕ) (t : List ℕ) → 10 ≤ n → digits_from 0 t ≡ Some (Whole false (n / 10)) → digits_from 0 (t ++ ((48 + n % 10) ∷ [])) ≡ Some (Whole false n)
read_more n t h f =
    let q : n / 10 * 10 + n % 10 ≡ n = omega arith in
    more_digits (n / 10) (n % 10) (omega arith) 0 t f ∙ ap (λ (i : ℕ). Some (Whole false i)) q

decimal_read : (n : ℕ) → digits_from 0 (decimal_text n) ≡ Some (Whole false n)
decimal_read = each_number (λ n t. digits_from 0 t ≡ Some (Whole false n)) read_one read_more

-- the first is a digit, and not 0 but of 0
data First (n : ℕ) : List ℕ → Type 0 where
  first : (b : ℕ) (bs : List ℕ) → 48 ≤ b → b ≤ 57 → (0 < n → 48 < b) → First n (b ∷ bs)

more_after : {m n : ℕ} {xs : List ℕ} (ys : List ℕ) → 0 < m → First m xs → First n (xs ++ ys)
more_after ys p (first b bs l g f) = first b (bs ++ ys) l g (λ q. f p)

decimal_first : (n : ℕ) → First n (decimal_text n)
decimal_first =
    each_number First (λ n h. first (48 + n) [] (omega arith) (omega arith) (λ p. omega arith))
    (λ n t h f. more_after ((48 + n % 10) ∷ []) (omega arith) f)

-- ---- the promise
not_nan : (b : ℕ) (bs : List ℕ) → b ≤ 57 → same_of (b ∷ bs) (ascii "nan") ≡ false
unfolding same_of
not_nan b bs g = simp (ne_eqb b 110 (λ e. omega arith))

module _ (n : ℕ) (p : 0 < n) where
  unsigned : {v : List ℕ} → First n v → length v ≤ 12 → digits_from 0 v ≡ Some (Whole false n) → digits_of v ≡ Some (Whole false n)
  unfolding digits_of
  unsigned (first b bs l g f) s e =
      let h = f p in
      simp (ne_eqb (suc (length bs)) 0 (λ e. omega arith), le-ltb 12 (suc (length bs)) s, ne_eqb b 48 (λ e. omega arith), e)

  plus_read : {v : List ℕ} → First n v → digits_of v ≡ Some (Whole false n) → number_of v ≡ Some (Whole false n)
  unfolding number_of signed_of
  plus_read (first b bs l g f) e =
      simp (not_nan b bs g, ne_eqb (suc (length bs)) 0 (λ e. omega arith), ne_eqb b 45 (λ e. omega arith), e)

  minus_read : (v : List ℕ) → digits_of v ≡ Some (Whole false n) → number_of (45 ∷ v) ≡ Some (Whole true n)
  unfolding number_of signed_of negative_of
  minus_read v e = simp (not_nan 45 v (lit≤ tt), ne_eqb (suc (length v)) 0 (λ e. omega arith), e, ne_eqb n 0 (λ e. omega arith))

  digits_read : n < 10 ^ 12 → digits_of (decimal_text n) ≡ Some (Whole false n)
  digits_read h = unsigned (decimal_first n) (decimal_short 11 n h) (decimal_read n)

  signed_read : (minus : Bool) → n < 10 ^ 12 → number_of (number_text (Whole minus n)) ≡ Some (Whole minus n)
  unfolding number_text
  signed_read true h = minus_read (decimal_text n) (digits_read h)
  signed_read false h = plus_read (decimal_first n) (digits_read h)

zero_read : number_of (number_text (Whole false 0)) ≡ Some (Whole false 0)
unfolding number_of number_text decimal_text decimal_from glyph signed_of digits_of same_of
zero_read = refl

nan_read : number_of (number_text Nan) ≡ Some Nan
unfolding number_of number_text same_of
nan_read = refl

pub number_read : NumberRead
number_read (Whole minus (suc n)) (h, p) = signed_read (suc n) (omega arith) minus h
number_read (Whole true zero) (h, p) = absurd (let z = p refl in omega arith)
number_read (Whole false zero) (h, p) = zero_read
number_read Nan h = nan_read

-- ---- the text of a number has no line feed
joined_no : (x : ℕ) (s t : List ℕ) → has_of x s ≡ false → has_of x t ≡ false → has_of x (s ++ t) ≡ false
unfolding has_of
joined_no x [] t p q = q
joined_no x (b ∷ bs) t p q = tests (eqb b x) (joined_no x bs t) p
  where
    tests : (e : Bool) → (has_of x bs ≡ false → has_of x t ≡ false → has_of x (bs ++ t) ≡ false) → cond e true (has_of x bs) ≡ false
        → cond e true (has_of x (bs ++ t)) ≡ false
    tests true f p = absurd (no (sym p))
    tests false f p = f p q

digit_no_feed : (d : ℕ) → has_of 10 ((48 + d) ∷ []) ≡ false
unfolding has_of
digit_no_feed d = simp (ne_eqb (48 + d) 10 (λ e. omega arith))

decimal_no_feed : (n : ℕ) → has_of 10 (decimal_text n) ≡ false
decimal_no_feed =
    each_number (λ n t. has_of 10 t ≡ false) (λ n h. digit_no_feed n) (λ n t h f. joined_no 10 t ((48 + n % 10) ∷ []) f (digit_no_feed (n % 10)))

pub number_no_feed : (x : Number) → has_of 10 (number_text x) ≡ false
unfolding number_text has_of
number_no_feed (Whole true n) = decimal_no_feed n
number_no_feed (Whole false n) = decimal_no_feed n
number_no_feed Nan = refl

-- ---- a line that is written is read: it is one of its key, with its value, and the text after it is what follows
has_seam : (x : ℕ) (s t : List ℕ) → has_of x (s ++ (x ∷ t)) ≡ true
unfolding has_of
has_seam x [] t = simp (eq-eqb x x refl)
has_seam x (b ∷ bs) t = tests (eqb b x) (has_seam x bs t)
  where
    tests : (e : Bool) → has_of x (bs ++ (x ∷ t)) ≡ true → cond e true (has_of x (bs ++ (x ∷ t))) ≡ true
    tests true f = refl
    tests false f = f

module _ (x : ℕ) (t : List ℕ) where
  until_seam : (s : List ℕ) → has_of x s ≡ false → until_of x (s ++ (x ∷ t)) ≡ s
  unfolding has_of until_of
  until_seam [] p = simp (eq-eqb x x refl)
  until_seam (b ∷ bs) p = tests (eqb b x) (until_seam bs) p
    where
      tests : (e : Bool) → (has_of x bs ≡ false → until_of x (bs ++ (x ∷ t)) ≡ bs) → cond e true (has_of x bs) ≡ false
          → cond e [] (b ∷ until_of x (bs ++ (x ∷ t))) ≡ b ∷ bs
      tests true f p = absurd (no (sym p))
      tests false f p = ap (λ (l : List ℕ). b ∷ l) (f p)

  past_seam : (s : List ℕ) → has_of x s ≡ false → past_of x (s ++ (x ∷ t)) ≡ t
  unfolding has_of past_of
  past_seam [] p = simp (eq-eqb x x refl)
  past_seam (b ∷ bs) p = tests (eqb b x) (past_seam bs) p
    where
      tests : (e : Bool) → (has_of x bs ≡ false → past_of x (bs ++ (x ∷ t)) ≡ t) → cond e true (has_of x bs) ≡ false
          → cond e (bs ++ (x ∷ t)) (past_of x (bs ++ (x ∷ t))) ≡ t
      tests true f p = absurd (no (sym p))
      tests false f p = f p

same_refl : (s : List ℕ) → same_of s s ≡ true
unfolding same_of
same_refl [] = refl
same_refl (b ∷ bs) = simp (eq-eqb b b refl, same_refl bs)

-- a key has neither an equals sign nor a line feed
abbrev pub Key : List ℕ → Type 0
Key key = (has_of 61 key ≡ false) × (has_of 10 key ≡ false)

pub record LineRead (key v after text : List ℕ) : Type 0 where
  pub asked : is_line key text ≡ true
  pub value : value_of text ≡ v
  pub left : after_line text ≡ after

module _ (key v after : List ℕ) (k : Key key) (n : has_of 10 v ≡ false) where
  no_feed : has_of 10 (key ++ (61 ∷ v)) ≡ false
  unfolding has_of
  no_feed = joined_no 10 key (61 ∷ v) k.1 n

  its_line : line_of ((key ++ (61 ∷ v)) ++ (10 ∷ after)) ≡ key ++ (61 ∷ v)
  unfolding line_of
  its_line = until_seam 10 after (key ++ (61 ∷ v)) no_feed

  joined_read : LineRead key v after ((key ++ (61 ∷ v)) ++ (10 ∷ after))
  unfolding is_line key_of value_of after_line
  joined_read =
      record {
        asked = simp (has_seam 10 (key ++ (61 ∷ v)) after, its_line, has_seam 61 key v, until_seam 61 v key k.0, same_refl key);
        value = simp (its_line, past_seam 61 v key k.0);
        left = past_seam 10 after (key ++ (61 ∷ v)) no_feed;
      }

  pub line_read : LineRead key v after (key ++ (61 ∷ (v ++ (10 ∷ after))))
  line_read = subst (LineRead key v after) (append_assoc key (61 ∷ v) (10 ∷ after)) joined_read
