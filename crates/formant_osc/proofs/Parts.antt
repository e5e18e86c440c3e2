-- What the loops over the five resonators leave.
use mathlib.Core.List.{List, [], ◌∷◌}
use mathlib.Core.Path.{◌≡◌, refl, ap, ◌∙◌}
use Prim.Native.Nat.{ℕ, zero, suc, ◌+◌, ◌*◌, ◌<◌, ◌≤◌}
use native.Mathlib.Numerals.{add-one}
use native.Mathlib.Omega.{arith}
use lib.Ieee.{Float, nan}
use lib.ListN.{length, get_or, set}
use Rattle.laws.proofs.Over.{over_more, over_done}
use Rattle.laws.specs.Float.{zer}
use Rattle.laws.specs.Lists.{tab, over}
use Rattle.formant_osc.specs.Coefs.{spot_of, get_formants, coef_of, bandwidth_of, resonator_coefs}
use Rattle.formant_osc.specs.Sound.{resonate_of, amplitude_of, plus, rung_of}
use Rattle.formant_osc.specs.declared.Coef.{Coef}
use Rattle.formant_osc.specs.declared.Resonated.{Resonated}
use Rattle.formant_osc.specs.declared.Spot.{Spot}

-- the lower vowel has one above it
pub spot_few : (a : Spot) (v : Float) → a ≡ spot_of v → a.index ≤ 3
unfolding spot_of
spot_few a v e = let q = ap (λ (x : Spot). x.index) e in omega arith

-- ---- the rows of coefficients
abbrev pub no_rows : List Float
no_rows = zer ∷ zer ∷ zer ∷ zer ∷ zer ∷ zer ∷ zer ∷ zer ∷ zer ∷ zer ∷ zer ∷ zer ∷ zer ∷ zer ∷ zer ∷ []

-- cell k of them all
abbrev pub row_cell : Float → Float → Float → ℕ → Float
row_cell vowel shift rate k = get_or (resonator_coefs vowel shift rate) k nan

row_is : (vowel shift rate : Float) (i : ℕ) → i < 5 → let k = coef_of (get_or (get_formants vowel shift) i nan) (bandwidth_of i) rate in
    (k.b0 ≡ row_cell vowel shift rate (3 * i)) × (k.a1 ≡ row_cell vowel shift rate (3 * i + 1)) × (k.a2 ≡ row_cell vowel shift rate (3 * i + 2))
unfolding resonator_coefs
row_is v s r zero h = (refl, refl, refl)
row_is v s r (suc zero) h = (refl, refl, refl)
row_is v s r (suc (suc zero)) h = (refl, refl, refl)
row_is v s r (suc (suc (suc zero))) h = (refl, refl, refl)
row_is v s r (suc (suc (suc (suc zero)))) h = (refl, refl, refl)
row_is v s r (suc (suc (suc (suc (suc i))))) h = absurd (omega arith)

-- three cells more
three_more : (f : ℕ → Float) (i : ℕ) (l m : List Float) (a b d : Float) → 3 * i + 2 < length l → m ≡ over f (3 * i) l → a ≡ f (3 * i) → b ≡ f (3 * i + 1)
    → d ≡ f (3 * i + 2) → set (set (set m (3 * i) a) (3 * i + 1) b) (3 * i + 2) d ≡ over f (3 * (i + 1)) l
three_more f i l m a b d h e ea eb ed =
    let x : set m (3 * i) a ≡ over f (3 * i + 1) l = over_more f (3 * i) l m a (omega arith) e ea in
    let second : 3 * i + 1 + 1 ≡ 3 * i + 2 = omega arith in
    let y : set (set m (3 * i) a) (3 * i + 1) b ≡ over f (3 * i + 2) l =
    over_more f (3 * i + 1) l (set m (3 * i) a) b (omega arith) x eb ∙ ap (λ k. over f k l) second in
    let next : 3 * i + 2 + 1 ≡ 3 * (i + 1) = omega arith in
    over_more f (3 * i + 2) l (set (set m (3 * i) a) (3 * i + 1) b) d h y ed ∙ ap (λ k. over f k l) next

pub row_more : (vowel shift rate : Float) (freqs m : List Float) (i : ℕ) (k : Coef) → i < 5 → freqs ≡ get_formants vowel shift
    → k ≡ coef_of (get_or freqs i nan) (bandwidth_of i) rate → m ≡ over (row_cell vowel shift rate) (3 * i) no_rows
    → set (set (set m (3 * i) k.b0) (3 * i + 1) k.a1) (3 * i + 2) k.a2 ≡ over (row_cell vowel shift rate) (3 * (i + 1)) no_rows
row_more v s r freqs m i k h ef ek em =
    let e : k ≡ coef_of (get_or (get_formants v s) i nan) (bandwidth_of i) r = ek ∙ ap (λ (l : List Float). coef_of (get_or l i nan) (bandwidth_of i) r) ef in
    let q = row_is v s r i h in
    three_more (row_cell v s r) i no_rows m k.b0 k.a1 k.a2 (omega arith) em (ap (λ (x : Coef). x.b0) e ∙ q.0) (ap (λ (x : Coef). x.a1) e ∙ q.1)
    (ap (λ (x : Coef). x.a2) e ∙ q.2)

pub rows_done : (vowel shift rate : Float) (m : List Float) (i : ℕ) → i ≡ 5 → m ≡ over (row_cell vowel shift rate) (3 * i) no_rows
    → m ≡ resonator_coefs vowel shift rate
unfolding over tab resonator_coefs
rows_done v s r m i ei em = em ∙ ap (λ k. over (row_cell v s r) (3 * k) no_rows) ei

-- ---- the resonators
-- resonator i, over coefficients c and cells s with the excitation x
abbrev pub resonator : List Float → List Float → Float → ℕ → Resonated
resonator c s x i = resonate_of (get_or c (3 * i) nan) (get_or c (3 * i + 1) nan) (get_or c (3 * i + 2) nan) (get_or s (2 * i) nan) (get_or s (2 * i + 1) nan) x

-- the sum of the first of them
unfoldable pub rung_sum : List Float → List Float → Float → ℕ → Float
rung_sum c s x zero = zer
rung_sum c s x (suc i) = plus (rung_sum c s x i) (resonator c s x i).out (amplitude_of i)

-- cell k after it
abbrev pub cell_after : List Float → List Float → Float → ℕ → Float
cell_after c s x k = get_or (rung_of c s x).state k nan

cells_are : (c s : List Float) (x : Float) (i : ℕ) → i < 5
    → ((resonator c s x i).s0 ≡ cell_after c s x (2 * i)) × ((resonator c s x i).s1 ≡ cell_after c s x (2 * i + 1))
unfolding rung_of
cells_are c s x zero h = (refl, refl)
cells_are c s x (suc zero) h = (refl, refl)
cells_are c s x (suc (suc zero)) h = (refl, refl)
cells_are c s x (suc (suc (suc zero))) h = (refl, refl)
cells_are c s x (suc (suc (suc (suc zero)))) h = (refl, refl)
cells_are c s x (suc (suc (suc (suc (suc i))))) h = absurd (omega arith)

module _ (c s : List Float) (x : Float) where
  pub sum_none : zer ≡ rung_sum c s x 0
  unfolding rung_sum
  sum_none = refl

  pub sum_more : (i : ℕ) (sum : Float) (r : Resonated) → r ≡ resonator c s x i → sum ≡ rung_sum c s x i
      → plus sum r.out (amplitude_of i) ≡ rung_sum c s x (i + 1)
  unfolding rung_sum
  sum_more i sum r e z = rw add-one (λ j. plus (z j) (e j).out (amplitude_of i))

  pub two_more : (i : ℕ) (m : List Float) (r : Resonated) → i < 5 → length s ≡ 10 → r ≡ resonator c s x i → m ≡ over (cell_after c s x) (2 * i) s
      → set (set m (2 * i) r.s0) (2 * i + 1) r.s1 ≡ over (cell_after c s x) (2 * (i + 1)) s
  two_more i m r h n e em =
      let q = cells_are c s x i h in
      let first : set m (2 * i) r.s0 ≡ over (cell_after c s x) (2 * i + 1) s =
      over_more (cell_after c s x) (2 * i) s m r.s0 (omega arith) em (ap (λ (k : Resonated). k.s0) e ∙ q.0) in
      let next : 2 * i + 1 + 1 ≡ 2 * (i + 1) = omega arith in
      over_more (cell_after c s x) (2 * i + 1) s (set m (2 * i) r.s0) r.s1 (omega arith) first (ap (λ (k : Resonated). k.s1) e ∙ q.1)
      ∙ ap (λ k. over (cell_after c s x) k s) next

  pub rung_done : (i : ℕ) (sum : Float) (m : List Float) → i ≡ 5 → length s ≡ 10 → sum ≡ rung_sum c s x i → m ≡ over (cell_after c s x) (2 * i) s
      → record { sum = sum; state = m } ≡ rung_of c s x
  unfolding rung_sum rung_of tab
  rung_done i sum m ei n es em =
      let state : m ≡ tab (cell_after c s x) 10 = over_done (cell_after c s x) (2 * i) 10 s m (omega arith) n em in
      (λ j. record { sum = (es ∙ ap (rung_sum c s x) ei) j; state = state j })
