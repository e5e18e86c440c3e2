-- Rows stored one after another, and the floats of a state stored run by run.
use mathlib.Core.List.{List, [], ◌∷◌, ◌++◌}
use mathlib.Core.Path.{◌≡◌, sym, ap, ◌∙◌}
use Prim.Native.Nat.{ℕ, suc, ◌+◌, ◌<◌}
use native.Mathlib.Numerals.{add-one}
use native.Mathlib.Omega.{arith}
use lib.Ieee.{Float, nan}
use lib.ListN.{length, length-append, get_or, set, take}
use lib.Seq.{sets, length-take-le, take_all, take-suc}
use Rattle.laws.proofs.Slices.{stored, sets_append}
use Rattle.exports_noise_generator.specs.State.{n_floats}

-- one turn of a loop that stores rows from a place on, and its end
pub rows_more : (l m rows : List Float) (at i : ℕ) → i < length rows → m ≡ sets l at (take i rows)
    → set m (at + i) (get_or rows i nan) ≡ sets l at (take (i + 1) rows)
rows_more l m rows at i h e =
    ap (λ (k : List Float). set k (at + i) (get_or rows i nan)) e
    ∙ ap (λ (n : ℕ). set (sets l at (take i rows)) (at + n) (get_or rows i nan)) (sym (length-take-le i rows (omega arith)))
    ∙ sets_append l at (take i rows) (get_or rows i nan ∷ [])
    ∙ ap (sets l at) (sym (ap (λ (n : ℕ). take n rows) (add-one i) ∙ take-suc rows i nan h))

pub rows_done : (l m rows : List Float) (at i : ℕ) → i ≡ 16 → length rows ≡ 16 → m ≡ sets l at (take i rows) → m ≡ sets l at rows
rows_done l m rows at i z h e = e ∙ ap (sets l at) (take_all i rows (omega arith))

-- ---- the floats of a state: the first rows, their sum, the second rows, and what is left. m is what stands after the first rows
-- are stored, k after the second
pub state_stored : (l m k rows rows2 : List Float) (sum sum2 correlation white : Float) → length l ≡ n_floats → length rows ≡ 16 → length rows2 ≡ 16
    → m ≡ sets l 0 rows → k ≡ sets (set m 16 sum) 17 rows2
    → let rest = sum2 ∷ correlation ∷ white ∷ [] in sets k 33 rest ≡ rows ++ (sum ∷ rows2 ++ rest)
state_stored l m k rows rows2 sum sum2 correlation white h h1 h2 e1 e2 =
    ap (λ (x : List Float). sets x 33 rest) (e2 ∙ ap (λ (x : List Float). sets (set x 16 sum) 17 rows2) e1)
    ∙ ap (λ (n : ℕ). sets (sets (set (sets l 0 rows) 16 sum) 17 rows2) n rest) at2
    ∙ sets_append (set (sets l 0 rows) 16 sum) 17 rows2 rest
    ∙ ap (λ (n : ℕ). sets (set (sets l 0 rows) n sum) (suc n) (rows2 ++ rest)) at1
    ∙ sets_append l 0 rows (sum ∷ rows2 ++ rest)
    ∙ stored l (rows ++ (sum ∷ rows2 ++ rest)) all
  where
    rest : List Float
    rest = sum2 ∷ correlation ∷ white ∷ []

    at1 : 16 ≡ 0 + length rows
    at1 = omega arith

    at2 : 33 ≡ 17 + length rows2
    at2 = omega arith

    all : length l ≡ length (rows ++ (sum ∷ rows2 ++ rest))
    all =
        let a = length-append rows (sum ∷ rows2 ++ rest) in
        let b = length-append rows2 rest in
        omega arith
