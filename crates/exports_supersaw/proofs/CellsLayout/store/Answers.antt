use borrow.Author.Rules.{rules}
use mathlib.Core.List.{List, [], ◌∷◌, ◌++◌}
use mathlib.Core.Path.{◌≡◌, refl, sym, ap, subst, ◌∙◌}
use Prim.Native.Nat.{ℕ, ◌+◌}
use native.Mathlib.Omega.{arith}
use lib.ListN.{length, length-append, set, take, drop}
use lib.Seq.{sets, length-take-le}
use lib.Ieee.{Float, nan}
use Rattle.laws.specs.Lists.{tab}
use Rattle.laws.proofs.Over.{by_cells}
use Rattle.laws.proofs.Slices.{stored, sets_part, sets_append, byte}
use Rattle.supersaw.specs.Voices.{at}
use Rattle.exports_supersaw.specs.State.{floats_of, wholes_of}
use Rattle.exports_supersaw.proofs.CellsLayout.store.Goals as goal

-- seven phases put first, and three numbers after them, are all ten
put_all : (f p q : List Float) (x y z : Float) → length f ≡ 10 → length p ≡ 7 → q ≡ p
    → set (set (set (q ++ drop 7 f) 7 x) 8 y) 9 z ≡ tab (at p) 7 ++ (x ∷ y ∷ z ∷ [])
put_all f p q x y z n m e =
    let first : p ≡ sets (take 7 f) 0 p = sym (stored (take 7 f) p (length-take-le 7 f (omega arith) ∙ sym m)) in
    let whole : p ++ drop 7 f ≡ sets f 0 p = sets_part f p p 0 7 (omega arith) (omega arith) first in
    let long : length f ≡ length (p ++ (x ∷ y ∷ z ∷ [])) = let k = length-append p (x ∷ y ∷ z ∷ []) in omega arith in
    let zero : 0 + length p ≡ 7 = omega arith in
    let rest = subst (λ (k : ℕ). sets (sets f 0 p) k (x ∷ y ∷ z ∷ []) ≡ sets f 0 (p ++ (x ∷ y ∷ z ∷ []))) zero (sets_append f 0 p (x ∷ y ∷ z ∷ [])) in
    ap (λ (l : List Float). set (set (set (l ++ drop 7 f) 7 x) 8 y) 9 z) e
    ∙ ap (λ (l : List Float). sets l 7 (x ∷ y ∷ z ∷ [])) whole ∙ rest ∙ stored f (p ++ (x ∷ y ∷ z ∷ [])) long
    ∙ ap (λ (l : List Float). l ++ (x ∷ y ∷ z ∷ [])) (by_cells nan (at p) 7 p m (λ i l. refl))

pub returns : goal.returns
unfolding floats_of wholes_of
returns c = let a = c.args in (
  put_all a.floats.now a.s.phases _ a.s.sub_phase.0 a.s.sample_rate.0 a.s.freq_memo.val.0 c.requires.0 (search rules) c.copy_from_slice.ensures.after,
  simp byte (stored a.wholes.now (wholes_of a.s) c.requires.1),
)
