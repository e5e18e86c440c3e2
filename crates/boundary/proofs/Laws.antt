-- A tally and an edge record are read back from what was put; a record read from a part of the floats, or put there, stands in the floats.
use mathlib.Core.List.{List, [], ◌∷◌, ◌++◌}
use mathlib.Core.Path.{◌≡◌, refl, ◌∙◌}
use Prim.Native.Nat.{ℕ, zero, suc, ◌+◌, ◌≤◌}
use native.Mathlib.Numerals.{add-one}
use lib.Dec.{lit≤}
use lib.Ieee.{Float, nan}
use lib.ListN.{length, get_or, take, drop}
use lib.Seq.{sets, length-sets}
use Rattle.laws.proofs.Slices.{sets_append, sets_part}
use Rattle.boundary.specs.Edge.{n_edge, edge_floats, edge_at}
use Rattle.boundary.specs.Flat.{tally_from, counts_of}
use Rattle.boundary.specs.Promises.{CountsBack, EdgeBack, EdgeOrder, EdgeSize}
use Rattle.common.specs.declared.EdgeDetector.{EdgeDetector}

pub counts_back : CountsBack
unfolding tally_from counts_of
counts_back t = refl

pub edge_order : EdgeOrder
edge_order e = refl

pub edge_size : EdgeSize
edge_size e = refl

pub edge_back : EdgeBack
edge_back e before after = λ i. record { prev = first before i; threshold = second before i }
  where
    first : (l : List Float) → get_or (l ++ (e.prev ∷ e.threshold ∷ after)) (length l) nan ≡ e.prev
    first [] = refl
    first (x ∷ l) = first l

    second : (l : List Float) → get_or (l ++ (e.prev ∷ e.threshold ∷ after)) (length l + 1) nan ≡ e.threshold
    second l = rw add-one (go l)
      where
        go : (l : List Float) → get_or (l ++ (e.prev ∷ e.threshold ∷ after)) (suc (length l)) nan ≡ e.threshold
        go [] = refl
        go (x ∷ l) = go l

pub edge_part : (f : List Float) (i : ℕ) → edge_at (take n_edge (drop i f)) 0 ≡ edge_at f i
edge_part f i = λ k. record { prev = first f i k; threshold = second f i k }
  where
    first : (l : List Float) (i : ℕ) → get_or (take 2 (drop i l)) 0 nan ≡ get_or l i nan
    first [] zero = refl
    first [] (suc i) = refl
    first (x ∷ l) zero = refl
    first (x ∷ l) (suc i) = first l i

    second : (l : List Float) (i : ℕ) → get_or (take 2 (drop i l)) 1 nan ≡ get_or l (i + 1) nan
    second l i = rw add-one (go l i)
      where
        go : (l : List Float) (i : ℕ) → get_or (take 2 (drop i l)) 1 nan ≡ get_or l (suc i) nan
        go [] zero = refl
        go [] (suc i) = refl
        go (x ∷ []) zero = refl
        go (x ∷ y ∷ l) zero = refl
        go (x ∷ l) (suc i) = go l i

-- put after other floats it is stored in one run with them
pub edge_put : (f p : List Float) (at : ℕ) (vs : List Float) (e : EdgeDetector) → at + length vs + n_edge ≤ length f
    → p ≡ sets (take n_edge (drop (at + length vs) (sets f at vs))) 0 (edge_floats e)
    → take (at + length vs) (sets f at vs) ++ (p ++ drop n_edge (drop (at + length vs) (sets f at vs))) ≡ sets f at (vs ++ edge_floats e)
edge_put f p at vs e room q =
    sets_part (sets f at vs) p (edge_floats e) (at + length vs) n_edge (rw (length-sets f at vs) room) (lit≤ tt) q ∙ sets_append f at vs (edge_floats e)
