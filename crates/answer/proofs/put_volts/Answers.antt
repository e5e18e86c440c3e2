-- as many outputs as a part has cells
use mathlib.Core.List.{List, [], ◌∷◌}
use mathlib.Core.Path.{◌≡◌, sym, ap}
use Prim.Native.Nat.{ℕ, ◌≤◌}
use native.Mathlib.Omega.{arith}
use lib.Ieee.{Float}
use lib.ListN.{length, length-set}
use lib.Seq.{sets, take_all}
use Rattle.answer.specs.Block.{ports_of}
use Rattle.answer.specs.declared.Volts.{Volts}
use Rattle.answer.proofs.put_volts.Goals as goal

ports_at : (v : Volts) (l : List Float) (n : ℕ) → length l ≡ n → sets l 0 (ports_of (length l) v) ≡ sets l 0 (ports_of n v)
ports_at v l n h = ap (λ (k : ℕ). sets l 0 (ports_of k v)) h

all_ports : (v : Volts) (l : List Float) → 6 ≤ length l
    → sets l 0 (ports_of (length l) v) ≡ sets l 0 (v.p10 ∷ v.p11 ∷ v.p12 ∷ v.p13 ∷ v.p14 ∷ v.p15 ∷ [])
unfolding ports_of
all_ports v l h = ap (sets l 0) (take_all (length l) (v.p10 ∷ v.p11 ∷ v.p12 ∷ v.p13 ∷ v.p14 ∷ v.p15 ∷ []) h)

pub returns-then-n-lt1 : goal.returns-then-n-lt1
unfolding ports_of
returns-then-n-lt1 c = sym (ports_at c.args.v c.args.part.now 0 (omega arith))

pub returns-then-n-lt2 : goal.returns-then-n-lt2
unfolding ports_of
returns-then-n-lt2 c = let began = c.args in sym (ports_at began.v began.part.now 1 (omega arith))

pub bounds-part-1 : goal.bounds-part-1
bounds-part-1 c = simp length-set (omega arith)

pub returns-then-n-lt3 : goal.returns-then-n-lt3
unfolding ports_of
returns-then-n-lt3 c = let began = c.args in sym (ports_at began.v began.part.now 2 (omega arith))

pub bounds-part-2 : goal.bounds-part-2
bounds-part-2 c = simp length-set (omega arith)

pub returns-then-n-lt4 : goal.returns-then-n-lt4
unfolding ports_of
returns-then-n-lt4 c = let began = c.args in sym (ports_at began.v began.part.now 3 (omega arith))

pub bounds-part-3 : goal.bounds-part-3
bounds-part-3 c = simp length-set (omega arith)

pub returns-then-n-lt5 : goal.returns-then-n-lt5
unfolding ports_of
returns-then-n-lt5 c = let began = c.args in sym (ports_at began.v began.part.now 4 (omega arith))

pub bounds-part-4 : goal.bounds-part-4
bounds-part-4 c = simp length-set (omega arith)

pub returns-then-n-lt6 : goal.returns-then-n-lt6
unfolding ports_of
returns-then-n-lt6 c = let began = c.args in
    sym (ports_at began.v began.part.now 5 (omega arith))

pub bounds-part-5 : goal.bounds-part-5
bounds-part-5 c = simp length-set (omega arith)

pub returns : goal.returns
returns c = let began = c.args in
    sym (all_ports began.v began.part.now (omega arith))
