-- What checks a line takes it where its value is in range, and refuses it by OutOfRange otherwise; and so does what checks a score. Assumes nothing.
use Prim.Native.Nat.{ℕ, suc, ◌≤◌}
use mathlib.Core.Bool.{Bool, true, false, cond}
use mathlib.Core.List.{List, [], ◌∷◌}
use mathlib.Core.Path.{◌≡◌, refl}
use native.Mathlib.Omega.{arith}
use lib.Dec.{ltb}
use Rattle.std.specs.Prelude.{Option, Some, None, Ok, Err}
use lib.IntN.{pos, negsuc}
use borrow.Author.Tests.{ltb-true, ltb-false}
use Rattle.score.specs.Keys.{controls_of}
use Rattle.score.specs.Lines.{within_of, control_of}
use Rattle.score.specs.Promises.{ValidInput, ValidGate, ValidHead, Valid}
use Rattle.score.proofs.Longest.{ValidAll, valid_all, all_valid}
use Rattle.score.specs.declared.Control.{Control}
use Rattle.score.specs.declared.Control.TheVariants as C
use Rattle.score.specs.declared.Head.{Head}
use Rattle.score.specs.declared.Refusal.TheVariants.{OutOfRange}
use Rattle.score.specs.declared.Score.{Score}
use Rattle.score_writer.specs.Writing.{Check, checked, whole_refusal, control_refusal, first_of, gate_refusal, head_refusal, controls_refusal, refusal_of}

-- taken where P holds, refused where it doesn't
pub data By (P : Type 0) : Check → Type 0 where
  taken : P → By P (Ok tt)
  refused : (P → ⊥) → By P (Err OutOfRange)

whole_by : (least most n : ℕ) → By ((least ≤ n) × (n ≤ most)) (whole_refusal least most n)
unfolding whole_refusal within_of
whole_by least most n = tests (ltb n least) (ltb most n) refl refl
  where
    tests : (a b : Bool) → ltb n least ≡ a → ltb most n ≡ b
        → By ((least ≤ n) × (n ≤ most)) (checked (cond a (Err OutOfRange) (cond b (Err OutOfRange) (Ok n))))
    tests true b e f = refused (λ (l, g). omega (arith, ltb-true n least e))
    tests false true e f = refused (λ (l, g). omega (arith, ltb-true most n f))
    tests false false e f = taken (ltb-false n least e, ltb-false most n f)

no_line : By (Unit {0}) (Ok tt)
no_line = taken tt

gate_by : (g : Option ℕ) → By (ValidGate g) (gate_refusal g)
gate_by None = no_line
gate_by (Some n) = whole_by _ _ n

size_by : (n : ℕ) (c : Control) → By (n ≤ 10000000) (checked (cond (ltb 10000000 n) (Err OutOfRange) (Ok c)))
size_by n c = tests (ltb 10000000 n) refl
  where
    tests : (b : Bool) → ltb 10000000 n ≡ b → By (n ≤ 10000000) (checked (cond b (Err OutOfRange) (Ok c)))
    tests true e = refused (λ l. omega (arith, ltb-true 10000000 n e))
    tests false e = taken (ltb-false 10000000 n e)

control_by : (c : Control) → By (ValidInput c) (control_refusal c)
unfolding control_refusal control_of
control_by (C.Microvolts (pos n)) = size_by n _
control_by (C.Microvolts (negsuc n)) = size_by (suc n) _
control_by C.Nan = taken tt

-- ---- line by line
both_by : {P Q : Type 0} {a b : Check} → By P a → By Q b → By (P × Q) (first_of a b)
both_by (taken p) (taken q) = taken (p, q)
both_by (taken p) (refused g) = refused (λ (x, y). g y)
both_by (refused f) q = refused (λ (x, y). f x)

controls_by : (cs : List Control) → By (ValidAll cs) (controls_refusal cs)
controls_by [] = no_line
controls_by (c ∷ cs) = both_by (control_by c) (controls_by cs)

same_by : {P Q : Type 0} {n : Check} → (P → Q) → (Q → P) → By P n → By Q n
same_by to from (taken p) = taken (to p)
same_by to from (refused f) = refused (λ q. f (from q))

head_by : (h : Head) → By (ValidHead h) (head_refusal h)
head_by h =
    same_by
    (λ ((a, b), (g, (c, d))). record { hz_least = a; hz_most = b; gate = g; frames_least = c; frames_most = d })
    (λ v. ((v.hz_least, v.hz_most), (v.gate, (v.frames_least, v.frames_most))))
    (both_by (whole_by _ _ h.hz) (both_by (gate_by h.gate) (whole_by _ _ h.frames)))

pub score_by : (s : Score) → By (Valid s) (refusal_of s)
unfolding refusal_of
score_by s =
    same_by (λ (h, i). record { head = h; inputs = all_valid s.inputs i }) (λ v. (v.head, valid_all s.inputs v.inputs))
    (both_by (head_by s.head) (controls_by (controls_of s.inputs)))

pub in_range : (s : Score) → refusal_of s ≡ Ok tt → Valid s
in_range s e = go (score_by s) e
  where
    go : {r : Check} → By (Valid s) r → r ≡ Ok tt → Valid s
    go (taken v) e = v
    go (refused f) e = absurd (let z : ◌≡◌ {A = ℕ} 0 1 = cc in omega arith)
