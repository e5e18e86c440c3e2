-- A text put after another is the two put as one, also where the buffer ends on the way.
use mathlib.Core.Bool.{Bool, true, false}
use mathlib.Core.List.{List, [], ◌∷◌, ◌++◌}
use mathlib.Core.Path.{◌≡◌, refl, sym, ap, ◌∙◌}
use Prim.Native.Nat.{ℕ, suc, ◌+◌, ◌≤◌, ◌<◌, min}
use native.Mathlib.Nat.{min-eq_left, min-eq_right}
use native.Mathlib.Omega.{arith}
use lib.Dec.{leb}
use lib.ListN.{length, length-append, drop, take}
use lib.Seq.{sets, set_out, length-sets, sets-eq, take_at}
use borrow.Author.Tests.{leb-true, leb-false}
use Rattle.laws.proofs.Slices.{sets_append}
use Rattle.text.specs.Promises.{Put, PutThen, PutWithin, PutWhole}
use Rattle.text.specs.Put.{place_of}

-- past the end nothing is stored
sets_out : (o : List ℕ) (at : ℕ) (t : List ℕ) → length o ≤ at → sets o at t ≡ o
sets_out o at [] h = refl
sets_out o at (a ∷ t) h = ap (λ (l : List ℕ). sets l (suc at) t) (set_out o at a h) ∙ sets_out o (suc at) t (omega arith)

-- at a place past the end as at the end
cut_by : (o : List ℕ) (at : ℕ) (t : List ℕ) (b : Bool) → leb (length o) at ≡ b → sets o (min (length o) at) t ≡ sets o at t
cut_by o at t true e =
    let h = leb-true (length o) at e in
    ap (λ (n : ℕ). sets o n t) (min-eq_left h) ∙ sets_out o (length o) t (omega arith) ∙ sym (sets_out o at t h)
cut_by o at t false e = ap (λ (n : ℕ). sets o n t) (min-eq_right (less (leb-false (length o) at e)))
  where
    less : at < length o → at ≤ length o
    less h = omega arith

sets_cut : (o : List ℕ) (at : ℕ) (t : List ℕ) → sets o (min (length o) at) t ≡ sets o at t
sets_cut o at t = cut_by o at t (leb (length o) at) refl

same_size : (o : List ℕ) (at : ℕ) (t : List ℕ) {p : List ℕ} → p ≡ sets o at t → length p ≡ length o
same_size o at t e = ap length e ∙ length-sets o at t

pub after : (out : List ℕ) (at : ℕ) (a b : List ℕ) {r s : ℕ} {p q : List ℕ} → Put out at a r p → Put p r b s q → Put out at (a ++ b) s q
unfolding place_of
after out at a b {r} {s} {p} {q} (er, ep) (es, eq) =
    let n = same_size out at a ep in
    let m = length-append a b in
    (omega arith, eq ∙ cut ∙ sets_append out at a b)
  where
    cut : sets p r b ≡ sets (sets out at a) (at + length a) b
    cut =
        rw (er, ep)
        (ap (λ (n : ℕ). sets (sets out at a) (min n (at + length a)) b) (sym (length-sets out at a)) ∙ sets_cut (sets out at a) (at + length a) b)

pub within : (out : List ℕ) (at : ℕ) (t : List ℕ) {r : ℕ} {p : List ℕ} → Put out at t r p → (r ≤ length p) × (length p ≡ length out)
unfolding place_of
within out at t (er, ep) = let n = same_size out at t ep in (omega arith, n)

pub put_then : PutThen
put_then out at a b r s p q = after out at a b

pub put_within : PutWithin
put_within out at t r p = within out at t

pub put_whole : PutWhole
unfolding place_of
put_whole out t r q (er, eq) h = ap (take r) (eq ∙ sets-eq t out 0 (omega arith)) ∙ take_at t (drop (0 + length t) out) r (omega arith)
