-- By which numbers a text is refused, and how much of it decides. Assumes nothing.
use Prim.Native.Nat.{ℕ, ◌≤◌, ◌<◌}
use mathlib.Core.Path.{◌≡◌, refl, ap, sym, subst, ◌∙◌}
use mathlib.Core.List.{List}
use mathlib.Core.Bool.{Bool, true, false, cond}
use native.Mathlib.Omega.{arith}
use lib.ListN.{length, take}
use lib.Seq.{take_all, length-take-le}
use lib.Dec.{ltb, lit≤}
use Rattle.std.specs.Prelude.{Err}
use borrow.Author.Tests.{lt-ltb, ltb-true, ltb-false}
use Rattle.score.specs.Refusal.{refusal_number}
use Rattle.score.specs.Score.{lines_of, score_of}
use Rattle.score.specs.Promises.{Refusals, LongRefused, EnoughRead}
use Rattle.score.proofs.LineKinds.{ByLine}
use Rattle.score.proofs.Lines.{said_refused}
use Rattle.score.proofs.Text.{lines_say}
use Rattle.score.specs.declared.Refusal.{Refusal}
use Rattle.score.specs.declared.Refusal.TheVariants.{TooLong}

lines_by : (t : List ℕ) (why : Refusal) → lines_of t ≡ Err why → ByLine why
lines_by t why p = said_refused why (lines_say t) p

-- ---- the text by 20 before its lines, where it is too long
too_long : (t : List ℕ) → 1024 < length t → score_of t ≡ Err TooLong
unfolding score_of
too_long t h = simp (lt-ltb 1024 (length t) h)

pub refusals : Refusals
unfolding score_of
refusals t why p = go (ltb _ (length t)) p
  where
    go : (b : Bool) → cond b (Err TooLong) (lines_of t) ≡ Err why → (20 ≤ refusal_number why) × (refusal_number why ≤ 23)
    go true p = let e : TooLong ≡ why = cc in subst (λ (by : Refusal). (20 ≤ refusal_number by) × (refusal_number by ≤ 23)) e (lit≤ tt, lit≤ tt)
    go false p = let (l, g) = lines_by t why p in (omega arith, g)

pub long_refused : LongRefused
long_refused t = (too_long t, only)
  where
    go : (b : Bool) → ltb 1024 (length t) ≡ b → cond b (Err TooLong) (lines_of t) ≡ Err TooLong → 1024 < length t
    go true e p = ltb-true 1024 (length t) e
    go false e p = absurd (let (l, g) = lines_by t TooLong p in omega arith)

    only : score_of t ≡ Err TooLong → 1024 < length t
    only p = go (ltb 1024 (length t)) refl (unfold score_of in p)

pub enough_read : EnoughRead
enough_read t = go (ltb 1024 (length t)) refl
  where
    go : (b : Bool) → ltb 1024 (length t) ≡ b → score_of (take 1025 t) ≡ score_of t
    go true e =
        let h = ltb-true 1024 (length t) e in
        let l : length (take 1025 t) ≡ 1025 = length-take-le 1025 t h in
        too_long (take 1025 t) (omega (arith, l)) ∙ sym (too_long t h)
    go false e = let h = ltb-false 1024 (length t) e in ap score_of (take_all 1025 t (omega (arith, h)))
