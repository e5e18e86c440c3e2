-- The three ways that writing goes, by the values and by the room. Assumes nothing.
use Prim.Native.Nat.{ℕ, ◌≤◌, ◌<◌}
use mathlib.Core.Bool.{Bool, true, false, cond}
use mathlib.Core.Path.{◌≡◌, refl}
use native.Mathlib.Omega.{arith}
use lib.Dec.{ltb}
use Rattle.std.specs.Prelude.{Ok, Err}
use lib.ListN.{length}
use borrow.Author.Tests.{ltb-true, ltb-false}
use Rattle.score.specs.Text.{text_of}
use Rattle.score.specs.Promises.{Valid}
use Rattle.score.specs.Refusal.{and_then}
use Rattle.score.specs.declared.Refusal.{Refusal}
use Rattle.score.specs.declared.Refusal.TheVariants.{OutOfRange, NoRoom}
use Rattle.score.specs.declared.Score.{Score}
use Rattle.score_writer.specs.Writing.{Check, Writing, writing_of}
use Rattle.score_writer.proofs.Ranges.{By, taken, refused, score_by}

module _ (s : Score) (room : ℕ) where
  pub data Wrote : Writing → Type 0 where
    written : Valid s → length (text_of s) ≤ room → Wrote (Ok (length (text_of s)))
    short : Valid s → room < length (text_of s) → Wrote (Err NoRoom)
    unread : (Valid s → ⊥) → Wrote (Err OutOfRange)

  by_room : Valid s → (b : Bool) → ltb room (length (text_of s)) ≡ b → Wrote (cond b (Err NoRoom) (Ok (length (text_of s))))
  by_room v true e = short v (ltb-true room (length (text_of s)) e)
  by_room v false e = written v (ltb-false room (length (text_of s)) e)

  by_values : {r : Check} → By (Valid s) r → Wrote (and_then r (λ _. cond (ltb room (length (text_of s))) (Err NoRoom) (Ok (length (text_of s)))))
  by_values (taken v) = by_room v (ltb room (length (text_of s))) refl
  by_values (refused f) = unread f

  pub wrote : Wrote (writing_of s room)
  unfolding writing_of
  wrote = by_values (score_by s)

-- ---- an answer is of one kind
pub not_length : {why : Refusal} {n : ℕ} → Err why ≡ Ok n → ⊥
not_length e = let z : ◌≡◌ {A = ℕ} 0 1 = cc in omega arith

pub same_refusal : {why by : Refusal} → ◌≡◌ {A = Writing} (Err why) (Err by) → why ≡ by
same_refusal e = cc

pub same_length : {m n : ℕ} → ◌≡◌ {A = Writing} (Ok m) (Ok n) → m ≡ n
same_length e = cc

pub other_refusal : OutOfRange ≡ NoRoom → ⊥
other_refusal e = let z : ◌≡◌ {A = ℕ} 0 1 = cc in omega arith
