-- What a block's call says, from what refuses it: b says that, of a block whose first tick is refused as `first` says, by number.
use mathlib.Core.List.{List}
use mathlib.Core.Bool.{cond}
use mathlib.Core.Path.{◌≡◌, refl, sym, ap, ◌∙◌}
use Prim.Native.Nat.{ℕ, ◌*◌}
use lib.Dec.{eqb}
use lib.Ieee.{Float}
use lib.ListN.{length}
use Rattle.std.specs.Prelude.{true, Result, Ok, Err}
use Rattle.std.specs.Result.{result_unwrap_or}
use Rattle.laws.specs.Lists.{tab}
use Rattle.common.proofs.RefusalLaws.{nonzero, reason, reason_back, refuses}
use Rattle.common.specs.Refusal.{number_of, refused_number}
use Rattle.common.specs.declared.Refusal.{Refusal}
use Rattle.answer.specs.Block.{Block, block_refusal_of, block_of, block_said, room_for, marks_taken, after_ticks, joined, frame_at, mark_at}
use Rattle.answer.specs.Promises.{BlockTells}
use Rattle.answer.specs.Tally.{tally_or}
use Rattle.answer.specs.declared.Answer.{Answer}
use Rattle.answer.specs.declared.Played.{Played}
use Rattle.answer.specs.declared.Tally.{Tally}
use Rattle.answer.proofs.Blocks.{block_refused, block_fits, block_empty, block_done}

module _ {U V : Type 0} (ports number : ℕ) (t : Tally) (o : List Float) (m : List ℕ) (first : Result U Refusal) (b : Result V Refusal)
    (f : refused_number first ≡ number)
    (q : refused_number b ≡ block_refusal_of (eqb (length o) (ports * length m)) (refused_number first) t (length m)) where
  asked : refused_number b ≡ block_refusal_of (eqb (length o) (ports * length m)) number t (length m)
  asked = q ∙ ap (λ k. block_refusal_of (eqb (length o) (ports * length m)) k t (length m)) f

  none : (v : V) → b ≡ Ok v → refused_number b ≡ 0
  unfolding refused_number
  none v w = ap refused_number w

  pub said_fits : (v : V) → b ≡ Ok v → (length o ≡ ports * length m) × (number ≡ 0) × (room_for t (length m) ≡ true)
  said_fits v w = block_fits ports number t o m (refused_number b) asked (none v w)

  module _ {S : Type 0} (answer : S → Answer) (next : S → S) (s : S) where
    pub said_refused : (e : Refusal) → b ≡ Err e → block_said s t (Err e) o m ≡ block_of ports number answer next s t o m
    unfolding block_said refused_number
    said_refused e w = block_refused ports number answer next s t o m (number_of e) (sym (ap refused_number w) ∙ asked) (nonzero e)

    pub said_empty : (v : V) → b ≡ Ok v → length m ≡ 0 → block_said s t (Ok (record { state = s; tally = t })) o m ≡ block_of ports number answer next s t o m
    unfolding block_said
    said_empty v w z = block_empty ports number answer next s t o m (refused_number b) asked (none v w) z

    pub said_done : (v : V) → b ≡ Ok v → (u : Tally) (r : S) (p : List Float) (l : List ℕ) → r ≡ after_ticks next (length m) s
        → p ≡ joined (frame_at ports answer next s) (length m)
        → l ≡ tab (mark_at answer next s) (length m) → u ≡ tally_or t (marks_taken t l)
        → block_said s t (Ok (record { state = r; tally = u })) p l ≡ block_of ports number answer next s t o m
    unfolding block_said
    said_done v w u r p l x y z k = block_done ports number answer next s t o m (refused_number b) asked (none v w) u r p l x y z k

-- the tally that is kept where marks are refused
pub kept_or : (r x : Result Tally Refusal) (t u : Tally) → u ≡ result_unwrap_or r t → r ≡ x → u ≡ tally_or t x
unfolding tally_or
kept_or r (Ok y) t u h e = h ∙ ap (λ z. result_unwrap_or z t) e
kept_or r (Err y) t u h e = h ∙ ap (λ z. result_unwrap_or z t) e

-- ---- and what it says tells what it leaves
block_read : {S : Type 0} → Block S → Result (Played S) Refusal × List Float × List ℕ
block_read b = (cond (eqb b.refused 0) (Ok (record { state = b.state; tally = b.tally })) (Err (reason b.refused)), b.samples, b.marks)

block_back : {S : Type 0} (s : S) (t : Tally) (r : Result (Played S) Refusal) (o : List Float) (m : List ℕ) → block_read (block_said s t r o m) ≡ (r, o, m)
unfolding block_said block_read
block_back s t (Ok p) o m = refl
block_back s t (Err e) o m = simp (refuses e, reason_back e)

pub block_tells : BlockTells
block_tells S s t b x y p q = sym (block_back s t x.0 x.1 x.2) ∙ ap block_read (p ∙ sym q) ∙ block_back s t y.0 y.1 y.2
