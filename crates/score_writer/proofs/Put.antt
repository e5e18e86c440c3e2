-- The text of a score put into a buffer of its own, and from there into the lent one. Assumes nothing.
use Prim.Native.Nat.{ℕ, ◌<◌, ◌≤◌}
use mathlib.Core.List.{List, ◌++◌}
use mathlib.Core.Path.{◌≡◌, sym, ap, ◌∙◌}
use native.Mathlib.Omega.{arith}
use lib.ListN.{length, take, drop}
use Rattle.std.specs.Prelude.{Ok, Err}
use Rattle.text.specs.Promises.{Put}
use Rattle.text.specs.Put.{place_of}
use Rattle.text.proofs.PutLaws.{put_whole}
use Rattle.score.specs.Text.{text_of}
use Rattle.score.proofs.Longest.{text_short}
use Rattle.score.specs.declared.Refusal.{Refusal}
use Rattle.score.specs.declared.Refusal.TheVariants.{NoRoom}
use Rattle.score.specs.declared.Score.{Score}
use Rattle.score_writer.specs.Writing.{refusal_of, writing_of, written_of}
use Rattle.score_writer.proofs.Ranges.{in_range}
use Rattle.score_writer.proofs.Texts.{valid_written, valid_short, left_by_lem}

-- ---- a text put where it has room
fits_size : (out t : List ℕ) {r : ℕ} {p : List ℕ} → Put out 0 t r p → length t ≤ length out → r ≡ length t
unfolding place_of
fits_size out t (er, ep) h = omega (arith, er)

-- ---- what `write` answers and leaves: refused for its values, for its room, and written
module _ (s : Score) (out : List ℕ) where
  values_refused : (why : Refusal) → Err why ≡ refusal_of s → writing_of s (length out) ≡ Err why
  unfolding writing_of
  values_refused why e = simp (← e)

  pub refused_at : (why : Refusal) → Err why ≡ refusal_of s → (Err why ≡ writing_of s (length out)) × (out ≡ written_of s out)
  refused_at why e = let refused = values_refused why e in (sym refused, sym (left_by_lem s out refused))

  -- n bytes of p are the text, put into room for the longest
  module _ (room : List ℕ) (n : ℕ) (p : List ℕ) (size : length room ≡ 117) (taken : refusal_of s ≡ Ok tt) (put : Put room 0 (text_of s) n p) where
    its_room : length (text_of s) ≤ length room
    its_room = let m = text_short s (in_range s taken) in omega arith

    its_size : n ≡ length (text_of s)
    its_size = fits_size room (text_of s) put its_room

    its_text : take n p ≡ text_of s
    its_text = put_whole room (text_of s) n p put its_room

    pub short_at : length out < n → (Err NoRoom ≡ writing_of s (length out)) × (out ≡ written_of s out)
    short_at h = let refused = valid_short s (length out) (in_range s taken) (omega (arith, its_size)) in (sym refused, sym (left_by_lem s out refused))

    pub written_at : n ≤ length out → (Ok n ≡ writing_of s (length out)) × (take n p ++ drop n out ≡ written_of s out)
    written_at h =
        let room-there : length (text_of s) ≤ length out = omega (arith, its_size) in
        let written = valid_written s (length out) (in_range s taken) room-there in
        (ap Ok its_size ∙ sym written, (λ i. its_text i ++ drop (its_size i) out) ∙ sym (left_by_lem s out written))
