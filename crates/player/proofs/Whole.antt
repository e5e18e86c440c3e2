-- All frames of a score, with the end, are what is printed of it; and pieces of them join.
use Prim.Native.Nat.{ℕ, zero, suc, ◌+◌, ◌*◌, ◌≤◌}
use mathlib.Core.List.{List, [], ◌∷◌, ◌++◌, append_assoc, append-nil}
use mathlib.Core.Path.{◌≡◌, refl, sym, ap, ◌∙◌}
use native.Mathlib.Nat.{add-zero, zero-add, add-suc}
use native.Mathlib.Omega.{arith}
use lib.ListN.{length, length-append}
use Rattle.laws.specs.Lists.{tab}
use Rattle.laws.proofs.Over.{length_tab}
use Rattle.answer.specs.Block.{joined}
use Rattle.answer.proofs.Blocks.{joined_ext}
use Rattle.answer.specs.declared.Answer.{Answer}
use Rattle.score.specs.Keys.{owner_of}
use Rattle.score.specs.declared.Osc.{Osc}
use Rattle.score.specs.declared.Score.{Score}
use Rattle.frame.specs.Frame.{frame_text}
use Rattle.frame.proofs.Lengths.{frame_length}
use Rattle.player.specs.Frames.{heard_at, tally_at, text_from}
use Rattle.player.specs.Play.{frames_text, play_of}
use Rattle.player.specs.Promises.{Pieces, Plays, PieceLength}
use Rattle.player.proofs.Heard.{heard_tab}

-- ---- the texts of a list's answers are those of its answers one by one
text_last : (o : Osc) (k : ℕ) (xs : List Answer) (a : Answer) → frames_text o k (xs ++ (a ∷ [])) ≡ frames_text o k xs ++ frame_text o (k + length xs) a
unfolding frames_text
text_last o k [] a = append-nil (frame_text o k a) ∙ ap (λ (n : ℕ). frame_text o n a) (sym (add-zero k))
text_last o k (x ∷ xs) a =
    ap (λ (t : List ℕ). frame_text o k x ++ t) (text_last o (suc k) xs a ∙ ap (λ (n : ℕ). frames_text o (suc k) xs ++ frame_text o n a) more)
    ∙ sym (append_assoc (frame_text o k x) (frames_text o (suc k) xs) (frame_text o (k + suc (length xs)) a))
  where
    more : suc k + length xs ≡ k + suc (length xs)
    more = omega arith

text_tab : (o : Osc) (f : ℕ → Answer) (n : ℕ) → frames_text o 0 (tab f n) ≡ joined (λ (i : ℕ). frame_text o i (f i)) n
unfolding frames_text tab joined
text_tab o f zero = refl
text_tab o f (suc n) =
    let at : 0 + length (tab f n) ≡ n = zero-add (length (tab f n)) ∙ length_tab f n in
    text_last o 0 (tab f n) (f n) ∙ (λ i. text_tab o f n i ++ frame_text o (at i) (f n))

-- the frame m
abbrev frame_of : Score → ℕ → List ℕ
frame_of s m = frame_text (owner_of s.inputs) m (heard_at s m)

whole_text : (s : Score) (n : ℕ) → text_from s 0 n ≡ frames_text (owner_of s.inputs) 0 (tab (heard_at s) n)
unfolding text_from
whole_text s n = joined_ext _ _ n (λ i. ap (frame_of s) (zero-add i)) ∙ sym (text_tab (owner_of s.inputs) (heard_at s) n)

pub plays : Plays
unfolding play_of tally_at
plays s = rw (heard_tab s, whole_text s s.head.frames) refl

-- ---- pieces
joined_add : {A : Type 0} (f : ℕ → List A) (j n : ℕ) → joined f (j + n) ≡ joined f j ++ joined (λ (i : ℕ). f (j + i)) n
unfolding joined
joined_add f j zero = ap (joined f) (add-zero j) ∙ sym (append-nil (joined f j))
joined_add f j (suc n) =
    rw (add-suc j n)
    (ap (λ (t : List _). t ++ f (j + n)) (joined_add f j n) ∙ append_assoc (joined f j) (joined (λ (i : ℕ). f (j + i)) n) (f (j + n)))

pub pieces : Pieces
unfolding text_from
pieces s k j n = joined_add _ j n ∙ ap (λ (t : List ℕ). text_from s k j ++ t) (joined_ext _ _ n (λ i. ap (frame_of s) (further k j i)))
  where
    further : (k j i : ℕ) → k + (j + i) ≡ k + j + i
    further k j i = omega arith

pub piece_length : PieceLength
unfolding text_from joined
piece_length s k zero h = omega arith
piece_length s k (suc n) h =
    let before : length (joined (λ (i : ℕ). frame_of s (k + i)) n) ≤ 158 * n = piece_length s k n (omega arith) in
    let last = frame_length (owner_of s.inputs) (k + n) (heard_at s (k + n)) (omega arith) in
    omega (arith, last, length-append (joined (λ (i : ℕ). frame_of s (k + i)) n) (frame_of s (k + n)))
