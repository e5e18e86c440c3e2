-- What one call reads the other writes, and back; by which number it is refused, and what is then left.
use Prim.Native.Nat.{ℕ, ◌≤◌, ◌<◌}
use mathlib.Core.Bool.{Bool, true, false, cond}
use mathlib.Core.List.{List, [], ◌∷◌, ◌++◌}
use mathlib.Core.Path.{◌≡◌, refl, sym, ap, subst, ◌∙◌}
use native.Mathlib.Omega.{arith}
use lib.Dec.{ltb, eqb}
use Rattle.std.specs.Prelude.{Result, Ok, Err}
use lib.Ieee.{Float}
use lib.IntN.{ℤ}
use lib.ListN.{length, get_or, take, drop}
use borrow.Author.Tests.{eq-eqb, eqb-true, ltb-true, ltb-false}
use Rattle.boundary.specs.Flat.{sizes_of, kept, kept_sized}
use Rattle.score.specs.Refusal.{refusal_number, and_then}
use Rattle.score.specs.Score.{Reading, score_of}
use Rattle.score.specs.Promises.{ValidHead}
use Rattle.score.proofs.Text.{read_valid, score_text}
use Rattle.score.proofs.Refusals.{refusals}
use Rattle.score.proofs.LineKinds.{tested}
use Rattle.score.proofs.Longest.{text_short}
use Rattle.score.specs.declared.Refusal.{Refusal}
use Rattle.score.specs.declared.Refusal.TheVariants.{OutOfRange, NoRoom}
use Rattle.score.specs.declared.Score.{Score}
use Rattle.score_writer.specs.Writing.{Writing, writing_of, written_of}
use Rattle.score_writer.proofs.Texts as writer
use Rattle.score_writer.proofs.Texts.{write_read, read_write}
use Rattle.exports_score.specs.Cells.{ports_of, wholes_of, microvolts_of, head_at, score_at}
use Rattle.exports_score.specs.Shortcuts.{u32_of, held_at}
use Rattle.exports_score.specs.Calls.{kept_of, score_read_at, Told, told, told_of, score_values_at, Saved, saved, saved_by, saved_of, score_write_at}
use Rattle.exports_score.specs.Examples.{blank, none}
use Rattle.exports_score.specs.Promises.{Tells, VoltsAgree, ReadWritten, WrittenRead, ShortRefused, EnoughRoom, UnreadRefused, Left}
use Rattle.exports_score.proofs.Cells.{issue_small, score_back, cells_back, head_back, refused_by, volts_back}

-- ---- what was read
record Known (text : List ℕ) (m : List ℤ) (w : List ℕ) : Type 0 where
  score : Score
  reads : score_of text ≡ Ok score
  cells : microvolts_of score ≡ m
  wholes : wholes_of score ≡ w

module _ (text : List ℕ) (m₀ m : List ℤ) (w₀ w : List ℕ) where
  known_by : (r : Reading) → score_of text ≡ r → told_of r m₀ w₀ ≡ told 0 m w → Known text m w
  unfolding told_of
  known_by (Ok s) e p =
      record { score = s; reads = e; cells = ap (λ (k : Told). k.microvolts) p; wholes = ap (λ (k : Told). k.wholes) p }
  known_by (Err why) e p =
      absurd (let (l, g) = refusals text why e in let z : refusal_number why ≡ 0 = ap (λ (k : Told). k.code) p in omega arith)

  known : score_values_at text m₀ w₀ ≡ told 0 m w → Known text m w
  unfolding score_values_at
  known p = sized (eqb (length m₀) 5) (eqb (length w₀) 4) p
    where
      sized : (a b : Bool) → cond a (cond b (told_of (score_of text) m₀ w₀) (told 51 m₀ w₀)) (told 54 m₀ w₀) ≡ told 0 m w → Known text m w
      sized true true p = known_by (score_of text) refl p
      sized true false p = absurd (let z : 51 ≡ 0 = ap (λ (k : Told). k.code) p in omega arith)
      sized false b p = absurd (let z : 54 ≡ 0 = ap (λ (k : Told). k.code) p in omega arith)

told_known : (text : List ℕ) (m : List ℤ) (w : List ℕ) → Tells text m w → Known text m w
told_known text m w tells = known text blank m none w (tells blank none refl refl)

reads_tells : (text : List ℕ) (s : Score) → score_of text ≡ Ok s → Tells text (microvolts_of s) (wholes_of s)
unfolding score_values_at told_of
reads_tells text s e m₀ w₀ hm hw = simp (eq-eqb (length m₀) 5 hm, eq-eqb (length w₀) 4 hw, e)

pub volts_agree : VoltsAgree
unfolding score_read_at kept_sized sizes_of kept_of
volts_agree text m w tells f w₀ hf hw =
    let k = told_known text m w tells in
    let volts = volts_back k.score (read_valid text k.score k.reads) in
    simp (eq-eqb (length f) 5 hf, eq-eqb (length w₀) 4 hw, k.reads, ← k.cells, ← k.wholes) (ap (λ (v : List Float). kept 0 v (wholes_of k.score)) volts)

pub enough_room : EnoughRoom
enough_room text m w tells =
    let k = told_known text m w tells in
    let short = text_short k.score (read_valid text k.score k.reads) in
    rw (score_text text k.score k.reads) at short

-- ---- cells that a text reads as are written as the text, or refused by 24
score_said : (text : List ℕ) (s : Score) (t : List ℕ) (l : ℕ) → score_of text ≡ Ok s
    → score_write_at (microvolts_of s) (wholes_of s) t (l ∷ []) ≡ saved_by (writing_of s (length t)) (written_of s t) (l ∷ [])
unfolding score_write_at saved_of ports_of microvolts_of wholes_of
score_said text s t l e = simp (score_back s (read_valid text s e))

module _ (text : List ℕ) (m : List ℤ) (w t : List ℕ) (l : ℕ) (tells : Tells text m w) where
  its_score : Score
  its_score = (told_known text m w tells).score

  its_reading : score_of text ≡ Ok its_score
  unfolding its_score
  its_reading = (told_known text m w tells).reads

  said : score_write_at m w t (l ∷ []) ≡ saved_by (writing_of its_score (length t)) (written_of its_score t) (l ∷ [])
  unfolding its_score
  said =
      let k = told_known text m w tells in
      sym (λ i. score_write_at (k.cells i) (k.wholes i) t (l ∷ [])) ∙ score_said text k.score t l k.reads

  there : length text ≤ length t → score_write_at m w t (l ∷ []) ≡ saved 0 (text ++ drop (length text) t) (length text ∷ [])
  there h =
      let (writing, after) = read_write text its_score t its_reading h in
      said ∙ (λ i. saved_by (writing i) (after i) (l ∷ []))

  no_room : length t < length text → score_write_at m w t (l ∷ []) ≡ saved 24 t (l ∷ [])
  no_room h =
      let refused = (writer.short_refused its_score (length t)).0 text its_reading h in
      let left = writer.refused_left its_score t NoRoom refused in
      said ∙ (λ i. saved_by (refused i) (left i) (l ∷ []))

pub read_written : ReadWritten
read_written = there

pub short_refused : ShortRefused
short_refused = no_room

-- ---- what was written
head_is : {k n : ℕ} → k ∷ [] ≡ n ∷ [] → k ≡ n
head_is e = cc

record Wrote (m : List ℤ) (w t t' : List ℕ) (n : ℕ) : Type 0 where
  score : Score
  five : length m ≡ 5
  four : length w ≡ 4
  said : score_at m w ≡ Ok score
  length_is : writing_of score (length t) ≡ Ok n
  text_is : written_of score t ≡ t'

module _ (m : List ℤ) (w t t' : List ℕ) (l n : ℕ) (five : length m ≡ 5) (four : length w ≡ 4) where
  wrote_length : (s : Score) (x : Writing) → score_at m w ≡ Ok s → writing_of s (length t) ≡ x
      → saved_by x (written_of s t) (l ∷ []) ≡ saved 0 t' (n ∷ []) → Wrote m w t t' n
  wrote_length s (Ok k) e f p =
      let z : k ≡ n = head_is (ap (λ (k : Saved). k.written) p) in
      record { score = s; five = five; four = four; said = e; length_is = f ∙ ap Ok z; text_is = ap (λ (k : Saved). k.text) p }
  wrote_length s (Err why) e f p =
      absurd (let (a, b) = writer.refusals s (length t) why f in let z : refusal_number why ≡ 0 = ap (λ (k : Saved). k.code) p in omega arith)

  wrote_by : (r : Reading) → score_at m w ≡ r → saved_of r t (l ∷ []) ≡ saved 0 t' (n ∷ []) → Wrote m w t t' n
  unfolding saved_of
  wrote_by (Ok s) e p = wrote_length s (writing_of s (length t)) e refl p
  wrote_by (Err why) e p =
      absurd (let y = ap refusal_number (refused_by m w why e) in let z : refusal_number why ≡ 0 = ap (λ (k : Saved). k.code) p in omega arith)

wrote : (m : List ℤ) (w t t' : List ℕ) (l n : ℕ) → score_write_at m w t (l ∷ []) ≡ saved 0 t' (n ∷ []) → Wrote m w t t' n
unfolding score_write_at
wrote m w t t' l n p = sized (eqb (length m) 5) (eqb (length w) 4) refl refl p
  where
    sized : (a b : Bool) → eqb (length m) 5 ≡ a → eqb (length w) 4 ≡ b
        → cond a (cond b (saved_of (score_at m w) t (l ∷ [])) (saved 51 t (l ∷ []))) (saved 54 t (l ∷ [])) ≡ saved 0 t' (n ∷ []) → Wrote m w t t' n
    sized true true e f p = wrote_by m w t t' l n (eqb-true (length m) 5 e) (eqb-true (length w) 4 f) (score_at m w) refl p
    sized true false e f p = absurd (let z : 51 ≡ 0 = ap (λ (k : Saved). k.code) p in omega arith)
    sized false b e f p = absurd (let z : 54 ≡ 0 = ap (λ (k : Saved). k.code) p in omega arith)

pub written_read : WrittenRead
written_read m w t t' l n p m₀ w₀ hm hw =
    let k = wrote m w t t' l n p in
    let (cells, wholes) = cells_back m w k.score k.five k.four k.said in
    let reads : score_of (take n t') ≡ Ok k.score =
    ap (λ (b : List ℕ). score_of (take n b)) (sym k.text_is) ∙ write_read k.score t n k.length_is in
    reads_tells (take n t') k.score reads m₀ w₀ hm hw ∙ (λ i. told 0 (cells i) (wholes i))

-- ---- cells that no text reads as are refused by 23
module _ (m : List ℤ) (w t : List ℕ) (l : ℕ) (five : length m ≡ 5) (four : length w ≡ 4) where
  abbrev Untold : Type 0
  Untold = (text : List ℕ) → Tells text m w → ⊥

  refused_score : Untold → (r : Reading) → score_at m w ≡ r → saved_of r t (l ∷ []) ≡ saved 23 t (l ∷ [])
  unfolding saved_of
  refused_score u (Ok s) e =
      let (cells, wholes) = cells_back m w s five four e in
      let refused = (writer.unread_refused s (length t)).0
      (λ text p. u text (λ m₀ w₀ hm hw. reads_tells text s p m₀ w₀ hm hw ∙ (λ i. told 0 (cells i) (wholes i)))) in
      let left = writer.refused_left s t OutOfRange refused in
      (λ i. saved_by (refused i) (left i) (l ∷ []))
  refused_score u (Err why) e = ap (λ (y : Refusal). saved (refusal_number y) t (l ∷ [])) (refused_by m w why e)

  untold_refused : Untold → score_write_at m w t (l ∷ []) ≡ saved 23 t (l ∷ [])
  unfolding score_write_at
  untold_refused u = simp (eq-eqb (length m) 5 five, eq-eqb (length w) 4 four) (refused_score u (score_at m w) refl)

  refused_untold : (score_write_at m w t (l ∷ [])).code ≡ 23 → Untold
  refused_untold e text tells = by_room (ltb (length t) (length text)) refl
    where
      by_room : (b : Bool) → ltb (length t) (length text) ≡ b → ⊥
      by_room true f =
          let z : ◌≡◌ {A = ℕ} 24 23 = sym (ap (λ (k : Saved). k.code) (no_room text m w t l tells (ltb-true (length t) (length text) f))) ∙ e in
          omega arith
      by_room false f =
          let z : ◌≡◌ {A = ℕ} 0 23 = sym (ap (λ (k : Saved). k.code) (there text m w t l tells (ltb-false (length t) (length text) f))) ∙ e in
          omega arith

pub unread_refused : UnreadRefused
unread_refused m w t l five four = (untold_refused m w t l five four, refused_untold m w t l five four)

-- ---- what no u32 holds is out of range
module _ (m : List ℤ) (w t l : List ℕ) where
  out_score : (ValidHead (head_at w) → ⊥) → (r : Reading) → score_at m w ≡ r → saved_of r t l ≡ saved 23 t l
  unfolding saved_of
  out_score f (Ok s) e =
      let refused = (writer.unread_refused s (length t)).0 (λ text p. f (subst ValidHead (sym (head_back m w s e)) (read_valid text s p).head)) in
      let left = writer.refused_left s t OutOfRange refused in
      (λ i. saved_by (refused i) (left i) l)
  out_score f (Err why) e = ap (λ (y : Refusal). saved (refusal_number y) t l) (refused_by m w why e)

  out_saved : (ValidHead (head_at w) → ⊥) → saved_of (Err OutOfRange) t l ≡ saved_of (score_at m w) t l
  unfolding saved_of
  out_saved f = sym (out_score f (score_at m w) refl)

  -- what follows a number that may be none of a u32's
  held_by : (n : ℕ) (k : Result ℕ Refusal → Reading) → k (Err OutOfRange) ≡ Err OutOfRange → (4294967295 < n → ValidHead (head_at w) → ⊥)
      → saved_of (k (Ok n)) t l ≡ saved_of (score_at m w) t l → saved_of (k (u32_of n)) t l ≡ saved_of (score_at m w) t l
  unfolding u32_of
  held_by n k e f h =
      tested (λ (r : Result ℕ Refusal). saved_of (k r) t l ≡ saved_of (score_at m w) t l) (ltb 4294967295 n)
      (λ b. ap (λ (r : Reading). saved_of r t l) e ∙ out_saved (f (ltb-true 4294967295 n b))) (λ _. h)

  pub held_saved : saved_of (held_at m w) t l ≡ saved_of (score_at m w) t l
  unfolding held_at
  held_saved =
      let issue : Result ℕ Refusal → Reading = λ r. and_then r (λ _. score_at m w) in
      let frames : Result ℕ Refusal → Reading = λ r. and_then r (λ _. issue (u32_of (get_or w 3 0))) in
      held_by (get_or w 1 0) (λ r. and_then r (λ _. frames (u32_of (get_or w 2 0)))) refl (λ b v. let h = v.hz_most in omega arith)
      (held_by (get_or w 2 0) frames refl (λ b v. let h = v.frames_most in omega arith)
      (held_by (get_or w 3 0) issue refl (λ b v. let h = issue_small (get_or w 3 0) v.gate in omega arith) refl))

-- ---- what isn't done leaves every slice
told_left : (r : Reading) (m : List ℤ) (w : List ℕ) → ((told_of r m w).code ≡ 0 → ⊥) → told_of r m w ≡ told (told_of r m w).code m w
unfolding told_of
told_left (Ok s) m w h = absurd (h refl)
told_left (Err why) m w h = refl

saved_left : (s : Score) (x : Writing) (t l : List ℕ) → writing_of s (length t) ≡ x → ((saved_by x (written_of s t) l).code ≡ 0 → ⊥)
    → saved_by x (written_of s t) l ≡ saved (saved_by x (written_of s t) l).code t l
saved_left s (Ok n) t l e h = absurd (h refl)
saved_left s (Err why) t l e h = ap (λ (b : List ℕ). saved (refusal_number why) b l) (writer.refused_left s t why e)

score_left : (r : Reading) (t l : List ℕ) → ((saved_of r t l).code ≡ 0 → ⊥) → saved_of r t l ≡ saved (saved_of r t l).code t l
unfolding saved_of
score_left (Ok s) t l h = saved_left s (writing_of s (length t)) t l refl h
score_left (Err why) t l h = refl

module _ (m : List ℤ) (w : List ℕ) where
  abbrev ToldLeft : Told → Type 0
  ToldLeft k = (k.code ≡ 0 → ⊥) → k ≡ told k.code m w

  values_left : (text : List ℕ) → ToldLeft (score_values_at text m w)
  unfolding score_values_at
  values_left text =
      tested ToldLeft (eqb (length m) 5) (λ _. tested ToldLeft (eqb (length w) 4) (λ _. told_left (score_of text) m w) (λ _ h. refl)) (λ _ h. refl)

  module _ (t l : List ℕ) where
    abbrev SavedLeft : Saved → Type 0
    SavedLeft k = (k.code ≡ 0 → ⊥) → k ≡ saved k.code t l

    write_left : SavedLeft (score_write_at m w t l)
    unfolding score_write_at
    write_left =
        tested SavedLeft (eqb (length m) 5)
        (λ _. tested SavedLeft (eqb (length w) 4)
        (λ _. tested SavedLeft (eqb (length l) 1) (λ _. score_left (score_at m w) t l) (λ _ h. refl)) (λ _ h. refl)) (λ _ h. refl)

pub left : Left
left = record { values = λ text m w. values_left m w text; write = write_left }
