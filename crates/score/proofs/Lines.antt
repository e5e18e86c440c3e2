-- A line and its inversion, over its key and the kind of its value. A reading that begins with a line goes on after it, where the line was accepted, and
-- is the line's refusal otherwise; a line that was accepted is the text of its value, which is in range; and the text of such a value is accepted.
-- Assumes nothing.
use Prim.Native.Nat.{ℕ, ◌≤◌}
use Prim.Native.String.{String}
use mathlib.Core.Path.{◌≡◌, refl, ap, sym, subst, ◌∙◌}
use mathlib.Core.List.{List, [], ◌∷◌, ◌++◌, append_assoc}
use mathlib.Core.Bool.{Bool, true, false, cond}
use native.Mathlib.Omega.{arith}
use lib.ListN.{length}
use lib.Dec.{eqb, lit≤}
use Rattle.std.specs.Prelude.{Option, Some, None, Result, Ok, Err}
use borrow.Author.Tests.{eqb-true}
use Rattle.text.specs.Lines.{word_line}
use Rattle.line.specs.Bytes.{ascii, same_of, has_of, until_of}
use Rattle.line.specs.Line.{line_of, key_of, value_of, is_line, after_line}
use Rattle.line.specs.declared.Number.TheVariants.{Whole}
use Rattle.line.proofs.Laws.{empty, line_split}
use Rattle.line.proofs.Written.{Key, LineRead, line_read, number_no_feed}
use Rattle.score.specs.Keys.{osc_key, name_of, WholeKey, hz_key, gate_key, frames_key}
use Rattle.score.specs.Lines.{osc_line, whole_line, control_line}
use Rattle.score.specs.Refusal.{and_then}
use Rattle.score.specs.Score.{Reading, osc, whole, gate, control, end_of}
use Rattle.score.specs.Text.{control_text, whole_text, line_text, key_text, gate_text, head_text}
use Rattle.score.specs.Promises.{ValidInput, ValidGate}
use Rattle.score.proofs.LineKinds.{Kind, ByLine, Seen, value, none, Lawful, tested}
use Rattle.score.proofs.LineKinds.{osc_laws, whole_laws, control_laws}
use Rattle.score.specs.declared.Control.{Control}
use Rattle.score.specs.declared.Head.{Head}
use Rattle.score.specs.declared.Osc.{Osc}
use Rattle.score.specs.declared.Score.{Score}
use Rattle.score.specs.declared.Refusal.{Refusal}
use Rattle.score.specs.declared.Refusal.TheVariants.{WrongLine}

-- ---- a reading: values of which P holds, or the refusal of a line
pub data Says (P : Score → Type 0) : Reading → Type 0 where
  values : (score : Score) → P score → Says P (Ok score)
  refused : (why : Refusal) → ByLine why → Says P (Err why)

pub not_refused : {why : Refusal} {score : Score} → Err why ≡ Ok score → ⊥
not_refused p = let z : ◌≡◌ {A = ℕ} 0 1 = cc in omega arith

pub said_values : {P : Score → Type 0} {r : Reading} (score : Score) → Says P r → r ≡ Ok score → P score
said_values {P} score (values made h) p = let e : made ≡ score = cc in subst P e h
said_values score (refused why h) p = absurd (not_refused p)

pub said_refused : {P : Score → Type 0} {r : Reading} (why : Refusal) → Says P r → r ≡ Err why → ByLine why
said_refused why (values made h) p = absurd (not_refused (sym p))
said_refused why (refused by h) p = let e : by ≡ why = cc in subst ByLine e h

-- ---- a line with what stands after it
module _ (key : String) (v rest : List ℕ) where
  pub seam : line_text key v ++ rest ≡ ascii key ++ (61 ∷ (v ++ (10 ∷ rest)))
  unfolding word_line
  seam =
      append_assoc ((ascii key ++ (61 ∷ [])) ++ v) (10 ∷ []) rest ∙ append_assoc (ascii key ++ (61 ∷ [])) v (10 ∷ rest)
      ∙ append_assoc (ascii key) (61 ∷ []) (v ++ (10 ∷ rest))

  line_again : Key (ascii key) → has_of 10 v ≡ false → LineRead (ascii key) v rest (line_text key v ++ rest)
  line_again k n = rw seam (line_read (ascii key) v rest k n)

-- the head's lines with what stands after them
pub head_lines : (h : Head) (rest : List ℕ)
    → head_text h ++ rest ≡ key_text hz_key h.hz ++ (gate_text h.gate ++ (key_text frames_key h.frames ++ rest))
head_lines h rest =
    let hz = key_text hz_key h.hz in
    let frames = key_text frames_key h.frames in
    append_assoc hz (gate_text h.gate ++ frames) rest ∙ ap (λ (l : List ℕ). hz ++ l) (append_assoc (gate_text h.gate) frames rest)

-- ---- the law
module _ {K : Kind} (laws : Lawful K) (key : String) (k : K.Value → List ℕ → Reading) where
  abbrev reads : List ℕ → Reading
  reads t = and_then (cond (is_line (ascii key) t) (K.of (value_of t)) (Err WrongLine)) (λ (x : K.Value). k x (after_line t))

  line_says : (P : Score → Type 0) (t : List ℕ) → ((x : K.Value) → line_text key (K.text x) ++ after_line t ≡ t → K.valid x → Says P (k x (after_line t)))
      → Says P (reads t)
  line_says P t then =
      tested (λ (l : Result K.Value Refusal). Says P (and_then l (λ (x : K.Value). k x (after_line t)))) (is_line (ascii key) t)
      (λ i. go i (laws.seen (value_of t))) (λ i. refused WrongLine (lit≤ tt, lit≤ tt))
    where
      go : {l : Result K.Value Refusal} → is_line (ascii key) t ≡ true → Seen K (value_of t) l → Says P (and_then l (λ (x : K.Value). k x (after_line t)))
      go i (value x e v) =
          then x (seam key (K.text x) (after_line t) ∙ ap (λ (l : List ℕ). ascii key ++ (61 ∷ (l ++ (10 ∷ after_line t)))) e ∙ line_split (ascii key) t i) v
      go i (none why h) = refused why h

  line_reads : (rest t : List ℕ) (x : K.Value) → K.valid x → LineRead (ascii key) (K.text x) rest t → reads t ≡ k x rest
  line_reads rest t x v l =
      (λ i. and_then (cond (l.asked i) (K.of (l.value i)) (Err WrongLine)) (λ (y : K.Value). k y (l.left i)))
      ∙ ap (λ (u : Result K.Value Refusal). and_then u (λ (y : K.Value). k y rest)) (laws.again x v)

  line_written : (rest : List ℕ) (x : K.Value) → Key (ascii key) → K.valid x → reads (line_text key (K.text x) ++ rest) ≡ k x rest
  line_written rest x s v = line_reads rest _ x v (line_again key (K.text x) rest s (laws.no_feed x))

-- ---- of each kind
module _ (P : Score → Type 0) (t : List ℕ) where
  pub osc_says : (k : Osc → List ℕ → Reading) → ((o : Osc) → line_text "osc" (name_of o) ++ after_line t ≡ t → Says P (k o (after_line t))) → Says P (osc t k)
  unfolding osc osc_line
  osc_says k then = line_says osc_laws "osc" k P t (λ o e v. then o e)

  pub whole_says : (key : String) (least most : ℕ) → most ≤ 10000000 → (k : ℕ → List ℕ → Reading)
      → ((n : ℕ) → line_text key (whole_text n) ++ after_line t ≡ t → (least ≤ n) × (n ≤ most) → Says P (k n (after_line t)))
      → Says P (whole (ascii key) least most t k)
  unfolding whole whole_line
  whole_says key least most top k then = line_says (whole_laws least most top) key k P t then

  pub gate_says : (k : Option ℕ → List ℕ → Reading) → ((g : Option ℕ) (rest : List ℕ) → gate_text g ++ rest ≡ t → ValidGate g → Says P (k g rest))
      → Says P (gate t k)
  unfolding gate
  gate_says k then =
      tested (Says P) (is_line (ascii "gate") t) (λ _. whole_says "gate" _ _ (lit≤ tt) _ (λ n e v. then (Some n) _ e v)) (λ _. then None t refl tt)

  pub control_says : (key : String) (k : Control → List ℕ → Reading)
      → ((c : Control) → line_text key (control_text c) ++ after_line t ≡ t → ValidInput c → Says P (k c (after_line t))) → Says P (control (ascii key) t k)
  unfolding control control_line
  control_says key k then = line_says control_laws key k P t then

  pub end_says : (made : Score) → (t ≡ [] → P made) → Says P (end_of made t)
  unfolding end_of
  end_says made then =
      tested (Says P) (eqb (length t) 0) (λ e. values made (then (empty t (eqb-true (length t) 0 e)))) (λ e. refused WrongLine (lit≤ tt, lit≤ tt))

module _ (rest : List ℕ) where
  pub osc_written : (o : Osc) (k : Osc → List ℕ → Reading) → Key (ascii osc_key) → osc (line_text osc_key (name_of o) ++ rest) k ≡ k o rest
  unfolding osc osc_line
  osc_written o k s = line_written osc_laws osc_key k rest o s tt

  pub whole_written : (w : WholeKey) (m : ℕ) (k : ℕ → List ℕ → Reading) → Key (ascii w.key) → w.most ≤ 10000000
      → (w.least ≤ m) × (m ≤ w.most) → whole (ascii w.key) w.least w.most (line_text w.key (whole_text m) ++ rest) k ≡ k m rest
  unfolding whole whole_line
  whole_written w m k s top v = line_written (whole_laws w.least w.most top) w.key k rest m s v

  pub control_written : (key : String) (c : Control) (k : Control → List ℕ → Reading) → Key (ascii key) → ValidInput c
      → control (ascii key) (line_text key (control_text c) ++ rest) k ≡ k c rest
  unfolding control control_line
  control_written key c k s v = line_written control_laws key k rest c s v

-- ---- the gate's line: where frames comes next, it isn't there
neither : (b : Bool) → cond b false false ≡ false
neither true = refl
neither false = refl

no_gate : (v : List ℕ) → is_line (ascii "gate") (ascii "frames" ++ (61 ∷ v)) ≡ false
unfolding is_line key_of line_of same_of has_of until_of
no_gate v = neither (has_of 10 v)

pub gate_written : (rest : List ℕ) (g : Option ℕ) (frames : ℕ) (k : Option ℕ → List ℕ → Reading) → ValidGate g
    → gate (gate_text g ++ (key_text frames_key frames ++ rest)) k ≡ k g (key_text frames_key frames ++ rest)
unfolding gate has_of
gate_written rest None frames k v = simp (seam "frames" (whole_text frames) rest, no_gate (whole_text frames ++ (10 ∷ rest)))
gate_written rest (Some n) frames k v =
    let after = key_text frames_key frames ++ rest in
    let line = line_again "gate" (whole_text n) after (refl, refl) (number_no_feed (Whole false n)) in
    simp line.asked (whole_written after gate_key n (λ (m : ℕ). k (Some m)) (refl, refl) (lit≤ tt) v)
