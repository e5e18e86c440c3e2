-- What samples and marks tell of accepted ticks prints as their answers: each output is read where it was put, and each mark is the answer's.
use mathlib.Core.Bool.{Bool, true, false≢true}
use mathlib.Core.List.{List, [], ◌∷◌, ◌++◌}
use mathlib.Core.Logic.{⊎_elim}
use mathlib.Core.Path.{◌≡◌, refl, sym, ap, ◌∙◌}
use Prim.Native.Nat.{ℕ, zero, suc, ◌+◌, ◌*◌, ◌≤◌, ◌<◌}
use native.Mathlib.Nat.{zero-add, mul-suc, mul-le-mul_left, eq-or-lt_of_le, le_of_suc-le-suc, not-suc-le-zero, suc-add}
use native.Mathlib.Numerals.{add-one}
use native.Mathlib.Omega.{arith}
use lib.Dec.{eqb, leb, lit≤, lit<}
use lib.Ieee.{Float, nan}
use lib.ListN.{length, get_or, get_or-append}
use borrow.Author.Tests.{eq-eqb, eqb-true, le-leb, leb-true}
use Rattle.laws.specs.Lists.{tab}
use Rattle.laws.proofs.Over.{get_or_tab, length_tab}
use Rattle.laws.proofs.Tests.{both_true}
use Rattle.line.specs.Bytes.{ascii}
use Rattle.answer.specs.Answer.{mark_number, host_number, volts_of, accepted, answer_of}
use Rattle.answer.specs.Block.{ports_of, joined}
use Rattle.answer.specs.declared.Volts.{Volts}
use Rattle.answer.specs.declared.Answer.{Answer}
use Rattle.answer.specs.declared.Answer.TheVariants as answer
use Rattle.answer.proofs.Blocks.{joined_length, one_port, two_ports, four_ports, six_ports}
use Rattle.score.specs.declared.Osc.{Osc}
use Rattle.score.specs.declared.Osc.TheVariants as osc
use Rattle.text.specs.Lines.{count_line, word_line}
use Rattle.frame.specs.Frame.{sample_line, waves_text, outputs_text, marked_text, frame_text}
use Rattle.frame.specs.Frames.{ports_in, output_at, volts_at, told_text, told_texts, are_frames, played_text}
use Rattle.frame.specs.Promises.{ToldPrints}

-- ---- cells of joined frames
past : {A : Type 0} (a b : List A) (d : A) (j : ℕ) → get_or (a ++ b) (length a + j) d ≡ get_or b j d
past [] b d j = ap (λ (n : ℕ). get_or b n d) (zero-add j)
past (x ∷ a) b d j = ap (λ (n : ℕ). get_or (x ∷ (a ++ b)) n d) (suc-add (length a) j) ∙ past a b d j

-- cell j of frame i
joined_cell : {A : Type 0} (d : A) (f : ℕ → List A) (k : ℕ) → ((x : ℕ) → length (f x) ≡ k) → (n i j : ℕ) → i < n → j < k
    → get_or (joined f n) (k * i + j) d ≡ get_or (f i) j d
unfolding joined
joined_cell d f k whole zero i j h l = absurd (not-suc-le-zero h)
joined_cell d f k whole (suc n) i j h l =
    ⊎_elim last (λ (q : i < n). first q (joined_cell d f k whole n i j q l)) (eq-or-lt_of_le (le_of_suc-le-suc h))
  where
    size : length (joined f n) ≡ k * n
    size = joined_length f k n whole

    last : i ≡ n → get_or (joined f n ++ f n) (k * i + j) d ≡ get_or (f i) j d
    last e = rw e (ap (λ (m : ℕ). get_or (joined f n ++ f n) (m + j) d) (sym size) ∙ past (joined f n) (f n) d j)

    first : i < n → get_or (joined f n) (k * i + j) d ≡ get_or (f i) j d → get_or (joined f n ++ f n) (k * i + j) d ≡ get_or (f i) j d
    first q e =
        get_or-append (joined f n) (f n) d (k * i + j) (let a : k * suc i ≤ k * n = mul-le-mul_left k q in let b = mul-suc k i in omega (arith, size))
        ∙ e

-- ---- a frame's outputs are read where they were put
ports_whole : (o : Osc) (v : Volts) → length (ports_of (ports_in o) v) ≡ ports_in o
unfolding ports_in
ports_whole osc.Vco v = four_ports v
ports_whole osc.Lfo v = six_ports v
ports_whole osc.Supersaw v = two_ports v
ports_whole osc.Formant v = one_port v

ports_some : (o : Osc) → 0 < ports_in o
unfolding ports_in
ports_some osc.Vco = lit< tt
ports_some osc.Lfo = lit< tt
ports_some osc.Supersaw = lit< tt
ports_some osc.Formant = lit< tt

pub some_ports : (o : Osc) (ports : ℕ) → ports ≡ ports_in o → 0 < ports
some_ports o ports e = rw e (ports_some o)

outputs_at : (o : Osc) (l : List Float) (i : ℕ) (w : Volts)
    → ((j : ℕ) → j < ports_in o → get_or l (ports_in o * i + j) nan ≡ get_or (ports_of (ports_in o) w) j nan)
    → outputs_text o (volts_at (ports_in o) l i) ≡ outputs_text o w
unfolding outputs_text waves_text ports_in ports_of volts_at output_at
outputs_at osc.Vco l i w h =
    λ k. sample_line (ascii "sin=") (h 0 (lit≤ tt) k) ++ sample_line (ascii "tri=") (h 1 (lit≤ tt) k)
    ++ sample_line (ascii "saw=") (h 2 (lit≤ tt) k) ++ sample_line (ascii "sqr=") (h 3 (lit≤ tt) k)
outputs_at osc.Lfo l i w h =
    λ k. (sample_line (ascii "sin=") (h 0 (lit≤ tt) k) ++ sample_line (ascii "tri=") (h 1 (lit≤ tt) k)
    ++ sample_line (ascii "saw=") (h 2 (lit≤ tt) k) ++ sample_line (ascii "sqr=") (h 3 (lit≤ tt) k))
    ++ sample_line (ascii "sin_uni=") (h 4 (lit≤ tt) k) ++ sample_line (ascii "eoc=") (h 5 (lit≤ tt) k)
outputs_at osc.Supersaw l i w h = λ k. sample_line (ascii "out=") (h 0 (lit≤ tt) k) ++ sample_line (ascii "sub=") (h 1 (lit≤ tt) k)
outputs_at osc.Formant l i w h = λ k. sample_line (ascii "out=") (h 0 (lit≤ tt) k)

-- ---- a mark is the answer's
frame_same : (o : Osc) (k : ℕ) (a : Answer) (w : Volts) → accepted a ≡ true → outputs_text o w ≡ outputs_text o (volts_of a)
    → frame_text o k (answer_of (host_number a) w) ≡ frame_text o k a
unfolding frame_text marked_text answer_of host_number accepted mark_number volts_of
frame_same o k (answer.Cleared v) w t h = ap (λ (t : List ℕ). count_line (ascii "n=") k ++ word_line (ascii "mark=") (ascii "cleared") ++ t) h
frame_same o k (answer.NotFinite v) w t h = ap (λ (t : List ℕ). count_line (ascii "n=") k ++ word_line (ascii "mark=") (ascii "notfinite") ++ t) h
frame_same o k (answer.Lost v) w t h = ap (λ (t : List ℕ). count_line (ascii "n=") k ++ word_line (ascii "mark=") (ascii "lost") ++ t) h
frame_same o k (answer.Clean v) w t h = ap (λ (t : List ℕ). count_line (ascii "n=") k ++ word_line (ascii "mark=") (ascii "clean") ++ t) h
frame_same o k (answer.Steered v) w t h = ap (λ (t : List ℕ). count_line (ascii "n=") k ++ word_line (ascii "mark=") (ascii "steered") ++ t) h
frame_same o k (answer.Refused n) w t h = absurd (false≢true t)

-- ---- so the frames print as the answers
module _ (o : Osc) (first n : ℕ) (f : ℕ → Answer) (all : (i : ℕ) → i < n → accepted (f i) ≡ true) where
  samples : List Float
  samples = joined (λ (i : ℕ). ports_of (ports_in o) (volts_of (f i))) n

  marks : List ℕ
  marks = tab (λ (i : ℕ). host_number (f i)) n

  outputs_told : (i : ℕ) → i < n → outputs_text o (volts_at (ports_in o) samples i) ≡ outputs_text o (volts_of (f i))
  unfolding samples
  outputs_told i h =
      outputs_at o samples i (volts_of (f i)) (λ j q. joined_cell nan _ (ports_in o) (λ x. ports_whole o (volts_of (f x))) n i j h q)

  frame_told : (i : ℕ) → i < n → told_text o first samples marks i ≡ frame_text o (first + i) (f i)
  unfolding marks
  frame_told i h =
      ap (λ (x : ℕ). frame_text o (first + i) (answer_of x (volts_at (ports_in o) samples i))) (get_or_tab 0 (λ (i : ℕ). host_number (f i)) n i h)
      ∙ frame_same o (first + i) (f i) (volts_at (ports_in o) samples i) (all i h) (outputs_told i h)

  frames_told : (k : ℕ) → k ≤ n → told_texts o first samples marks k ≡ joined (λ (i : ℕ). frame_text o (first + i) (f i)) k
  unfolding told_texts joined
  frames_told zero h = refl
  frames_told (suc k) h = λ i. frames_told k (omega arith) i ++ frame_told k (omega arith) i

pub told_prints : ToldPrints
unfolding played_text are_frames samples marks
told_prints o first n f all top =
    let size = joined_length (λ (i : ℕ). ports_of (ports_in o) (volts_of (f i))) (ports_in o) n (λ x. ports_whole o (volts_of (f x))) in
    let many = length_tab (λ (i : ℕ). host_number (f i)) n in
    rw (many, eq-eqb _ _ size, le-leb (first + n) 4294967295 top) (frames_told o first n f all n (omega arith))

-- ---- what makes them frames
pub frames_say : (o : Osc) (first samples n : ℕ) (b : Bool) → b ≡ are_frames o first samples n → b ≡ true
    → (first + n ≤ 4294967295) × (samples ≡ ports_in o * n)
unfolding are_frames
frames_say o first samples n b e h =
    let (size, top) = both_true (eqb samples (ports_in o * n)) (leb (first + n) 4294967295) (sym e ∙ h) in
    (leb-true (first + n) 4294967295 top, eqb-true samples (ports_in o * n) size)

-- ---- one frame's text after those before it
pub told_more : (o : Osc) (first : ℕ) (l : List Float) (m : List ℕ) (i ports : ℕ) (v : Volts) (a : Answer)
    → ports ≡ ports_in o → v ≡ volts_at ports l i → a ≡ answer_of (get_or m i 0) v
    → told_texts o first l m (i + 1) ≡ told_texts o first l m i ++ frame_text o (first + i) a
unfolding told_texts
told_more o first l m i ports v a ep ev ea =
    let e : a ≡ answer_of (get_or m i 0) (volts_at (ports_in o) l i) = ea ∙ ap (answer_of (get_or m i 0)) (ev ∙ ap (λ (n : ℕ). volts_at n l i) ep) in
    rw e (more i)
  where
    more : (i : ℕ) → joined (told_text o first l m) (i + 1) ≡ joined (told_text o first l m) i ++ told_text o first l m i
    more i = unfold joined in ap (λ (n : ℕ). joined (told_text o first l m) n) (add-one i)

pub frame_inside : (o : Osc) (ports size n i : ℕ) → ports ≡ ports_in o → size ≡ ports_in o * n → i < n → ports * (i + 1) ≤ size
frame_inside o ports size n i ep es h = rw (ep, es, add-one i) (mul-le-mul_left (ports_in o) h)
