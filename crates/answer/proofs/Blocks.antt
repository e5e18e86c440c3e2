-- Laws of blocks: room in a tally, marks counted one by one, samples joined frame by frame.
use mathlib.Core.Bool.{Bool, true, false, cond, ◌&&◌, false≢true}
use mathlib.Core.List.{List, [], ◌∷◌, ◌++◌}
use Rattle.std.specs.Prelude.{Ok, Err}
use mathlib.Core.Path.{◌≡◌, refl, sym, ap, ◌∙◌, subst}
use Prim.Native.Nat.{ℕ, zero, suc, ◌+◌, ◌-◌, ◌*◌, ◌/◌, ◌%◌, ◌≤◌, ◌<◌}
use native.Mathlib.Nat.{zero-add, add-zero, mul-zero, div-add-mod', mul_comm, eq_of_mul-eq-mul_right, mul-mod_left, mul-le-mul_left}
use native.Mathlib.Numerals.{add-one}
use native.Mathlib.Omega.{arith}
use lib.Dec.{eqb, leb, lit≤}
use lib.ListN.{length, length-append, length-take, length-drop, set, take, drop}
use lib.Ieee.{Float}
use lib.Seq.{sets, length-take-le}
use borrow.Author.Tests.{eqb-true, eqb-false, eq-eqb, leb-true, leb-false, le-leb, lt-leb, lt-ltb, ne_eqb}
use Rattle.laws.proofs.Tests.{eqb_iff}
use Rattle.laws.specs.Lists.{tab, over}
use Rattle.laws.proofs.Slices.{stored, sets_append, sets_part}
use Rattle.laws.proofs.Over.{get_or_tab, length_tab, tab_ext, over_more, over_done}
use Rattle.answer.specs.Answer.{mark_number, host_number, volts_of, accepted, cleared, notfinite, lost, steered, clean, told}
use Rattle.answer.specs.Block.{many_to, counted_to, cells_of, room_for, marks_taken, joined, after_ticks, answer_at, mark_at, frame_at, ports_of, framed, block}
use Rattle.answer.specs.Block.{block_refusal_of, ticks_of, block_of, grown_by}
use Rattle.answer.specs.Tally.{adds_up, one_if, sum_of, counted, tally_of, tally_or}
use Rattle.answer.specs.declared.Volts.{Volts}
use Rattle.answer.specs.declared.Answer.{Answer}
use Rattle.answer.specs.declared.Answer.TheVariants as answer
use Rattle.answer.specs.declared.Tally.{Tally}
use Rattle.common.specs.declared.Refusal.TheVariants as refusal
use Rattle.answer.specs.Promises.{BlockCounts, AllAccepted, AllTaken, AcceptedTo, TakenTo}
use Rattle.answer.proofs.Laws.{takes}

-- ---- room
pub room_test : (b n : ℕ) → b ≤ 4294967295 → leb n (4294967295 - b) ≡ leb (b + n) 4294967295
room_test b n h = go (leb n (4294967295 - b)) refl
  where
    go : (t : Bool) → leb n (4294967295 - b) ≡ t → leb n (4294967295 - b) ≡ leb (b + n) 4294967295
    go true e = let k = leb-true n (4294967295 - b) e in e ∙ sym (le-leb (b + n) 4294967295 (omega arith))
    go false e = let k = leb-false n (4294967295 - b) e in e ∙ sym (lt-leb (b + n) 4294967295 (omega arith))

pub room_says : (t : Tally) (n : ℕ) → room_for t n ≡ true → (t.begun ≡ sum_of t) × (t.begun + n ≤ 4294967295)
unfolding room_for adds_up
room_says t n h = go (eqb t.begun (sum_of t)) (leb (t.begun + n) 4294967295) refl refl h
  where
    go : (a b : Bool) → eqb t.begun (sum_of t) ≡ a → leb (t.begun + n) 4294967295 ≡ b → (a && b) ≡ true → (t.begun ≡ sum_of t) × (t.begun + n ≤ 4294967295)
    go true true e q z = (eqb-true t.begun (sum_of t) e, leb-true (t.begun + n) 4294967295 q)
    go true false e q z = absurd (false≢true z)
    go false b e q z = absurd (false≢true z)

-- ---- how many
-- a number is one mark's at most
abbrev marks_of : ℕ → ℕ
marks_of n = one_if n (told clean) + one_if n (told cleared) + one_if n (told notfinite) + one_if n (told lost) + one_if n (told steered)

one_of : (n : ℕ) → marks_of n ≤ 1
unfolding one_if
one_of n = go (eqb n (told clean)) (eqb n (told cleared)) (eqb n (told notfinite)) (eqb n (told lost)) (eqb n (told steered)) refl refl refl refl refl
  where
    is : (k : ℕ) → marks_of k ≤ 1 → eqb n k ≡ true → marks_of n ≤ 1
    is k h e = subst (λ (m : ℕ). marks_of m ≤ 1) (sym (eqb-true n k e)) h

    go : (a b c d e : Bool) → eqb n (told clean) ≡ a → eqb n (told cleared) ≡ b → eqb n (told notfinite) ≡ c → eqb n (told lost) ≡ d
        → eqb n (told steered) ≡ e → marks_of n ≤ 1
    go true b c d e p q r s t = is (told clean) (lit≤ tt) p
    go false true c d e p q r s t = is (told cleared) (lit≤ tt) q
    go false false true d e p q r s t = is (told notfinite) (lit≤ tt) r
    go false false false true e p q r s t = is (told lost) (lit≤ tt) s
    go false false false false true p q r s t = is (told steered) (lit≤ tt) t
    go false false false false false p q r s t = rw (p, q, r, s, t) (lit≤ tt)

-- the five counts of n marks together
pub many_most : (f : ℕ → ℕ) (n : ℕ)
    → many_to (told clean) f n + many_to (told cleared) f n + many_to (told notfinite) f n + many_to (told lost) f n + many_to (told steered) f n ≤ n
unfolding many_to
many_most f zero = lit≤ tt
many_most f (suc n) = let a = many_most f n in let b = one_of (f n) in omega arith

-- where all n are clean, the other counts are 0
pub all_clean : (t : Tally) (f : ℕ → ℕ) (n : ℕ) → many_to (told clean) f n ≡ n → grown_by t (many_to (told clean) f n) 0 0 0 0 ≡ counted_to t f n
unfolding counted_to
all_clean t f n h =
    let most = many_most f n in
    let b : 0 ≡ many_to (told cleared) f n = omega arith in
    let c : 0 ≡ many_to (told notfinite) f n = omega arith in
    let d : 0 ≡ many_to (told lost) f n = omega arith in
    let e : 0 ≡ many_to (told steered) f n = omega arith in
    λ i. grown_by t (many_to (told clean) f n) (b i) (c i) (d i) (e i)

-- a tally with room for n answers has room for j of them after k others
pub room_left : (t : Tally) (n : ℕ) → room_for t n ≡ true → (f : ℕ → ℕ) (k j : ℕ) → k + j ≤ n → room_for (counted_to t f k) j ≡ true
unfolding room_for adds_up counted_to grown_by
room_left t n room f k j h = rw (eq-eqb (counted_to t f k).begun (sum_of (counted_to t f k)) adds, le-leb ((counted_to t f k).begun + j) 4294967295 most) refl
  where
    says : (t.begun ≡ sum_of t) × (t.begun + n ≤ 4294967295)
    says = room_says t n (unfold room_for adds_up in room)

    adds : (counted_to t f k).begun ≡ sum_of (counted_to t f k)
    adds = omega (arith, says.0)

    most : (counted_to t f k).begun + j ≤ 4294967295
    most = omega (arith, many_most f k, says.1, h)

room_none : (t : Tally) (n : ℕ) → room_for t n ≡ true → room_for t 0 ≡ true
unfolding room_for adds_up
room_none t n room =
    let says = room_says t n (unfold room_for adds_up in room) in
    rw (eq-eqb t.begun (sum_of t) says.0, le-leb (t.begun + 0) 4294967295 (omega (arith, says.1))) refl

pub many_ext : (k : ℕ) (f g : ℕ → ℕ) (n : ℕ) → ((i : ℕ) → i < n → f i ≡ g i) → many_to k f n ≡ many_to k g n
unfolding many_to
many_ext k f g zero h = refl
many_ext k f g (suc n) h =
    let a : many_to k f n ≡ many_to k g n = many_ext k f g n (λ i l. h i (omega arith)) in
    let b : f n ≡ g n = h n (omega arith) in
    cc

-- what the marks of a block add to a tally with room for them
pub counted_tab : (t : Tally) (f : ℕ → ℕ) (n : ℕ) → room_for t n ≡ true → tally_or t (marks_taken t (tab f n)) ≡ counted_to t f n
unfolding marks_taken counted_to tally_or
counted_tab t f n h = go (length_tab f n)
  where
    same : (k : ℕ) → many_to k (cells_of (tab f n)) n ≡ many_to k f n
    same k = many_ext k (cells_of (tab f n)) f n (λ i l. get_or_tab 0 f n i l)

    go : length (tab f n) ≡ n
        → tally_or t (cond (room_for t (length (tab f n))) (Ok (counted_to t (cells_of (tab f n)) (length (tab f n)))) (Err refusal.Tally))
        ≡ counted_to t f n
    go e = simp (e, h, same (told cleared), same (told notfinite), same (told lost), same (told steered), same (told clean))

-- ---- frames
pub joined_length : {A : Type 0} (f : ℕ → List A) (k n : ℕ) → ((i : ℕ) → length (f i) ≡ k) → length (joined f n) ≡ k * n
unfolding joined
joined_length f k zero h = omega arith
joined_length f k (suc n) h = let a = length-append (joined f n) (f n) in let b = joined_length f k n h in let c = h n in omega arith

pub joined_none : {A : Type 0} (f : ℕ → List A) (l : List A) → l ≡ sets l 0 (joined f 0)
unfolding joined
joined_none f l = refl

-- one turn of a loop that stores a frame after those before it
pub joined_more : {A : Type 0} (f : ℕ → List A) (i at : ℕ) (l m v : List A) → at ≡ length (joined f i) → m ≡ sets l 0 (joined f i) → v ≡ f i
    → sets m at v ≡ sets l 0 (joined f (i + 1))
unfolding joined
joined_more f i at l m v h e q = rw (add-one, e, q, h ∙ sym (zero-add (length (joined f i)))) (sets_append l 0 (joined f i) (f i))

-- a buffer of just the size
pub joined_all : {A : Type 0} (f : ℕ → List A) (n : ℕ) (l : List A) → length l ≡ length (joined f n) → sets l 0 (joined f n) ≡ joined f n
joined_all f n l h = stored l (joined f n) h

pub joined_ext : {A : Type 0} (f g : ℕ → List A) (n : ℕ) → ((i : ℕ) → f i ≡ g i) → joined f n ≡ joined g n
unfolding joined
joined_ext f g zero h = refl
joined_ext f g (suc n) h = let a : joined f n ≡ joined g n = joined_ext f g n h in let b : f n ≡ g n = h n in cc

-- so many samples are k for each of n ticks
pub whole_frames : (k o n : ℕ) → 0 < k → o % k ≡ 0 → eqb (o / k) n ≡ eqb o (k * n)
whole_frames k o n K h =
    let z : o ≡ o / k * k = sym (div-add-mod' o k) ∙ ap (λ (r : ℕ). o / k * k + r) h ∙ add-zero (o / k * k) in
    eqb_iff (o / k) n o (k * n) (λ e. z ∙ ap (λ (q : ℕ). q * k) e ∙ mul_comm n k) (λ e. eq_of_mul-eq-mul_right k K (o / k) n (sym z ∙ e ∙ mul_comm k n))

pub part_frames : (k o n : ℕ) → (o % k ≡ 0 → ⊥) → false ≡ eqb o (k * n)
part_frames k o n h = sym (ne_eqb o (k * n) (λ e. h (ap (λ (x : ℕ). x % k) (e ∙ mul_comm k n) ∙ mul-mod_left n k)))

-- ---- a loop that puts one answer after another
-- an oscillator has one output, two, four or six
pub one_port : (v : Volts) → length (ports_of 1 v) ≡ 1
unfolding ports_of
one_port v = refl

pub two_ports : (v : Volts) → length (ports_of 2 v) ≡ 2
unfolding ports_of
two_ports v = refl

pub four_ports : (v : Volts) → length (ports_of 4 v) ≡ 4
unfolding ports_of
four_ports v = refl

pub six_ports : (v : Volts) → length (ports_of 6 v) ≡ 6
unfolding ports_of
six_ports v = refl

-- the place of tick i of n
pub frame_place : (ports n i o : ℕ) → o ≡ ports * n → i < n → ports * i + ports ≤ o
frame_place ports n i o e h =
    let a = mul-le-mul_left ports h in
    let b : ports * suc i ≡ ports * i + ports = omega arith in
    omega arith

-- the part of the samples that its outputs are put to, of which they are all or the first
abbrev part_of : ℕ → ℕ → List Float → List Float
part_of ports i l = take (ports * i + ports - ports * i) (drop (ports * i) l)

abbrev past_part : ℕ → ℕ → List Float → List Float
past_part ports i l = drop (ports * i + ports - ports * i) (drop (ports * i) l)

framed_whole : (ports n i : ℕ) (v : Volts) (l : List Float) → length l ≡ ports * n → i < n → framed ports n i v l ≡ sets l (ports * i) (ports_of ports v)
unfolding framed
framed_whole ports n i v l k h = simp (eq-eqb (length l) (ports * n) k, lt-ltb i n h)

pub frame_put : (ports n i : ℕ) (v : Volts) (l p : List Float) → length l ≡ ports * n → i < n
    → p ≡ sets (part_of ports i l) 0 (ports_of (length (part_of ports i l)) v)
    → take (ports * i) l ++ (p ++ past_part ports i l) ≡ framed ports n i v l
unfolding ports_of
frame_put ports n i v l p k h e =
    let room = frame_place ports n i (length l) k h in
    let rest = length-drop (ports * i) l in
    let part : ports * i + ports - ports * i ≡ ports = omega arith in
    let size : length (part_of ports i l) ≡ ports = length-take-le (ports * i + ports - ports * i) (drop (ports * i) l) (omega arith) ∙ part in
    let few = length-take ports (v.p10 ∷ v.p11 ∷ v.p12 ∷ v.p13 ∷ v.p14 ∷ v.p15 ∷ []) in
    sets_part l p (ports_of ports v) (ports * i) (ports * i + ports - ports * i) (omega arith) (omega arith)
    (e ∙ ap (λ (k : ℕ). sets (part_of ports i l) 0 (ports_of k v)) size)
    ∙ sym (framed_whole ports n i v l k h)

module _ {S : Type 0} (ports : ℕ) (whole : (v : Volts) → length (ports_of ports v) ≡ ports) (answer : S → Answer) (next : S → S) (s : S) where
  frames_length : (n : ℕ) → length (joined (frame_at ports answer next s) n) ≡ ports * n
  frames_length n = joined_length (frame_at ports answer next s) ports n (λ i. whole (volts_of (answer_at answer next s i)))

  pub frames_more : (i n c : ℕ) (l m : List Float) (a : Answer) → c ≡ n → i < n → length m ≡ ports * n → m ≡ sets l 0 (joined (frame_at ports answer next s) i)
      → a ≡ answer_at answer next s i → framed ports c i (volts_of a) m ≡ sets l 0 (joined (frame_at ports answer next s) (i + 1))
  frames_more i n c l m a r h k e q =
      ap (λ (j : ℕ). framed ports j i (volts_of a) m) r
      ∙ framed_whole ports n i (volts_of a) m k h
      ∙ joined_more (frame_at ports answer next s) i (ports * i) l m (ports_of ports (volts_of a)) (sym (frames_length i)) e
      (ap (λ (b : Answer). ports_of ports (volts_of b)) q)

  pub frames_done : (i n : ℕ) (l m : List Float) → i ≡ n → length l ≡ ports * n → m ≡ sets l 0 (joined (frame_at ports answer next s) i)
      → m ≡ joined (frame_at ports answer next s) n
  frames_done i n l m h k e =
      e ∙ ap (λ (j : ℕ). sets l 0 (joined (frame_at ports answer next s) j)) h ∙ joined_all (frame_at ports answer next s) n l (k ∙ sym (frames_length n))

  pub marks_more : (i : ℕ) (l m : List ℕ) (a : Answer) → i < length l → m ≡ over (mark_at answer next s) i l → a ≡ answer_at answer next s i
      → set m i (host_number a) ≡ over (mark_at answer next s) (i + 1) l
  marks_more i l m a h e q = over_more (mark_at answer next s) i l m (host_number a) h e (ap host_number q)

  pub marks_done : (i n : ℕ) (l m : List ℕ) → i ≡ n → length l ≡ n → m ≡ over (mark_at answer next s) i l → m ≡ tab (mark_at answer next s) n
  marks_done i n l m h k e = over_done (mark_at answer next s) i n l m h k e

-- ---- what each tick keeps
pub ticks_keep : {S : Type 0} (P : S → Type 0) (next : S → S) → ((s : S) → P s → P (next s)) → (s : S) → P s → (n : ℕ) → P (after_ticks next n s)
unfolding after_ticks
ticks_keep P next k s h zero = h
ticks_keep P next k s h (suc n) = k (after_ticks next n s) (ticks_keep P next k s h n)

-- ---- held controls: a machine with less state goes through the same ticks. `embed` is the whole state that a small one stands for,
-- from the second tick on; before the first the whole state may still be another.
pub record Holds {S H : Type 0} (answer : S → Answer) (next : S → S) (told : H → Answer) (step : H → H) (embed : H → S) (Good : H → Type 0) (s : S)
    (h : H) : Type 0 where
  pub good : Good h
  pub first : answer s ≡ told h
  pub second : next s ≡ embed (step h)
  pub stays : (g : H) → Good g → Good (step g)
  pub answers : (g : H) → Good g → answer (embed g) ≡ told g
  pub moves : (g : H) → Good g → next (embed g) ≡ embed (step g)

module _ {S H : Type 0} (answer : S → Answer) (next : S → S) (told : H → Answer) (step : H → H) (embed : H → S) (Good : H → Type 0) (s : S) (h : H)
    (w : Holds answer next told step embed Good s h) where
  good_at : (n : ℕ) → Good (after_ticks step n h)
  good_at n = ticks_keep Good step w.stays h w.good n

  held_state : (n : ℕ) → after_ticks next (suc n) s ≡ embed (after_ticks step (suc n) h)
  unfolding after_ticks
  held_state zero = w.second
  held_state (suc n) = ap next (held_state n) ∙ w.moves (after_ticks step (suc n) h) (good_at (suc n))

  pub held_after : (n : ℕ) → 0 < n → after_ticks next n s ≡ embed (after_ticks step n h)
  held_after zero z = absurd (omega arith)
  held_after (suc n) z = held_state n

  held_answer : (i : ℕ) → answer_at answer next s i ≡ answer_at told step h i
  unfolding answer_at after_ticks
  held_answer zero = w.first
  held_answer (suc i) = ap answer (held_state i) ∙ w.answers (after_ticks step (suc i) h) (good_at (suc i))

  pub held_accepted : ((g : H) → accepted (told g) ≡ true) → AllAccepted answer next s
  held_accepted k i = ap accepted (held_answer i) ∙ (unfold answer_at in k (after_ticks step i h))

  pub held_marks : (n : ℕ) → tab (mark_at answer next s) n ≡ tab (mark_at told step h) n
  held_marks n = tab_ext (mark_at answer next s) (mark_at told step h) n (λ i l. ap host_number (held_answer i))

  pub held_frames : (ports n : ℕ) → joined (frame_at ports answer next s) n ≡ joined (frame_at ports told step h) n
  held_frames ports n =
      joined_ext (frame_at ports answer next s) (frame_at ports told step h) n (λ i. ap (λ (a : Answer). ports_of ports (volts_of a)) (held_answer i))

-- ---- a block as its code has it
pub not_refused : (fits : Bool) (number : ℕ) (t : Tally) (n : ℕ) → block_refusal_of fits number t n ≡ 0 → (fits ≡ true) × (number ≡ 0) × (room_for t n ≡ true)
unfolding block_refusal_of
not_refused fits number t n = go fits (eqb number 0) (room_for t n) (eqb-true number 0) (eqb-false number 0)
  where
    go : (a b d : Bool) → (b ≡ true → number ≡ 0) → (b ≡ false → number ≡ 0 → ⊥) → ◌≡◌ {A = ℕ} (cond a (cond b (cond d 0 7) number) 52) 0
        → (a ≡ true) × (number ≡ 0) × (d ≡ true)
    go true true true k l h = (refl, k refl, refl)
    go true true false k l h = absurd (omega arith)
    go true false d k l h = absurd (l refl h)
    go false b d k l h = absurd (omega arith)

pub block_fits : (ports number : ℕ) (t : Tally) (o : List Float) (m : List ℕ) (n : ℕ)
    → n ≡ block_refusal_of (eqb (length o) (ports * length m)) number t (length m) → n ≡ 0
    → (length o ≡ ports * length m) × (number ≡ 0) × (room_for t (length m) ≡ true)
block_fits ports number t o m n e h = let k = not_refused _ number t (length m) (sym e ∙ h) in (eqb-true (length o) (ports * length m) k.0, k.1, k.2)

-- what a block of none is refused by, and then the tally of n, is what refuses n
pub twice_asked : (number : ℕ) (t : Tally) (n : ℕ) → block_refusal_of true (block_refusal_of true number t 0) t n ≡ block_refusal_of true number t n
unfolding block_refusal_of
twice_asked number t n = go (eqb number 0) (room_for t 0) (room_for t n) refl (room_none t n)
  where
    go : (a b c : Bool) → eqb number 0 ≡ a → (c ≡ true → b ≡ true)
        → ◌≡◌ {A = ℕ} (cond (eqb (cond a (cond b 0 7) number) 0) (cond c 0 7) (cond a (cond b 0 7) number)) (cond a (cond c 0 7) number)
    go true true c e f = refl
    go true false true e f = absurd (false≢true (f refl))
    go true false false e f = refl
    go false b c e f = rw e refl

nothing_counted : (t : Tally) (f : ℕ → ℕ) → counted_to t f 0 ≡ t
unfolding counted_to grown_by many_to
nothing_counted t f = simp add-zero

nil : {A : Type 0} (l : List A) → length l ≡ 0 → l ≡ []
nil [] h = refl
nil (x ∷ l) h = absurd (omega arith)

module _ {S : Type 0} (ports number : ℕ) (answer : S → Answer) (next : S → S) (s : S) (t : Tally) (o : List Float) (m : List ℕ) (n : ℕ)
    (e : n ≡ block_refusal_of (eqb (length o) (ports * length m)) number t (length m)) where
  pub block_refused : (n ≡ 0 → ⊥) → block n s t o m ≡ block_of ports number answer next s t o m
  unfolding block_of
  block_refused h = simp (← e, ne_eqb n 0 h)

  accepted_block : n ≡ 0 → block_of ports number answer next s t o m ≡ ticks_of ports answer next (length m) s t
  unfolding block_of
  accepted_block h = simp (← e, h)

  no_ticks : ticks_of ports answer next 0 s t ≡ block 0 s t [] []
  unfolding ticks_of after_ticks joined tab
  no_ticks = ap (λ (u : Tally). block 0 s u [] []) (nothing_counted t (mark_at answer next s))

  pub block_empty : n ≡ 0 → length m ≡ 0 → block 0 s t o m ≡ block_of ports number answer next s t o m
  block_empty h z =
      let p : o ≡ [] = nil o ((block_fits ports number t o m n e h).0 ∙ ap (λ (k : ℕ). ports * k) z ∙ mul-zero ports) in
      let q : m ≡ [] = nil m z in
      (λ i. block 0 s t (p i) (q i)) ∙ sym no_ticks ∙ ap (λ (k : ℕ). ticks_of ports answer next k s t) (sym z) ∙ sym (accepted_block h)

  pub block_done : n ≡ 0 → (u : Tally) (r : S) (p : List Float) (l : List ℕ) → r ≡ after_ticks next (length m) s
      → p ≡ joined (frame_at ports answer next s) (length m)
      → l ≡ tab (mark_at answer next s) (length m) → u ≡ tally_or t (marks_taken t l) → block 0 r u p l ≡ block_of ports number answer next s t o m
  unfolding ticks_of
  block_done h u r p l a b d g = simp (accepted_block h, a, b, g, d, counted_tab t (mark_at answer next s) (length m) (block_fits ports number t o m n e h).2)

-- ---- a block as a call on a state
module _ {S : Type 0} (ports number : ℕ) (answer : S → Answer) (next : S → S) where
  -- it keeps what each tick keeps
  pub block_keeps : (P : S → Type 0) → ((s : S) → P s → P (next s)) → (s : S) → P s → (t : Tally) (o : List Float) (m : List ℕ)
      → P (block_of ports number answer next s t o m).state
  unfolding block_of
  block_keeps P k s h t o m = go (eqb n 0)
    where
      n : ℕ
      n = block_refusal_of (eqb (length o) (ports * length m)) number t (length m)

      go : (b : Bool) → P (cond b (ticks_of ports answer next (length m) s t) (block n s t o m)).state
      go true = unfold ticks_of in ticks_keep P next k s h (length m)
      go false = h

  -- it is refused for its buffers, for what refuses its first tick or for its tally
  pub block_refusal : (s : S) (t : Tally) (o : List Float) (m : List ℕ)
      → (block_of ports number answer next s t o m).refused ≡ block_refusal_of (eqb (length o) (ports * length m)) number t (length m)
  unfolding block_of
  block_refusal s t o m = go (eqb n 0) refl
    where
      n : ℕ
      n = block_refusal_of (eqb (length o) (ports * length m)) number t (length m)

      go : (b : Bool) → eqb n 0 ≡ b → (cond b (ticks_of ports answer next (length m) s t) (block n s t o m)).refused ≡ n
      go true e = unfold ticks_of in sym (eqb-true n 0 e)
      go false e = refl

-- ---- two states that one tick leaves alike
module _ {S : Type 0} (next : S → S) (s r : S) (e : next s ≡ next r) where
  meet : (n : ℕ) → after_ticks next (suc n) s ≡ after_ticks next (suc n) r
  unfolding after_ticks
  meet zero = e
  meet (suc n) = ap next (meet n)

  ticks_meet : (n : ℕ) → 0 < n → after_ticks next n s ≡ after_ticks next n r
  ticks_meet zero z = absurd (omega arith)
  ticks_meet (suc n) z = meet n

  module _ (ports number : ℕ) (answer : S → Answer) (t : Tally) (o : List Float) (m : List ℕ) where
    abbrev Taken : Type 0
    Taken = (block_refusal_of (eqb (length o) (ports * length m)) number t (length m) ≡ 0) × (0 < length m)

    -- so does a block that is taken and has a tick
    pub block_meets : Taken → (block_of ports number answer next s t o m).state ≡ (block_of ports number answer next r t o m).state
    unfolding block_of ticks_of
    block_meets h = simp (h.0, ticks_meet (length m) h.1)

    module _ (q : answer s ≡ answer r) where
      same_answers : (i : ℕ) → answer_at answer next s i ≡ answer_at answer next r i
      unfolding answer_at after_ticks
      same_answers zero = q
      same_answers (suc i) = ap answer (meet i)

      same_marks : (i : ℕ) → mark_at answer next s i ≡ mark_at answer next r i
      same_marks i = simp (same_answers i)

      same_frames : (i : ℕ) → frame_at ports answer next s i ≡ frame_at ports answer next r i
      same_frames i = simp (same_answers i)

      same_many : (k : ℕ) → many_to k (mark_at answer next s) (length m) ≡ many_to k (mark_at answer next r) (length m)
      same_many k = many_ext k (mark_at answer next s) (mark_at answer next r) (length m) (λ i l. same_marks i)

      -- and if the tick answers the same, so does the block
      pub block_same : Taken → block_of ports number answer next s t o m ≡ block_of ports number answer next r t o m
      unfolding block_of ticks_of counted_to
      block_same h =
          let frames = joined_ext (frame_at ports answer next s) (frame_at ports answer next r) (length m) same_frames in
          let marks = tab_ext (mark_at answer next s) (mark_at answer next r) (length m) (λ i l. same_marks i) in
          simp (
            h.0,
            ticks_meet (length m) h.1,
            same_many (told cleared),
            same_many (told notfinite),
            same_many (told lost),
            same_many (told steered),
            same_many (told clean),
            frames,
            marks,
          )

-- ---- the tally of a block is the one that is given each answer
-- one more answer that a host was told by the number n
abbrev counted_by : Tally → ℕ → Tally
counted_by t n =
    record {
      begun = t.begun + 1;
      finished = t.finished + one_if n (told clean);
      cleared = t.cleared + one_if n (told cleared);
      notfinite = t.notfinite + one_if n (told notfinite);
      lost = t.lost + one_if n (told lost);
      steered = t.steered + one_if n (told steered);
    }

-- one of the five counts grows, and it is the one that the tick's mark has
record MarksOne (a : Answer) : Type 0 where
  pub one : marks_of (host_number a) ≡ 1
  pub marked : eqb (mark_number a) 0 ≡ false
  pub same : (t : Tally) → counted t (mark_number a) ≡ counted_by t (host_number a)

mark_one : (a : Answer) → accepted a ≡ true → MarksOne a
unfolding host_number mark_number one_if accepted counted
mark_one (answer.Cleared v) h = record { one = refl; marked = refl; same = λ t. refl }
mark_one (answer.NotFinite v) h = record { one = refl; marked = refl; same = λ t. refl }
mark_one (answer.Lost v) h = record { one = refl; marked = refl; same = λ t. refl }
mark_one (answer.Clean v) h = record { one = refl; marked = refl; same = λ t. refl }
mark_one (answer.Steered v) h = record { one = refl; marked = refl; same = λ t. refl }
mark_one (answer.Refused n) h = absurd (false≢true h)

module _ (t : Tally) (a : ℕ → Answer) (n : ℕ) (h : (i : ℕ) → i < n → accepted (a i) ≡ true) where
  abbrev marks : ℕ → ℕ
  marks j = host_number (a j)

  all_marks : ℕ → ℕ
  all_marks i = many_to (told clean) marks i + many_to (told cleared) marks i + many_to (told notfinite) marks i + many_to (told lost) marks i
      + many_to (told steered) marks i

  many_all : (i : ℕ) → i ≤ n → all_marks i ≡ i
  unfolding all_marks many_to
  many_all zero l = refl
  many_all (suc i) l = let p = many_all i (omega arith) in let q = (mark_one (a i) (h i l)).one in omega arith

  sums : (i : ℕ) → t.begun ≡ sum_of t → (counted_to t marks i).begun ≡ sum_of (counted_to t marks i)
  unfolding counted_to grown_by
  sums i e = omega arith

  begun_at : (i : ℕ) → i ≤ n → (counted_to t marks i).begun ≡ t.begun + i
  unfolding all_marks counted_to grown_by
  begun_at i l = ap (λ (k : ℕ). t.begun + k) (many_all i l)

  -- a count and one more of its marks
  more_of : (m k i : ℕ) → m + many_to k marks i + one_if (marks i) k ≡ m + many_to k marks (suc i)
  unfolding many_to
  more_of m k i = omega arith

  one_more : (i : ℕ) → i < n → counted_by (counted_to t marks i) (marks i) ≡ counted_to t marks (suc i)
  unfolding counted_to grown_by
  one_more i k =
      let before = begun_at i (omega arith) in
      let after = begun_at (suc i) k in
      let b : (counted_to t marks i).begun + 1 ≡ (counted_to t marks (suc i)).begun = omega arith in
      λ j. record {
        begun = b j;
        finished = more_of t.finished (told clean) i j;
        cleared = more_of t.cleared (told cleared) i j;
        notfinite = more_of t.notfinite (told notfinite) i j;
        lost = more_of t.lost (told lost) i j;
        steered = more_of t.steered (told steered) i j;
      }

  taken_at : (i : ℕ) → room_for t n ≡ true → i < n → tally_of (counted_to t marks i) (a i) ≡ Ok (counted_to t marks (suc i))
  unfolding tally_of adds_up
  taken_at i r l =
      let w = room_says t n r in
      let b = begun_at i (omega arith) in
      simp (
        eq-eqb (counted_to t marks i).begun (sum_of (counted_to t marks i)) (sums i w.0),
        (mark_one (a i) (h i l)).marked,
        ne_eqb (counted_to t marks i).begun 4294967295 (λ z. omega arith),
        (mark_one (a i) (h i l)).same,
        one_more i l,
      )

pub block_counts : BlockCounts
block_counts t a n h r i l = takes _ (a i) _ (rw add-one (taken_at t a n h i r l))

pub all_taken : {S : Type 0} (answer : S → Answer) (next : S → S) (s : S) → AllAccepted answer next s → AllTaken answer next s
all_taken answer next s h t n r i l = block_counts t (answer_at answer next s) n (λ j k. h j) r i l

pub taken_to : {S : Type 0} (answer : S → Answer) (next : S → S) (s : S) (n : ℕ) → AcceptedTo answer next s n → TakenTo answer next s n
taken_to answer next s n h t r i l = block_counts t (answer_at answer next s) n h r i l
