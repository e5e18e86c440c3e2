-- A mark keeps its volts, and says of the controls whether one is NaN; and from new a tally counts what it took, which is all that it is
-- given while there is room.
use mathlib.Core.Bool.{Bool, ◌&&◌, true, false, cond, not, true≢false}
use mathlib.Core.List.{List, [], ◌∷◌}
use Rattle.std.specs.Prelude.{Ok, Err}
use mathlib.Core.Path.{◌≡◌, refl, sym, ap, ◌∙◌, subst}
use Prim.Native.Nat.{ℕ, zero, suc, ◌+◌, ◌≤◌, ◌<◌}
use native.Mathlib.Nat.{add-zero, not-suc-le-zero, le_of_suc-le-suc}
use native.Mathlib.Numerals.{add-one}
use native.Mathlib.Omega.{arith}
use lib.Arith.{lt_of_le-ne}
use lib.Dec.{eqb, lit≤}
use lib.Ieee.{Float, nan, is_nan}
use lib.ListN.{length, get_or}
use borrow.Author.Tests.{eqb-true, eq-eqb, eqb-false, ne_eqb}
use Rattle.laws.proofs.Tests.{both_true}
use Rattle.common.specs.Refusal.{number_of, refused_number}
use Rattle.answer.specs.Answer.{mark_number, host_number, volts_of, refusal_of, accepted, answer_of, cleared, notfinite, lost, steered, clean}
use Rattle.answer.specs.Mark.{all_finite, all_numbers, rule_of, marked_of, mark_of}
use Rattle.answer.specs.Promises.{MarkSays, MarksInOrder, CleanSteered, NumbersSay, Steers, SoundsAs, ToldNumbers}
use Rattle.answer.specs.Promises.{Counts, TallyCounts, TallyTakesAll, Takes, RefusedNowhere}
use Rattle.answer.specs.Tally.{sum_of, adds_up, one_if, counted, tally_or, tally_of, Run, settle, run, new_run, many, accepted_in, tally_after}
use Rattle.answer.specs.declared.Volts.{Volts}
use Rattle.answer.specs.declared.Answer.{Answer}
use Rattle.answer.specs.declared.Answer.TheVariants as answer
use Rattle.answer.specs.declared.Tally.{Tally}
use Rattle.common.specs.declared.Refusal.TheVariants as refusal

pub adds : (t : Tally) → adds_up t ≡ true → t.begun ≡ sum_of t
unfolding adds_up
adds t h = eqb-true t.begun (sum_of t) h

one_most : (n k : ℕ) → one_if n k ≤ 1
unfolding one_if
one_most n k = go (eqb n k)
  where
    go : (b : Bool) → cond b 1 0 ≤ 1
    go true = lit≤ tt
    go false = lit≤ tt

pub at_most_one : (r n k : ℕ) → r ≡ one_if n k → r ≤ 1
at_most_one r n k e = subst (λ (z : ℕ). z ≤ 1) (sym e) (one_most n k)

-- ---- marks
rule_says : (v : Volts) (a b c d : Bool)
    → (accepted (marked_of v a b c d) ≡ true) × (volts_of (marked_of v a b c d) ≡ v) × (mark_number (marked_of v a b c d) ≡ rule_of a b c d)
unfolding marked_of rule_of answer_of accepted volts_of mark_number
rule_says v true b c d = (refl, refl, refl)
rule_says v false true true true = (refl, refl, refl)
rule_says v false true true false = (refl, refl, refl)
rule_says v false true false d = (refl, refl, refl)
rule_says v false false c d = (refl, refl, refl)

pub mark_says : MarkSays
unfolding mark_of
mark_says v zeroed sums phases numbers =
    let r = rule_says v zeroed (sums && all_finite v) phases numbers in
    record { is_accepted = r.0; volts = r.1; number = r.2 }

pub marks_in_order : MarksInOrder
unfolding rule_of
marks_in_order v zeroed sums phases numbers =
    let e = (mark_says v zeroed sums phases numbers).number in
    record {
      cleared = λ z. e ∙ simp z;
      notfinite = λ z f. e ∙ simp (z, f);
      lost = λ z f p. e ∙ simp (z, f, p);
      steered = λ z f p n. e ∙ simp (z, f, p, n);
      clean = λ z f p n. e ∙ simp (z, f, p, n);
    }

pub clean_steered : CleanSteered
unfolding rule_of
clean_steered v zeroed sums phases numbers h =
    (mark_says v zeroed sums phases false).number
    ∙ go zeroed (sums && all_finite v) phases numbers (sym (mark_says v zeroed sums phases numbers).number ∙ h)
  where
    go : (a b c d : Bool) → rule_of a b c d ≡ clean → rule_of a b c false ≡ steered
    go true b c d e = absurd (omega arith)
    go false true true d e = refl
    go false true false d e = absurd (omega arith)
    go false false c d e = absurd (omega arith)

-- volts that are known to be finite needn't be tested
pub mark_known : (v : Volts) (zeroed phases numbers : Bool) → all_finite v ≡ true → marked_of v zeroed true phases numbers
    ≡ mark_of v zeroed true phases numbers
unfolding mark_of
mark_known v zeroed phases numbers h = simp h

-- ---- controls
-- the rule names clean where no control is NaN, and steered where one is
rule_steers : (a b c d : Bool) → (rule_of a b c d ≡ clean → d ≡ true) × (rule_of a b c d ≡ steered → d ≡ false)
unfolding rule_of
rule_steers true b c d = (λ e. absurd (omega arith), λ e. absurd (omega arith))
rule_steers false true true true = (λ e. refl, λ e. absurd (omega arith))
rule_steers false true true false = (λ e. absurd (omega arith), λ e. refl)
rule_steers false true false d = (λ e. absurd (omega arith), λ e. absurd (omega arith))
rule_steers false false c d = (λ e. absurd (omega arith), λ e. absurd (omega arith))

-- so of a tick that is marked over its controls, and of one that is refused
pub mark_steers : (v : Volts) (zeroed sums phases : Bool) (controls : List Float) → Steers controls (mark_of v zeroed sums phases (all_numbers controls))
mark_steers v zeroed sums phases controls =
    let e = (mark_says v zeroed sums phases (all_numbers controls)).number in
    let r = rule_steers zeroed (sums && all_finite v) phases (all_numbers controls) in
    record { when_clean = λ h. r.0 (sym e ∙ h); when_steered = λ h. r.1 (sym e ∙ h) }

pub refused_steers : (n : ℕ) (controls : List Float) → Steers controls (answer.Refused n)
unfolding mark_number
refused_steers n controls = record { when_clean = λ h. absurd (omega arith); when_steered = λ h. absurd (omega arith) }

-- each control by itself
is_number : (b : Bool) → not b ≡ true → b ≡ false
is_number true h = absurd (true≢false (sym h))
is_number false h = refl

pub each_number : (xs : List Float) → all_numbers xs ≡ true → (i : ℕ) → i < length xs → is_nan (get_or xs i nan) ≡ false
unfolding all_numbers
each_number [] h i l = absurd (not-suc-le-zero l)
each_number (x ∷ xs) h zero l = is_number (is_nan x) (both_true (not (is_nan x)) (all_numbers xs) h).0
each_number (x ∷ xs) h (suc i) l = each_number xs (both_true (not (is_nan x)) (all_numbers xs) h).1 i (le_of_suc-le-suc l)

pub number_each : (xs : List Float) → ((i : ℕ) → i < length xs → is_nan (get_or xs i nan) ≡ false) → all_numbers xs ≡ true
unfolding all_numbers
number_each [] h = refl
number_each (x ∷ xs) h = rw (h zero (omega arith)) (number_each xs (λ i l. h (suc i) (omega arith)))

pub numbers_say : NumbersSay
numbers_say xs = (each_number xs, number_each xs)

-- so one NaN is told of
pub nan_given : (xs : List Float) (i : ℕ) → i < length xs → get_or xs i nan ≡ nan → all_numbers xs ≡ false
nan_given xs i l e = go (all_numbers xs) refl
  where
    go : (b : Bool) → all_numbers xs ≡ b → b ≡ false
    go true h = absurd (true≢false (unfold is_nan in (sym (ap is_nan e) ∙ each_number xs h i l)))
    go false h = refl

-- of a tick that is x where n is 0, and else y, refused by n
pub tick_steers : {T : Type 0} (told : T → Answer) (controls : List Float) (n : ℕ) (x y : T) → Steers controls (told x) → told y ≡ answer.Refused n
    → Steers controls (told (cond (eqb n 0) x y))
tick_steers told controls n x y h e = go (eqb n 0)
  where
    go : (b : Bool) → Steers controls (told (cond b x y))
    go true = h
    go false = subst (Steers controls) (sym e) (refused_steers n controls)

-- ---- a NaN in the place of a number that sounds the same
pub mark_sounds : (v w : Volts) (zeroed sums phases numbers : Bool) → v ≡ w
    → SoundsAs (mark_of v zeroed sums phases false) (mark_of w zeroed sums phases numbers)
mark_sounds v w zeroed sums phases numbers e =
    record {
      volts = (mark_says v zeroed sums phases false).volts ∙ e ∙ sym (mark_says w zeroed sums phases numbers).volts;
      mark = λ h. ap (λ (u : Volts). mark_number (mark_of u zeroed sums phases false)) e ∙ clean_steered w zeroed sums phases numbers h;
    }

pub tick_sounds : {T : Type 0} (told : T → Answer) (n : ℕ) (x u y : T) → (n ≡ 0 → SoundsAs (told x) (told u)) → told y ≡ answer.Refused n
    → SoundsAs (told (cond (eqb n 0) x y)) (told (cond (eqb n 0) u y))
tick_sounds told n x u y h e = go (eqb n 0) (eqb-true n 0)
  where
    go : (b : Bool) → (b ≡ true → n ≡ 0) → SoundsAs (told (cond b x y)) (told (cond b u y))
    go true z = h (z refl)
    go false z = record { volts = refl; mark = λ c. absurd (unclean (sym (ap mark_number e) ∙ c)) }
      where
        unclean : mark_number (answer.Refused n) ≡ clean → ⊥
        unclean c = unfold mark_number in omega arith

pub told_numbers : ToldNumbers
unfolding host_number accepted mark_number
told_numbers v = record { cleared = refl; notfinite = refl; lost = refl; clean = refl; steered = refl }

-- a refused tick's mark has the number 0
pub mark_accepted : (a : Answer) → not (eqb (mark_number a) 0) ≡ accepted a
unfolding mark_number accepted
mark_accepted (answer.Cleared v) = refl
mark_accepted (answer.NotFinite v) = refl
mark_accepted (answer.Lost v) = refl
mark_accepted (answer.Clean v) = refl
mark_accepted (answer.Steered v) = refl
mark_accepted (answer.Refused n) = refl

-- ---- refusals
pub accepted_unrefused : (a : Answer) → accepted a ≡ true → refusal_of a ≡ 0
unfolding accepted refusal_of
accepted_unrefused (answer.Cleared v) h = refl
accepted_unrefused (answer.NotFinite v) h = refl
accepted_unrefused (answer.Lost v) h = refl
accepted_unrefused (answer.Clean v) h = refl
accepted_unrefused (answer.Steered v) h = refl
accepted_unrefused (answer.Refused n) h = absurd (true≢false (sym h))

-- a tick that is x where n is 0, and else y, refused by n: its refusal is n
pub refused_by : {T : Type 0} (told : T → Answer) (n : ℕ) (x y : T) → accepted (told x) ≡ true → told y ≡ answer.Refused n
    → refusal_of (told (cond (eqb n 0) x y)) ≡ n
unfolding refusal_of
refused_by {T} told n x y h e = go (eqb n 0) refl
  where
    go : (b : Bool) → eqb n 0 ≡ b → refusal_of (told (cond b x y)) ≡ n
    go true z = accepted_unrefused (told x) h ∙ sym (eqb-true n 0 z)
    go false z = ap refusal_of e

-- ---- the tally
-- the five marks of an accepted answer: one of the counts grows by one
mark_one : (a : Answer) → (mark_number a ≡ 0 → ⊥)
    → one_if (mark_number a) clean + one_if (mark_number a) cleared + one_if (mark_number a) notfinite + one_if (mark_number a) lost + one_if (mark_number a)
    steered
    ≡ 1
unfolding mark_number one_if
mark_one (answer.Cleared v) h = refl
mark_one (answer.NotFinite v) h = refl
mark_one (answer.Lost v) h = refl
mark_one (answer.Clean v) h = refl
mark_one (answer.Steered v) h = refl
mark_one (answer.Refused n) h = absurd (h refl)

counted_sum : (t : Tally) (a : Answer) → (mark_number a ≡ 0 → ⊥) → t.begun ≡ sum_of t → (counted t (mark_number a)).begun ≡ sum_of (counted t (mark_number a))
unfolding counted
counted_sum t a n h = let o = mark_one a n in omega arith

-- an answer with a mark is an accepted tick's
ticked : (a : Answer) (xs : List Answer) → (mark_number a ≡ 0 → ⊥) → accepted_in (a ∷ xs) ≡ accepted_in xs + 1
unfolding accepted_in accepted mark_number
ticked (answer.Cleared v) xs n = refl
ticked (answer.NotFinite v) xs n = refl
ticked (answer.Lost v) xs n = refl
ticked (answer.Clean v) xs n = refl
ticked (answer.Steered v) xs n = refl
ticked (answer.Refused k) xs n = absurd (n refl)

not_ticked : (a : Answer) (xs : List Answer) → mark_number a ≡ 0 → accepted_in (a ∷ xs) ≡ accepted_in xs
unfolding accepted_in accepted mark_number
not_ticked (answer.Cleared v) xs z = absurd (omega arith)
not_ticked (answer.NotFinite v) xs z = absurd (omega arith)
not_ticked (answer.Lost v) xs z = absurd (omega arith)
not_ticked (answer.Clean v) xs z = absurd (omega arith)
not_ticked (answer.Steered v) xs z = absurd (omega arith)
not_ticked (answer.Refused n) xs z = add-zero (accepted_in xs)

counts_refused : (r : Run) (a : Answer) → mark_number a ≡ 0 → Counts r → Counts (record { tally = r.tally; took = a ∷ r.took })
unfolding many one_if
counts_refused r a z h =
    record {
      cleared = h.cleared ∙ plus (many cleared r.took) cleared refl;
      notfinite = h.notfinite ∙ plus (many notfinite r.took) notfinite refl;
      lost = h.lost ∙ plus (many lost r.took) lost refl;
      steered = h.steered ∙ plus (many steered r.took) steered refl;
      finished = h.finished ∙ plus (many clean r.took) clean refl;
      begun = h.begun ∙ sym (not_ticked a r.took z);
      sum = h.sum;
      top = h.top;
    }
  where
    plus : (m k : ℕ) → eqb 0 k ≡ false → m ≡ m + cond (eqb (mark_number a) k) 1 0
    plus m k e = sym (ap (λ (n : ℕ). m + cond (eqb n k) 1 0) z ∙ ap (λ (b : Bool). m + cond b 1 0) e ∙ add-zero m)

counts_more : (r : Run) (a : Answer) → (mark_number a ≡ 0 → ⊥) → (r.tally.begun ≡ 4294967295 → ⊥) → Counts r
    → Counts (record { tally = counted r.tally (mark_number a); took = a ∷ r.took })
unfolding counted many
counts_more r a n t h =
    record {
      cleared = ap (λ (m : ℕ). m + one_if (mark_number a) cleared) h.cleared;
      notfinite = ap (λ (m : ℕ). m + one_if (mark_number a) notfinite) h.notfinite;
      lost = ap (λ (m : ℕ). m + one_if (mark_number a) lost) h.lost;
      steered = ap (λ (m : ℕ). m + one_if (mark_number a) steered) h.steered;
      finished = ap (λ (m : ℕ). m + one_if (mark_number a) clean) h.finished;
      begun = ap (λ (m : ℕ). m + 1) h.begun ∙ sym (ticked a r.took n);
      sum = unfold counted in counted_sum r.tally a n h.sum;
      top = room r.tally.begun h.top t;
    }
  where
    room : (b : ℕ) → b ≤ 4294967295 → (b ≡ 4294967295 → ⊥) → b + 1 ≤ 4294967295
    room b h n = subst (λ (z : ℕ). z ≤ 4294967295) (sym (add-one b)) (lt_of_le-ne h n)

counts_step : (r : Run) (a : Answer) → Counts r → Counts (settle r a (tally_of r.tally a))
unfolding tally_of settle refused_number number_of tally_or
counts_step r a h = go (adds_up r.tally) (eqb (mark_number a) 0) (eqb r.tally.begun 4294967295) (eqb-true (mark_number a) 0) (eqb-false (mark_number a) 0)
    (eqb-false r.tally.begun 4294967295) refl refl
  where
    go : (b c d : Bool) → (eqb (mark_number a) 0 ≡ true → mark_number a ≡ 0) → (eqb (mark_number a) 0 ≡ false → mark_number a ≡ 0 → ⊥)
        → (eqb r.tally.begun 4294967295 ≡ false → r.tally.begun ≡ 4294967295 → ⊥) → eqb (mark_number a) 0 ≡ c → eqb r.tally.begun 4294967295 ≡ d
        → Counts (settle r a
        (cond b (cond c (Ok r.tally) (cond d (Err refusal.Tally) (Ok (counted r.tally (mark_number a))))) (Err refusal.Tally)))
    go true true d f g k e q = counts_refused r a (f e) h
    go true false true f g k e q = h
    go true false false f g k e q = counts_more r a (g e) (k q) h
    go false c d f g k e q = h

counts_run : (r : Run) (xs : List Answer) → Counts r → Counts (run r xs)
unfolding run
counts_run r [] h = h
counts_run r (a ∷ xs) h = counts_run (settle r a (tally_of r.tally a)) xs (counts_step r a h)

pub tally_counts : TallyCounts
unfolding many accepted_in
tally_counts xs =
    counts_run new_run xs
    (record { cleared = refl; notfinite = refl; lost = refl; steered = refl; finished = refl; begun = refl; sum = refl; top = lit≤ tt })

-- ---- while there is room it takes all
-- how much an answer adds to begun
weight : Answer → ℕ
weight a = cond (accepted a) 1 0

record Taken (t : Tally) (a : Answer) : Type 0 where
  after : Tally
  taken : tally_of t a ≡ Ok after
  sum : after.begun ≡ sum_of after
  begun : after.begun ≡ t.begun + weight a

module _ (t : Tally) (s : t.begun ≡ sum_of t) where
  adding : adds_up t ≡ true
  unfolding adds_up
  adding = eq-eqb t.begun (sum_of t) s

  not_full : t.begun + 1 ≤ 4294967295 → eqb t.begun 4294967295 ≡ false
  not_full h = ne_eqb t.begun 4294967295 (λ e. omega arith)

  takes_one : (a : Answer) → t.begun + weight a ≤ 4294967295 → Taken t a
  unfolding tally_of mark_number counted one_if weight accepted
  takes_one (answer.Cleared v) h = record { after = counted t cleared; taken = simp (adding, not_full h); sum = omega arith; begun = refl }
  takes_one (answer.NotFinite v) h = record { after = counted t notfinite; taken = simp (adding, not_full h); sum = omega arith; begun = refl }
  takes_one (answer.Lost v) h = record { after = counted t lost; taken = simp (adding, not_full h); sum = omega arith; begun = refl }
  takes_one (answer.Clean v) h = record { after = counted t clean; taken = simp (adding, not_full h); sum = omega arith; begun = refl }
  takes_one (answer.Steered v) h = record { after = counted t steered; taken = simp (adding, not_full h); sum = omega arith; begun = refl }
  takes_one (answer.Refused n) h = record { after = t; taken = simp adding; sum = s; begun = omega arith }

settled : (r : Run) (a : Answer) (k : Taken r.tally a) → settle r a (tally_of r.tally a) ≡ record { tally = k.after; took = a ∷ r.took }
unfolding settle refused_number number_of tally_or
settled r a k = ap (settle r a) k.taken

-- so what is summed over the answers taken is summed over all
module _ (f : List Answer → ℕ) (w : Answer → ℕ) (more : (a : Answer) (xs : List Answer) → f (a ∷ xs) ≡ f xs + w a) (none : f [] ≡ 0) where
  took_all : (xs : List Answer) (r : Run) → r.tally.begun ≡ sum_of r.tally → r.tally.begun + accepted_in xs ≤ 4294967295
      → f (run r xs).took ≡ f xs + f r.took
  unfolding run accepted_in
  took_all [] r s h = omega (arith, none)
  took_all (a ∷ xs) r s h =
      let k = takes_one r.tally s a (unfold weight in omega arith) in
      let u : Run = record { tally = k.after; took = a ∷ r.took } in
      let rest = took_all xs u k.sum (unfold weight in omega (arith, k.begun)) in
      ap (λ (v : Run). f (run v xs).took) (settled r a k) ∙ omega (arith, rest, more a xs, more a r.took)

many_took : (n : ℕ) (xs : List Answer) → accepted_in xs ≤ 4294967295 → many n (run new_run xs).took ≡ many n xs
unfolding many
many_took n xs h = took_all (many n) (λ (a : Answer). one_if (mark_number a) n) (λ a xs. refl) refl xs new_run refl (omega arith) ∙ add-zero (many n xs)

accepted_took : (xs : List Answer) → accepted_in xs ≤ 4294967295 → accepted_in (run new_run xs).took ≡ accepted_in xs
unfolding accepted_in weight
accepted_took xs h = took_all accepted_in weight (λ a xs. refl) refl xs new_run refl (omega arith) ∙ add-zero (accepted_in xs)

pub tally_takes_all : TallyTakesAll
unfolding tally_after
tally_takes_all xs h =
    let c = tally_counts xs in
    record {
      cleared = c.cleared ∙ many_took cleared xs h;
      notfinite = c.notfinite ∙ many_took notfinite xs h;
      lost = c.lost ∙ many_took lost xs h;
      steered = c.steered ∙ many_took steered xs h;
      finished = c.finished ∙ many_took clean xs h;
      begun = c.begun ∙ accepted_took xs h;
      sum = c.sum;
    }

pub takes : (t : Tally) (a : Answer) (u : Tally) → tally_of t a ≡ Ok u → Takes t a u
unfolding refused_number tally_or
takes t a u e = (ap refused_number e, ap (tally_or t) e)

pub refused_nowhere : RefusedNowhere
unfolding tally_of adds_up mark_number accepted
refused_nowhere t (answer.Cleared v) r h = absurd (true≢false r)
refused_nowhere t (answer.NotFinite v) r h = absurd (true≢false r)
refused_nowhere t (answer.Lost v) r h = absurd (true≢false r)
refused_nowhere t (answer.Clean v) r h = absurd (true≢false r)
refused_nowhere t (answer.Steered v) r h = absurd (true≢false r)
refused_nowhere t (answer.Refused n) r h = takes t (answer.Refused n) t (simp (eq-eqb t.begun (sum_of t) h))
