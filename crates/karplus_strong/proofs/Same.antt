-- Two strings that are equal, over lines that are alike below their length: no call tells them apart, and each leaves them so.
use Rattle.std.proofs.Common.{◌≡◌, ℕ, zero, suc, ◌*◌, ◌<◌, min, Bool, true, false, cond, eqb, List, [], ◌∷◌, ◌++◌, length, get_or, drop, refl, ap, subst}
use Rattle.std.proofs.Common.{not-suc-le-zero, arith}
use lib.Ieee.{Float, nan}
use Rattle.laws.proofs.Over.{tab_ext}
use Rattle.laws.specs.Lists.{tab, over}
use Rattle.laws.specs.Machine.{replies}
use Rattle.common.specs.declared.Hertz.{Hertz}
use Rattle.answer.specs.Answer.{host_number, volts_of}
use Rattle.answer.specs.Block.{Block, block, block_refusal_of, block_of, ticks_of, after_ticks, answer_at, counted_to, joined, ports_of}
use Rattle.answer.specs.declared.Answer.{Answer}
use Rattle.answer.specs.declared.Tally.{Tally}
use Rattle.karplus_strong.specs.Consts.{n_ports}
use Rattle.karplus_strong.specs.Line.{blank_of}
use Rattle.karplus_strong.specs.KarplusStrong.{max_len_of, room_of, karplus_strong_refusal_of, karplus_strong_rate_refusal_of, Making, made_unless}
use Rattle.karplus_strong.specs.KarplusStrong.{karplus_strong_reset_of, karplus_strong_set_sample_rate_of, karplus_strong_tick_of, Strung, strung}
use Rattle.karplus_strong.specs.KarplusStrong.{first_refusal_of}
use Rattle.karplus_strong.specs.KarplusStrong.{karplus_strong_told_of, karplus_strong_next_of, karplus_strong_block_of, restarted, rated, rated_line}
use Rattle.karplus_strong.specs.Calls.{Call, Tick, Play, Reset, SetSampleRate, Lend, Ticked, Played, Told, strung_after, lent_of, unstrung, after, reply}
use Rattle.karplus_strong.specs.Promises.{Alike, SameTick, Same, SameReplies}
use Rattle.karplus_strong.specs.declared.KarplusStrong.{KarplusStrong}
use Rattle.karplus_strong.specs.declared.KarplusStrongControls.{KarplusStrongControls}
use Rattle.answer.specs.declared.Ticked as leaves
use Rattle.karplus_strong.proofs.Parts.{accepted, rate_accepted, made_done, made_no, made_either}
use Rattle.karplus_strong.proofs.Alike.{alike_blank, only_its_cells}

-- what holds of one string over two such lines holds of both strings
of_lines : (P : Strung → Strung → Type 0) → ((s : KarplusStrong) (l m : List Float) → Alike s.len l m → P (strung s l) (strung s m))
    → (x y : Strung) → Same x y → P x y
of_lines P h x y e = subst (λ (s : KarplusStrong). P x (strung s y.line)) e.string (h x.string x.line y.line e.line)

-- ---- ticks
pub record SameNext (c : KarplusStrongControls) (draws : List ℕ) (x y : Strung) : Type 0 where
  pub told : karplus_strong_told_of c draws x ≡ karplus_strong_told_of c draws y
  pub state : Same (karplus_strong_next_of c draws x) (karplus_strong_next_of c draws y)

pub same_next : (c : KarplusStrongControls) (draws : List ℕ) (x y : Strung)
    → SameTick (karplus_strong_tick_of x.string c draws x.line) (karplus_strong_tick_of y.string c draws y.line) → SameNext c draws x y
same_next c draws x y t = record {
  told = ap (λ (o : leaves.Ticked KarplusStrong). o.answer) t.out;
  state = record { string = ap (λ (o : leaves.Ticked KarplusStrong). o.state) t.out; line = t.line };
}

same_tick : (c : KarplusStrongControls) (draws : List ℕ) (x y : Strung) → Same x y → SameNext c draws x y
same_tick c draws = of_lines (SameNext c draws) (λ s l m e. same_next c draws (strung s l) (strung s m) (only_its_cells s c draws l m e))

pub record SameBlock (a b : Block Strung) : Type 0 where
  pub told : unstrung a ≡ unstrung b
  pub state : Same a.state b.state

module _ (c : KarplusStrongControls) (draws : List ℕ) (t : Tally) (x y : Strung) where
  abbrev answers_of : Strung → ℕ → Answer
  answers_of z = answer_at (karplus_strong_told_of c draws) (karplus_strong_next_of c draws) z

  abbrev left_by : ℕ → Strung → Strung
  left_by n z = after_ticks (karplus_strong_next_of c draws) n z

  abbrev ticks_from : ℕ → Strung → Block Strung
  ticks_from n z = ticks_of n_ports (karplus_strong_told_of c draws) (karplus_strong_next_of c draws) n z t

  by_ticks : (n : ℕ) → ((i : ℕ) → answers_of x i ≡ answers_of y i) → Same (left_by n x) (left_by n y) → SameBlock (ticks_from n x) (ticks_from n y)
  unfolding ticks_of
  by_ticks n h e = record { told = λ j. told (e.string j) (λ i. h i j); state = e }
    where
      told : KarplusStrong → (ℕ → Answer) → Block KarplusStrong
      told s a = block 0 s (counted_to t (λ i. host_number (a i)) n) (joined (λ i. ports_of n_ports (volts_of (a i))) n) (tab (λ i. host_number (a i)) n)

  -- two strings that are the same from the second tick on
  module _ (k : SameNext c draws x y) where
    later : (n : ℕ) → Same (left_by (suc n) x) (left_by (suc n) y)
    unfolding after_ticks
    later zero = k.state
    later (suc n) = (same_tick c draws _ _ (later n)).state

    answers : (i : ℕ) → answers_of x i ≡ answers_of y i
    unfolding answer_at after_ticks
    answers zero = k.told
    answers (suc i) = (same_tick c draws _ _ (later i)).told

    pub same_ticks : (n : ℕ) → 0 < n → SameBlock (ticks_from n x) (ticks_from n y)
    same_ticks zero z = absurd (not-suc-le-zero z)
    same_ticks (suc n) z = by_ticks (suc n) answers (later n)

  -- or from the first
  from_first : Same x y → (n : ℕ) → SameBlock (ticks_from n x) (ticks_from n y)
  unfolding after_ticks
  from_first e zero = by_ticks 0 (answers (same_tick c draws x y e)) e
  from_first e (suc n) = by_ticks (suc n) (answers (same_tick c draws x y e)) (later (same_tick c draws x y e) n)

  abbrev block_by : ℕ → List Float → List ℕ → Strung → Block Strung
  block_by k o m z = block_of n_ports k (karplus_strong_told_of c draws) (karplus_strong_next_of c draws) z t o m

  same_block : Same x y → (k : ℕ) (o : List Float) (m : List ℕ) → SameBlock (block_by k o m x) (block_by k o m y)
  unfolding block_of
  same_block e k o m = pick (eqb n 0)
    where
      n : ℕ
      n = block_refusal_of (eqb (length o) (n_ports * length m)) k t (length m)

      pick : (b : Bool) → SameBlock (cond b (ticks_from (length m) x) (block n x t o m)) (cond b (ticks_from (length m) y) (block n y t o m))
      pick true = from_first e (length m)
      pick false = record { told = λ j. block n (e.string j) t o m; state = e }

same_play : (c : KarplusStrongControls) (draws : List ℕ) (t : Tally) (o : List Float) (b : List ℕ) (s : KarplusStrong) (l m : List Float) → Alike s.len l m
    → SameBlock (karplus_strong_block_of (strung s l) c draws t o b) (karplus_strong_block_of (strung s m) c draws t o b)
unfolding karplus_strong_block_of
same_play c draws t o b s l m e =
    rw (← e.size) (same_block c draws t (strung s l) (strung s m) (record { string = refl; line = e }) (first_refusal_of s c draws (length l) (length b)) o b)

-- ---- calls
pub record SameCall (x y : Strung) (c : Call) : Type 0 where
  pub said : reply x c ≡ reply y c
  pub state : Same (after x c) (after y c)

pub block_call : (x y : Strung) (c : KarplusStrongControls) (draws : List ℕ) (t : Tally) (o : List Float) (m : List ℕ)
    → SameBlock (karplus_strong_block_of x c draws t o m) (karplus_strong_block_of y c draws t o m) → SameCall x y (Play c draws t o m)
unfolding reply after
block_call x y c draws t o m b = record { said = ap Played b.told; state = b.state }

-- a call that makes t, over either line
abbrev SameMade : Making → Making → Type 0
SameMade u v = (u.out.refused ≡ v.out.refused) × Same (strung_after u) (strung_after v)

same_made : (k j : ℕ) → k ≡ j → (s t : KarplusStrong) (l m a b : List Float) → Alike s.len l m → (k ≡ 0 → Alike t.len a b)
    → SameMade (made_unless k (strung s l) (strung t a)) (made_unless j (strung s m) (strung t b))
same_made k j q s t l m a b e h =
    rw (← q)
    (made_either (λ u. SameMade u (made_unless k (strung s m) (strung t b))) k (strung s l) (strung t a)
    (λ z. rw (← made_done k (strung s m) (strung t b) z) (refl, record { string = refl; line = h z }))
    (λ n. rw (← made_no k (strung s m) (strung t b) n) (refl, record { string = refl; line = e })))

same_reset : (s : KarplusStrong) (l m : List Float) → Alike s.len l m → SameMade (karplus_strong_reset_of s l) (karplus_strong_reset_of s m)
unfolding karplus_strong_reset_of
same_reset s l m e = same_made _ _ (ap (karplus_strong_refusal_of s) e.size) s (restarted s) l m _ _ e blank
  where
    blank : karplus_strong_refusal_of s (length l) ≡ 0 → Alike s.len (blank_of 0 s.len l) (blank_of 0 s.len m)
    blank z =
        let a = accepted s (length l) z in
        let q = a.0.most in
        let h = a.1 in
        alike_blank 0 s.len l m (omega arith) e.size (λ i k. absurd (not-suc-le-zero k))

same_rate : (s : KarplusStrong) (rate : Hertz) (l m : List Float) → Alike s.len l m
    → SameMade (karplus_strong_set_sample_rate_of s rate l) (karplus_strong_set_sample_rate_of s rate m)
unfolding karplus_strong_set_sample_rate_of
same_rate s rate l m e = same_made _ _ (ap (karplus_strong_rate_refusal_of s rate) e.size) s (rated s rate) l m _ _ e blank
  where
    blank : karplus_strong_rate_refusal_of s rate (length l) ≡ 0 → Alike (max_len_of rate) (rated_line s rate l) (rated_line s rate m)
    blank z =
        let h = (rate_accepted s rate (length l) z).2 in
        alike_blank (min s.len (max_len_of rate)) (max_len_of rate) l m (omega arith) e.size (λ i k. e.cells i (omega arith))

lent_alike : (s : KarplusStrong) (l m k : List Float) → Alike s.len l m → Alike s.len (lent_of (strung s l) k) (lent_of (strung s m) k)
unfolding lent_of over
lent_alike s l m k e =
    equal (ap (λ (t : List Float). t ++ drop s.len k) (tab_ext (λ i. get_or l i nan) (λ i. get_or m i nan) s.len e.cells))
  where
    equal : {n : ℕ} {a b : List Float} → a ≡ b → Alike n a b
    equal q = record { size = ap length q; cells = λ i h. ap (λ (z : List Float). get_or z i nan) q }

lines_call : (c : Call) (s : KarplusStrong) (l m : List Float) → Alike s.len l m → SameCall (strung s l) (strung s m) c
unfolding after reply
lines_call (Tick c draws) s l m e =
    let t = same_tick c draws (strung s l) (strung s m) (record { string = refl; line = e }) in
    record { said = ap Ticked t.told; state = t.state }
lines_call (Play c draws t o b) s l m e = block_call (strung s l) (strung s m) c draws t o b (same_play c draws t o b s l m e)
lines_call Reset s l m e = let r = same_reset s l m e in record { said = ap Told r.0; state = r.1 }
lines_call (SetSampleRate rate) s l m e = let r = same_rate s rate l m e in record { said = ap Told r.0; state = r.1 }
lines_call (Lend k) s l m e = record { said = refl; state = record { string = refl; line = pick (eqb (room_of s.sample_rate (length k)) 0) } }
  where
    pick : (b : Bool) → Alike s.len (cond b (lent_of (strung s l) k) l) (cond b (lent_of (strung s m) k) m)
    pick true = lent_alike s l m k e
    pick false = e

same_call : (c : Call) (x y : Strung) → Same x y → SameCall x y c
same_call c = of_lines (λ x y. SameCall x y c) (lines_call c)

pub same_replies : SameReplies
unfolding replies
same_replies x y e [] = refl
same_replies x y e (c ∷ cs) = let r = same_call c x y e in (λ j. r.said j ∷ same_replies (after x c) (after y c) r.state cs j)
