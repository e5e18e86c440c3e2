-- A block that is taken has the marks and the state of its ticks.
use mathlib.Core.Bool.{true}
use mathlib.Core.List.{List}
use mathlib.Core.Path.{◌≡◌, sym, ap, ◌∙◌}
use Prim.Native.Nat.{ℕ, ◌<◌}
use lib.Ieee.{Float}
use lib.ListN.{length, get_or}
use Rattle.answer.proofs.Blocks.{block_refusal, block_fits}
use Rattle.answer.specs.Answer.{mark_number, host_number, accepted, told}
use Rattle.answer.specs.Block.{Block, after_ticks, answer_at, mark_at, ticks_of, block_of}
use Rattle.answer.specs.Promises.{AllAccepted}
use Rattle.answer.specs.declared.Answer.{Answer}
use Rattle.answer.specs.declared.Tally.{Tally}
use Rattle.formant_osc.specs.Consts.{n_ports}
use Rattle.formant_osc.proofs.Held.{block_accepts}
use Rattle.formant_osc.specs.FormantOsc.{formant_osc_refusal_of, formant_osc_told_of, formant_osc_next_of, formant_osc_block_of}
use Rattle.formant_osc.specs.declared.FormantOscControls.{FormantOscControls}
use Rattle.formant_osc.specs.declared.FormantOsc.{FormantOsc}
use Rattle.laws.proofs.Over.{get_or_tab}
use Rattle.laws.specs.Lists.{tab}

-- its first tick isn't refused, so none is
block_taken : (s : FormantOsc) (c : FormantOscControls) (t : Tally) (o : List Float) (m : List ℕ) → (formant_osc_block_of s c t o m).refused ≡ 0
    → formant_osc_refusal_of s ≡ 0
unfolding formant_osc_block_of
block_taken s c t o m r =
    (block_fits n_ports (formant_osc_refusal_of s) t o m _
    (block_refusal n_ports (formant_osc_refusal_of s) (formant_osc_told_of c) (formant_osc_next_of c) s t o m) r).1

pub taken_accepts : (s : FormantOsc) (c : FormantOscControls) (t : Tally) (o : List Float) (m : List ℕ) → (formant_osc_block_of s c t o m).refused ≡ 0
    → AllAccepted (formant_osc_told_of c) (formant_osc_next_of c) s
taken_accepts s c t o m r = block_accepts s c (block_taken s c t o m r)

taken_ticks : (s : FormantOsc) (c : FormantOscControls) (t : Tally) (o : List Float) (m : List ℕ) → (formant_osc_block_of s c t o m).refused ≡ 0
    → formant_osc_block_of s c t o m ≡ ticks_of n_ports (formant_osc_told_of c) (formant_osc_next_of c) (length m) s t
unfolding formant_osc_block_of block_of
taken_ticks s c t o m r = let e = sym (block_refusal n_ports (formant_osc_refusal_of s) (formant_osc_told_of c) (formant_osc_next_of c) s t o m) ∙ r in simp e

pub taken_state : (s : FormantOsc) (c : FormantOscControls) (t : Tally) (o : List Float) (m : List ℕ) → (formant_osc_block_of s c t o m).refused ≡ 0
    → (formant_osc_block_of s c t o m).state ≡ after_ticks (formant_osc_next_of c) (length m) s
unfolding ticks_of
taken_state s c t o m r = ap (λ (b : Block FormantOsc). b.state) (taken_ticks s c t o m r)

pub taken_marks : (s : FormantOsc) (c : FormantOscControls) (t : Tally) (o : List Float) (m : List ℕ) → (formant_osc_block_of s c t o m).refused ≡ 0
    → (formant_osc_block_of s c t o m).marks ≡ tab (mark_at (formant_osc_told_of c) (formant_osc_next_of c) s) (length m)
unfolding ticks_of
taken_marks s c t o m r = ap (λ (b : Block FormantOsc). b.marks) (taken_ticks s c t o m r)

-- what a host is told of an accepted tick
pub is_told : (a : Answer) → accepted a ≡ true → host_number a ≡ told (mark_number a)
unfolding host_number
is_told a h = simp h

pub taken_mark : (s : FormantOsc) (c : FormantOscControls) (t : Tally) (o : List Float) (m : List ℕ) → (formant_osc_block_of s c t o m).refused ≡ 0
    → (i : ℕ) → i < length m → get_or (formant_osc_block_of s c t o m).marks i 0
    ≡ told (mark_number (answer_at (formant_osc_told_of c) (formant_osc_next_of c) s i))
taken_mark s c t o m r i l =
    ap (λ (n : List ℕ). get_or n i 0) (taken_marks s c t o m r)
    ∙ get_or_tab 0 (mark_at (formant_osc_told_of c) (formant_osc_next_of c) s) (length m) i l
    ∙ is_told (answer_at (formant_osc_told_of c) (formant_osc_next_of c) s i) (taken_accepts s c t o m r i)
