-- How long the texts are.
use Prim.Native.Nat.{ℕ, ◌+◌, ◌≤◌}
use mathlib.Core.Bool.{Bool, true, false, cond}
use mathlib.Core.List.{List, [], ◌∷◌, ◌++◌}
use mathlib.Core.Path.{◌≡◌, refl, ap, ◌∙◌}
use native.Mathlib.Omega.{arith}
use lib.ListN.{length, length-append}
use lib.Ieee.{Float, binary64, to_bits}
use Rattle.line.specs.Bytes.{ascii}
use Rattle.text.specs.Decimal.{decimal_text}
use Rattle.text.specs.Hex.{hex_from, hex_text}
use Rattle.text.specs.Lines.{word_line, count_line}
use Rattle.text.proofs.DecimalLaws.{decimal_short}
use Rattle.answer.specs.declared.Volts.{Volts}
use Rattle.answer.specs.declared.Answer.TheVariants as answer
use Rattle.score.specs.declared.Osc.{Osc}
use Rattle.score.specs.declared.Osc.TheVariants.{Vco, Lfo, Supersaw, Formant}
use Rattle.frame.specs.Frame.{sample_line, waves_text, outputs_text, marked_text, frame_text}
use Rattle.frame.specs.End.{counts_text, claimed_of, end_text, refused_text}
use Rattle.frame.specs.Promises.{Short, FrameLength, EndLength, RefusedLength}

-- ---- numbers
ten_digits : (n : ℕ) → Short n → length (decimal_text n) ≤ 10
ten_digits n h = decimal_short 9 n h

hex_length : (x : ℕ) → length (hex_text x) ≡ 16
unfolding hex_text hex_from
hex_length x = refl

-- ---- lines
word_length : (key word : List ℕ) → length (word_line key word) ≡ length key + length word + 1
unfolding word_line
word_length key word = length-append (key ++ word) (10 ∷ []) ∙ ap (λ (n : ℕ). n + 1) (length-append key word)

count_length : (key : List ℕ) (n : ℕ) → Short n → length (count_line key n) ≤ length key + 11
unfolding count_line
count_length key n h = omega (arith, ten_digits n h, word_length key (decimal_text n))

sample_length : (key : List ℕ) (x : Float) → length (sample_line key x) ≡ length key + 17
unfolding sample_line
sample_length key x = omega (arith, hex_length (to_bits binary64 x), word_length key (hex_text (to_bits binary64 x)))

-- ---- a frame
waves_length : (v : Volts) → length (waves_text v) ≡ 84
unfolding waves_text
waves_length v = simp (length-append, sample_length)

outputs_length : (o : Osc) (v : Volts) → length (outputs_text o v) ≤ 130
unfolding outputs_text
outputs_length Vco v = omega (arith, waves_length v)
outputs_length Lfo v = simp (length-append, waves_length, sample_length) (omega arith)
outputs_length Supersaw v = simp (length-append, sample_length) (omega arith)
outputs_length Formant v = simp sample_length (omega arith)

marked_length : (o : Osc) (n : ℕ) (mark : List ℕ) (v : Volts) → Short n → length mark ≤ 9 → length (marked_text o n mark v) ≤ 158
unfolding marked_text
marked_length o n mark v h m =
    let a = count_length (ascii "n=") n h in
    let b = outputs_length o v in
    simp (length-append, word_length) (omega arith)

pub frame_length : FrameLength
unfolding frame_text
frame_length o n (answer.Cleared v) h = marked_length o n (ascii "cleared") v h (omega arith)
frame_length o n (answer.NotFinite v) h = marked_length o n (ascii "notfinite") v h (omega arith)
frame_length o n (answer.Lost v) h = marked_length o n (ascii "lost") v h (omega arith)
frame_length o n (answer.Clean v) h = marked_length o n (ascii "clean") v h (omega arith)
frame_length o n (answer.Steered v) h = marked_length o n (ascii "steered") v h (omega arith)
frame_length o n (answer.Refused r) h = omega arith

-- ---- the end
claim_length : (b : Bool) → length (word_line (ascii "claimed=") (cond b (ascii "yes") (ascii "no"))) ≤ 12
claim_length true = simp word_length (omega arith)
claim_length false = simp word_length (omega arith)

pub end_length : EndLength
unfolding end_text counts_text
end_length frames t h =
    let a = count_length (ascii "begun=") t.begun h.begun in
    let b = count_length (ascii "finished=") t.finished h.finished in
    let c = count_length (ascii "cleared=") t.cleared h.cleared in
    let d = count_length (ascii "notfinite=") t.notfinite h.notfinite in
    let e = count_length (ascii "lost=") t.lost h.lost in
    let f = count_length (ascii "steered=") t.steered h.steered in
    let g = claim_length (claimed_of frames t) in
    simp length-append (omega arith)

pub refused_length : RefusedLength
unfolding refused_text
refused_length n h = count_length (ascii "refused=") n h
