-- The text of a valid score is read, line by line, as it was written. Assumes nothing.
use Prim.Native.Nat.{ℕ, ◌≤◌}
use Prim.Native.String.{String}
use mathlib.Core.Path.{◌≡◌, refl, ap, sym, ◌∙◌}
use mathlib.Core.List.{List, [], ◌∷◌, ◌++◌, append_assoc}
use mathlib.Core.Bool.{cond}
use native.Mathlib.Omega.{arith}
use lib.ListN.{length}
use lib.Dec.{ltb, lit≤}
use Rattle.std.specs.Prelude.{Option, Ok, Err}
use borrow.Author.Tests.{le-ltb}
use Rattle.line.specs.Bytes.{ascii, has_of}
use Rattle.line.proofs.Written.{Key}
use Rattle.score.specs.Keys.{osc_key, name_of, hz_key, frames_key, input_keys, owner_of, controls_of, inputs_from}
use Rattle.score.specs.Score.{Reading, end_of, head_of, controls, inputs_of, lines_of, score_of}
use Rattle.score.specs.Text.{line_text, key_text, gate_text, controls_text, head_text, inputs_text, text_of}
use Rattle.score.specs.Promises.{ValidInput, ValidGate, ValidHead, ValidInputs, Valid, ValidRead, gated, to_hz, from_frames, GateLine}
use Rattle.score.proofs.Lines.{head_lines, osc_written, whole_written, gate_written, control_written}
use Rattle.score.proofs.Longest.{text_short}
use Rattle.score.specs.declared.Control.{Control}
use Rattle.score.specs.declared.Head.{Head}
use Rattle.score.specs.declared.Inputs.{Inputs}
use Rattle.score.specs.declared.Inputs.TheVariants.{Vco, Lfo, Supersaw, Formant}
use Rattle.score.specs.declared.Score.{Score}
use Rattle.score.specs.declared.Refusal.TheVariants.{TooLong}

-- ---- the head
head_written : (h : Head) (rest : List ℕ) (k : Head → List ℕ → Reading) → ValidHead h → head_of (head_text h ++ rest) k ≡ k h rest
unfolding head_of has_of
head_written h rest k v =
    ap (λ (t : List ℕ). head_of t k) (head_lines h rest)
    ∙ whole_written _ hz_key h.hz _ (refl, refl) (lit≤ tt) (v.hz_least, v.hz_most)
    ∙ gate_written _ h.gate h.frames _ v.gate
    ∙ whole_written _ frames_key h.frames _ (refl, refl) (lit≤ tt) (v.frames_least, v.frames_most)

-- ---- the inputs: each key with its value
abbrev Keyed : List String → List Control → Type 0
Keyed [] [] = Unit {0}
Keyed [] (c ∷ cs) = ⊥
Keyed (key ∷ keys) [] = ⊥
Keyed (key ∷ keys) (c ∷ cs) = Key (ascii key) × ValidInput c × Keyed keys cs

controls_written : (keys : List String) (cs : List Control) (k : List Control → List ℕ → Reading) → Keyed keys cs
    → controls keys (controls_text keys cs) k ≡ k cs []
controls_written [] [] k l = refl
controls_written [] (c ∷ cs) k l = absurd l
controls_written (key ∷ keys) [] k l = absurd l
controls_written (key ∷ keys) (c ∷ cs) k (plain, v, l) =
    control_written (controls_text keys cs) key c _ plain v ∙ controls_written keys cs (λ ds. k (c ∷ ds)) l

keyed : (i : Inputs) → ValidInputs i → Keyed (input_keys (owner_of i)) (controls_of i)
unfolding has_of
keyed (Vco i) (a, b, c, d, e) = ((refl, refl), a, ((refl, refl), b, ((refl, refl), c, ((refl, refl), d, ((refl, refl), e, tt)))))
keyed (Lfo i) (a, b, c) = ((refl, refl), a, ((refl, refl), b, ((refl, refl), c, tt)))
keyed (Supersaw i) (a, b, c) = ((refl, refl), a, ((refl, refl), b, ((refl, refl), c, tt)))
keyed (Formant i) (a, b, c, d) = ((refl, refl), a, ((refl, refl), b, ((refl, refl), c, ((refl, refl), d, tt))))

end_written : (head : Head) (i : Inputs)
    → end_of (record { head = head; inputs = inputs_from (owner_of i) (controls_of i) }) [] ≡ Ok (record { head = head; inputs = i })
unfolding end_of
end_written head (Vco i) = refl
end_written head (Lfo i) = refl
end_written head (Supersaw i) = refl
end_written head (Formant i) = refl

inputs_written : (head : Head) (i : Inputs) → ValidInputs i → inputs_of (owner_of i) head (inputs_text i) ≡ Ok (record { head = head; inputs = i })
unfolding inputs_of
inputs_written head i v = controls_written (input_keys (owner_of i)) (controls_of i) _ (keyed i v) ∙ end_written head i

-- ---- the whole text
lines_written : (s : Score) → Valid s → lines_of (text_of s) ≡ Ok s
unfolding lines_of text_of has_of
lines_written s v =
    osc_written _ (owner_of s.inputs) _ (refl, refl) ∙ head_written s.head _ _ v.head ∙ inputs_written s.head s.inputs v.inputs

short_enough : (most : ℕ) (t : List ℕ) → 117 ≤ most → length t ≤ 117 → cond (ltb most (length t)) (Err TooLong) (lines_of t) ≡ lines_of t
short_enough most t l h = simp (le-ltb most (length t) (omega arith))

pub valid_read : ValidRead
unfolding score_of
valid_read s v = short_enough _ (text_of s) (lit≤ tt) (text_short s v) ∙ lines_written s v

-- ---- the gate's line among the others
gated_text : (g : Option ℕ) (s : Score) → to_hz s ++ (gate_text g ++ from_frames s) ≡ text_of (gated g s)
unfolding text_of
gated_text g s =
    let osc = line_text osc_key (name_of (owner_of s.inputs)) in
    append_assoc osc (key_text hz_key s.head.hz) (gate_text g ++ from_frames s)
    ∙ ap (λ (l : List ℕ). osc ++ l) (sym (head_lines (gated g s).head (inputs_text s.inputs)))

gated_valid : (g : Option ℕ) (s : Score) → ValidGate g → Valid s → Valid (gated g s)
gated_valid g s w v =
    let h = v.head in
    record {
      head = record { hz_least = h.hz_least; hz_most = h.hz_most; gate = w; frames_least = h.frames_least; frames_most = h.frames_most };
      inputs = v.inputs;
    }

pub gate_line : GateLine
gate_line s g v w = ap score_of (gated_text g s) ∙ valid_read (gated g s) (gated_valid g s w v)
