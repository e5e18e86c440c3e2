-- The scope's ten examples, and after them the corners of requests CR 5 and CR 7: one table, about the definitions that the contracts cite, and the
-- statement that every row holds.
use Rattle.std.specs.Prelude.{ℕ, Bool, true, false, List, [], ◌∷◌, ◌≡◌, Float, Option, Some, None}
use Prim.Native.String.{String, ◌++◌}
use Rattle.std.specs.Float.{binary64}
use Rattle.std.specs.Float.Ieee.{of_bits}
use Rattle.numeric.specs.Basic.{real_of}
use Rattle.numeric.specs.Draw.{bipolar_of}
use Rattle.common.specs.Consts.{gate_threshold, low_gate_threshold}
use Rattle.common.specs.Edge.{rising_of, crossed_of}
use Rattle.common.specs.Phase.{wrap_of, turned_of, polyblep_of}
use Rattle.common.specs.declared.EdgeDetector.{EdgeDetector}
use Rattle.common.specs.declared.Risen.{Risen}
use Rattle.common.specs.declared.Crossed.{Crossed}
use Rattle.wavetable.specs.Reads.{select_level, table_pos_of, table_index_of, blend_of}
use Rattle.karplus_strong.specs.KarplusStrong.{max_len_of}
use Rattle.karplus_strong.specs.Step.{offset_one, offset_two}
use Rattle.line.specs.Bytes.{ascii}
use Rattle.player.specs.Play.{render_of}

-- what is given, and what comes of it
pub data Row : Type 0 where
  wrap : (x wrapped : Float) → Row
  polyblep : (t dt residual : Float) → Row
  draw : (k : ℕ) (bipolar : Float) → Row
  edge : (threshold prev v : Float) (at : Option Float) → Row
  max_len : (hz cells : ℕ) → Row
  level : (n : ℕ) (inc : Float) (selected : ℕ) → Row
  offsets : (len delay one two : ℕ) → Row
  blend : (control morph : Float) (index : ℕ) (share : Float) → Row
  render : (text prints : String) → Row
  turn : (x : Float) (passed : Bool) → Row

-- a float by its bits
abbrev f64 : ℕ → Float
f64 = of_bits binary64

-- the score of the scope, and what `render` prints of it
abbrev score : String
score = "osc=vco\nhz=48000\nframes=1\nvoct=0\nfm=0\npw=500000\nsync=0\nfm_lin=-5000000\n"

abbrev printed : String
printed =
    "n=0\nmark=clean\nsin=0000000000000000\ntri=C014000000000000\nsaw=C014000000000000\nsqr=4014000000000000\n"
    ++ "begun=1\nfinished=1\ncleared=0\nnotfinite=0\nlost=0\nsteered=0\nclaimed=yes\n"

abbrev pub table : List Row
table =
    -- 1. Wrap of -2^-60, infinity, NaN: 0.
    wrap (f64 0xbc30000000000000) (f64 0)
    ∷ wrap (f64 0x7ff0000000000000) (f64 0)
    ∷ wrap (f64 0x7ff8000000000000) (f64 0)
    -- 2. Wrap of -0.25: 0.75; of 2.5: 0.5.
    ∷ wrap (f64 0xbfd0000000000000) (f64 0x3fe8000000000000)
    ∷ wrap (f64 0x4004000000000000) (f64 0x3fe0000000000000)
    -- 3. polyblep(t, 0.25) at 0, 0.125, 0.25, 0.75, 0.875: -1, -0.25, 0, 0, 0.25.
    ∷ polyblep (f64 0) (f64 0x3fd0000000000000) (f64 0xbff0000000000000)
    ∷ polyblep (f64 0x3fc0000000000000) (f64 0x3fd0000000000000) (f64 0xbfd0000000000000)
    ∷ polyblep (f64 0x3fd0000000000000) (f64 0x3fd0000000000000) (f64 0)
    ∷ polyblep (f64 0x3fe8000000000000) (f64 0x3fd0000000000000) (f64 0)
    ∷ polyblep (f64 0x3fec000000000000) (f64 0x3fd0000000000000) (f64 0x3fd0000000000000)
    -- 4. Draws 0, 2^52, 2^53 - 1: -1, 0, 1 - 2^-52.
    ∷ draw 0 (f64 0xbff0000000000000)
    ∷ draw 4503599627370496 (f64 0)
    ∷ draw 9007199254740991 (f64 0x3feffffffffffffe)
    -- 5. Previous 0, v 5: edge, fraction 0.5. Previous 0, v 2.5: none. Previous NaN, v 5: none.
    ∷ edge gate_threshold (f64 0) (f64 0x4014000000000000) (Some (f64 0x3fe0000000000000))
    ∷ edge gate_threshold (f64 0) (f64 0x4004000000000000) None
    ∷ edge gate_threshold (f64 0x7ff8000000000000) (f64 0x4014000000000000) None
    -- 6. max_len at 1000, 44100, 48000: 60, 2215, 2410.
    ∷ max_len 1000 60
    ∷ max_len 44100 2215
    ∷ max_len 48000 2410
    -- 7. Table 2, increments 1/128, 1/64, 1, NaN: levels 0, 1, 7, 0.
    ∷ level 2 (f64 0x3f80000000000000) 0
    ∷ level 2 (f64 0x3f90000000000000) 1
    ∷ level 2 (f64 0x3ff0000000000000) 7
    ∷ level 2 (f64 0x7ff8000000000000) 0
    -- 8. Length 10, delays 3, 9, 10, 12: offsets (7,6), (1,0), (0,0), (0,0).
    ∷ offsets 10 3 7 6
    ∷ offsets 10 9 1 0
    ∷ offsets 10 10 0 0
    ∷ offsets 10 12 0 0
    -- 9. Table control 0.5, 1, NaN, morph 0: index 3, 6, 0; blend 0.5, 1, 1.
    ∷ blend (f64 0x3fe0000000000000) (f64 0) 3 (f64 0x3fe0000000000000)
    ∷ blend (f64 0x3ff0000000000000) (f64 0) 6 (f64 0x3ff0000000000000)
    ∷ blend (f64 0x7ff8000000000000) (f64 0) 0 (f64 0x3ff0000000000000)
    -- 10. The frame printed.
    ∷ render score printed
    -- CR 5. A whole turn is passed by 1, 2.5, -2^-1074, -2^-60, -0.25: yes; by 1 - 2^-53, 0, -0.0, infinity, -infinity, NaN: no.
    ∷ turn (f64 0x3ff0000000000000) true
    ∷ turn (f64 0x4004000000000000) true
    ∷ turn (f64 0x8000000000000001) true
    ∷ turn (f64 0xbc30000000000000) true
    ∷ turn (f64 0xbfd0000000000000) true
    ∷ turn (f64 0x3fefffffffffffff) false
    ∷ turn (f64 0) false
    ∷ turn (f64 0x8000000000000000) false
    ∷ turn (f64 0x7ff0000000000000) false
    ∷ turn (f64 0xfff0000000000000) false
    ∷ turn (f64 0x7ff8000000000000) false
    -- Request CR 7, gates at 1.0 V. Previous 0, v 5: edge, fraction 0.2. Previous 0, v 1.0: none. Previous 1.0, v 1.5: edge, fraction 0; none at 2.5 V.
    ∷ edge low_gate_threshold (f64 0) (f64 0x4014000000000000) (Some (f64 0x3fc999999999999a))
    ∷ edge low_gate_threshold (f64 0) (f64 0x3ff0000000000000) None
    ∷ edge low_gate_threshold (f64 0x7ff8000000000000) (f64 0x4014000000000000) None
    ∷ edge low_gate_threshold (f64 0x3ff0000000000000) (f64 0x3ff8000000000000) (Some (f64 0))
    ∷ edge gate_threshold (f64 0x3ff0000000000000) (f64 0x3ff8000000000000) None
    ∷ []

-- whether there is an edge
abbrev pub is_edge : Option Float → Bool
is_edge None = false
is_edge (Some frac) = true

-- each row is one equation. Of the two detectors one says whether there is an edge and the other where; v is the previous value afterwards.
abbrev pub Holds : Row → Type 0
Holds (wrap x wrapped) = wrap_of x ≡ wrapped
Holds (polyblep t dt residual) = polyblep_of t dt ≡ residual
Holds (draw k bipolar) = bipolar_of k ≡ bipolar
Holds (edge threshold prev v at) =
    let before : EdgeDetector = record { prev = prev; threshold = threshold } in
    let after : EdgeDetector = record { prev = v; threshold = threshold } in
    ◌≡◌ {A = Risen × Crossed} (rising_of before v, crossed_of before v) (record { edge = after; rising = is_edge at }, record { edge = after; at = at })
Holds (max_len hz cells) = max_len_of (record { 0 = real_of hz }) ≡ cells
Holds (level n inc selected) = select_level n inc ≡ selected
Holds (offsets len delay one two) = ◌≡◌ {A = ℕ × ℕ} (offset_one len delay, offset_two len delay) (one, two)
Holds (blend control morph index share) =
    let pos = table_pos_of control in
    ◌≡◌ {A = ℕ × Float} (table_index_of pos, blend_of pos (table_index_of pos) morph) (index, share)
Holds (render text prints) = render_of (ascii text) ≡ ascii prints
Holds (turn x passed) = turned_of x ≡ passed

-- each row holds
infixr 5 ◌also◌
pub data Every : List Row → Type 0 where
  none : Every []
  ◌also◌ : {r : Row} {rs : List Row} → Holds r → Every rs → Every (r ∷ rs)

abbrev pub Examples : Type 0
Examples = Every table
