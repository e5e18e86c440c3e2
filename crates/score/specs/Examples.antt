-- Texts and what they read as: one table and a single theorem. Assumes nothing.
use Rattle.std.specs.Prelude.{ℕ, ◌≡◌, pos, negsuc, Option, Some, None, Ok, Err}
use Prim.Native.String.{String, ◌++◌}
use mathlib.Core.List.{List, [], ◌∷◌, map, replicate}
use Rattle.std.specs.Float.Ieee as Ieee
use Rattle.std.specs.Float.{binary64}
use Rattle.line.specs.Bytes.{ascii}
use Rattle.score.specs.Control.{volts_of}
use Rattle.score.specs.Score.{Reading, score_of}
use Rattle.score.specs.declared.Control.{Control}
use Rattle.score.specs.declared.Control.TheVariants.{Microvolts, Nan}
use Rattle.score.specs.declared.Inputs.TheVariants.{Vco, Lfo, Supersaw, Formant}
use Rattle.score.specs.declared.Refusal.TheVariants.{TooLong, WrongLine, Malformed, OutOfRange}

-- the worked example of the paper
abbrev worked : String
worked = "osc=vco\nhz=48000\nframes=1\nvoct=0\nfm=0\npw=500000\nsync=0\nfm_lin=-5000000\n"

abbrev worked_values : Reading
worked_values =
    Ok (record {
      head = record { hz = 48000; gate = None; frames = 1 };
      inputs = Vco (record {
        voct = Microvolts (pos 0);
        fm = Microvolts (pos 0);
        pw = Microvolts (pos 500000);
        sync = Microvolts (pos 0);
        fm_lin = Microvolts (negsuc 4999999);
      });
    })

-- an Lfo of one hz, frames and rate, with a reset that is nan; and one of a gate
abbrev lfo : String → String → String → String
lfo hz frames rate = "osc=lfo\nhz=" ++ hz ++ "\nframes=" ++ frames ++ "\nrate=" ++ rate ++ "\ndepth=0\nreset=nan\n"

abbrev gated : String → String
gated gate = lfo ("48000\ngate=" ++ gate) "1" "0"

abbrev lfo_values : ℕ → Option ℕ → ℕ → Control → Reading
lfo_values hz gate frames rate =
    Ok (record {
      head = record { hz = hz; gate = gate; frames = frames };
      inputs = Lfo (record { rate = rate; depth = Microvolts (pos 0); reset = Nan });
    })

-- the other oscillators: ends of the ranges, nan, and numbers less than 0; `gate` is a line, or nothing
abbrev vco : String
vco = "osc=vco\nhz=1000\nframes=480000\nvoct=-10000000\nfm=10000000\npw=nan\nsync=1\nfm_lin=-1\n"

abbrev vco_values : Reading
vco_values =
    Ok (record {
      head = record { hz = 1000; gate = None; frames = 480000 };
      inputs = Vco (record {
        voct = Microvolts (negsuc 9999999);
        fm = Microvolts (pos 10000000);
        pw = Nan;
        sync = Microvolts (pos 1);
        fm_lin = Microvolts (negsuc 0);
      });
    })

abbrev supersaw : String → String
supersaw gate = "osc=supersaw\nhz=192000\n" ++ gate ++ "frames=1\nvoct=10000000\ndetune=-10000000\nmix=nan\n"

abbrev supersaw_values : Option ℕ → Reading
supersaw_values gate =
    Ok (record {
      head = record { hz = 192000; gate = gate; frames = 1 };
      inputs = Supersaw (record { voct = Microvolts (pos 10000000); detune = Microvolts (negsuc 9999999); mix = Nan });
    })

abbrev formant : String → String
formant gate = "osc=formant\nhz=44100\n" ++ gate ++ "frames=480000\nv_oct=-1\nvowel=nan\nformant_shift=10000000\nvibrato=-10000000\n"

abbrev formant_values : Option ℕ → Reading
formant_values gate =
    Ok (record {
      head = record { hz = 44100; gate = gate; frames = 480000 };
      inputs = Formant (record {
        v_oct = Microvolts (negsuc 0);
        vowel = Nan;
        formant_shift = Microvolts (pos 10000000);
        vibrato = Microvolts (negsuc 9999999);
      });
    })

pub record Row : Type 0 where
  pub text : List ℕ
  pub reads : Reading

abbrev row : String → Reading → Row
row text reads = record { text = ascii text; reads = reads }

abbrev pub table : List Row
table =
    row worked worked_values
    -- the ends of the ranges, nan, and each oscillator
    ∷ row (lfo "1000" "1" "-10000000") (lfo_values 1000 None 1 (Microvolts (negsuc 9999999)))
    ∷ row (lfo "192000" "480000" "10000000") (lfo_values 192000 None 480000 (Microvolts (pos 10000000)))
    ∷ row (lfo "48000" "1" "nan") (lfo_values 48000 None 1 Nan)
    ∷ row vco vco_values
    ∷ row (supersaw "") (supersaw_values None)
    ∷ row (formant "") (formant_values None)
    -- the gate's issue, where it counts and where it does nothing
    ∷ row (gated "1") (lfo_values 48000 (Some 1) 1 (Microvolts (pos 0)))
    ∷ row (gated "2") (lfo_values 48000 (Some 2) 1 (Microvolts (pos 0)))
    ∷ row (supersaw "gate=1\n") (supersaw_values (Some 1))
    ∷ row (formant "gate=2\n") (formant_values (Some 2))
    -- one past each end; a number less than 0; 12 digits
    ∷ row (lfo "999" "1" "0") (Err OutOfRange)
    ∷ row (lfo "192001" "1" "0") (Err OutOfRange)
    ∷ row (lfo "48000" "0" "0") (Err OutOfRange)
    ∷ row (lfo "48000" "480001" "0") (Err OutOfRange)
    ∷ row (lfo "48000" "1" "-10000001") (Err OutOfRange)
    ∷ row (lfo "48000" "1" "10000001") (Err OutOfRange)
    ∷ row (lfo "-48000" "1" "0") (Err OutOfRange)
    ∷ row (lfo "48000" "1" "-123456789012") (Err OutOfRange)
    ∷ row (gated "0") (Err OutOfRange)
    ∷ row (gated "3") (Err OutOfRange)
    ∷ row (gated "-1") (Err OutOfRange)
    -- the form of a number: 13 digits, a leading zero, -0, a plus sign, a sign alone, nothing, nan where it can't be, other bytes
    ∷ row (lfo "48000" "1" "1234567890123") (Err Malformed)
    ∷ row (lfo "048000" "1" "0") (Err Malformed)
    ∷ row (lfo "48000" "1" "00") (Err Malformed)
    ∷ row (lfo "48000" "1" "-01") (Err Malformed)
    ∷ row (lfo "48000" "1" "-0") (Err Malformed)
    ∷ row (lfo "48000" "1" "+1") (Err Malformed)
    ∷ row (lfo "48000" "1" "-") (Err Malformed)
    ∷ row (lfo "" "1" "0") (Err Malformed)
    ∷ row (lfo "nan" "1" "0") (Err Malformed)
    ∷ row (lfo "48000" "1" "-nan") (Err Malformed)
    ∷ row (lfo "48000" "1" "NaN") (Err Malformed)
    ∷ row (lfo "48000" "1" " 0") (Err Malformed)
    ∷ row (lfo "5=5" "1" "0") (Err Malformed)
    ∷ row (lfo "48000\r" "1" "0") (Err Malformed)
    ∷ row (lfo "48000\u{80}" "1" "0") (Err Malformed)
    ∷ row (gated "nan") (Err Malformed)
    ∷ row (gated "") (Err Malformed)
    ∷ row (gated "01") (Err Malformed)
    ∷ row (gated "1234567890123") (Err Malformed)
    -- a line feed that is missing between two lines, and at the end, where the number is bad too
    ∷ row "osc=lfo\nhz=48000frames=1\n" (Err Malformed)
    ∷ row "osc=vcohz=48000\n" (Err WrongLine)
    ∷ row "osc=lfo\nhz=x" (Err WrongLine)
    ∷ row "osc=lfo\nhz=48000\ngate=x" (Err WrongLine)
    ∷ row "osc=lfo\nhz=48000\ngate=1frames=1\n" (Err Malformed)
    -- a wrong, a missing and an extra line, and an unknown oscillator
    ∷ row "" (Err WrongLine)
    ∷ row "osc=lfo\n" (Err WrongLine)
    ∷ row "osc\n" (Err WrongLine)
    ∷ row "osc=\n" (Err WrongLine)
    ∷ row "osc=VCO\n" (Err WrongLine)
    ∷ row "osc=wavetable\n" (Err WrongLine)
    ∷ row "osc=vco\r\n" (Err WrongLine)
    ∷ row "osc=lfo\nHz=x\n" (Err WrongLine)
    ∷ row "osc=lfo\nhz =48000\n" (Err WrongLine)
    ∷ row (worked ++ "\n") (Err WrongLine)
    ∷ row (worked ++ "fm_lin=0\n") (Err WrongLine)
    ∷ row (worked ++ "x") (Err WrongLine)
    -- a gate before hz, after frames, after the last line, twice, as the last line and without its value
    ∷ row "osc=lfo\ngate=1\nhz=48000\n" (Err WrongLine)
    ∷ row (lfo "48000" "1\ngate=1" "0") (Err WrongLine)
    ∷ row (lfo "48000" "1" "0" ++ "gate=1\n") (Err WrongLine)
    ∷ row (gated "1\ngate=1") (Err WrongLine)
    ∷ row (gated "1\ngate=x") (Err WrongLine)
    ∷ row "osc=lfo\nhz=48000\ngate=1\n" (Err WrongLine)
    ∷ row "osc=lfo\nhz=48000\ngate\nframes=1\n" (Err WrongLine)
    -- the first line that is refused decides
    ∷ row "osc=lfo\nhz=1\nframes=x\n" (Err OutOfRange)
    ∷ row "osc=lfo\nhz=x\nframes=0\n" (Err Malformed)
    ∷ row "osc=lfo\nhz=48000\nframes=1\nvoct=0\n" (Err WrongLine)
    ∷ row "osc=lfo\nhz=x\ngate=3\n" (Err Malformed)
    ∷ row "osc=lfo\nhz=48000\ngate=3\nframes=x\n" (Err OutOfRange)
    ∷ row "osc=lfo\nhz=48000\ngate=x\nframes=0\n" (Err Malformed)
    -- the length of the text before all
    ∷ record { text = replicate 1024 120; reads = Err WrongLine }
    ∷ record { text = replicate 1025 120; reads = Err TooLong }
    ∷ []

abbrev pub volts : List Control
volts = Microvolts (pos 500000) ∷ Microvolts (negsuc 4999999) ∷ Microvolts (pos 1) ∷ Nan ∷ []

-- 0.5, -5.0, the f64 nearest to a millionth, and NaN
abbrev pub volts_bits : List ℕ
volts_bits = 0x3fe0000000000000 ∷ 0xc014000000000000 ∷ 0x3eb0c6f7a0b5ed8d ∷ 0x7ff8000000000000 ∷ []

abbrev pub ScoreExamples : Type 0
ScoreExamples =
    (map (λ (r : Row). score_of r.text) table ≡ map (λ (r : Row). r.reads) table)
    × (map (λ (c : Control). Ieee.to_bits binary64 (volts_of c)) volts ≡ volts_bits)
