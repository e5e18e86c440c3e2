-- The texts of frames that were played, which samples and marks tell of: a mark for each, and as many samples as the oscillator has outputs.
use Rattle.std.specs.Prelude.{Bool, cond, ◌&&◌, List, [], ℕ, ◌+◌, ◌*◌, eqb, leb, ltb, Float, length, get_or}
use Rattle.std.specs.Float.{nan}
use Rattle.laws.specs.Float.{zer}
use Rattle.answer.specs.Answer.{answer_of, volts6}
use Rattle.answer.specs.Block.{joined}
use Rattle.answer.specs.declared.Volts.{Volts}
use Rattle.score.specs.declared.Osc.{Osc}
use Rattle.score.specs.declared.Osc.TheVariants.{Vco, Lfo, Supersaw, Formant}
use Rattle.frame.specs.Frame.{frame_text}

-- how many outputs each has
unfoldable pub ports_in : Osc → ℕ
ports_in Vco = 4
ports_in Lfo = 6
ports_in Supersaw = 2
ports_in Formant = 1

-- output j of frame i; 0.0 where there is no such output
unfoldable pub output_at : ℕ → List Float → ℕ → ℕ → Float
output_at ports samples i j = cond (ltb j ports) (get_or samples (ports * i + j) nan) zer

unfoldable pub volts_at : ℕ → List Float → ℕ → Volts
volts_at ports samples i =
    volts6
    (output_at ports samples i 0)
    (output_at ports samples i 1)
    (output_at ports samples i 2)
    (output_at ports samples i 3)
    (output_at ports samples i 4)
    (output_at ports samples i 5)

-- the text of frame i, and those of the first k frames, numbered from `first` on
abbrev pub told_text : Osc → ℕ → List Float → List ℕ → ℕ → List ℕ
told_text o first samples marks i = frame_text o (first + i) (answer_of (get_or marks i 0) (volts_at (ports_in o) samples i))

unfoldable pub told_texts : Osc → ℕ → List Float → List ℕ → ℕ → List ℕ
told_texts o first samples marks k = joined (told_text o first samples marks) k

-- so many samples are those of n frames, and a u32 can number these from `first` on
unfoldable pub are_frames : Osc → ℕ → ℕ → ℕ → Bool
are_frames o first samples n = eqb samples (ports_in o * n) && leb (first + n) 4294967295

-- all of them; samples and marks that aren't those of frames have no text
unfoldable pub played_text : Osc → ℕ → List Float → List ℕ → List ℕ
played_text o first samples marks =
    cond (are_frames o first (length samples) (length marks)) (told_texts o first samples marks (length marks)) []
