-- Scores and how writing them goes: one table and a single theorem. Assumes nothing.
use Rattle.std.specs.Prelude.{ℕ, suc, ◌≡◌, List, [], ◌∷◌, ◌++◌, map, pos, negsuc, length, replicate, Option, Some, None, Ok, Err}
use Prim.Native.String.{String}
use Rattle.line.specs.Bytes.{ascii}
use Rattle.score.specs.Promises.{longest}
use Rattle.score.specs.declared.Control.{Control}
use Rattle.score.specs.declared.Control.TheVariants.{Microvolts, Nan}
use Rattle.score.specs.declared.Inputs.TheVariants.{Vco, Lfo, Supersaw}
use Rattle.score.specs.declared.Refusal as why
use Rattle.score.specs.declared.Refusal.TheVariants.{OutOfRange, NoRoom}
use Rattle.score.specs.declared.Score.{Score}
use Rattle.score_writer.specs.Writing.{writing_of, written_of}

-- the worked example of the paper
abbrev pub worked : Score
worked =
    record {
      head = record { hz = 48000; gate = None; frames = 1 };
      inputs = Vco (record {
        voct = Microvolts (pos 0);
        fm = Microvolts (pos 0);
        pw = Microvolts (pos 500000);
        sync = Microvolts (pos 0);
        fm_lin = Microvolts (negsuc 4999999);
      });
    }

-- an Lfo of one hz, gate, frames and rate, with a reset that is nan
abbrev pub lfo : ℕ → Option ℕ → ℕ → Control → Score
lfo hz gate frames rate =
    record { head = record { hz = hz; gate = gate; frames = frames }; inputs = Lfo (record { rate = rate; depth = Microvolts (negsuc 0); reset = Nan }) }

abbrev pub low : Score
low = lfo 1000 None 1 (Microvolts (negsuc 9999999))

abbrev pub high : Score
high = lfo 192000 (Some 1) 480000 (Microvolts (pos 10000000))

abbrev pub supersaw : Score
supersaw =
    record {
      head = record { hz = 44100; gate = Some 2; frames = 10 };
      inputs = Supersaw (record { voct = Nan; detune = Microvolts (pos 9); mix = Microvolts (negsuc 99) });
    }

-- ---- a score and its text
pub record Row : Type 0 where
  pub score : Score
  pub text : String

abbrev pub row : Score → String → Row
row score text = record { score = score; text = text }

abbrev pub worked_row : Row
worked_row = row worked "osc=vco\nhz=48000\nframes=1\nvoct=0\nfm=0\npw=500000\nsync=0\nfm_lin=-5000000\n"

abbrev pub longest_row : Row
longest_row =
    row longest "osc=formant\nhz=192000\ngate=2\nframes=480000\nv_oct=-10000000\nvowel=-10000000\nformant_shift=-10000000\nvibrato=-10000000\n"

abbrev pub texts : List Row
texts =
    worked_row
    ∷ longest_row
    ∷ row low "osc=lfo\nhz=1000\nframes=1\nrate=-10000000\ndepth=-1\nreset=nan\n"
    ∷ row high "osc=lfo\nhz=192000\ngate=1\nframes=480000\nrate=10000000\ndepth=-1\nreset=nan\n"
    ∷ row supersaw "osc=supersaw\nhz=44100\ngate=2\nframes=10\nvoct=nan\ndetune=9\nmix=-100\n"
    ∷ []

-- a buffer of x's, one more than the text has bytes
abbrev pub buffer : Row → List ℕ
buffer r = replicate (suc (length (ascii r.text))) 120

-- ---- a score, how many bytes the buffer has, and by what it is refused
pub record Refusal : Type 0 where
  pub score : Score
  pub bytes : ℕ
  pub by : why.Refusal

abbrev pub refusal : Score → ℕ → why.Refusal → Refusal
refusal score bytes by = record { score = score; bytes = bytes; by = by }

abbrev pub refusals : List Refusal
refusals =
    -- one past each end of a range
    refusal (lfo 999 None 1 Nan) 117 OutOfRange
    ∷ refusal (lfo 192001 None 1 Nan) 117 OutOfRange
    ∷ refusal (lfo 48000 (Some 0) 1 Nan) 117 OutOfRange
    ∷ refusal (lfo 48000 (Some 3) 1 Nan) 117 OutOfRange
    ∷ refusal (lfo 48000 None 0 Nan) 117 OutOfRange
    ∷ refusal (lfo 48000 None 480001 Nan) 117 OutOfRange
    ∷ refusal (lfo 48000 None 1 (Microvolts (pos 10000001))) 117 OutOfRange
    ∷ refusal (lfo 48000 None 1 (Microvolts (negsuc 10000000))) 117 OutOfRange
    -- a byte too few, and none
    ∷ refusal worked 70 NoRoom
    ∷ refusal longest 116 NoRoom
    ∷ refusal worked 0 NoRoom
    -- NoRoom is last
    ∷ refusal (lfo 999 None 1 Nan) 0 OutOfRange
    ∷ []

abbrev pub WritingExamples : Type 0
WritingExamples =
    (map (λ (r : Row). writing_of r.score (length (buffer r))) texts ≡ map (λ (r : Row). Ok (length (ascii r.text))) texts)
    × (map (λ (r : Row). written_of r.score (buffer r)) texts ≡ map (λ (r : Row). ascii r.text ++ (120 ∷ [])) texts)
    × (map (λ (r : Refusal). writing_of r.score r.bytes) refusals ≡ map (λ (r : Refusal). Err r.by) refusals)
