-- Texts and their cells, and cells that are refused: one table and a single theorem.
use Rattle.std.specs.Prelude.{List, [], ◌∷◌, map, ◌≡◌, ℕ, ℤ, pos, negsuc}
use Prim.Native.String.{String}
use Rattle.line.specs.Bytes.{ascii}
use Rattle.exports_score.specs.Calls.{told, score_values_at, saved, score_write_at}

-- cells to write on
abbrev pub blank : List ℤ
blank = pos 7 ∷ pos 7 ∷ pos 7 ∷ pos 7 ∷ pos 7 ∷ []

abbrev pub none : List ℕ
none = 7 ∷ 7 ∷ 7 ∷ 7 ∷ []

pub record Row : Type 0 where
  pub text : String
  pub microvolts : List ℤ
  pub wholes : List ℕ

abbrev row : String → List ℤ → List ℕ → Row
row text microvolts wholes = record { text = text; microvolts = microvolts; wholes = wholes }

-- each oscillator, with another value in each cell and a nan, -2147483648; with and without the gate's line
abbrev pub texts : List Row
texts =
    row "osc=vco\nhz=48000\nframes=1\nvoct=1\nfm=-2\npw=nan\nsync=4\nfm_lin=-10000000\n"
    (pos 1 ∷ negsuc 1 ∷ negsuc 2147483647 ∷ pos 4 ∷ negsuc 9999999 ∷ []) (0 ∷ 48000 ∷ 1 ∷ 0 ∷ [])
    ∷ row "osc=lfo\nhz=1000\ngate=1\nframes=2\nrate=nan\ndepth=-2\nreset=10000000\n"
    (negsuc 2147483647 ∷ negsuc 1 ∷ pos 10000000 ∷ pos 0 ∷ pos 0 ∷ []) (1 ∷ 1000 ∷ 2 ∷ 1 ∷ [])
    ∷ row "osc=supersaw\nhz=192000\ngate=2\nframes=3\nvoct=-1\ndetune=2\nmix=nan\n"
    (negsuc 0 ∷ pos 2 ∷ negsuc 2147483647 ∷ pos 0 ∷ pos 0 ∷ []) (2 ∷ 192000 ∷ 3 ∷ 2 ∷ [])
    ∷ row "osc=formant\nhz=44100\nframes=480000\nv_oct=0\nvowel=nan\nformant_shift=3\nvibrato=-4\n"
    (pos 0 ∷ negsuc 2147483647 ∷ pos 3 ∷ negsuc 3 ∷ pos 0 ∷ []) (3 ∷ 44100 ∷ 480000 ∷ 0 ∷ [])
    ∷ []

-- what a text is read into, of which the first refusal decides
pub record Lent : Type 0 where
  pub text : String
  pub microvolts : List ℤ
  pub wholes : List ℕ
  pub by : ℕ

abbrev lent : String → List ℤ → List ℕ → ℕ → Lent
lent text microvolts wholes by = record { text = text; microvolts = microvolts; wholes = wholes; by = by }

abbrev pub unread : List Lent
unread =
    lent "osc=vco\n" blank none 21
    ∷ lent "osc=vco\nhz=1\n" blank none 23
    -- lengths, before all
    ∷ lent "" [] [] 54
    ∷ lent "" blank [] 51
    ∷ lent "" blank (7 ∷ 7 ∷ 7 ∷ []) 51
    ∷ []

-- what is handed over to be written into a buffer of three x's, of which the first refusal decides
pub record Handed : Type 0 where
  pub microvolts : List ℤ
  pub wholes : List ℕ
  pub written : List ℕ
  pub by : ℕ

abbrev handed : List ℤ → List ℕ → List ℕ → ℕ → Handed
handed microvolts wholes written by = record { microvolts = microvolts; wholes = wholes; written = written; by = by }

abbrev three : ℤ → ℤ → ℤ → List ℤ
three a d e = a ∷ pos 0 ∷ pos 0 ∷ d ∷ e ∷ []

abbrev pub refusals : List Handed
refusals =
    -- an oscillator that isn't known; cells past the last input that aren't 0; what no u32 is; an issue and microvolts out of range
    handed (three (pos 0) (pos 0) (pos 0)) (4 ∷ 48000 ∷ 1 ∷ 0 ∷ []) (9 ∷ []) 23
    ∷ handed (three (pos 0) (pos 1) (pos 0)) (1 ∷ 48000 ∷ 1 ∷ 0 ∷ []) (9 ∷ []) 23
    ∷ handed (three (pos 0) (pos 0) (negsuc 2147483647)) (3 ∷ 48000 ∷ 1 ∷ 0 ∷ []) (9 ∷ []) 23
    ∷ handed (three (pos 0) (pos 0) (pos 0)) (1 ∷ 4295015296 ∷ 1 ∷ 0 ∷ []) (9 ∷ []) 23
    ∷ handed (three (pos 0) (pos 0) (pos 0)) (1 ∷ 48000 ∷ 4294967297 ∷ 0 ∷ []) (9 ∷ []) 23
    ∷ handed (three (pos 0) (pos 0) (pos 0)) (1 ∷ 48000 ∷ 1 ∷ 4294967297 ∷ []) (9 ∷ []) 23
    ∷ handed (three (pos 0) (pos 0) (pos 0)) (1 ∷ 48000 ∷ 1 ∷ 3 ∷ []) (9 ∷ []) 23
    ∷ handed (three (negsuc 2147483646) (pos 0) (pos 0)) (1 ∷ 48000 ∷ 1 ∷ 0 ∷ []) (9 ∷ []) 23
    -- lengths, before all
    ∷ handed [] [] [] 54
    ∷ handed (three (pos 0) (pos 0) (pos 0)) [] [] 51
    ∷ handed (three (pos 0) (pos 0) (pos 0)) (1 ∷ 48000 ∷ 1 ∷ []) [] 51
    ∷ handed (three (pos 0) (pos 0) (pos 0)) (4 ∷ 0 ∷ 0 ∷ 0 ∷ []) [] 55
    ∷ handed (three (pos 0) (pos 0) (pos 0)) (4 ∷ 0 ∷ 0 ∷ 0 ∷ []) (9 ∷ 9 ∷ []) 55
    ∷ []

abbrev pub xs : List ℕ
xs = 120 ∷ 120 ∷ 120 ∷ []

abbrev pub CellExamples : Type 0
CellExamples =
    (map (λ (r : Row). score_values_at (ascii r.text) blank none) texts ≡ map (λ (r : Row). told 0 r.microvolts r.wholes) texts)
    × (map (λ (r : Lent). score_values_at (ascii r.text) r.microvolts r.wholes) unread
    ≡ map (λ (r : Lent). told r.by r.microvolts r.wholes) unread)
    × (map (λ (h : Handed). score_write_at h.microvolts h.wholes xs h.written) refusals ≡ map (λ (h : Handed). saved h.by xs h.written) refusals)
