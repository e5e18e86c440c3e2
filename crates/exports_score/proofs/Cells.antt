-- The cells of a score and the score of cells, there and back.
use Prim.Native.Nat.{ℕ, ◌-◌, ◌≤◌}
use mathlib.Core.Bool.{Bool, true, false, cond}
use mathlib.Core.List.{List, [], ◌∷◌, map}
use mathlib.Core.Path.{◌≡◌, refl, sym, ap, subst, ◌∙◌}
use native.Mathlib.Omega.{arith}
use lib.Dec.{ltb, eqb, lit≤}
use Rattle.std.specs.Prelude.{◌&&◌, Option, Some, None, Result, Ok, Err}
use Rattle.std.specs.List.{list_all}
use lib.IntN.{ℤ, pos, negsuc}
use lib.ListN.{length, get_or, take, drop, length-drop}
use lib.Seq.{take_all}
use borrow.Author.Tests.{ne_eqb, eq-eqb, eqb-true}
use mir.Syntax.{w32}
use mir.Val.{of_z, SFits}
use Rattle.laws.specs.Lists.{tab}
use Rattle.laws.proofs.Over.{by_cells}
use Rattle.score.specs.Control.{volts_of}
use Rattle.score.specs.Keys.{input_keys, owner_of, inputs_from}
use Rattle.score.specs.Refusal.{and_then}
use Rattle.score.specs.Score.{Reading}
use Rattle.score.specs.Promises.{ValidInput, ValidGate, ValidInputs, Valid}
use Rattle.score.specs.declared.Control.{Control}
use Rattle.score.specs.declared.Control.TheVariants.{Microvolts, Nan}
use Rattle.score.specs.declared.Osc.{Osc}
use Rattle.score.specs.declared.Osc.TheVariants as O
use Rattle.score.specs.declared.Inputs.{Inputs}
use Rattle.score.specs.declared.Inputs.TheVariants.{Vco, Lfo, Supersaw, Formant}
use Rattle.score.specs.declared.Head.{Head}
use Rattle.score.specs.declared.Refusal.{Refusal}
use Rattle.score.specs.declared.Refusal.TheVariants.{OutOfRange}
use Rattle.score.specs.declared.Score.{Score}
use Rattle.score.proofs.LineKinds.{tested}
use Rattle.score.proofs.Lines.{not_refused}
use Rattle.exports_score.specs.Cells.{osc_number, none, ports_of, gate_number, wholes_of, floats_of, cell_of, microvolts_of, control_at, is_zero, zeros}
use Rattle.exports_score.specs.Cells.{inputs_in, osc_at, gate_at, head_at, score_at}
use Rattle.exports_score.specs.Shortcuts.{u32_of}

-- ---- five cells, by their places
abbrev pub cells_at : List ℤ → List ℤ
cells_at m = get_or m 0 (pos 0) ∷ get_or m 1 (pos 0) ∷ get_or m 2 (pos 0) ∷ get_or m 3 (pos 0) ∷ get_or m 4 (pos 0) ∷ []

pub cells_are : (m : List ℤ) → length m ≡ 5 → m ≡ cells_at m
unfolding tab
cells_are m h = by_cells (pos 0) (λ (i : ℕ). get_or m i (pos 0)) 5 m h (λ i l. refl)

-- what holds of five cells by their places holds of them
pub by_places : (P : List ℤ → Type 0) (m : List ℤ) → length m ≡ 5 → P (cells_at m) → P m
by_places P m h p = subst P (sym (cells_are m h)) p

-- ---- one cell
pub cell_back : (c : Control) → ValidInput c → control_at (cell_of c) ≡ c
unfolding control_at cell_of
cell_back (Microvolts (pos n)) v = refl
cell_back (Microvolts (negsuc n)) v = simp (ne_eqb n 2147483647 (λ e. omega arith))
cell_back Nan v = refl

pub control_back : (n : ℤ) → cell_of (control_at n) ≡ n
unfolding control_at cell_of
control_back (pos n) = refl
control_back (negsuc n) = marked (eqb n 2147483647) refl
  where
    marked : (b : Bool) → eqb n 2147483647 ≡ b → cell_of (cond b Nan (Microvolts (negsuc n))) ≡ negsuc n
    marked true e = ap negsuc (sym (eqb-true n 2147483647 e))
    marked false e = refl

-- ---- the gate's cell
gate_back : (g : Option ℕ) → ValidGate g → gate_at (gate_number g) ≡ g
unfolding gate_at gate_number
gate_back None v = refl
gate_back (Some n) (l, m) = simp (ne_eqb n 0 (λ e. omega arith))

module _ (n : ℕ) where
  number_back : gate_number (gate_at n) ≡ n
  unfolding gate_at gate_number
  number_back = go (eqb n 0) refl
    where
      go : (b : Bool) → eqb n 0 ≡ b → gate_number (cond b None (Some n)) ≡ n
      go true e = sym (eqb-true n 0 e)
      go false e = refl

  pub issue_small : ValidGate (gate_at n) → n ≤ 2
  unfolding gate_at
  issue_small = go (eqb n 0) refl
    where
      go : (b : Bool) → eqb n 0 ≡ b → ValidGate (cond b None (Some n)) → n ≤ 2
      go true e v = let z = eqb-true n 0 e in omega arith
      go false e (l, m) = m

-- ---- a cell that a u32 holds is the number
pub u32_is : (n m : ℕ) → Ok m ≡ u32_of n → m ≡ n
unfolding u32_of
u32_is n m e = go (ltb 4294967295 n) e
  where
    go : (b : Bool) → Ok m ≡ cond b (Err OutOfRange) (Ok n) → m ≡ n
    go true e = absurd (let z : ◌≡◌ {A = ℕ} 0 1 = cc in omega arith)
    go false e = cc

-- ---- a cell by its bits, which the code compares
pub marked : (z : ℤ) → SFits w32 z → of_z w32 z ≡ 2147483648 → Nan ≡ control_at z
unfolding control_at
marked (pos n) f e = absurd (omega (arith, f.sfits))
marked (negsuc k) f e = simp (eq-eqb k 2147483647 (omega (arith, f.sfits)))

pub unmarked : (z : ℤ) → SFits w32 z → (of_z w32 z ≡ 2147483648 → ⊥) → Microvolts z ≡ control_at z
unfolding control_at
unmarked (pos n) f h = refl
unmarked (negsuc k) f h = simp (ne_eqb k 2147483647 (λ e. h (omega arith)))

-- each of them is 0, as the code asks
pub zeros_all : (l : List ℤ) → list_all is_zero l ≡ zeros l
zeros_all [] = refl
zeros_all (n ∷ ns) = step (is_zero n) (zeros_all ns)
  where
    step : (b : Bool) → list_all is_zero ns ≡ zeros ns → (b && list_all is_zero ns) ≡ cond b (zeros ns) false
    step true h = h
    step false h = refl

-- and as it makes inputs of them
abbrev pub inputs_read : Osc → List Control → Inputs
inputs_read O.Vco cs =
    Vco (record { voct = get_or cs 0 none; fm = get_or cs 1 none; pw = get_or cs 2 none; sync = get_or cs 3 none; fm_lin = get_or cs 4 none })
inputs_read O.Lfo cs = Lfo (record { rate = get_or cs 0 none; depth = get_or cs 1 none; reset = get_or cs 2 none })
inputs_read O.Supersaw cs = Supersaw (record { voct = get_or cs 0 none; detune = get_or cs 1 none; mix = get_or cs 2 none })
inputs_read O.Formant cs =
    Formant (record { v_oct = get_or cs 0 none; vowel = get_or cs 1 none; formant_shift = get_or cs 2 none; vibrato = get_or cs 3 none })

same_inputs : (o : Osc) (m : List ℤ) → length m ≡ 5 → inputs_read o (map control_at m) ≡ inputs_from o (map control_at m)
same_inputs o m h = by_places (λ (l : List ℤ). inputs_read o (map control_at l) ≡ inputs_from o (map control_at l)) m h (same o)
  where
    same : (o : Osc) → inputs_read o (map control_at (cells_at m)) ≡ inputs_from o (map control_at (cells_at m))
    same O.Vco = refl
    same O.Lfo = refl
    same O.Supersaw = refl
    same O.Formant = refl

-- k cells are inputs, and b is whether those past them are 0
module _ (o : Osc) (m : List ℤ) {k : ℕ} {b : Bool} (five : length m ≡ 5) (used : k ≡ length (input_keys o))
    (asked : b ≡ zeros (take (5 - k) (drop k m))) where
  spare : zeros (drop (length (input_keys o)) m) ≡ b
  spare =
      let rest : take (5 - k) (drop k m) ≡ drop k m = take_all (5 - k) (drop k m) (omega (arith, length-drop {A = ℤ} k m)) in
      sym (asked ∙ ap zeros rest ∙ ap (λ (i : ℕ). zeros (drop i m)) used)

  pub inputs_refused : b ≡ false → Err OutOfRange ≡ inputs_in o m
  unfolding inputs_in
  inputs_refused e = simp (spare, e)

  pub inputs_taken : {cs : List Control} (p : Osc) → b ≡ true → o ≡ p → cs ≡ map control_at m → Ok (inputs_read p cs) ≡ inputs_in o m
  unfolding inputs_in
  inputs_taken p e f g =
      let whole = ap (inputs_read p) g ∙ ap (λ (q : Osc). inputs_read q (map control_at m)) (sym f) ∙ same_inputs o m five in
      simp (spare, e) (λ i. Ok (whole i))

-- ---- the score of a valid score's cells is the score
-- what cells say, by the oscillator
abbrev from_osc : Head → List ℤ → Result Osc Refusal → Reading
from_osc head m r = and_then r λ o. and_then (inputs_in o m) λ i. Ok (record { head = head; inputs = i })

inputs_back : (head : Head) (i : Inputs) → ValidInputs i
    → from_osc head (microvolts_of (record { head = head; inputs = i })) (osc_at (osc_number (owner_of i))) ≡ Ok (record { head = head; inputs = i })
unfolding ports_of microvolts_of osc_at inputs_in cell_of
inputs_back head (Vco i) (a, b, c, d, e) =
    simp (cell_back i.voct a, cell_back i.fm b, cell_back i.pw c, cell_back i.sync d, cell_back i.fm_lin e)
inputs_back head (Lfo i) (a, b, c) = simp (cell_back i.rate a, cell_back i.depth b, cell_back i.reset c)
inputs_back head (Supersaw i) (a, b, c) = simp (cell_back i.voct a, cell_back i.detune b, cell_back i.mix c)
inputs_back head (Formant i) (a, b, c, d) =
    simp (cell_back i.v_oct a, cell_back i.vowel b, cell_back i.formant_shift c, cell_back i.vibrato d)

pub score_back : (s : Score) → Valid s → score_at (microvolts_of s) (wholes_of s) ≡ Ok s
unfolding score_at wholes_of
score_back s v = simp (gate_back s.head.gate v.head.gate) (inputs_back s.head s.inputs v.inputs)

-- ---- and the cells of the score of cells are the cells
zero_is : (n : ℤ) → is_zero n ≡ true → n ≡ pos 0
zero_is (pos n) e = ap pos (eqb-true n 0 e)
zero_is (negsuc n) e = absurd (let z : ◌≡◌ {A = ℕ} 0 1 = cc in omega arith)

zeros_are : (n : ℤ) (ns : List ℤ) → zeros (n ∷ ns) ≡ true → (n ≡ pos 0) × (zeros ns ≡ true)
zeros_are n ns e = go (is_zero n) refl e
  where
    go : (b : Bool) → is_zero n ≡ b → cond b (zeros ns) false ≡ true → (n ≡ pos 0) × (zeros ns ≡ true)
    go true f e = (zero_is n f, e)
    go false f e = absurd (let z : ◌≡◌ {A = ℕ} 0 1 = cc in omega arith)

-- what cells say
data Said (osc : ℕ) (head : Head) (m : List ℤ) : Reading → Type 0 where
  values : (o : Osc) → osc ≡ osc_number o → zeros (drop (length (input_keys o)) m) ≡ true
      → Said osc head m (Ok (record { head = head; inputs = inputs_from o (map control_at m) }))
  refused : Said osc head m (Err OutOfRange)

abbrev made : Head → List ℤ → Osc → Score
made head m o = record { head = head; inputs = inputs_from o (map control_at m) }

module _ (osc : ℕ) (head : Head) (m : List ℤ) where
  abbrev SaidBy : Result Osc Refusal → Type 0
  SaidBy r = Said osc head m (from_osc head m r)

  values_said : (o : Osc) → osc ≡ osc_number o → SaidBy (Ok o)
  unfolding inputs_in
  values_said o e =
      tested (λ (r : Result Inputs Refusal). Said osc head m (and_then r (λ (i : Inputs). Ok (record { head = head; inputs = i }))))
      (zeros (drop (length (input_keys o)) m)) (values o e) (λ _. refused)

  inputs_said : SaidBy (osc_at osc)
  unfolding osc_at
  inputs_said =
      tested SaidBy (eqb osc 0) (λ e. values_said O.Vco (eqb-true osc 0 e)) (λ _.
      tested SaidBy (eqb osc 1) (λ e. values_said O.Lfo (eqb-true osc 1 e)) (λ _.
      tested SaidBy (eqb osc 2) (λ e. values_said O.Supersaw (eqb-true osc 2 e)) (λ _.
      tested SaidBy (eqb osc 3) (λ e. values_said O.Formant (eqb-true osc 3 e)) (λ _. refused))))

-- of five cells: a to e
module _ (head : Head) (a b c d e : ℤ) where
  abbrev five : List ℤ
  five = a ∷ b ∷ c ∷ d ∷ e ∷ []

  three_made : zeros (d ∷ e ∷ []) ≡ true → a ∷ b ∷ c ∷ pos 0 ∷ pos 0 ∷ [] ≡ five
  three_made z =
      let (p, f) = zeros_are d (e ∷ []) z in
      let to-d = sym p in
      let to-e = sym (zeros_are e [] f).0 in
      (λ i. a ∷ b ∷ c ∷ to-d i ∷ to-e i ∷ [])

  five_made : (o : Osc) → zeros (drop (length (input_keys o)) five) ≡ true → microvolts_of (made head five o) ≡ five
  unfolding microvolts_of ports_of cell_of
  five_made O.Vco z = simp control_back
  five_made O.Lfo z = simp control_back (three_made z)
  five_made O.Supersaw z = simp control_back (three_made z)
  five_made O.Formant z = let to-e = sym (zeros_are e [] z).0 in simp control_back (λ i. a ∷ b ∷ c ∷ d ∷ to-e i ∷ [])

cells_made : (head : Head) (m : List ℤ) (o : Osc) → length m ≡ 5 → zeros (drop (length (input_keys o)) m) ≡ true → microvolts_of (made head m o) ≡ m
cells_made head m o h =
    by_places (λ (l : List ℤ). zeros (drop (length (input_keys o)) l) ≡ true → microvolts_of (made head l o) ≡ l) m h (five_made head _ _ _ _ _ o)

number_made : (head : Head) (m : List ℤ) (o : Osc) → osc_number (owner_of (made head m o).inputs) ≡ osc_number o
number_made head m O.Vco = refl
number_made head m O.Lfo = refl
number_made head m O.Supersaw = refl
number_made head m O.Formant = refl

said_back : (osc : ℕ) (head : Head) (m : List ℤ) {x : Reading} (s : Score) → length m ≡ 5 → Said osc head m x → x ≡ Ok s
    → (microvolts_of s ≡ m) × (wholes_of s ≡ osc ∷ head.hz ∷ head.frames ∷ gate_number head.gate ∷ [])
unfolding wholes_of
said_back osc head m s h (values o e z) p =
    let same : made head m o ≡ s = cc in
    rw (← same) (cells_made head m o h z, ap (λ (n : ℕ). n ∷ head.hz ∷ head.frames ∷ gate_number head.gate ∷ []) (number_made head m o ∙ sym e))
said_back osc head m s h refused p = absurd (not_refused p)

wholes_are : (w : List ℕ) → length w ≡ 4 → w ≡ get_or w 0 0 ∷ get_or w 1 0 ∷ get_or w 2 0 ∷ get_or w 3 0 ∷ []
unfolding tab
wholes_are w h = by_cells 0 (λ (i : ℕ). get_or w i 0) 4 w h (λ i l. refl)

pub cells_back : (m : List ℤ) (w : List ℕ) (s : Score) → length m ≡ 5 → length w ≡ 4 → score_at m w ≡ Ok s
    → (microvolts_of s ≡ m) × (wholes_of s ≡ w)
unfolding score_at
cells_back m w s hm hw p =
    let (cells, wholes) = said_back (get_or w 0 0) (head_at w) m s hm (inputs_said (get_or w 0 0) (head_at w) m) p in
    let gate = number_back (get_or w 3 0) in
    (cells, wholes ∙ (λ i. get_or w 0 0 ∷ get_or w 1 0 ∷ get_or w 2 0 ∷ gate i ∷ []) ∙ sym (wholes_are w hw))

pub head_back : (m : List ℤ) (w : List ℕ) (s : Score) → score_at m w ≡ Ok s → head_at w ≡ s.head
unfolding score_at
head_back m w s p = go (inputs_said (get_or w 0 0) (head_at w) m) p
  where
    go : {x : Reading} → Said (get_or w 0 0) (head_at w) m x → x ≡ Ok s → head_at w ≡ s.head
    go (values o e z) p = let same : made (head_at w) m o ≡ s = cc in ap (λ (k : Score). k.head) same
    go refused p = absurd (not_refused p)

-- what no reader gives is out of range
said_refused : {osc : ℕ} {head : Head} {m : List ℤ} {x : Reading} (why : Refusal) → Said osc head m x → x ≡ Err why → why ≡ OutOfRange
said_refused why (values o e z) p = absurd (not_refused (sym p))
said_refused why refused p = cc

pub refused_by : (m : List ℤ) (w : List ℕ) (why : Refusal) → score_at m w ≡ Err why → why ≡ OutOfRange
unfolding score_at
refused_by m w why p = said_refused why (inputs_said (get_or w 0 0) (head_at w) m) p

-- ---- the volts of a valid score are those of its cells
control_volts : (c : Control) → ValidInput c → volts_of c ≡ volts_of (control_at (cell_of c))
control_volts c v = ap volts_of (sym (cell_back c v))

five_volts : (a b c d e : Control) → ValidInput a → ValidInput b → ValidInput c → ValidInput d → ValidInput e
    → map volts_of (a ∷ b ∷ c ∷ d ∷ e ∷ []) ≡ map (λ (n : ℤ). volts_of (control_at n)) (map cell_of (a ∷ b ∷ c ∷ d ∷ e ∷ []))
five_volts a b c d e va vb vc vd ve =
    let pa = control_volts a va in
    let pb = control_volts b vb in
    let pc = control_volts c vc in
    let pd = control_volts d vd in
    let pe = control_volts e ve in
    (λ i. pa i ∷ pb i ∷ pc i ∷ pd i ∷ pe i ∷ [])

inputs_volts : (head : Head) (i : Inputs) → ValidInputs i
    → floats_of (record { head = head; inputs = i }) ≡ map (λ (n : ℤ). volts_of (control_at n)) (microvolts_of (record { head = head; inputs = i }))
unfolding floats_of microvolts_of ports_of
inputs_volts head (Vco i) (a, b, c, d, e) = five_volts i.voct i.fm i.pw i.sync i.fm_lin a b c d e
inputs_volts head (Lfo i) (a, b, c) = five_volts i.rate i.depth i.reset none none a b c (lit≤ tt) (lit≤ tt)
inputs_volts head (Supersaw i) (a, b, c) = five_volts i.voct i.detune i.mix none none a b c (lit≤ tt) (lit≤ tt)
inputs_volts head (Formant i) (a, b, c, d) = five_volts i.v_oct i.vowel i.formant_shift i.vibrato none a b c d (lit≤ tt)

pub volts_back : (s : Score) → Valid s → floats_of s ≡ map (λ (n : ℤ). volts_of (control_at n)) (microvolts_of s)
volts_back s v = inputs_volts s.head s.inputs v.inputs
