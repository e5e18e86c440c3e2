-- A machine: states, calls, the state after a call and its reply. One text for every oscillator.
use Rattle.std.specs.Prelude.{◌≡◌, List, [], ◌∷◌}

-- a state reached from a first one by calls that are allowed
pub data Reached {S C : Type 0} (first : S → Type 0) (ok : C → Type 0) (next : S → C → S) : S → Type 0 where
  begun : (s : S) → first s → Reached first ok next s
  more : {s : S} → Reached first ok next s → (c : C) → ok c → Reached first ok next (next s c)

-- what a list of calls answers, in order
unfoldable pub replies : {S C R : Type 0} → (S → C → S) → (S → C → R) → S → List C → List R
replies next reply s [] = []
replies next reply s (c ∷ cs) = reply s c ∷ replies next reply (next s c) cs

-- a promise settles an answer: any two that it allows are equal
abbrev pub Settles : {A : Type 0} → (A → Type 0) → Type 0
Settles {A} P = (x y : A) → P x → P y → x ≡ y
