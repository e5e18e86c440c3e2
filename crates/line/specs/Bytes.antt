-- Bytes, and the parts before and after the first of a kind. Assumes nothing.
use Rattle.std.specs.Prelude.{ℕ, List, [], ◌∷◌, Bool, true, false, cond, eqb}
use Prim.Native.Char.{code}
use Prim.Native.String.{String, [] as none, ◌∷◌ as ◌then◌}

-- the bytes of a text in ASCII, as b"hz" in the code
abbrev pub ascii : String → List ℕ
ascii none = []
ascii (c then s) = code c ∷ ascii s

-- whether two are the same, byte for byte
unfoldable pub same_of : List ℕ → List ℕ → Bool
same_of [] [] = true
same_of [] (b ∷ bs) = false
same_of (b ∷ bs) [] = false
same_of (b ∷ bs) (c ∷ cs) = cond (eqb b c) (same_of bs cs) false

-- whether a byte stands somewhere
unfoldable pub has_of : ℕ → List ℕ → Bool
has_of x [] = false
has_of x (b ∷ bs) = cond (eqb b x) true (has_of x bs)

-- what stands before the first x; all where there is none
unfoldable pub until_of : ℕ → List ℕ → List ℕ
until_of x [] = []
until_of x (b ∷ bs) = cond (eqb b x) [] (b ∷ until_of x bs)

-- what stands after the first x; nothing where there is none
unfoldable pub past_of : ℕ → List ℕ → List ℕ
past_of x [] = []
past_of x (b ∷ bs) = cond (eqb b x) bs (past_of x bs)
