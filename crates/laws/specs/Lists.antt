-- Lists made cell by cell, of any element; and a test of each number below n.
use Rattle.std.specs.Prelude.{ℕ, zero, suc, Bool, true, ◌&&◌, List, [], ◌∷◌, ◌++◌, drop}

-- f 0, f 1, .., f (n - 1)
unfoldable pub tab : {A : Type 0} → (ℕ → A) → ℕ → List A
tab f zero = []
tab f (suc n) = tab f n ++ (f n ∷ [])

-- l with its first n cells replaced by those of f
unfoldable pub over : {A : Type 0} → (ℕ → A) → ℕ → List A → List A
over f n l = tab f n ++ drop n l

-- f holds of each number below n
unfoldable pub all : (ℕ → Bool) → ℕ → Bool
all f zero = true
all f (suc n) = all f n && f n
