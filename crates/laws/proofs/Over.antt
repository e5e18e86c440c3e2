-- `over f n l` is l with its first n cells replaced by f's. A loop that stores f i at i for i = 0, 1, .. keeps the list at `over f i l`.
-- `d` is what get_or gives past a list's end: nan for floats, 0 for whole numbers.
use mathlib.Core.List.{List, [], ◌++◌, ◌∷◌, append_assoc, append-nil}
use mathlib.Core.Logic.{⊎_elim}
use mathlib.Core.Path.{◌∙◌, ◌≡◌, ap, refl, sym}
use Prim.Native.Nat.{◌+◌, ◌<◌, ◌≤◌, suc, zero, ℕ}
use native.Mathlib.Nat.{eq-or-lt_of_le, le_of_suc-le-suc, not-suc-le-zero, zero-add, suc-add}
use native.Mathlib.Numerals.{add-one}
use native.Mathlib.Omega.{arith}
use lib.ListN.{get_or-append, drop, drop_of_length-le, get_or, length, length-append, length-drop, set, take, take-append-drop}
use lib.Seq.{drop-cons, ext_get_or, get_or_at, get_or-set_other, get_or-set_same, set_at, take-suc}
use Rattle.laws.specs.Lists.{over, tab}

pub length_tab : {A : Type 0} (f : ℕ → A) (n : ℕ) → length (tab f n) ≡ n
unfolding tab
length_tab f zero = refl
length_tab f (suc n) = simp (length-append, length_tab f n, add-one)

pub length_over : {A : Type 0} (f : ℕ → A) (n : ℕ) (l : List A) → n ≤ length l → length (over f n l) ≡ length l
unfolding over
length_over f n l h =
    let a = length-append (tab f n) (drop n l) in
    let b = length_tab f n in
    let d = length-drop n l in
    omega arith

-- the cell that a turn is about to store is still l's
pub over_at : {A : Type 0} (d : A) (f : ℕ → A) (i : ℕ) (l : List A) → i < length l → get_or (over f i l) i d ≡ get_or l i d
unfolding over
over_at {A} d f i l h = ap (λ (t : List A). get_or (tab f i ++ t) i d) (drop-cons l i d h)
    ∙ get_or_at (tab f i) (get_or l i d) (drop (suc i) l) d i (length_tab f i)

over_suc : {A : Type 0} (d : A) (f : ℕ → A) (i : ℕ) (l : List A) → i < length l → set (over f i l) i (f i) ≡ over f (suc i) l
unfolding over tab
over_suc {A} d f i l h =
    ap (λ (t : List A). set (tab f i ++ t) i (f i)) (drop-cons l i d h)
    ∙ set_at (tab f i) (get_or l i d) (drop (suc i) l) (f i) i (length_tab f i)
    ∙ sym (append_assoc (tab f i) (f i ∷ []) (drop (suc i) l))

-- one turn of the loop
pub over_more : {A : Type 0} (f : ℕ → A) (i : ℕ) (l m : List A) (v : A) → i < length l → m ≡ over f i l → v ≡ f i → set m i v ≡ over f (i + 1) l
over_more f i l m v h e q = rw (add-one, e, q) (over_suc (f i) f i l h)

pub over_none : {A : Type 0} (f : ℕ → A) (l : List A) → l ≡ over f 0 l
unfolding over tab
over_none f l = refl

-- ---- what a list holds afterwards
pub tab_ext : {A : Type 0} (f g : ℕ → A) (n : ℕ) → ((i : ℕ) → i < n → f i ≡ g i) → tab f n ≡ tab g n
unfolding tab
tab_ext f g zero h = refl
tab_ext f g (suc n) h =
    let a : tab f n ≡ tab g n = tab_ext f g n (λ i l. h i (omega arith)) in
    let b : f n ≡ g n = h n (omega arith) in
    cc

-- two runs of cells
pub tab_append : {A : Type 0} (f : ℕ → A) (m n : ℕ) → tab f (n + m) ≡ tab f m ++ tab (λ j. f (j + m)) n
unfolding tab
tab_append f m zero = simp zero-add (sym (append-nil (tab f m)))
tab_append {A} f m (suc n) =
    ap (tab f) (suc-add n m) ∙ ap (λ (l : List A). l ++ (f (n + m) ∷ [])) (tab_append f m n)
    ∙ append_assoc (tab f m) (tab (λ j. f (j + m)) n) (f (n + m) ∷ [])

pub tab_take : {A : Type 0} (d : A) (f : ℕ → A) (l : List A) (n : ℕ) → n ≤ length l → ((i : ℕ) → i < n → f i ≡ get_or l i d) → tab f n ≡ take n l
unfolding tab
tab_take d f l zero h e = refl
tab_take d f l (suc n) h e =
    let a : tab f n ≡ take n l = tab_take d f l n (omega arith) (λ i k. e i (omega arith)) in
    let b : f n ≡ get_or l n d = e n (omega arith) in
    let t : take (suc n) l ≡ take n l ++ (get_or l n d ∷ []) = take-suc l n d h in
    cc

pub over_same : {A : Type 0} (d : A) (f : ℕ → A) (l : List A) (n : ℕ) → n ≤ length l → ((i : ℕ) → i < n → f i ≡ get_or l i d) → l ≡ over f n l
unfolding over
over_same {A} d f l n h e = sym (take-append-drop n l) ∙ ap (λ (t : List A). t ++ drop n l) (sym (tab_take d f l n h e))

-- a list of n cells, each stored
pub over_all : {A : Type 0} (f : ℕ → A) (n : ℕ) (l : List A) → length l ≡ n → over f n l ≡ tab f n
unfolding over
over_all {A} f n l h = ap (λ (t : List A). tab f n ++ t) (drop_of_length-le l {i = n} (omega arith)) ∙ append-nil (tab f n)

-- the list after the last turn
pub over_done : {A : Type 0} (f : ℕ → A) (i n : ℕ) (l m : List A) → i ≡ n → length l ≡ n → m ≡ over f i l → m ≡ tab f n
over_done {A} f i n l m h k e = e ∙ ap (λ (j : ℕ). over f j l) h ∙ over_all f n l k

-- two lists of one number of cells
pub tabs_alike : {A B : Type 0} (f : ℕ → A) (g : ℕ → B) (n : ℕ) (xs : List A) (ms : List B) → xs ≡ tab f n → ms ≡ tab g n → length xs ≡ length ms
tabs_alike f g n xs ms e q = ap length e ∙ length_tab f n ∙ sym (ap length q ∙ length_tab g n)

pub get_or_tab : {A : Type 0} (d : A) (f : ℕ → A) (n i : ℕ) → i < n → get_or (tab f n) i d ≡ f i
unfolding tab
get_or_tab d f zero i h = absurd (not-suc-le-zero h)
get_or_tab d f (suc n) i h = ⊎_elim last (λ (l : i < n). first l (get_or_tab d f n i l)) (eq-or-lt_of_le (le_of_suc-le-suc h))
  where
    last : i ≡ n → get_or (tab f n ++ (f n ∷ [])) i d ≡ f i
    last e = rw e (get_or_at (tab f n) (f n) [] d n (length_tab f n))

    first : i < n → get_or (tab f n) i d ≡ f i → get_or (tab f n ++ (f n ∷ [])) i d ≡ f i
    first l q = get_or-append (tab f n) (f n ∷ []) d i (let z = length_tab f n in omega arith) ∙ q

-- a list is what its cells are
pub by_cells : {A : Type 0} (d : A) (f : ℕ → A) (n : ℕ) (l : List A) → length l ≡ n → ((i : ℕ) → i < n → get_or l i d ≡ f i) → l ≡ tab f n
by_cells d f n l e h =
    ext_get_or d l (tab f n) (e ∙ sym (length_tab f n)) (λ i k. let q : i < n = omega arith in h i q ∙ sym (get_or_tab d f n i q))

-- a loop that stores f k at k: cells below k are f's
pub cells_more : {A : Type 0} (d : A) (f : ℕ → A) (k : ℕ) (l : List A) (v : A) → k < length l → v ≡ f k
    → ((i : ℕ) → i < k → get_or l i d ≡ f i) → (i : ℕ) → i < k + 1 → get_or (set l k v) i d ≡ f i
cells_more d f k l v h e c i b = ⊎_elim last first (eq-or-lt_of_le (le_of_suc-le-suc (rw add-one at b)))
  where
    last : i ≡ k → get_or (set l k v) i d ≡ f i
    last q = rw q (get_or-set_same l k v d h ∙ e)

    first : i < k → get_or (set l k v) i d ≡ f i
    first q = get_or-set_other l k i v d (λ z. omega arith) ∙ c i q
