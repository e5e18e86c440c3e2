-- A text put on a page after another is the two put as one.
use mathlib.Core.List.{List}
use mathlib.Core.Path.{◌≡◌, refl, ap}
use Prim.Native.Nat.{ℕ}
use lib.Seq.{sets}
use Rattle.text.proofs.PutLaws.{after}
use Rattle.text.specs.Page.{page_at, with_text}
use Rattle.text.specs.Promises.{PagePut, PageThen}
use Rattle.text.specs.Put.{place_of}
use Rattle.text.specs.declared.Page.{Page}

-- a page's bytes and place, changed
abbrev changed : Page → List ℕ → ℕ → Page
changed p l n = record { out = record { ref_ptr = p.out.ref_ptr; ghost_name = p.out.ghost_name; now = l }; at = n }

changed_by : (p : Page) {l m : List ℕ} {a b : ℕ} → l ≡ m → a ≡ b → changed p l a ≡ changed p m b
changed_by p e f = λ i. changed p (e i) (f i)

pub page_then : PageThen
unfolding with_text page_at
page_then p a b =
    let t = after p.out.now p.at a b (refl, refl) (refl, refl) in
    changed_by p t.1 t.0

pub page_put : PagePut
unfolding with_text page_at
page_put out at t q e = (ap (λ (p : Page). p.out.ghost_name) e, (ap (λ (p : Page). p.at) e, ap (λ (p : Page). p.out.now) e))

-- what is put into a page's bytes at its place is put on it
pub put_on : (p : Page) (t l : List ℕ) (n : ℕ) → n ≡ place_of p.out.now p.at t → l ≡ sets p.out.now p.at t → changed p l n ≡ with_text p t
unfolding with_text page_at
put_on p t l n v a = changed_by p a v
