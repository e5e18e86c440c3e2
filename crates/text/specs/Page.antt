-- A page: bytes that were lent, and the place in them where the next text goes.
use Rattle.std.specs.Borrow.{MutBor}
use Rattle.std.specs.Prelude.{List, ℕ}
use Rattle.std.proofs.lemmas.List.Edits.{sets}
use Rattle.text.specs.Put.{place_of}
use Rattle.text.specs.declared.Page.{Page}

-- bytes that were lent to be written
abbrev pub Lent : Type 0
Lent = MutBor (List ℕ)

-- they with a place in them
unfoldable pub page_at : Lent → ℕ → Page
page_at out at = record { out = out; at = at }

-- the page after a text was put on it: still the same lent bytes, with the text among them, and the place after it
unfoldable pub with_text : Page → List ℕ → Page
with_text p t = page_at (record { ref_ptr = p.out.ref_ptr; ghost_name = p.out.ghost_name; now = sets p.out.now p.at t }) (place_of p.out.now p.at t)

-- the place after what was put
abbrev pub place_on : Page → ℕ
place_on p = p.at
