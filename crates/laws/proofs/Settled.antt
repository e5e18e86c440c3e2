-- One equation settles an answer, and two settle a pair.
use mathlib.Core.Path.{◌∙◌, ◌≡◌, sym}
use Rattle.laws.specs.Machine.{Settles}

pub settled : {A : Type 0} (a : A) → Settles (λ (r : A). r ≡ a)
settled a x y p q = p ∙ sym q

pub both : {A B : Type 0} (a : A) (b : B) → Settles (λ (x : A × B). (x.0 ≡ a) × (x.1 ≡ b))
both a b x y p q = λ i. ((p.0 ∙ sym q.0) i, (p.1 ∙ sym q.1) i)
