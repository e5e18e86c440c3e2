-- When a render is claimed.
use lib.Dec.{eqb}
use borrow.Author.Tests.{eqb-true, eq-eqb}
use Rattle.laws.proofs.Tests.{both_true}
use Rattle.frame.specs.End.{claimed_of}
use Rattle.frame.specs.Promises.{ClaimedSays}

pub claimed_says : ClaimedSays
unfolding claimed_of
claimed_says frames t =
    record {
      only = λ h. let (a, b) = both_true (eqb t.finished t.begun) (eqb t.begun frames) h in
          (eqb-true t.finished t.begun a, eqb-true t.begun frames b);
      always = λ a b. simp (eq-eqb t.finished t.begun a, eq-eqb t.begun frames b);
    }
