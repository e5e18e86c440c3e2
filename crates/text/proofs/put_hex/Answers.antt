use mathlib.Core.List.{[], ◌∷◌, ◌++◌}
use mathlib.Core.Path.{refl}
use native.Mathlib.Omega.{arith}
use Rattle.text.specs.Hex.{hex_text}
use Rattle.text.specs.Put.{place_of}
use Rattle.text.proofs.HexLaws.{hex_next, hex_end}
use Rattle.text.proofs.PutLaws.{after}
use Rattle.text.proofs.put_hex.Goals as goal

pub loop-k-init : goal.loop-k-init
unfolding place_of hex_text
loop-k-init c = ([], (refl, (omega arith, refl)))

pub loop-k-preserved : goal.loop-k-preserved
loop-k-preserved c = let (d, (e, p)) = c.loop-k.invariant in
    let more = hex_next d _ _ _ c.loop-k-test.true e in
    (d ++ (c.digit.result ∷ []), (rw c.digit.ensures more, after _ _ d _ p (c.put_byte-to.ensures.value, c.put_byte-to.ensures.out_after)))

pub returns : goal.returns
returns c = let (d, (e, p)) = c.loop-k.invariant in
    let both = rw (hex_end d _ _ _ c.loop-k-test.false e) at p in
    record { value = both.0; out_after = both.1 }
