-- the key is made of the vowel in its range
use Rattle.common.specs.Memo.{recall}
use Rattle.formant_osc.specs.FormantOsc.{coef_memo_of}
use Rattle.formant_osc.proofs.FormantOsc.coefs.Goals as goal

pub returns-then-hits : goal.returns-then-hits
unfolding coef_memo_of recall
returns-then-hits c =
    let asked = simp (c.key3-key.ensures, c.clamp-vowel.ensures) at c.hits.ensures in
    simp (c.if-hits.true, ← asked)

pub returns-else-hits : goal.returns-else-hits
unfolding coef_memo_of recall
returns-else-hits c =
    let asked = simp (c.key3-key.ensures, c.clamp-vowel.ensures) at c.hits.ensures in
    simp (c.filled.ensures, c.resonator_coefs.ensures, c.if-hits.false, ← asked, c.key3-key.ensures, c.clamp-vowel.ensures)
