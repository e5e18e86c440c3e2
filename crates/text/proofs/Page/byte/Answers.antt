use Rattle.text.proofs.PageLaws.{put_on}
use Rattle.text.proofs.Page.byte.Goals as goal

pub returns : goal.returns
returns c = put_on c.args.self.now _ _ _ c.put_byte-self.ensures.value c.put_byte-self.ensures.out_after
