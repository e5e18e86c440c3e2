use Rattle.text.proofs.PageLaws.{put_on}
use Rattle.text.proofs.Page.hex.Goals as goal

pub returns : goal.returns
returns c = put_on c.args.self.now _ _ _ c.put_hex-self.ensures.value c.put_hex-self.ensures.out_after
