use Rattle.text.proofs.PageLaws.{put_on}
use Rattle.text.proofs.Page.text.Goals as goal

pub returns : goal.returns
returns c = put_on c.args.self.now _ _ _ c.put_text-self.ensures.value c.put_text-self.ensures.out_after
