use Rattle.text.proofs.Texts.{put_after}
use Rattle.sayings.proofs.put.called.Goals as goal

pub returns : goal.returns
returns c = put_after c.text-a.ensures c.verdict.ensures
