use Rattle.text.proofs.Texts.{put_after}
use Rattle.sayings.proofs.put.ticked.Goals as goal

pub returns : goal.returns
returns c = put_after c.number-a.ensures c.named.ensures
