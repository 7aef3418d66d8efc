-- `text::put::worded` meets its contract: one after the other.
use Rattle.text.proofs.Texts.{put_after}
use Rattle.text.proofs.put.worded.Goals as goal

pub returns : goal.returns
returns c = put_after c.text-a.ensures (put_after c.number-b.ensures c.text.ensures)
