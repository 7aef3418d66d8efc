-- `waveform::put::mark` meets its contract.
use Rattle.text.proofs.Texts.{put_after}
use Rattle.waveform.proofs.put.mark.Goals as goal

pub returns : goal.returns
returns c = put_after c.byte-a.ensures c.number.ensures
