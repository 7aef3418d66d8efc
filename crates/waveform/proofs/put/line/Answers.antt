-- `waveform::put::line` meets its contract.
use Rattle.text.proofs.Texts.{put_after}
use Rattle.waveform.specs.Texts.{as_line}
use Rattle.waveform.proofs.put.line.Goals as goal

pub returns : goal.returns
unfolding as_line
returns c = put_after c.said-to.ensures c.byte.ensures
