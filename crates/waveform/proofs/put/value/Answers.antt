-- `waveform::put::value` meets its contract.
use Rattle.std.proofs.Common.{subst}
use Rattle.text.specs.Put.{Put}
use Rattle.text.proofs.Texts.{put_after}
use Rattle.waveform.specs.Bytes.{value_line}
use Rattle.waveform.proofs.put.value.Goals as goal

pub returns : goal.returns
returns c =
    let a = c.args in
    subst (λ n. Put a.out.now c.byte.new.out a.at c.byte.result (value_line a.wire n)) c.from.ensures
    (put_after c.byte-a.ensures
    (put_after c.bits-b.ensures (put_after c.byte-c.ensures c.byte.ensures)))
