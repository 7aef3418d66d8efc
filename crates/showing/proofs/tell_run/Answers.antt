-- One after the other.
use Rattle.std.proofs.Common.{rules}
use Rattle.std.proofs.lemmas.Result.{IfOk-weaker}
use Rattle.showing.proofs.Telling.{run_told}
use Rattle.showing.proofs.tell_run.Goals as goal

pub returns-clause-told : goal.returns-clause-told
returns-clause-told g c = IfOk-weaker c.tell-2.result _ _ (λ at t. (search (rules, t), run_told c.args.text.now c.args.run.start c.args.run.end c.in_ok-a.ensures.told.1 c.in_ok-b.ensures.told.1 t.1)) c.tell-2.ensures.told
