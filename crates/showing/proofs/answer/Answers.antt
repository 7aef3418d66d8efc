-- As the text is judged.
use Rattle.std.proofs.Common.{rules, sym}
use Rattle.std.proofs.lemmas.Result.{IfOk-weaker}
use Rattle.showing.proofs.Telling.{none_yet, answered_wrong, answered_well}
use Rattle.showing.proofs.answer.Goals as goal

pub returns-in-Err-clause-told : goal.returns-in-Err-clause-told
returns-in-Err-clause-told g c = IfOk-weaker c.tell.result _ _ (λ at t. (search (rules, t), answered_wrong _ _ _ _ (sym c.in-Err.ensures) (t.1 _ (none_yet _)))) c.tell.ensures.told

pub returns-in-Ok-clause-told : goal.returns-in-Ok-clause-told
returns-in-Ok-clause-told g c = IfOk-weaker c.tell_run.result _ _ (λ at t. (search (rules, t), answered_well _ _ _ _ _ _ (sym c.in-Ok.ensures) t.1)) c.tell_run.ensures.told
