-- The flat answers: how many jobs can be listed, and that the contract of asking leaves one outcome.
use mathlib.Core.Path.{◌≡◌, sym, ap, ◌∙◌}
use mathlib.Core.List.{List}
use Prim.Native.Nat.{ℕ, ◌≤◌}
use native.Mathlib.Omega.{arith}
use lib.ListN.{length, take, drop, take-append-drop, length-append}
use Rattle.jobs.specs.Jobs.{most_jobs, live}
use Rattle.desk.specs.declared.Desk.{Desk}
use Rattle.std.specs.Prelude.{Ok}
use Rattle.answers.specs.Answers.{first_of}
use Rattle.answers.proofs.Answers.{told_yes}
use Rattle.desk.specs.Calls.{list_lines, counted_of}
use Rattle.desk.proofs.Asking.{asked_once}
use Rattle.desk.proofs.Undated.{asked_undated_once}
use Rattle.questions.proofs.Meshes.{asked_mesh_once}
use Rattle.questions.proofs.Whys.{explained_once}
use Rattle.desk_c.specs.declared.Answer.{Answer}
use Rattle.desk_c.specs.declared.Reason.{Reason}
use Rattle.desk_c.specs.Flat.{flat_answer, flat_why, AskedFlat, AskedMeshFlat, AskedUndatedFlat, WhyFlat}

-- no more jobs are listed than there are places
pub few_counted : (d : Desk) (size count : ℕ) → length d.ledger.table.jobs ≡ most_jobs → counted_of d size ≡ Ok count → count ≤ most_jobs
unfolding counted_of
few_counted d size count long e =
    let table = d.ledger.table in
    let counts = (told_yes (first_of (list_lines d size)) (length (live table)) count e).1 in
    omega (arith, long, counts, sym (length-append (take table.count table.jobs) (drop table.count table.jobs)) ∙ ap length (take-append-drop table.count table.jobs))

-- TWO OUTCOMES THAT THE CONTRACT OF ASKING ALLOWS ARE THE SAME
pub asked_flat_once : (d : Desk) (number work lead : ℕ) (r s : Answer) → AskedFlat d number work lead r → AskedFlat d number work lead s → r ≡ s
asked_flat_once d number work lead r s a b =
    a.flat ∙ ap flat_answer (asked_once d number work lead a.answer b.answer a.asked b.asked) ∙ sym b.flat

-- the same of asking with a mesh
pub asked_mesh_flat_once : (d : Desk) (s : List ℕ) (size number lead : ℕ) (q r : Answer) → AskedMeshFlat d s size number lead q → AskedMeshFlat d s size number lead r
    → q ≡ r
asked_mesh_flat_once d s size number lead q r a b =
    a.flat ∙ ap flat_answer (asked_mesh_once d s size number lead a.answer b.answer a.asked b.asked) ∙ sym b.flat

-- and with no date
pub asked_undated_flat_once : (d : Desk) (number work : ℕ) (q r : Answer) → AskedUndatedFlat d number work q → AskedUndatedFlat d number work r → q ≡ r
asked_undated_flat_once d number work q r a b =
    a.flat ∙ ap flat_answer (asked_undated_once d number work a.answer b.answer a.asked b.asked) ∙ sym b.flat

-- and of what is told
pub why_flat_once : (d : Desk) (number work lead : ℕ) (q r : Reason) → WhyFlat d number work lead q → WhyFlat d number work lead r → q ≡ r
why_flat_once d number work lead q r a b =
    a.flat ∙ ap flat_why (explained_once d number work lead a.why b.why a.explained b.explained) ∙ sym b.flat
