-- `questions::ask_mesh` meets its contract: an ordinary ask, or stopped by line 13 or a line of the mesh.
use mathlib.Core.Path.{sym, subst, ◌∙◌}
use borrow.Author.Tests.{not-true, not-false}
use Rattle.mesh.proofs.Meshes as mesh
use Rattle.questions.specs.Meshes.{AskedMesh}
use Rattle.questions.proofs.Meshes.{mesh_out_of_order, mesh_refused, mesh_asked}
use Rattle.questions.proofs.ask_mesh.Goals as goal

pub returns-in-Ok : goal.returns-in-Ok
returns-in-Ok c =
    let (lines, is) = mesh.mesh_wants _ _ _ (sym c.read.ensures ∙ c.in-Ok.is) in
    mesh_asked _ _ _ _ _ _ _ lines is c.ask.ensures

pub returns-in-Err : goal.returns-in-Err
returns-in-Err c =
    let a = c.args in
    subst (AskedMesh a.desk a.head.now a.size a.number a.lead) (sym c.of.ensures)
    (mesh_out_of_order _ _ _ _ _ (sym c.in_order.ensures ∙ not-true _ c.if-not-in_order.true-raw))

pub returns-in-Err-2 : goal.returns-in-Err-2
returns-in-Err-2 c =
    let a = c.args in
    subst (AskedMesh a.desk a.head.now a.size a.number a.lead) (sym c.of-in-Err-2.ensures)
    (mesh_refused _ _ _ _ _ _ (sym c.in_order.ensures ∙ not-false _ c.if-not-in_order.false-raw) (mesh.mesh_refused _ _ _ (sym c.read.ensures ∙ c.in-Err.is)))
