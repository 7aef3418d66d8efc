-- `serving::foremost_job` meets its contract: no job, or the first of them.
use mathlib.Core.Path.{◌≡◌, sym, ap, subst, ◌∙◌}
use mathlib.Core.List.{[], ◌∷◌}
use lib.ListN.{drop}
use Rattle.lists.specs.Lists.{Each}
use Rattle.lists.proofs.Places.{next, no_more}
use Rattle.jobs.specs.declared.Job.{Job}
use Rattle.jobs.specs.Jobs.{live}
use Rattle.jobs.specs.Served.{Owing}
use Rattle.jobs.specs.Sorted.{Sorted}
use Rattle.serving.specs.Front.{foremost_over, job_fronts, first_of_two}
use Rattle.serving.proofs.Front.{first_job_is_foremost}
use Rattle.serving.proofs.foremost_job.Goals as goal

pub returns-in-Some : goal.returns-in-Some
returns-in-Some c =
    let js = live c.args.table in
    let piece = c.args.piece in
    let first : Job = c.in-Some.job.now in
    let all : js ≡ first ∷ drop 1 js = next js 0 first c.in-Some.ensures.item.3.0 ∙ ap (λ j. j ∷ drop 1 js) (sym c.in-Some.ensures.item.1) in
    c.first_of.ensures
    ∙ ap (λ p. first_of_two p piece) c.of_job.ensures
    ∙ sym (ap (λ ks. foremost_over (job_fronts ks) piece) all ∙ first_job_is_foremost first (drop 1 js) piece (subst (Each Owing) all c.requires.1) (subst Sorted all c.requires.2))

pub returns-in-None : goal.returns-in-None
unfolding foremost_over
returns-in-None c =
    let none : live c.args.table ≡ [] = no_more (live c.args.table) 0 c.in-None.ensures.item.3 in
    sym (ap (λ js. foremost_over (job_fronts js) c.args.piece) none)
