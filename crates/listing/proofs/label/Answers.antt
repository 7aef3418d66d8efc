-- `listing::label` meets its contract: the part that is handed back lies at the place, in the list that it names.
use mathlib.Core.Path.{ap}
use mathlib.Core.Logic.{⊎_elim}
use native.Mathlib.Omega.{arith}
use lib.ListN.{length}
use Rattle.listing.proofs.Labels.{Inside, label_inside}
use Rattle.listing.proofs.label.Goals.{in-Jobs, in-Feeds}
use Rattle.listing.proofs.label.Goals as goal

pub slice_bounds-result-end : goal.slice_bounds-result-end
slice_bounds-result-end c =
    let inside : Inside c.place-list.result c.args.job_labels.now c.args.feed_labels.now =
    rw c.place-list.ensures (label_inside c.args.runner _ _) in
    elim c.match-list.branch [
      | in-Jobs w ↦ ⊎_elim (λ h. omega (arith, h.1, ap (λ l. length l.now) w.labels-is)) (λ h. absurd (cc)) inside
      | in-Feeds w ↦ ⊎_elim (λ h. absurd (cc)) (λ h. omega (arith, h.1, ap (λ l. length l.now) w.labels-is)) inside
    ]
