-- `rehearsal::Session::read` meets its contract: the next line up to its newline; one without is bad.
use Rattle.std.proofs.Common.{◌≡◌, ℕ, List, Option, Some, refl, sym, arith, ◌∙◌}
use Rattle.text.specs.Fields.{line_end, newline}
use Rattle.text.proofs.Fields.{Stands, found_at}
use Rattle.rehearsal.specs.Hearing.{HeardTo}
use Rattle.rehearsal.proofs.Session.read.Goals as goal

-- where the line ends
ends : (s : List ℕ) (from end : ℕ) (found : Option ℕ) → found ≡ line_end s from → found ≡ Some end → Stands newline s from end
ends s from end found e h = found_at newline _ _ _ (sym e ∙ h)

pub slice_bounds-read_line-count : goal.slice_bounds-read_line-count
slice_bounds-read_line-count c = (ends _ _ _ _ c.line_end.ensures c.in-Some.is).after

pub slice_bounds-read_line-start : goal.slice_bounds-read_line-start
slice_bounds-read_line-start c =
    let there = ends _ _ _ _ c.line_end.ensures c.in-Some.is in
    omega (arith, there.after, there.inside)

pub slice_bounds-read_line-end : goal.slice_bounds-read_line-end
slice_bounds-read_line-end c = omega (arith, (ends _ _ _ _ c.line_end.ensures c.in-Some.is).inside)

pub returns : goal.returns
unfolding HeardTo
returns c = record { heard = rw (sym c.line_end.ensures ∙ c.in-Some.is) (rw c.read_line.ensures at c.hear.ensures, refl); counted = refl }

pub returns-in_default : goal.returns-in_default
unfolding HeardTo
returns-in_default c = record { heard = rw (sym c.line_end.ensures ∙ c.in_default.is) (c.bad.ensures, refl); counted = refl }
