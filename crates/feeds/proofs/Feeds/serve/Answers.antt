-- `feeds::Feeds::serve` meets its contract: one tick less is owed at the position.
use mathlib.Core.Path.{◌≡◌, sym, ap, ◌∙◌}
use Prim.Native.Nat.{◌+◌, ◌-◌, ◌≤◌}
use native.Mathlib.Omega.{arith}
use lib.ListN.{length, get_or, set}
use Rattle.ticks.specs.Ticks.{ticks}
use Rattle.feeds.specs.Feeds.{no_feed, in_use, feeds_of, owing}
use Rattle.feeds.specs.Pieces.{owes_at, served}
use Rattle.feeds.proofs.Passing.{tidy_many}
use Rattle.feeds.proofs.Positions.{owes_some, owes_place, served_place}
use Rattle.feeds.proofs.Feeds.serve.Goals as goal

pub owing-requires : goal.owing-requires
owing-requires c =
    let there : (1 ≤ c.args.position) × (c.args.position ≤ c.args.self.count) =
    let many : length (in_use c.args.self) ≡ c.args.self.count = tidy_many c.args.self c.requires.0 in
    let is = owes_some c.args.position 1 (in_use c.args.self) (λ e. omega (arith, c.requires.1)) in
    (is.0, omega arith) in
    let is = there in
    (c.requires.0, omega arith, omega arith)

pub returns : goal.returns
returns c =
    let there : (1 ≤ c.args.position) × (c.args.position ≤ c.args.self.count) =
    let many : length (in_use c.args.self) ≡ c.args.self.count = tidy_many c.args.self c.requires.0 in
    let is = owes_some c.args.position 1 (in_use c.args.self) (λ e. omega (arith, c.requires.1)) in
    (is.0, omega arith) in
    let less : c.one_less.result
    ≡ ticks ((get_or (in_use c.args.self) (c.args.position - 1) no_feed).owes.0 - 1) =
    let fs = in_use c.args.self in
    let position = c.args.position in
    let is = there in
    let many : length fs ≡ c.args.self.count = tidy_many c.args.self c.requires.0 in
    let at : position ≡ 1 + (position - 1) = omega arith in
    let owes : c.owes_at.result.0 ≡ owes_at position 1 fs = ap (λ l. l.0) c.owes_at.ensures in
    let place : owes_at position 1 fs ≡ (get_or fs (position - 1) no_feed).owes.0
    = ap (λ p. owes_at p 1 fs) at ∙ owes_place (position - 1) 1 fs (omega arith) in
    c.one_less.ensures ∙ ap (λ n. ticks (n - 1)) (owes ∙ place) in
    let fs = in_use c.args.self in
    let position = c.args.position in
    let is = there in
    let many : length fs ≡ c.args.self.count
    = tidy_many c.args.self c.requires.0 in
    let at : position ≡ 1 + (position - 1) = omega arith in
    let new : served position 1 fs ≡ set fs (position - 1) (owing (ticks ((get_or fs (position - 1) no_feed).owes.0 - 1)) (get_or fs (position - 1) no_feed))
    = ap (λ p. served p 1 fs) at ∙ served_place (position - 1) 1 fs (omega arith) in
    c.owing.ensures
    ∙ ap (λ n. feeds_of (set fs (position - 1) (owing n (get_or fs (position - 1) no_feed)))) less
    ∙ sym (ap feeds_of new)
