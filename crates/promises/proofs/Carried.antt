-- An opening gets 10 exactly if some stretch of ticks wants more than it has.
use mathlib.Core.Path.{◌≡◌, refl, sym, subst, ◌∙◌}
use mathlib.Core.Bool.{Bool, true, false}
use mathlib.Core.List.{List, [], ◌∷◌, ◌++◌}
use Prim.Native.Nat.{ℕ, ◌≤◌, ◌<◌}
use native.Mathlib.Omega.{arith}
use borrow.Author.Tests.{not-true}
use Rattle.ticks.specs.Ticks.{ticks}
use Rattle.feeds.specs.Round.{periods, round_of, demand}
use Rattle.feeds.specs.Lines.{feed_lines, feeds_in}
use Rattle.feeds.proofs.Stretches.{carries_lacks}
use Rattle.answers.specs.declared.Refusal.{Refusal}
use Rattle.answers.specs.declared.Refusal.TheVariants.{TooMuchLoad}
use Rattle.std.specs.Prelude.{Ok, Err}
use Rattle.answers.specs.Answers.{Line, first_of}
use Rattle.answers.proofs.Answers.{goes_on_lem, no_line, yes_is_not_no, from_later}
use Rattle.edf.specs.Load.{Light}
use Rattle.ledger.proofs.InOrder.{book_light, demand_of}
use Rattle.desk.specs.Opening.{front_lines, opened_of, opened_shared_of}
use Rattle.promises.specs.Runs.{Carried, nothing, share, Opening, answer_with, answer_to}
use Rattle.promises.specs.Exact.{TenIfSomeStretchWantsMore}
use Rattle.promises.proofs.Openings.{opening_passing}

-- the last line's own refusal
last_holds : (l : Line) (x : Refusal) → first_of (l ∷ []) ≡ Err x → l.holds ≡ true
last_holds l x e = go l.holds refl
  where
    go : (b : Bool) → l.holds ≡ b → l.holds ≡ true
    go true h = h
    go false h = absurd (yes_is_not_no x (sym (goes_on_lem l [] (Ok tt) h no_line) ∙ e))

-- of the feeds' own three lines only the last gives 10
feeds_want_more : (xs : List ℕ) (charge : ℕ) → first_of (feed_lines (ticks charge) (feeds_in xs)) ≡ Err TooMuchLoad → (L : ℕ) × (L < demand (ticks charge) L (feeds_in xs))
feeds_want_more xs charge e =
    let outside = from_later _ _ TooMuchLoad e (λ q. omega (arith, q)) in
    let long = from_later _ _ TooMuchLoad outside (λ q. omega (arith, q)) in
    let fs = feeds_in xs in
    carries_lacks (ticks charge) (round_of (periods fs)) fs (not-true _ (last_holds _ TooMuchLoad long))

-- lines 12, 8, 3 and 18 do not
past_the_front : (xs : List ℕ) (start charge : ℕ) (ls : List Line) → first_of (front_lines xs start charge ++ ls) ≡ Err TooMuchLoad → first_of ls ≡ Err TooMuchLoad
past_the_front xs start charge ls e =
    let whole = from_later _ _ TooMuchLoad e (λ q. omega (arith, q)) in
    let many = from_later _ _ TooMuchLoad whole (λ q. omega (arith, q)) in
    let past = from_later _ _ TooMuchLoad many (λ q. omega (arith, q)) in
    from_later _ _ TooMuchLoad past (λ q. omega (arith, q))

ten_wants_more : (o : Opening) → (answer_to o).verdict ≡ Err TooMuchLoad → (L : ℕ) × (L < demand (ticks o.charge) L (feeds_in o.feeds))
unfolding opened_of opened_shared_of
ten_wants_more o = go o.carried
  where
    go : (c : Carried) → (answer_with c o.feeds o.start o.charge).verdict ≡ Err TooMuchLoad → (L : ℕ) × (L < demand (ticks o.charge) L (feeds_in o.feeds))
    go nothing e = feeds_want_more o.feeds o.charge (past_the_front o.feeds o.start o.charge _ e)
    go (share p q) e =
        feeds_want_more o.feeds o.charge
        (from_later _ _ TooMuchLoad (past_the_front o.feeds o.start o.charge _ e) (λ k. omega (arith, k)))

yes_wants_no_more : (o : Opening) → (answer_to o).verdict ≡ Ok tt → (L : ℕ) → demand (ticks o.charge) L (feeds_in o.feeds) ≤ L
unfolding Light
yes_wants_no_more o y L =
    let p = opening_passing o y in
    subst (◌≤ L) (demand_of (ticks o.charge) L 1 (feeds_in o.feeds) p.within) (book_light (ticks o.charge) 1 (feeds_in o.feeds) p L)

pub ten_if_some_stretch_wants_more : TenIfSomeStretchWantsMore
ten_if_some_stretch_wants_more = record { ten = ten_wants_more; yes = yes_wants_no_more }
