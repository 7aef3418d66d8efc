-- What either opening hands back, with a share or without.
use mathlib.Core.Path.{◌≡◌, refl, ap, ◌∙◌}
use Rattle.ticks.specs.Ticks.{ticks, instant}
use Rattle.feeds.specs.Lines.{feeds_in, Passing}
use Rattle.shares.specs.Shares as shares
use Rattle.answers.specs.declared.Refusal.{Refusal}
use Rattle.answers.specs.Verdicts.{Verdict}
use Rattle.std.specs.Prelude.{Ok, Err}
use Rattle.answers.specs.Answers.{on_yes}
use Rattle.edf.specs.Load as load
use Rattle.ledger.specs.Books.{book_feeds}
use Rattle.desk.specs.declared.Desk.{Desk}
use Rattle.desk.specs.State.{empty, book, sharing, Good}
use Rattle.desk.specs.Opening.{opened_desk, opened_of, opened_shared_of}
use Rattle.desk.proofs.Opening.{opening_passes, shared_passes}
use Rattle.desk.proofs.Reachable.{opened_book}
use Rattle.desk.proofs.Good.{opening_is_good, shared_opening_is_good}
use Rattle.promises.specs.Runs.{Carried, nothing, share, Opening, answer_with, answer_to, opened}
use Rattle.promises.specs.Undated.{given}

pub opening_good : (o : Opening) → Good (opened o)
opening_good o = go o.carried
  where
    go : (c : Carried) → Good (answer_with c o.feeds o.start o.charge).desk
    go nothing = opening_is_good o.feeds o.start o.charge
    go (share p q) = shared_opening_is_good o.feeds o.start o.charge p q

-- the desk that a yes hands back
abbrev pub laid_out : Opening → Desk
laid_out o = opened_desk (feeds_in o.feeds) (ticks o.charge) (instant o.start)

pub opening_yes : (o : Opening) → (answer_to o).verdict ≡ Ok tt → opened o ≡ sharing (given o.carried) (laid_out o)
unfolding opened_of opened_shared_of
opening_yes o = go o.carried
  where
    go : (c : Carried) → (answer_with c o.feeds o.start o.charge).verdict ≡ Ok tt
        → (answer_with c o.feeds o.start o.charge).desk ≡ sharing (given c) (laid_out o)
    go nothing y = ap (λ v. on_yes v (laid_out o) empty) y
    go (share p q) y = ap (λ v. on_yes v (sharing (shares.share p q) (laid_out o)) empty) y

-- and a refusal
pub opening_no : (o : Opening) (x : Refusal) → (answer_to o).verdict ≡ Err x → opened o ≡ empty
unfolding opened_of opened_shared_of
opening_no o x = go o.carried
  where
    go : (c : Carried) → (answer_with c o.feeds o.start o.charge).verdict ≡ Err x
        → (answer_with c o.feeds o.start o.charge).desk ≡ empty
    go nothing n = ap (λ v. on_yes v (laid_out o) empty) n
    go (share p q) n = ap (λ v. on_yes v (sharing (shares.share p q) (laid_out o)) empty) n

-- what is read of either
module _ {A : Type 0} (f : Desk → A) (a : A) (o : Opening) where
  pub either_opening : f empty ≡ a → f (sharing (given o.carried) (laid_out o)) ≡ a → f (opened o) ≡ a
  either_opening e h = go (answer_to o).verdict refl
    where
      go : (v : Verdict) → (answer_to o).verdict ≡ v → f (opened o) ≡ a
      go (Ok tt) y = ap f (opening_yes o y) ∙ h
      go (Err x) n = ap f (opening_no o x n) ∙ e

module _ (o : Opening) (y : (answer_to o).verdict ≡ Ok tt) where
  -- an opening that is not refused, read as a book
  pub opening_book : book (opened o) ≡ load.opened o.start (book_feeds (ticks o.charge) 1 (feeds_in o.feeds))
  opening_book = ap book (opening_yes o y) ∙ opened_book (feeds_in o.feeds) (ticks o.charge) (instant o.start)

  -- its feeds pass
  pub opening_passing : Passing (ticks o.charge) (feeds_in o.feeds)
  unfolding opened_of opened_shared_of
  opening_passing = go o.carried y
    where
      go : (c : Carried) → (answer_with c o.feeds o.start o.charge).verdict ≡ Ok tt → Passing (ticks o.charge) (feeds_in o.feeds)
      go nothing e = (opening_passes o.feeds o.start o.charge e).0
      go (share p q) e = (shared_passes o.feeds o.start o.charge p q e).1
