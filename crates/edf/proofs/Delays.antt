-- Ending a job or resting a piece delays nobody else.
use mathlib.Core.Path.{◌≡◌, refl, sym, ap, ◌∙◌, subst}
use mathlib.Core.Logic.{◌⊎◌, inl, inr}
use mathlib.Core.Bool.{true, not, cond}
use Prim.Native.Nat.{ℕ, ◌≤◌}
use native.Mathlib.Nat.{le_refl}
use native.Mathlib.Omega.{arith}
use lib.Dec.{eqb}
use Rattle.lists.specs.Lists.{eq, Each, Some, keep}
use Rattle.edf.specs.Book.{Feed, Job, Book, Who, job}
use Rattle.edf.specs.Pieces.{Piece, job_piece, current_piece, later_piece, at_hand}
use Rattle.edf.specs.Order.{InOrder}
use Rattle.edf.specs.Calls.{ending, rest_feed, resting}
use Rattle.edf.specs.Load.{Sound, FeedLess, JobLess}
use Rattle.edf.specs.Finish.{LessAlike, WorkOf, Wanted, CurrentAt, Finishes, FinishesWithin}
use Rattle.lists.proofs.Lists.{each, each_imp, each_keep, each_self, some_imp, some_get, some_pick, some_map, some_keep, some_once}
use Rattle.lists.proofs.Pairs.{pairs_of_map}
use Rattle.lists.proofs.Tests.{eqb_elim, eq_refl}
use Rattle.edf.proofs.LessLoad.{jobs_are_less, feeds_are_less}
use Rattle.edf.proofs.Calls.{ending_is_sound, resting_is_sound}
use Rattle.edf.proofs.Wanted.{hand_either, hand_of_jobs, hand_of_feeds}
use Rattle.edf.proofs.FinishOnce.{finishes_is_wanted}
use Rattle.edf.proofs.Finish.{nobody_finishes_later}

-- in order, a number tells one job, and so one deadline
one_deadline : (b : Book) → InOrder b → Each (λ j. Each (λ k. j.number ≡ k.number → j.due ≡ k.due) b.jobs) b.jobs
one_deadline b o =
    each_imp (λ j. Some (λ x. x ≡ j) b.jobs) (λ j. Each (λ k. j.number ≡ k.number → j.due ≡ k.due) b.jobs)
    (λ j m. each_imp (λ k. Some (λ x. x ≡ k) b.jobs) (λ k. j.number ≡ k.number → j.due ≡ k.due) (λ k l e. same_job j k m l e) b.jobs (each_self b.jobs))
    b.jobs
    (each_self b.jobs)
  where
    weight : (j k x : Job) → j.number ≡ k.number → x ≡ k → 1 ≤ eq j.number x.number
    weight j k x e d = omega (arith, ap (λ n. eq j.number n) (e ∙ sym (ap (λ y. y.number) d)), eq_refl j.number)

    same_job : (j k : Job) → Some (λ x. x ≡ j) b.jobs → Some (λ x. x ≡ k) b.jobs → j.number ≡ k.number → j.due ≡ k.due
    same_job j k m l e =
        some_get (λ x. (x ≡ j) × (x ≡ k)) (j.due ≡ k.due) (λ x d. ap (λ y. y.due) (sym d.0 ∙ d.1)) b.jobs
        (some_once (λ x. eq j.number x.number) (λ x. x ≡ j) (λ x. x ≡ k) (λ x. weight j j x refl) (λ x. weight j k x e) b.jobs (o.numbers j.number) m l)

pub ending_is_less : (b : Book) (m : ℕ) → InOrder b → LessAlike (ending m b) b
unfolding ending
ending_is_less b m o =
    record {
      less = record { clock = refl; feeds = feeds_are_less b; jobs = stays (λ j. Some (JobLess j) b.jobs) (jobs_are_less b) };
      due = stays (λ j. Each (λ k. j.number ≡ k.number → j.due ≡ k.due) b.jobs) (one_deadline b o);
    }
  where
    stays : (P : Job → Type 0) → Each P b.jobs → Each P (keep (λ j. not (eqb m j.number)) b.jobs)
    stays P ps = each_keep P (λ j. not (eqb m j.number)) b.jobs (each_imp P (λ j. not (eqb m j.number) ≡ true → P j) (λ j p e. p) b.jobs ps)

rested_is_less : (p : ℕ) (f : Feed) → FeedLess (rest_feed p f) f
rested_is_less p f =
    record {
      position = refl;
      plan = refl;
      owes = eqb_elim (λ x. cond x 0 f.owes ≤ f.owes) p f.position (λ e. omega arith) (λ e. le_refl f.owes);
    }

pub resting_is_less : (b : Book) (p : ℕ) → InOrder b → LessAlike (resting p b) b
unfolding resting
resting_is_less b p o =
    record {
      less = record { clock = refl; feeds = pairs_of_map FeedLess (rest_feed p) b.feeds (each (λ f. FeedLess (rest_feed p f) f) (rested_is_less p) b.feeds); jobs = jobs_are_less b };
      due = one_deadline b o;
    }

ending_leaves : (b : Book) (m : ℕ) (w : Who) (D : ℕ) → (w ≡ job m → ⊥) → Wanted w D b → Wanted w D (ending m b)
unfolding Wanted ending
ending_leaves b m w D other (inr x) = inr x
ending_leaves b m w D other (inl x) = inl (go (hand_either Is b x))
  where
    Is : Piece → Type 0
    Is p = WorkOf w D p × (1 ≤ p.owes)

    stays : (j : Job) → Is (job_piece b.clock j) → Is (job_piece b.clock j) × (not (eqb m j.number) ≡ true)
    stays j e = (e, eqb_elim (λ x. not x ≡ true) m j.number (λ p. absurd (other (sym e.0.who ∙ ap job (sym p)))) (λ p. refl))

    go : Some (λ j. Is (job_piece b.clock j)) b.jobs ⊎ Some (λ f. Is (current_piece b.clock f)) b.feeds → Some Is (at_hand (ending m b))
    go (inl s) =
        hand_of_jobs Is (ending m b)
        (some_keep (λ j. Is (job_piece b.clock j)) (λ j. not (eqb m j.number)) b.jobs
        (some_imp (λ j. Is (job_piece b.clock j)) (λ j. Is (job_piece b.clock j) × (not (eqb m j.number) ≡ true)) stays b.jobs s))
    go (inr s) = hand_of_feeds Is (ending m b) s

-- ENDING A JOB DELAYS NOBODY else
pub ending_delays_nobody : (b : Book) (m : ℕ) → Sound b → (w : Who) (D k : ℕ) → (w ≡ job m → ⊥) → Finishes w D k b
    → FinishesWithin w D k (ending m b)
ending_delays_nobody b m s w D k other f =
    nobody_finishes_later (ending m b) b (ending_is_sound b m s) s (ending_is_less b m s.order) w D k (ending_leaves b m w D other (finishes_is_wanted k b w D s f)) f

resting_leaves : (b : Book) (p : ℕ) (w : Who) (D : ℕ) → (CurrentAt p w D b → ⊥) → Wanted w D b → Wanted w D (resting p b)
unfolding Wanted resting CurrentAt
resting_leaves b p w D other (inr (k, x)) = inr (k, some_map (λ f. WorkOf w D (later_piece b.clock k f) × (1 ≤ f.plan.work)) (rest_feed p) b.feeds x)
resting_leaves b p w D other (inl x) = inl (go (hand_either Is b x))
  where
    Is : Piece → Type 0
    Is q = WorkOf w D q × (1 ≤ q.owes)

    stays : (f : Feed) → Is (current_piece b.clock f) → Some (λ g. g ≡ f) b.feeds → 1 ≤ (rest_feed p f).owes
    stays f e m =
        eqb_elim (λ x. 1 ≤ cond x 0 f.owes) p f.position
        (λ z. absurd
        (other
        (some_imp (λ g. g ≡ f) (λ g. (g.position ≡ p) × WorkOf w D (current_piece b.clock g)) (λ g d. subst (λ g. (g.position ≡ p) × WorkOf w D (current_piece b.clock g)) (sym d) (sym z, e.0)) b.feeds m)))
        (λ z. e.1)

    go : Some (λ j. Is (job_piece b.clock j)) b.jobs ⊎ Some (λ f. Is (current_piece b.clock f)) b.feeds → Some Is (at_hand (resting p b))
    go (inl s) = hand_of_jobs Is (resting p b) s
    go (inr s) =
        let (f, e, m) = some_pick (λ f. Is (current_piece b.clock f)) b.feeds s in
        let rested : Is (current_piece b.clock (rest_feed p f)) = (record { who = e.0.who; due = e.0.due }, stays f e m) in
        hand_of_feeds Is (resting p b)
        (some_map (λ g. Is (current_piece b.clock g)) (rest_feed p) b.feeds
        (some_imp (λ g. g ≡ f) (λ g. Is (current_piece b.clock (rest_feed p g))) (λ g d. subst (λ g. Is (current_piece b.clock (rest_feed p g))) (sym d) rested) b.feeds m))

-- RESTING A PIECE DELAYS NOBODY else
pub resting_delays_nobody : (b : Book) (p : ℕ) → Sound b → (w : Who) (D k : ℕ) → (CurrentAt p w D b → ⊥) → Finishes w D k b
    → FinishesWithin w D k (resting p b)
resting_delays_nobody b p s w D k other f =
    nobody_finishes_later (resting p b) b (resting_is_sound b p s) s (resting_is_less b p s.order) w D k (resting_leaves b p w D other (finishes_is_wanted k b w D s f)) f
