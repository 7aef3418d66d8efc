-- The foremost piece that the code finds is the runner of the book.
use mathlib.Core.Path.{◌≡◌, refl, sym, ap, subst, ◌∙◌}
use mathlib.Core.Bool.{Bool, true, false, cond, ◌&&◌, ◌||◌}
use mathlib.Core.List.{List, [], ◌∷◌, ◌++◌, map}
use Prim.Native.Nat.{ℕ, suc, ◌+◌, ◌<◌}
use native.Mathlib.Omega.{arith}
use lib.Dec.{T, ltb, leb, eqb}
use lib.ListN.{length}
use borrow.Author.Tests.{eq-eqb, le-leb, lt-ltb}
use Rattle.lists.specs.Lists.{Each}
use Rattle.lists.proofs.Tests.{ltb_elim, both, both_made}
use Rattle.ticks.specs.declared.Instant.{Instant}
use Rattle.ticks.specs.declared.Length.{Length}
use Rattle.ticks.specs.Ticks.{instant}
use Rattle.feeds.specs.declared.Feed.{Feed}
use Rattle.jobs.specs.declared.Job.{Job}
use Rattle.jobs.specs.Served.{Owing}
use Rattle.jobs.specs.Sorted.{Before, Sorted}
use Rattle.answers.specs.declared.Who.TheVariants as who
use Rattle.edf.specs.Book.{Book}
use Rattle.edf.specs.Pieces.{Piece as BookPiece, job_piece, current_piece}
use Rattle.edf.specs.Step.{kind, number_of, first, sooner, goes_before, foremost, runner}
use Rattle.edf.proofs.Runner.{sooner_trans}
use Rattle.ledger.specs.Books.{book_feeds, book_job, book_at, who_of}
use Rattle.ledger.proofs.Books.{who_back}
use Rattle.ledger.proofs.Pieces.{due_read}
use Rattle.serving.specs.declared.Piece.{Piece}
use Rattle.serving.specs.Front.{front_of, piece_of, sooner_of, goes_before_of, first_of_two, nobody_front, job_front, feed_front, foremost_over, job_fronts, feed_fronts}

-- who goes first does not turn on from when on a piece is ready
goes_alike : (p q : BookPiece) → goes_before (piece_of (front_of p)) (piece_of (front_of q)) ≡ goes_before p q
unfolding goes_before sooner
goes_alike p q =
    λ i. ltb 0 p.owes
    && (eqb q.owes 0
    || first p.due q.due
    (first (kind (who_back p.who i)) (kind (who_back q.who i))
    (leb (number_of (who_back p.who i)) (number_of (who_back q.who i)))))

-- a job that stands before another in the table goes before it
stands_sooner : (j k : Job) → Before j k → sooner_of (job_front j) (job_front k) ≡ true
unfolding sooner first
stands_sooner j k b =
    ltb_elim (λ x. x || (eqb j.deadline.0 k.deadline.0 && leb j.number k.number) ≡ true) j.deadline.0 k.deadline.0
    (λ h. refl)
    (λ h. let e : j.deadline.0 ≡ k.deadline.0 = omega (arith, h, b.deadline) in
    λ i. eq-eqb j.deadline.0 k.deadline.0 e i && le-leb j.number k.number (omega (arith, b.number e)) i)

-- what the later of two jobs goes before, the sooner goes before too
goes_too : (p q r : Piece) → 0 < p.owes.0 → sooner_of p q ≡ true → goes_before_of q r ≡ true → goes_before_of p r ≡ true
unfolding goes_before
goes_too p q r some s g =
    both_made (ltb 0 p.owes.0) (eqb r.owes.0 0 || sooner_of p r) (lt-ltb 0 p.owes.0 some)
    (go (eqb r.owes.0 0) (both (ltb 0 q.owes.0) (eqb r.owes.0 0 || sooner_of q r) g).1)
  where
    holds : (b : Bool) → T b → b ≡ true
    holds true t = refl
    holds false t = absurd t

    go : (e : Bool) → e || sooner_of q r ≡ true → e || sooner_of p r ≡ true
    go true h = refl
    go false h = holds (sooner_of p r) (sooner_trans (piece_of p) (piece_of q) (piece_of r) (subst T (sym s) tt) (subst T (sym h) tt))

-- it goes before it
goes_first : (p q : Piece) → 0 < p.owes.0 → sooner_of p q ≡ true → goes_before_of p q ≡ true
unfolding goes_before
goes_first p q some s = both_made (ltb 0 p.owes.0) (eqb q.owes.0 0 || sooner_of p q) (lt-ltb 0 p.owes.0 some) (ap (eqb q.owes.0 0 ||◌) s ∙ any (eqb q.owes.0 0))
  where
    any : (b : Bool) → b || true ≡ true
    any true = refl
    any false = refl

-- of two jobs and a piece the sooner job or the piece goes first
skips : (p q r : Piece) → 0 < p.owes.0 → sooner_of p q ≡ true → first_of_two p (first_of_two q r) ≡ first_of_two p r
skips p q r some s = go (goes_before_of q r) refl
  where
    go : (b : Bool) → goes_before_of q r ≡ b → first_of_two p (cond b q r) ≡ first_of_two p r
    go true e = ap (λ b. cond b p q) (goes_first p q some s) ∙ sym (ap (λ b. cond b p r) (goes_too p q r some s e))
    go false e = refl

-- THE FIRST JOB OF THE TABLE GOES BEFORE ALL OTHERS
pub first_job_is_foremost : (j : Job) (js : List Job) (p : Piece) → Each Owing (j ∷ js) → Sorted (j ∷ js) → foremost_over (job_fronts (j ∷ js)) p ≡ first_of_two (job_front j) p
unfolding foremost_over
first_job_is_foremost j [] p o s = refl
first_job_is_foremost j (k ∷ ks) p o s =
    ap (first_of_two (job_front j)) (first_job_is_foremost k ks p o.1 s.1) ∙ skips (job_front j) (job_front k) p o.0 (stands_sooner j k s.0.0)

-- the last of the feeds is passed, and the best so far is the one of the two that goes first
pub last_passed : (t : Instant) (k : ℕ) (left : List Feed) (f : Feed) (best : Piece)
    → foremost_over (feed_fronts t k (left ++ (f ∷ []))) best ≡ foremost_over (feed_fronts t k left) (first_of_two (feed_front t (k + length left) f) best)
unfolding foremost_over
last_passed t k [] f best = ap (λ n. first_of_two (feed_front t n f) best) (omega arith)
last_passed t k (g ∷ gs) f best =
    let further : suc k + length gs ≡ k + suc (length gs) = omega arith in
    ap (first_of_two (feed_front t k g))
    (last_passed t (suc k) gs f best ∙ ap (λ n. foremost_over (feed_fronts t (suc k) gs) (first_of_two (feed_front t n f) best)) further)

front_cond : (b : Bool) (p q : BookPiece) → cond b (front_of p) (front_of q) ≡ front_of (cond b p q)
front_cond true p q = refl
front_cond false p q = refl

over_is : (ps qs : List BookPiece) → foremost_over (map front_of ps) (front_of (foremost qs)) ≡ front_of (foremost (ps ++ qs))
unfolding foremost_over foremost
over_is [] qs = refl
over_is (p ∷ ps) qs =
    ap (first_of_two (front_of p)) (over_is ps qs)
    ∙ ap (λ b. cond b (front_of p) (front_of (foremost (ps ++ qs)))) (goes_alike p (foremost (ps ++ qs)))
    ∙ front_cond (goes_before p (foremost (ps ++ qs))) p (foremost (ps ++ qs))

job_fronts_lem : (t : ℕ) (js : List Job) → job_fronts js ≡ map front_of (map (job_piece t) (map book_job js))
job_fronts_lem t [] = refl
job_fronts_lem t (j ∷ js) = ap (job_front j ∷◌) (job_fronts_lem t js)

feed_fronts_lem : (c : Length) (t : Instant) (k : ℕ) (fs : List Feed) → feed_fronts t k fs ≡ map front_of (map (current_piece t.0) (book_feeds c k fs))
feed_fronts_lem c t k [] = refl
feed_fronts_lem c t k (f ∷ fs) =
    λ i. record { who = who.Feed k; due = instant (due_read c f.plan t.0 i); owes = f.owes } ∷ feed_fronts_lem c t (suc k) fs i

append_none : (ps : List BookPiece) → ps ++ [] ≡ ps
append_none [] = refl
append_none (p ∷ ps) = ap (p ∷◌) (append_none ps)

-- the foremost feed
feeds_foremost : (c : Length) (t : Instant) (k : ℕ) (fs : List Feed)
    → foremost_over (feed_fronts t k fs) nobody_front ≡ front_of (foremost (map (current_piece t.0) (book_feeds c k fs)))
unfolding foremost
feeds_foremost c t k fs =
    ap (λ ps. foremost_over ps nobody_front) (feed_fronts_lem c t k fs)
    ∙ over_is (map (current_piece t.0) (book_feeds c k fs)) []
    ∙ ap (λ ps. front_of (foremost ps)) (append_none (map (current_piece t.0) (book_feeds c k fs)))

-- THE RUNNER
pub foremost_is_runner : (c : Length) (t : Instant) (fs : List Feed) (js : List Job)
    → foremost_over (job_fronts js) (foremost_over (feed_fronts t 1 fs) nobody_front) ≡ front_of (runner (book_at c t fs js))
unfolding runner
foremost_is_runner c t fs js =
    (λ i. foremost_over (job_fronts_lem t.0 js i) (feeds_foremost c t 1 fs i))
    ∙ over_is (map (job_piece t.0) (map book_job js)) (map (current_piece t.0) (book_feeds c 1 fs))

-- whose the foremost piece is runs
pub front_who : (b : Book) (p : Piece) → p ≡ front_of (runner b) → (runner b).who ≡ who_of p.who
front_who b p e = sym (ap (λ q. who_of q.who) e ∙ who_back (runner b).who)
