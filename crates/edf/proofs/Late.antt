-- What becomes of work that a step makes late: a job stays, a piece gives way to the next.
use mathlib.Core.Path.{◌≡◌, ap, subst}
use mathlib.Core.Logic.{◌⊎◌, inl, inr}
use mathlib.Core.List.{map}
use Prim.Native.Nat.{ℕ, suc, ◌+◌, ◌-◌, ◌≤◌, ◌<◌}
use native.Mathlib.Omega.{arith}
use Rattle.lists.specs.Lists.{Some}
use Rattle.edf.specs.Book.{Plan, Feed, Book, Who, job}
use Rattle.edf.specs.Releases.{since}
use Rattle.edf.specs.Step.{runner, serve_feed, serve, turned, turn_feed, turn, step_by, step}
use Rattle.edf.specs.Order.{JobInOrder, InOrder}
use Rattle.edf.specs.Kept.{LiveJob, Live, Current}
use Rattle.lists.proofs.Lists.{each_at, some_imp, some_pick, some_map}
use Rattle.edf.proofs.Demand.{turned_over}
use Rattle.edf.proofs.Follow.{Free, ran_now, job_step}
use Rattle.edf.proofs.Service.{step_clock, released_step, fresh_piece}

-- A JOB THAT A STEP MAKES LATE STAYS with what it owes, and the book is then out of order
pub late_job_stays : (b : Book) (n d o : ℕ) → InOrder b → Live n d o b → ran_now b (job n) < o → d ≤ suc b.clock
    → Live n d (o - ran_now b (job n)) (step b) × (InOrder (step b) → ⊥)
late_job_stays b n d o ord l h late = go (job_step b n d o ord l)
  where
    out : Live n d (o - ran_now b (job n)) (step b) → InOrder (step b) → ⊥
    out k i =
        let (j, e, m) = some_pick (LiveJob n d (o - ran_now b (job n))) (step b).jobs k in
        omega (arith, (each_at (JobInOrder (step b).clock) j (step b).jobs i.jobs m).ahead, e.1, step_clock b)

    go : Live n d (o - ran_now b (job n)) (step b) ⊎ (Free n (step b) × (o ≡ ran_now b (job n))) → Live n d (o - ran_now b (job n)) (step b) × (InOrder (step b) → ⊥)
    go (inl k) = (k, out k)
    go (inr z) = absurd (omega (arith, z.1))

-- A LATE PIECE GIVES WAY to the next: at a release the new piece stands there with its whole work, whatever the old one owed
pub late_piece_gives_way : (b : Book) (n : ℕ) (p : Plan) → Some (λ f. (f.position ≡ n) × (f.plan ≡ p)) b.feeds → since p (suc b.clock) ≡ 0
    → Current n (suc b.clock + p.lead) p.work (step b)
late_piece_gives_way b n p m z =
    let f : Feed = record { position = n; plan = p; owes = 0 } in
    let z' : since p (step b).clock ≡ 0 = rw step_clock z in
    subst (λ t. Current n (t + p.lead) p.work (step b)) (step_clock b) (fresh_piece (step b) f z' (released_step b f m z))

-- and where its deadline comes before the next release, it owes nothing from its deadline on
pub late_piece_is_over : (b : Book) (n : ℕ) (p : Plan) → Some (λ f. (f.position ≡ n) × (f.plan ≡ p)) b.feeds → 1 ≤ since p (suc b.clock) → p.lead ≤ since p (suc b.clock)
    → Some (λ f. ((f.position ≡ n) × (f.plan ≡ p)) × (f.owes ≡ 0)) (step b).feeds
unfolding step step_by turn serve
late_piece_is_over b n p m h k =
    some_map (λ f. ((f.position ≡ n) × (f.plan ≡ p)) × (f.owes ≡ 0)) (turn_feed t') (map (serve_feed g) b.feeds)
    (some_map (λ f. ((f.position ≡ n) × (f.plan ≡ p)) × (turned t' f ≡ 0)) (serve_feed g) b.feeds
    (some_imp (λ f. (f.position ≡ n) × (f.plan ≡ p)) (λ f. ((f.position ≡ n) × (f.plan ≡ p)) × (turned t' (serve_feed g f) ≡ 0))
    (λ f e. (e, turned_over t' (serve_feed g f) (omega (arith, ap (λ x. since x t') e.1)) (omega (arith, ap (λ x. since x t') e.1, ap (λ x. x.lead) e.1))))
    b.feeds
    m))
  where
    g : Who
    g = (runner b).who

    t' : ℕ
    t' = suc b.clock
