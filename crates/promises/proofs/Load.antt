-- Less load never makes a yes a no.
use mathlib.Core.Path.{◌≡◌, refl, sym, ap, ◌∙◌, subst}
use mathlib.Core.Logic.{◌⊎◌, inl, inr, ⊎_elim}
use mathlib.Core.Bool.{true, not}
use mathlib.Core.List.{List, [], ◌∷◌, map}
use Prim.Native.Nat.{ℕ, suc, ◌+◌, ◌≤◌, ◌<◌}
use native.Mathlib.Omega.{arith}
use lib.ListN.{length, length-map}
use borrow.Author.Tests.{not-false, leb-false, lt-leb}
use Rattle.lists.specs.Lists.{eq, total, Some, Pairs}
use Rattle.lists.proofs.Lists.{each_imp, each_map, some_imp, some_map, total_map}
use Rattle.ticks.specs.declared.Length.{Length}
use Rattle.ticks.specs.Ticks.{ticks}
use Rattle.mesh.specs.Bands.{work_of}
use Rattle.mesh.specs.Meshes.{triangles_of, mesh_lines}
use Rattle.feeds.specs.declared.Feed.{Feed}
use Rattle.feeds.specs.Feeds.{in_use, plans_of}
use Rattle.feeds.specs.Lines.{feeds_in}
use Rattle.jobs.specs.declared.Job.{Job}
use Rattle.jobs.specs.Jobs.{most_jobs, lacks, times, live}
use Rattle.jobs.proofs.Numbers.{lacks_times, times_lacks}
use Rattle.jobs.proofs.Places.{live_count}
use Rattle.answers.specs.Verdicts.{Verdict}
use Rattle.std.specs.Prelude.{Ok, Err}
use Rattle.answers.specs.Answers.{first_of}
use Rattle.answers.proofs.Answers.{goes_on_lem, goes_past, no_line, yes_first, yes_both, yes_is_not_no}
use Rattle.edf.specs.Book as edf
use Rattle.edf.specs.Fits.{Fits}
use Rattle.edf.specs.Calls.{taking, Askable}
use Rattle.edf.specs.Load.{FeedLess, JobLess, Less}
use Rattle.edf.proofs.Plans.{opened_keeps_plans}
use Rattle.edf.proofs.LessLoad.{less_keeps_free, less_has_fewer, less_says_yes}
use Rattle.edf.proofs.Runs.{run_is_good, run_keeps_plans}
use Rattle.ledger.specs.Books.{book_plan, book_feeds, book_job}
use Rattle.desk.specs.declared.Desk.{Desk}
use Rattle.desk.specs.declared.Answer.{Answer}
use Rattle.desk.specs.State.{book, Good}
use Rattle.desk.specs.Calls.{disorder}
use Rattle.desk.specs.Asking.{request_lines, place_lines, ask_lines, requested, with_job, Judged, Asked}
use Rattle.desk.proofs.Asking.{admissible, said_yes}
use Rattle.desk.proofs.Reachable.{good_order}
use Rattle.questions.specs.Meshes.{AskedMesh}
use Rattle.promises.specs.Runs.{Opening, answer_to, opened}
use Rattle.promises.specs.Load.{Reached, JobNoMore, OwesNoMore, LessLoad, SameFeeds, GrantsToo, TheLighterSaysYes, TheLighterOfOneListSaysYes}
use Rattle.promises.proofs.System.{desks, judged_fits}
use Rattle.promises.proofs.Openings.{opening_good, opening_yes, opening_no, opening_book}
use Rattle.promises.proofs.Stays.{calls_keep_charge}

-- a desk that calls reach is good
pub reached_is_good : (xs : List ℕ) (d : Desk) → Reached xs d → Good d
reached_is_good xs d h =
    let o = h.from in
    subst Good h.there (run_is_good desks h.calls (opened o) (opening_good o) h.made)

abbrev book_plans : Desk → List edf.Plan
book_plans d = edf.plans (book d).feeds

plans_read : (a : Length) (k : ℕ) (fs : List Feed) → edf.plans (book_feeds a k fs) ≡ map (book_plan a) (plans_of fs)
plans_read a k [] = refl
plans_read a k (f ∷ fs) = ap (λ ps. book_plan a f.plan ∷ ps) (plans_read a (suc k) fs)

pub same_feeds_same_plans : (c d : Desk) → SameFeeds c d → c.ledger.charge ≡ d.ledger.charge → book_plans c ≡ book_plans d
unfolding SameFeeds
same_feeds_same_plans c d e q =
    plans_read c.ledger.charge 1 (in_use c.ledger.feeds)
    ∙ (λ i. map (book_plan (q i)) (e i))
    ∙ sym (plans_read d.ledger.charge 1 (in_use d.ledger.feeds))

-- what an opening lays out: the plans of its list under the desk's charge, or none where it is refused
abbrev Laid : List ℕ → Desk → Type 0
Laid xs d = (book_plans d ≡ edf.plans (book_feeds d.ledger.charge 1 (feeds_in xs))) ⊎ (book_plans d ≡ [])

opening_plans : (o : Opening) → Laid o.feeds (opened o)
opening_plans o = go (answer_to o).verdict refl
  where
    go : (v : Verdict) → (answer_to o).verdict ≡ v → Laid o.feeds (opened o)
    go (Ok tt) y =
        inl (ap (λ b. edf.plans b.feeds) (opening_book o y)
        ∙ opened_keeps_plans o.start (book_feeds (ticks o.charge) 1 (feeds_in o.feeds))
        ∙ ap (λ d. edf.plans (book_feeds d.ledger.charge 1 (feeds_in o.feeds))) (sym (opening_yes o y)))
    go (Err x) n = inr (ap book_plans (opening_no o x n))

-- and calls keep them
reached_plans : (xs : List ℕ) (d : Desk) → Reached xs d → Laid xs d
reached_plans xs d h =
    let o = h.from in
    let plans = sym (ap book_plans h.there) ∙ run_keeps_plans desks h.calls (opened o) (opening_good o) h.made in
    let charge = sym (calls_keep_charge h.calls (opened o) h.made) ∙ ap (λ e. e.ledger.charge) h.there in
    ⊎_elim (λ e. inl (plans ∙ e ∙ (λ i. edf.plans (book_feeds (charge i) 1 (feeds_in (h.list i)))))) (λ e. inr (plans ∙ e)) (opening_plans o)

-- feeds that pair up are as many
pairs_many : (R : Feed → Feed → Type 0) (a b : Length) (k : ℕ) (fs gs : List Feed) → Pairs R fs gs
    → length (edf.plans (book_feeds a k fs)) ≡ length (edf.plans (book_feeds b k gs))
pairs_many R a b k [] [] ps = refl
pairs_many R a b k [] (g ∷ gs) ps = absurd ps
pairs_many R a b k (f ∷ fs) [] ps = absurd ps
pairs_many R a b k (f ∷ fs) (g ∷ gs) ps = ap suc (pairs_many R a b (suc k) fs gs ps.1)

none_of_none : (ps : List edf.Plan) → length ps ≡ 0 → ps ≡ []
none_of_none [] e = refl
none_of_none (p ∷ ps) e = absurd (omega arith)

-- FROM ONE LIST, THE SAME PLANS
pub one_list_same_plans : (xs : List ℕ) (c d : Desk) → Reached xs c → Reached xs d → LessLoad c d → book_plans c ≡ book_plans d
one_list_same_plans xs c d hc hd l = go (reached_plans xs c hc) (reached_plans xs d hd)
  where
    many : length (book_plans c) ≡ length (book_plans d)
    many = pairs_many OwesNoMore c.ledger.charge d.ledger.charge 1 (in_use c.ledger.feeds) (in_use d.ledger.feeds) l.pieces

    go : Laid xs c → Laid xs d → book_plans c ≡ book_plans d
    go (inl e) (inl f) = e ∙ ap (λ a. edf.plans (book_feeds a 1 (feeds_in xs))) l.charge ∙ sym f
    go (inl e) (inr f) = none_of_none (book_plans c) (many ∙ ap length f) ∙ sym f
    go (inr e) (inl f) = e ∙ sym (none_of_none (book_plans d) (sym many ∙ ap length e))
    go (inr e) (inr f) = e ∙ sym f

feeds_less : (a b : Length) (k : ℕ) (fs gs : List Feed) → edf.plans (book_feeds a k fs) ≡ edf.plans (book_feeds b k gs) → Pairs OwesNoMore fs gs
    → Pairs FeedLess (book_feeds a k fs) (book_feeds b k gs)
feeds_less a b k [] [] e ps = tt
feeds_less a b k [] (g ∷ gs) e ps = ps
feeds_less a b k (f ∷ fs) [] e ps = ps
feeds_less a b k (f ∷ fs) (g ∷ gs) e ps =
    (record { position = refl; plan = cc; owes = ps.0 }, feeds_less a b (suc k) fs gs (cc) ps.1)

-- LESS LOAD, READ AS BOOKS
pub less_load_is_less : (c d : Desk) → book_plans c ≡ book_plans d → LessLoad c d → Less (book c) (book d)
less_load_is_less c d e l =
    record {
      clock = ap (λ t. t.0) l.clock;
      feeds = feeds_less c.ledger.charge d.ledger.charge 1 (in_use c.ledger.feeds) (in_use d.ledger.feeds) e l.pieces;
      jobs = each_map (λ j. Some (JobLess j) (book d).jobs) book_job (live c.ledger.table)
          (each_imp (λ j. Some (JobNoMore j) (live d.ledger.table)) (λ j. Some (JobLess (book_job j)) (book d).jobs) found (live c.ledger.table) l.jobs);
    }
  where
    found : (j : Job) → Some (JobNoMore j) (live d.ledger.table) → Some (JobLess (book_job j)) (book d).jobs
    found j s =
        some_map (JobLess (book_job j)) book_job (live d.ledger.table)
        (some_imp (JobNoMore j) (λ k. JobLess (book_job j) (book_job k)) (λ k h. record { number = h.number; owes = h.owed; due = h.deadline }) (live d.ledger.table) s)

-- the numbers that are live, here and in the book
live_numbers : (d : Desk) (n : ℕ) → total (λ k. eq n k.number) (book d).jobs ≡ times n (live d.ledger.table)
unfolding eq
live_numbers d n = total_map (λ k. eq n k.number) book_job (live d.ledger.table)

judged_yes : (d : Desk) (j : Job) (r : Answer) → Judged d j r → Fits (with_job d j) → r.verdict ≡ Ok tt
unfolding Judged
judged_yes d j r (inl k) f = ap (λ a. a.verdict) k.1
judged_yes d j r (inr k) f = absurd (k.0 f)

module _ (c d : Desk) (gc : Good c) (gd : Good d) (clock : c.ledger.clock ≡ d.ledger.clock)
    (charge : c.ledger.charge ≡ d.ledger.charge) (less : Less (book c) (book d)) where
  -- a number that is free on the heavier is free on the lighter
  lighter_lacks : (n : ℕ) → lacks n (live d.ledger.table) ≡ true → lacks n (live c.ledger.table) ≡ true
  lighter_lacks n h =
      times_lacks n (live c.ledger.table)
      (sym (live_numbers c n) ∙ less_keeps_free (book c) (book d) less n (live_numbers d n ∙ lacks_times n (live d.ledger.table) h))

  lighter_fits : (number work lead : ℕ) → 1 ≤ work + d.ledger.charge.0 → 1 ≤ lead → lacks number (live d.ledger.table) ≡ true
      → Fits (with_job d (requested d number work lead)) → Fits (with_job c (requested c number work lead))
  lighter_fits number work lead w far h f =
      let q = book_job (requested d number work lead) in
      let askable : Askable (book d) q
      = record { sound = record { owes = w; ahead = omega arith }; free = live_numbers d number ∙ lacks_times number (live d.ledger.table) h } in
      subst (λ j. Fits (taking j (book c))) (λ i. record { number = number; owes = work + (sym charge i).0; due = (sym clock i).0 + lead })
      (less_says_yes (book c) (book d) q gc.sound.order gd.sound.order gd.sound.light less askable f).1

  -- no line that passes on the heavier stops on the lighter
  lighter_lines : (number work lead : ℕ) → first_of (ask_lines d number (ticks work) (ticks lead)) ≡ Ok tt
      → first_of (ask_lines c number (ticks work) (ticks lead)) ≡ Ok tt
  lighter_lines number work lead e =
      let passed = yes_both (request_lines d.ledger.clock number (ticks work) (ticks lead)) (place_lines d.ledger.table number) (yes_first (disorder d) _ e).1 in
      let own : first_of (request_lines c.ledger.clock number (ticks work) (ticks lead)) ≡ (Ok tt) = rw clock passed.0 in
      let free = yes_first _ _ passed.1 in
      let few : d.ledger.table.count < most_jobs = leb-false _ _ (yes_first _ _ free.1).0 in
      goes_on_lem (disorder c) _ (Ok tt) (ap not gc.order)
      (goes_past (request_lines c.ledger.clock number (ticks work) (ticks lead)) (place_lines c.ledger.table number) own
      ∙ goes_on_lem _ _ (Ok tt) (ap not (lighter_lacks number (not-false _ free.0))) (goes_on_lem _ [] (Ok tt) (lt-leb most_jobs c.ledger.table.count (omega (arith, fewer))) no_line))
    where
      fewer : c.ledger.table.count ≤ d.ledger.table.count
      fewer =
          omega (
            arith,
            less_has_fewer (book c) (book d) gc.sound.order less,
            length-map (live c.ledger.table) book_job,
            length-map (live d.ledger.table) book_job,
            live_count c.ledger.table (good_order c gc).tidy_table,
            live_count d.ledger.table (good_order d gd).tidy_table,
          )

  lighter_asks : (number work lead : ℕ) (q r : Answer) → Asked d number work lead r → r.verdict ≡ Ok tt → Asked c number work lead q → q.verdict ≡ Ok tt
  lighter_asks number work lead q r a y b =
      let p = said_yes d number work lead r a y in
      let m = admissible d number work lead gd.sized p in
      judged_yes c (requested c number work lead) q (b.judged (lighter_lines number work lead p))
      (lighter_fits number work lead m.job.owed.0 (omega (arith, m.job.ahead)) (times_lacks number (live d.ledger.table) m.free)
      (judged_fits d (requested d number work lead) r (a.judged p) y))

  lighter_meshes : (s : List ℕ) (size number lead : ℕ) (q r : Answer) → AskedMesh d s size number lead r → r.verdict ≡ Ok tt
      → AskedMesh c s size number lead q → q.verdict ≡ Ok tt
  lighter_meshes s size number lead q r a y b = go (first_of (disorder d ∷ mesh_lines s size)) refl
    where
      go : (v : Verdict) → first_of (disorder d ∷ mesh_lines s size) ≡ v → q.verdict ≡ Ok tt
      go (Ok tt) e =
          lighter_asks number (work_of (triangles_of s)) lead q r (a.asked e) y
          (b.asked (goes_on_lem (disorder c) (mesh_lines s size) (Ok tt) (ap not gc.order) (yes_first (disorder d) (mesh_lines s size) e).1))
      go (Err x) e = absurd (yes_is_not_no x (sym y ∙ ap (λ k. k.verdict) (a.stopped x e)))

  lighter_grants : GrantsToo c d
  lighter_grants = record { fits = λ number work lead w. lighter_fits number work lead (omega arith); ask = lighter_asks; mesh = lighter_meshes }

pub the_lighter_says_yes : TheLighterSaysYes
unfolding TheLighterSaysYes
the_lighter_says_yes xs ys c d hc hd same l =
    lighter_grants c d (reached_is_good xs c hc) (reached_is_good ys d hd) l.clock l.charge (less_load_is_less c d (same_feeds_same_plans c d same l.charge) l)

pub the_lighter_of_one_list_says_yes : TheLighterOfOneListSaysYes
unfolding TheLighterOfOneListSaysYes
the_lighter_of_one_list_says_yes xs c d hc hd l =
    lighter_grants c d (reached_is_good xs c hc) (reached_is_good xs d hd) l.clock l.charge (less_load_is_less c d (one_list_same_plans xs c d hc hd l) l)
