-- An ask with no date never gets 6 as long as every job came with no date: each call is a move by the rule, which keeps the share
-- free.
use mathlib.Core.Path.{◌≡◌, refl, sym, ap, subst, ◌∙◌}
use mathlib.Core.Logic.{inl, inr}
use mathlib.Core.List.{List, [], ◌∷◌}
use Prim.Native.Nat.{ℕ, suc, ◌+◌, ◌*◌, ◌/◌, ◌≤◌}
use native.Mathlib.Omega.{arith}
use Rattle.lists.specs.Lists.{Each, total}
use Rattle.ticks.specs.declared.Length.{Length}
use Rattle.ticks.specs.Ticks.{ticks}
use Rattle.plans.specs.Plans.{charged}
use Rattle.feeds.specs.declared.Feed.{Feed}
use Rattle.feeds.specs.Feeds.{FeedIn}
use Rattle.feeds.specs.Round.{periods, round_of}
use Rattle.feeds.specs.Lines.{feeds_in}
use Rattle.shares.specs.Shares as shares
use Rattle.shares.proofs.Shares.{share_is}
use Rattle.answers.specs.declared.Refusal.{Refusal}
use Rattle.answers.specs.declared.Refusal.TheVariants.{DoesNotFit}
use Rattle.answers.specs.Verdicts.{Verdict}
use Rattle.std.specs.Prelude.{Ok, Err}
use Rattle.answers.specs.Answers.{first_of}
use Rattle.answers.proofs.Answers.{yes_is_not_no, no_line, from_later}
use Rattle.edf.specs.Book.{plans}
use Rattle.edf.specs.Steps.{steps}
use Rattle.edf.specs.Fits.{Fits}
use Rattle.edf.specs.Reordered.{Reordered}
use Rattle.edf.specs.Runs.{Did, after, Allowed}
use Rattle.edf.specs.Share.{deadline_at, LeavesShare, ShareFree}
use Rattle.edf.proofs.Loads.{a_round}
use Rattle.edf.proofs.Moves.{stays, takes, goes, ends, rests, moved}
use Rattle.edf.proofs.Plans.{opened_keeps_plans}
use Rattle.edf.proofs.Reordered.{reordered_is}
use Rattle.edf.proofs.Runs.{run_is_good}
use Rattle.edf.proofs.Share.{opening_share_free, round_leaves_share, job_by_the_rule_fits}
use Rattle.edf.proofs.ShareRuns.{Fair, AllFair, run_share_free}
use Rattle.ledger.specs.Books.{book_feeds, book_job}
use Rattle.ledger.proofs.InOrder.{book_round}
use Rattle.desk.specs.declared.Desk.{Desk}
use Rattle.desk.specs.declared.Answer.{Answer}
use Rattle.desk.specs.State.{book, Good}
use Rattle.desk.specs.Calls.{step_lines, step_of, end_of, rest_of}
use Rattle.desk.specs.Asking.{ask_lines, requested, with_job, Judged}
use Rattle.desk.specs.Undated.{undated_lines, undated_lead, AskedUndated}
use Rattle.desk.proofs.Asking.{admissible}
use Rattle.desk.proofs.Reachable.{admissible_askable, passing_opens}
use Rattle.desk.proofs.Undated.{undated_due, undated_shared}
use Rattle.desk.proofs.Good.{step_book, end_book, rest_book, undated_book}
use Rattle.promises.specs.Runs.{Call, Calls, ask, ask_mesh, ask_undated, step, end, rest, look, told, allows, Made, Opening, answer_to, opened}
use Rattle.promises.specs.Undated.{given, TakesUndated, TakesDated, DueAtTheEnd, SharesAtMostAll, NotSix, NoUndatedAskGetsSix}
use Rattle.promises.proofs.System.{desks}
use Rattle.promises.proofs.Total.{refused_hands_back}
use Rattle.promises.proofs.Openings.{opening_good, opening_yes, opening_no, opening_book, opening_passing}
use Rattle.promises.proofs.Stays.{call_keeps_share, calls_keep_share, undated_remembered, others_keep}

-- the deadline that is remembered
abbrev lastly : Desk → ℕ
lastly d = d.previous.0

-- ONE CALL, on a desk with the share
module _ (p q : ℕ) (x : Did Call Desk) (d : Desk) (g : Good d) (same : d.share ≡ shares.share p q) where
  abbrev FairCall : Type 0
  FairCall = Fair desks p q lastly x d

  -- it hands back the desk as it was
  unmoved : x.came.state ≡ d → FairCall
  unfolding moved
  unmoved e = record { move = stays; read = reordered_is _ _ (sym (ap book e)); rule = tt; keeps = ap lastly e }

  -- it is refused, or taken
  by_verdict : (r : Answer) → x.came.state ≡ r.desk → ((z : Refusal) → r.verdict ≡ Err z → r.desk ≡ d) → (r.verdict ≡ Ok tt → FairCall) → FairCall
  by_verdict r e back said = go r.verdict refl
    where
      go : (v : Verdict) → r.verdict ≡ v → FairCall
      go (Ok tt) y = said y
      go (Err z) n = unmoved (e ∙ back z n)

  -- it takes a job by the rule
  undated_fair : (number work : ℕ) (r : Answer) → AskedUndated d number work r → x.came.state ≡ r.desk → r.verdict ≡ Ok tt → FairCall
  unfolding moved
  undated_fair number work r a e y =
      let j = requested d number work (undated_lead d work) in
      record {
        move = takes (book_job j);
        read = subst (λ c. Reordered (with_job d j) (book c)) (sym e) (undated_book d number work r a g y);
        rule = undated_due d work ∙ (λ i. deadline_at (same i).p (same i).q d.previous.0 d.ledger.clock.0 (work + d.ledger.charge.0));
        keeps = ap lastly e ∙ undated_remembered d number work r a y ∙ sym (undated_due d work);
      }

  module _ (n : lastly x.came.state ≡ lastly d) where
    step_fair : x.came ≡ told (step_of d) → FairCall
    unfolding step_of moved steps
    step_fair e = go (first_of (step_lines d)) refl
      where
        go : (v : Verdict) → first_of (step_lines d) ≡ v → FairCall
        go (Ok tt) y = record { move = goes 1; read = reordered_is _ _ (sym (ap (λ c. book c.state) e ∙ step_book d g y)); rule = tt; keeps = n }
        go (Err z) m = unmoved (ap (λ c. c.state) e ∙ ap (λ r. r.desk) (refused_hands_back.step d z m))

    end_fair : (k : ℕ) → x.came.state ≡ (end_of d k).desk → (end_of d k).verdict ≡ Ok tt → FairCall
    unfolding end_of moved
    end_fair k e y = record { move = ends k; read = reordered_is _ _ (sym (ap book e ∙ end_book d g k y)); rule = tt; keeps = n }

    rest_fair : (k : ℕ) → x.came.state ≡ (rest_of d k).desk → (rest_of d k).verdict ≡ Ok tt → FairCall
    unfolding rest_of moved
    rest_fair k e y = record { move = rests k; read = reordered_is _ _ (sym (ap book e ∙ rest_book d g k y)); rule = tt; keeps = n }

  call_is_fair : allows x.call d x.came → (TakesDated x.call → ⊥) → FairCall
  unfolding allows
  call_is_fair a n = go x.call refl a n
    where
      kept : (c : Call) → x.call ≡ c → (TakesUndated c → ⊥) → lastly x.came.state ≡ lastly d
      kept c e m = ap (λ t. t.0) (others_keep x d a (subst (λ k. TakesUndated k → ⊥) (sym e) m))

      go : (c : Call) → x.call ≡ c → allows c d x.came → (TakesDated c → ⊥) → FairCall
      go (ask number work lead r) c h m =
          by_verdict r (ap (λ k. k.state) h.1) (λ z k. refused_hands_back.ask d number work lead r z h.0 k) (λ y. absurd (m y))
      go (ask_mesh s size number lead r) c h m =
          by_verdict r (ap (λ k. k.state) h.1) (λ z k. refused_hands_back.mesh d s size number lead r z h.0 k) (λ y. absurd (m y))
      go (ask_undated number work r) c h m =
          by_verdict r (ap (λ k. k.state) h.1) (λ z k. refused_hands_back.undated d number work r z h.0 k)
          (undated_fair number work r h.0 (ap (λ k. k.state) h.1))
      go (step r) c h m = step_fair (kept (step r) c (λ k. k)) (h.1 ∙ ap told h.0)
      go (end k r) c h m =
          let state = ap (λ t. t.state) h.1 ∙ ap (λ t. t.desk) h.0 in
          by_verdict (end_of d k) state (λ z i. refused_hands_back.end d k z i) (end_fair (kept (end k r) c (λ t. t)) k state)
      go (rest k r) c h m =
          let state = ap (λ t. t.state) h.1 ∙ ap (λ t. t.desk) h.0 in
          by_verdict (rest_of d k) state (λ z i. refused_hands_back.rest d k z i) (rest_fair (kept (rest k r) c (λ t. t)) k state)
      go look c h m = unmoved (ap (λ k. k.state) h)

-- ANY CALLS
all_fair : (p q : ℕ) (cs : Calls) (d : Desk) → Good d → d.share ≡ shares.share p q → Made cs d → Each (λ x. TakesDated x.call → ⊥) cs → AllFair desks p q lastly cs d
unfolding AllFair Allowed
all_fair p q [] d g s m n = tt
all_fair p q (x ∷ cs) d g s m n = (
  call_is_fair p q x d g s m.0 n.0,
  all_fair p q cs x.came.state (desks.follows x d g m.0).0 (call_keeps_share x d m.0 ∙ s) m.1 n.1,
)

-- feeds that are due at their period's end, as plans of the mathematics
whole : (c : Length) (k : ℕ) (fs : List Feed) → Each FeedIn fs → Each (λ f. f.plan.lead ≡ f.plan.period) fs
    → Each (λ x. (1 ≤ x.period) × (x.lead ≡ x.period)) (plans (book_feeds c k fs))
whole c k [] h d = tt
whole c k (f ∷ fs) h d = ((h.0.period.0, ap (λ l. l.0) d.0), whole c (suc k) fs h.1 d.1)

-- what they want in a round
rounds : (c : Length) (R k : ℕ) (fs : List Feed) → total (a_round R) (plans (book_feeds c k fs)) ≡ total (λ f. charged c f.plan * (R / f.plan.period.0)) fs
rounds c R k [] = refl
rounds c R k (f ∷ fs) = ap (λ n. charged c f.plan * (R / f.plan.period.0) + n) (rounds c R (suc k) fs)

-- AN OPENING that is not refused leaves the share free
module _ (o : Opening) (p q : ℕ) (y : (answer_to o).verdict ≡ Ok tt) (due : DueAtTheEnd o) (most : SharesAtMostAll o p q) where
  abbrev c : Length
  c = ticks o.charge

  abbrev lent : List Feed
  lent = feeds_in o.feeds

  leaves : LeavesShare p q (plans (book_feeds (ticks o.charge) 1 (feeds_in o.feeds)))
  leaves =
      let h = opening_passing o y in
      let R = round_of (periods lent) in
      let t = book_round c 1 lent h in
      round_leaves_share p q R (plans (book_feeds c 1 lent)) t.positive (whole c 1 lent h.within due) t.common
      (omega (arith, most, ap (q *◌) (rounds c R 1 lent)))

  opened_leaves : LeavesShare p q (plans (book (opened o)).feeds)
  opened_leaves = subst (LeavesShare p q) (sym (ap (λ b. plans b.feeds) (opening_book o y) ∙ opened_keeps_plans o.start (book_feeds c 1 lent))) leaves

  opened_free : ShareFree p q (lastly (opened o)) (book (opened o))
  opened_free =
      let h = opening_passing o y in
      subst (λ d. ShareFree p q (lastly d) (book (opened o))) (sym (opening_yes o y))
      (subst (ShareFree p q 0) (sym (opening_book o y)) (opening_share_free p q o.start (book_feeds c 1 lent) (passing_opens c lent h).each leaves))

-- no line before 6 gives 6
none_of_these : (d : Desk) (number : ℕ) → first_of (undated_lines d number) ≡ Err DoesNotFit → ⊥
none_of_these d number e =
    let order = from_later _ _ DoesNotFit e (λ q. omega (arith, q)) in
    let zero = from_later _ _ DoesNotFit order (λ q. omega (arith, q)) in
    yes_is_not_no DoesNotFit (sym no_line ∙ from_later _ _ DoesNotFit zero (λ q. omega (arith, q)))

nor_of_these : (d : Desk) (number work lead : ℕ) → first_of (ask_lines d number (ticks work) (ticks lead)) ≡ Err DoesNotFit → ⊥
nor_of_these d number work lead e =
    let order = from_later _ _ DoesNotFit e (λ q. omega (arith, q)) in
    let zero = from_later _ _ DoesNotFit order (λ q. omega (arith, q)) in
    let outside = from_later _ _ DoesNotFit zero (λ q. omega (arith, q)) in
    let past = from_later _ _ DoesNotFit outside (λ q. omega (arith, q)) in
    let live = from_later _ _ DoesNotFit past (λ q. omega (arith, q)) in
    yes_is_not_no DoesNotFit (sym no_line ∙ from_later _ _ DoesNotFit live (λ q. omega (arith, q)))

-- THE VERDICT, where a job by the rule fits whenever no other line stops it
module _ (d : Desk) (number work : ℕ) (r : Answer) (a : AskedUndated d number work r) where
  abbrev lead : ℕ
  lead = undated_lead d work

  abbrev Passed : Type 0
  Passed = (first_of (undated_lines d number) ≡ Ok tt) × (first_of (ask_lines d number (ticks work) (ticks lead)) ≡ Ok tt)

  taken : (b : Answer) → Fits (with_job d (requested d number work lead)) → Judged d (requested d number work lead) b → b.verdict ≡ Ok tt
  unfolding Judged
  taken b f (inl k) = ap (λ t. t.verdict) k.1
  taken b f (inr k) = absurd (k.0 f)

  not_six : (Passed → Fits (with_job d (requested d number work lead))) → NotSix d number work r
  not_six fits = record { never = λ n. go (first_of (undated_lines d number)) refl n; yes = said }
    where
      said : first_of (undated_lines d number) ≡ Ok tt → first_of (ask_lines d number (ticks work) (ticks lead)) ≡ Ok tt → r.verdict ≡ Ok tt
      said u e = let (b, k, same) = a.asked u in ap (λ t. t.verdict) same ∙ taken b (fits (u, e)) (k.judged e)

      inner : first_of (undated_lines d number) ≡ Ok tt → (v : Verdict) → first_of (ask_lines d number (ticks work) (ticks lead)) ≡ v → r.verdict ≡ Err DoesNotFit → ⊥
      inner u (Ok tt) e n = yes_is_not_no DoesNotFit (sym (said u e) ∙ n)
      inner u (Err z) e n =
          let (b, k, same) = a.asked u in
          nor_of_these d number work lead (e ∙ sym (ap (λ t. t.verdict) (k.stopped z e)) ∙ sym (ap (λ t. t.verdict) same) ∙ n)

      go : (v : Verdict) → first_of (undated_lines d number) ≡ v → r.verdict ≡ Err DoesNotFit → ⊥
      go (Ok tt) u n = inner u (first_of (ask_lines d number (ticks work) (ticks lead))) refl n
      go (Err z) u n = none_of_these d number (u ∙ sym (ap (λ t. t.verdict) (a.stopped z u)) ∙ n)

-- NEVER 6
pub no_undated_ask_gets_six : NoUndatedAskGetsSix
unfolding NoUndatedAskGetsSix
no_undated_ask_gets_six o p q carried due most cs m n number work r a = go (answer_to o).verdict refl
  where
    d : Desk
    d = after cs (opened o)

    kept : (after cs (opened o)).share ≡ (opened o).share
    kept = calls_keep_share cs (opened o) m

    go : (v : Verdict) → (answer_to o).verdict ≡ v → NotSix (after cs (opened o)) number work r
    go (Ok tt) y =
        let share_of_lem : (opened o).share ≡ shares.share p q = ap (λ e. e.share) (opening_yes o y) ∙ ap given carried in
        let g = run_is_good desks cs (opened o) (opening_good o) m in
        not_six (after cs (opened o)) number work r a (λ pass.
        let sound = share_is (after cs (opened o)).share (undated_shared (after cs (opened o)) number work pass.0) in
        let same : (after cs (opened o)).share ≡ shares.share p q = kept ∙ share_of_lem in
        let low : 1 ≤ p = subst (λ s. 1 ≤ s.p) same sound.0 in
        let high : 1 ≤ q = subst (λ s. 1 ≤ s.q) same (omega (arith, sound.0, sound.1)) in
        let j = requested (after cs (opened o)) number work (undated_lead (after cs (opened o)) work) in
        let free = run_share_free desks p q lastly low cs (opened o) (opening_good o) m (all_fair p q cs (opened o) (opening_good o) share_of_lem m n)
        (opened_leaves o p q y due most) (opened_free o p q y due most) in
        job_by_the_rule_fits p q (lastly (after cs (opened o))) (book (after cs (opened o))) (book_job j) low high g.sound
        (admissible_askable (after cs (opened o)) j (admissible (after cs (opened o)) number work (undated_lead (after cs (opened o)) work) g.sized pass.1))
        (undated_due (after cs (opened o)) work ∙ (λ i. deadline_at (same i).p (same i).q (lastly (after cs (opened o))) (after cs (opened o)).ledger.clock.0 (work + (after cs (opened o)).ledger.charge.0)))
        free)
    go (Err z) e =
        let none : (after cs (opened o)).share ≡ shares.no_share = kept ∙ ap (λ k. k.share) (opening_no o z e) in
        not_six (after cs (opened o)) number work r a (λ pass.
        let sound = share_is (after cs (opened o)).share (undated_shared (after cs (opened o)) number work pass.0) in
        absurd (omega (arith, sound.0, ap (λ s. s.p) none)))
