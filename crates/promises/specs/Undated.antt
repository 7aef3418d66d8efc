-- EXPORTS WITH NO DATE (request 12). The share stays the one that the opening carried, and the last yes is remembered; and as long as
-- every job came with no date, the share is kept free: such an ask never gets 6.
use Rattle.std.specs.Prelude.{◌≡◌, ℕ, ◌+◌, ◌*◌, ◌/◌, ◌≤◌}
use Rattle.lists.specs.Lists.{Each, total}
use Rattle.ticks.specs.Ticks.{ticks}
use Rattle.plans.specs.Plans.{charged}
use Rattle.feeds.specs.declared.Feed.{Feed}
use Rattle.feeds.specs.Round.{periods, round_of}
use Rattle.feeds.specs.Lines.{feeds_in}
use Rattle.shares.specs.declared.Share.{Share}
use Rattle.shares.specs.Shares as shares
use Rattle.answers.specs.declared.Refusal.TheVariants.{DoesNotFit}
use Rattle.std.specs.Prelude.{Ok, Err}
use Rattle.answers.specs.Answers.{first_of}
use Rattle.edf.specs.Runs.{Did, after}
use Rattle.desk.specs.declared.Desk.{Desk}
use Rattle.desk.specs.declared.Answer.{Answer}
use Rattle.desk.specs.Asking.{ask_lines}
use Rattle.desk.specs.Undated.{undated_lines, undated_deadline, undated_lead, AskedUndated}
use Rattle.promises.specs.Runs.{
  Call,
  Calls,
  ask,
  ask_mesh,
  ask_undated,
  step,
  end,
  rest,
  look,
  allows,
  Made,
  Carried,
  nothing,
  share,
  Opening,
  answer_to,
  opened,
  share_of,
}

-- the share of an opening that is answered yes
abbrev pub given : Carried → Share
given nothing = shares.no_share
given (share p q) = shares.share p q

-- no call changes the share: it stays the one that the opening carried
unfoldable pub TheShareStays : Type 0
TheShareStays =
    (o : Opening) (cs : Calls) → Made cs (opened o)
    → ((after cs (opened o)).share ≡ share_of o) × ((answer_to o).verdict ≡ Ok tt → share_of o ≡ given o.carried)

-- a job that was taken with no date, and one that was taken with a lead of its own
abbrev pub TakesUndated : Call → Type 0
TakesUndated (ask number work lead r) = ⊥
TakesUndated (ask_mesh s size number lead r) = ⊥
TakesUndated (ask_undated number work r) = r.verdict ≡ Ok tt
TakesUndated (step r) = ⊥
TakesUndated (end n r) = ⊥
TakesUndated (rest p r) = ⊥
TakesUndated look = ⊥

abbrev pub TakesDated : Call → Type 0
TakesDated (ask number work lead r) = r.verdict ≡ Ok tt
TakesDated (ask_mesh s size number lead r) = r.verdict ≡ Ok tt
TakesDated (ask_undated number work r) = ⊥
TakesDated (step r) = ⊥
TakesDated (end n r) = ⊥
TakesDated (rest p r) = ⊥
TakesDated look = ⊥

-- a yes to an ask with no date is remembered by its deadline, and no other call changes what is remembered, an end of that job
-- neither
pub record TheLastIsRemembered : Type 0 where
  pub opening : (o : Opening) → (opened o).previous.0 ≡ 0
  pub undated : (d : Desk) (number work : ℕ) (r : Answer) → AskedUndated d number work r → r.verdict ≡ Ok tt
      → r.desk.previous.0 ≡ undated_deadline d work
  pub others : (x : Did Call Desk) (d : Desk) → allows x.call d x.came → (TakesUndated x.call → ⊥)
      → x.came.state.previous ≡ d.previous

-- every feed that was lent is due at its period's end
abbrev pub DueAtTheEnd : Opening → Type 0
DueAtTheEnd o = Each (λ f. f.plan.lead ≡ f.plan.period) (feeds_in o.feeds)

-- what a feed wants in a round of R ticks, the charge of each piece counted
abbrev pub in_a_round : Opening → ℕ → Feed → ℕ
in_a_round o R f = charged (ticks o.charge) f.plan * (R / f.plan.period.0)

-- the feeds' share with charge and p/q are together at most all
abbrev pub SharesAtMostAll : Opening → ℕ → ℕ → Type 0
SharesAtMostAll o p q =
    let fs = feeds_in o.feeds in
    let R = round_of (periods fs) in
    total (in_a_round o R) fs * q + p * R ≤ R * q

-- the verdict of an ask with no date: not 6, so yes where no other line stops it
pub record NotSix (d : Desk) (number work : ℕ) (r : Answer) : Type 0 where
  pub never : r.verdict ≡ Err DoesNotFit → ⊥
  pub yes : first_of (undated_lines d number) ≡ Ok tt → first_of (ask_lines d number (ticks work) (ticks (undated_lead d work))) ≡ Ok tt
      → r.verdict ≡ Ok tt

-- NEVER 6, over any calls from an opening in which no job was taken with a lead of its own: asks that are refused, ends, rests and
-- steps are all among them
unfoldable pub NoUndatedAskGetsSix : Type 0
NoUndatedAskGetsSix =
    (o : Opening) (p q : ℕ) → o.carried ≡ share p q → DueAtTheEnd o → SharesAtMostAll o p q
    → (cs : Calls) → Made cs (opened o) → Each (λ x. TakesDated x.call → ⊥) cs
    → (number work : ℕ) (r : Answer) → AskedUndated (after cs (opened o)) number work r → NotSix (after cs (opened o)) number work r
