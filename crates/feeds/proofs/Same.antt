-- What hangs on the plans alone: feeds that differ in what their current pieces owe pass alike.
use mathlib.Core.Path.{◌≡◌, refl, sym, ap, subst, ◌∙◌}
use mathlib.Core.List.{List, [], ◌∷◌, map}
use Prim.Native.Nat.{ℕ, suc, ◌≤◌}
use native.Mathlib.Omega.{arith}
use lib.ListN.{length, length-map}
use Rattle.ticks.specs.declared.Instant.{Instant}
use Rattle.ticks.specs.declared.Length.{Length}
use Rattle.ticks.specs.Ticks.{most_round}
use Rattle.lists.specs.Lists.{Each, total}
use Rattle.lists.proofs.Lists.{total_map, each_map, each_of_map}
use Rattle.plans.specs.Plans.{PlanIn, stretch}
use Rattle.feeds.specs.declared.Feed.{Feed}
use Rattle.feeds.specs.Feeds.{FeedIn, plans_of}
use Rattle.feeds.specs.Round.{IsRound, periods, round_of, demand}
use Rattle.feeds.specs.Lines.{Passing}
use Rattle.feeds.specs.Pieces.{arrived, rested, served}

periods_of : (fs : List Feed) → periods fs ≡ map (λ p. p.period.0) (plans_of fs)
periods_of [] = refl
periods_of (f ∷ fs) = ap (f.plan.period.0 ∷◌) (periods_of fs)

module _ (fs gs : List Feed) (same : plans_of fs ≡ plans_of gs) where
  pub same_length : length fs ≡ length gs
  same_length = sym (length-map fs (λ f. f.plan)) ∙ ap length same ∙ length-map gs (λ f. f.plan)

  pub same_within : Each FeedIn fs → Each FeedIn gs
  same_within h =
      each_of_map PlanIn (λ f. f.plan) gs (subst (Each PlanIn) same (each_map PlanIn (λ f. f.plan) fs h))

  pub same_periods : periods fs ≡ periods gs
  same_periods = periods_of fs ∙ ap (map (λ p. p.period.0)) same ∙ sym (periods_of gs)

  pub same_demand : (charge : Length) (L : ℕ) → demand charge L fs ≡ demand charge L gs
  same_demand charge L =
      sym (total_map (stretch charge L) (λ f. f.plan) fs)
      ∙ ap (total (stretch charge L)) same
      ∙ total_map (stretch charge L) (λ f. f.plan) gs

  pub same_passing : (charge : Length) → Passing charge fs → Passing charge gs
  same_passing charge h =
      let many = same_length in
      record {
        few = omega (arith, h.few);
        within = same_within h.within;
        short = subst (λ ps. round_of ps ≤ most_round) same_periods h.short;
        round = subst (λ ps. IsRound (round_of ps) ps) same_periods h.round;
        carried = λ L l. subst (◌≤ L) (same_demand charge L) (h.carried L (subst (λ ps. L ≤ round_of ps) (sym same_periods) l));
      }

-- what comes, is rested or is served changes no plan
pub arrived_plans : (charge : Length) (x : Instant) (fs : List Feed) → plans_of (map (arrived charge x) fs) ≡ plans_of fs
unfolding arrived
arrived_plans charge x [] = refl
arrived_plans charge x (f ∷ fs) = ap (f.plan ∷◌) (arrived_plans charge x fs)

pub rested_plans : (p k : ℕ) (fs : List Feed) → plans_of (rested p k fs) ≡ plans_of fs
rested_plans p k [] = refl
rested_plans p k (f ∷ fs) = ap (f.plan ∷◌) (rested_plans p (suc k) fs)

pub served_plans : (p k : ℕ) (fs : List Feed) → plans_of (served p k fs) ≡ plans_of fs
served_plans p k [] = refl
served_plans p k (f ∷ fs) = ap (f.plan ∷◌) (served_plans p (suc k) fs)

-- nor how many feeds there are
pub length_arrived : (charge : Length) (x : Instant) (fs : List Feed) → length (map (arrived charge x) fs) ≡ length fs
length_arrived charge x fs = length-map fs (arrived charge x)

pub length_rested : (p k : ℕ) (fs : List Feed) → length (rested p k fs) ≡ length fs
length_rested p k fs = same_length (rested p k fs) fs (rested_plans p k fs)

pub length_served : (p k : ℕ) (fs : List Feed) → length (served p k fs) ≡ length fs
length_served p k fs = same_length (served p k fs) fs (served_plans p k fs)
