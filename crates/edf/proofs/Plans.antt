-- No call changes a feed's position or its plan.
use mathlib.Core.Path.{◌≡◌, refl, ◌∙◌, ap, ap₂}
use mathlib.Core.List.{List, [], ◌∷◌, map}
use Prim.Native.Nat.{ℕ}
use Rattle.edf.specs.Book.{Feed, Job, Book, Who, owing, positions, plans}
use Rattle.edf.specs.Step.{serve, turn, step_by, step}
use Rattle.edf.specs.Calls.{taking, ending, resting}
use Rattle.edf.specs.Load.{opened}

-- the same feed, whatever its current piece owes
abbrev pub Kin : Feed → Feed → Type 0
Kin f g = (f.position ≡ g.position) × (f.plan ≡ g.plan)

pub kin : (f g : Feed) → f ≡ g → Kin f g
kin f g e = (ap (λ k. k.position) e, ap (λ k. k.plan) e)

-- what can be read off a feed whatever its current piece owes
module _ {A : Type 0} (v : Feed → A) (fixed : (n : ℕ) (f : Feed) → v (owing n f) ≡ v f) where
  owing_keeps : (n : Feed → ℕ) (fs : List Feed) → map v (map (λ f. owing (n f) f) fs) ≡ map v fs
  owing_keeps n [] = refl
  owing_keeps n (f ∷ fs) = ap₂ ◌∷◌ (fixed (n f) f) (owing_keeps n fs)

  pub serve_keeps : (g : Who) (b : Book) → map v (serve g b).feeds ≡ map v b.feeds
  unfolding serve
  serve_keeps g b = owing_keeps _ b.feeds

  pub turn_keeps : (b : Book) → map v (turn b).feeds ≡ map v b.feeds
  unfolding turn
  turn_keeps b = owing_keeps _ b.feeds

  pub step_by_keeps : (g : Who) (b : Book) → map v (step_by g b).feeds ≡ map v b.feeds
  unfolding step_by
  step_by_keeps g b = turn_keeps (serve g b) ∙ serve_keeps g b

  pub step_keeps : (b : Book) → map v (step b).feeds ≡ map v b.feeds
  unfolding step
  step_keeps b = step_by_keeps _ b

  pub resting_keeps : (p : ℕ) (b : Book) → map v (resting p b).feeds ≡ map v b.feeds
  unfolding resting
  resting_keeps p b = owing_keeps _ b.feeds

  pub opened_keeps : (t : ℕ) (fs : List Feed) → map v (opened t fs).feeds ≡ map v fs
  unfolding opened
  opened_keeps t fs = owing_keeps _ fs

module _ (g : Who) (b : Book) where
  pub serve_keeps_plans : plans (serve g b).feeds ≡ plans b.feeds
  serve_keeps_plans = serve_keeps (λ f. f.plan) (λ n f. refl) g b

  pub step_by_keeps_plans : plans (step_by g b).feeds ≡ plans b.feeds
  step_by_keeps_plans = step_by_keeps (λ f. f.plan) (λ n f. refl) g b

module _ (b : Book) where
  pub step_keeps_plans : plans (step b).feeds ≡ plans b.feeds
  step_keeps_plans = step_keeps (λ f. f.plan) (λ n f. refl) b

  pub step_keeps_positions : positions (step b).feeds ≡ positions b.feeds
  step_keeps_positions = step_keeps (λ f. f.position) (λ n f. refl) b

module _ (n : ℕ) (b : Book) where
  pub ending_keeps_plans : plans (ending n b).feeds ≡ plans b.feeds
  unfolding ending
  ending_keeps_plans = refl

  pub ending_keeps_positions : positions (ending n b).feeds ≡ positions b.feeds
  unfolding ending
  ending_keeps_positions = refl

  pub resting_keeps_plans : plans (resting n b).feeds ≡ plans b.feeds
  resting_keeps_plans = resting_keeps (λ f. f.plan) (λ n f. refl) n b

  pub resting_keeps_positions : positions (resting n b).feeds ≡ positions b.feeds
  resting_keeps_positions = resting_keeps (λ f. f.position) (λ n f. refl) n b

module _ (j : Job) (b : Book) where
  pub taking_keeps_plans : plans (taking j b).feeds ≡ plans b.feeds
  unfolding taking
  taking_keeps_plans = refl

  pub taking_keeps_positions : positions (taking j b).feeds ≡ positions b.feeds
  unfolding taking
  taking_keeps_positions = refl

module _ (t : ℕ) (fs : List Feed) where
  pub opened_keeps_plans : plans (opened t fs).feeds ≡ plans fs
  opened_keeps_plans = opened_keeps (λ f. f.plan) (λ n f. refl) t fs

  pub opened_keeps_positions : positions (opened t fs).feeds ≡ positions fs
  opened_keeps_positions = opened_keeps (λ f. f.position) (λ n f. refl) t fs
