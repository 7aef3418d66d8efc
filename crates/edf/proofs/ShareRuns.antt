-- The share stays free over any calls in which every job that is taken came by the rule.
use mathlib.Core.Path.{◌≡◌, refl, sym, ap, subst, ◌∙◌}
use mathlib.Core.List.{List, [], ◌∷◌}
use Prim.Native.Nat.{ℕ, zero, suc, ◌≤◌}
use Rattle.edf.specs.Book.{Book, plans}
use Rattle.edf.specs.Steps.{steps}
use Rattle.edf.specs.Step.{step}
use Rattle.edf.specs.Calls.{taking}
use Rattle.edf.specs.Load.{Sound}
use Rattle.edf.specs.Runs.{Did, after, Allowed}
use Rattle.edf.specs.Reordered.{Reordered}
use Rattle.edf.specs.Share.{deadline_at, LeavesShare, ShareFree}
use Rattle.edf.proofs.Plans.{step_keeps}
use Rattle.edf.proofs.Sound.{step_is_sound}
use Rattle.edf.proofs.Moves.{Move, stays, takes, goes, ends, rests, moved, moved_keeps}
use Rattle.edf.proofs.Runs.{System}
use Rattle.edf.proofs.Share.{step_share_free, taking_share_free, ending_share_free, resting_share_free, reordered_share_free}

-- a job that is taken sets the previous deadline, and nothing else does
abbrev pub previous_after : ℕ → Move → ℕ
previous_after previous stays = previous
previous_after previous (takes j) = j.due
previous_after previous (goes k) = previous
previous_after previous (ends n) = previous
previous_after previous (rests k) = previous

-- a job is taken with the deadline of the rule
abbrev pub ByRule : ℕ → ℕ → ℕ → Move → Book → Type 0
ByRule p q previous stays b = Unit {0}
ByRule p q previous (takes j) b = j.due ≡ deadline_at p q previous b.clock j.owes
ByRule p q previous (goes k) b = Unit {0}
ByRule p q previous (ends n) b = Unit {0}
ByRule p q previous (rests k) b = Unit {0}

steps_share_free : (p q previous k : ℕ) (b : Book) → Sound b → LeavesShare p q (plans b.feeds) → ShareFree p q previous b → ShareFree p q previous (steps k b)
unfolding steps
steps_share_free p q previous zero b s l f = f
steps_share_free p q previous (suc k) b s l f =
    steps_share_free p q previous k (step b) (step_is_sound b s) (subst (LeavesShare p q) (sym (step_keeps (λ f. f.plan) (λ n f. refl) b)) l)
    (step_share_free p q previous b s.order l f)

-- KEPT BY EVERY MOVE
pub moved_share_free : (p q previous : ℕ) (m : Move) (b : Book) → 1 ≤ p → Sound b → LeavesShare p q (plans b.feeds) → ByRule p q previous m b
    → ShareFree p q previous b → ShareFree p q (previous_after previous m) (moved m b)
unfolding moved
moved_share_free p q previous stays b h s l r f = f
moved_share_free p q previous (takes j) b h s l r f =
    subst (λ d. ShareFree p q d (taking (record { number = j.number; owes = j.owes; due = d }) b)) (sym r) (taking_share_free p q previous j.number j.owes b h f)
moved_share_free p q previous (goes k) b h s l r f = steps_share_free p q previous k b s l f
moved_share_free p q previous (ends n) b h s l r f = ending_share_free p q previous b n f
moved_share_free p q previous (rests k) b h s l r f = resting_share_free p q previous b k f

module _ {C S : Type 0} (y : System C S) (p q : ℕ) (previous : S → ℕ) where
  -- the call is a move that takes no job but by the rule, and the state keeps the previous deadline
  pub record Fair (x : Did C S) (s : S) : Type 0 where
    pub move : Move
    pub read : Reordered (moved move (y.book s)) (y.book x.came.state)
    pub rule : ByRule p q (previous s) move (y.book s)
    pub keeps : previous x.came.state ≡ previous_after (previous s) move

  -- and so each of these calls
  unfoldable pub AllFair : List (Did C S) → S → Type 0
  AllFair [] s = Unit {0}
  AllFair (x ∷ xs) s = Fair x s × AllFair xs x.came.state

  -- OVER ANY SUCH CALLS
  pub run_share_free : 1 ≤ p → (xs : List (Did C S)) (s : S) → y.Good s → Allowed y.allows xs s → AllFair xs s
      → LeavesShare p q (plans (y.book s).feeds) → ShareFree p q (previous s) (y.book s)
      → ShareFree p q (previous (after xs s)) (y.book (after xs s))
  unfolding after Allowed AllFair
  run_share_free h [] s g a f l free = free
  run_share_free h (x ∷ xs) s g a f l free =
      let m = f.0 in
      let same : plans (y.book s).feeds ≡ plans (y.book x.came.state).feeds = sym (moved_keeps (λ k. k.plan) (λ n k. refl) m.move (y.book s)) ∙ ap plans m.read.feeds in
      run_share_free h xs x.came.state (y.follows x s g a.0).0 a.1 f.1 (subst (LeavesShare p q) same l)
      (subst (λ d. ShareFree p q d (y.book x.came.state)) (sym m.keeps)
      (reordered_share_free p q (previous_after (previous s) m.move) (moved m.move (y.book s)) (y.book x.came.state) m.read
      (moved_share_free p q (previous s) m.move (y.book s) h (y.sound s g) l m.rule free)))
