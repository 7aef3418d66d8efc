-- A yes is kept and a layer is served, over any calls that the mathematics can follow.
use mathlib.Core.Path.{◌≡◌, refl, sym, ◌∙◌, ap, subst}
use mathlib.Core.Logic.{◌⊎◌, inl, inr}
use mathlib.Core.List.{List, [], ◌∷◌}
use Prim.Native.Nat.{ℕ, ◌+◌, ◌*◌, ◌≤◌, ◌<◌}
use native.Mathlib.Omega.{arith}
use Rattle.edf.specs.Book.{Book, Who, job, feed, same}
use Rattle.edf.specs.Load.{Sound}
use Rattle.edf.specs.Runs.{Did, after, Allowed, named}
use Rattle.edf.specs.Kept.{Live, Current, StillLive, HasLeft, WasEnded, JobKept, StillCurrent, WasServed, WasRested, PieceKept}
use Rattle.edf.proofs.Names.{same_elim}
use Rattle.edf.proofs.Moves.{ends, rests, moved, gives, names_given}
use Rattle.edf.proofs.Moved.{JobThen, live, out, PieceThen, current, served, still_ahead, job_moved, piece_moved, job_told}
use Rattle.edf.proofs.Reordered.{reordered_live, reordered_not_live, reordered_current}
use Rattle.edf.proofs.Runs.{named_append, named_last, Known, Makes, System}

-- for how many ticks one call names w
abbrev tally : {C S : Type 0} → Who → Did C S → ℕ
tally w x = same x.came.who w * x.came.ticks

tallied : {C S : Type 0} (w : Who) (x : Did C S) → 1 ≤ tally w x → (x.came.who ≡ w) × (x.came.ticks ≡ tally w x)
tallied w x =
    same_elim (λ k. 1 ≤ k * x.came.ticks → (x.came.who ≡ w) × (x.came.ticks ≡ k * x.came.ticks)) x.came.who w
    (λ e h. (e, omega arith))
    (λ e h. absurd (omega arith))

module _ {C S : Type 0} (book : S → Book) (x : Did C S) (xs : List (Did C S)) (s : S) where
  -- what holds after a call holds from before it on, with that call's ticks counted
  longer : (n d o o' : ℕ) (ys : List (Did C S)) → o' + tally (job n) x ≡ o → StillLive book n d o' ys x.came.state → StillLive book n d o (x ∷ ys) s
  unfolding after named
  longer n d o o' ys e k = record { owes = k.owes; live = k.live; ahead = k.ahead; counted = omega (arith, k.counted) }

  carry : (Ends : ℕ → Did C S → Type 0) (n d o o' : ℕ) → o' + tally (job n) x ≡ o
      → JobKept book Ends n d o' xs x.came.state → JobKept book Ends n d o (x ∷ xs) s
  unfolding named
  carry Ends n d o o' e (inl k) = inl (longer n d o o' xs e k)
  carry Ends n d o o' e (inr (inl k)) =
      inr
      (inl
      (record {
        before = x ∷ k.before;
        at = k.at;
        later = k.later;
        calls = ap (x ∷◌) k.calls;
        until = longer n d o o' k.before e k.until;
        names = k.names;
        some = k.some;
        last = k.last;
        in_time = k.in_time;
        out = k.out;
        counted = omega (arith, k.counted);
      }))
  carry Ends n d o o' e (inr (inr k)) =
      inr
      (inr
      (record {
        before = x ∷ k.before;
        at = k.at;
        later = k.later;
        calls = ap (x ∷◌) k.calls;
        until = longer n d o o' k.before e k.until;
        ended = k.ended;
      }))

  longer_piece : (p d o o' : ℕ) (ys : List (Did C S)) → o' + tally (feed p) x ≡ o → StillCurrent book p d o' ys x.came.state → StillCurrent book p d o (x ∷ ys) s
  unfolding after named
  longer_piece p d o o' ys e k = record { owes = k.owes; current = k.current; ahead = k.ahead; counted = omega (arith, k.counted) }

  carry_piece : (Rests : ℕ → Did C S → Type 0) (p d o o' : ℕ) → o' + tally (feed p) x ≡ o
      → PieceKept book Rests p d o' xs x.came.state → PieceKept book Rests p d o (x ∷ xs) s
  unfolding named
  carry_piece Rests p d o o' e (inl k) = inl (longer_piece p d o o' xs e k)
  carry_piece Rests p d o o' e (inr (inl k)) =
      inr
      (inl
      (record {
        before = x ∷ k.before;
        at = k.at;
        later = k.later;
        calls = ap (x ∷◌) k.calls;
        until = longer_piece p d o o' k.before e k.until;
        reached = k.reached;
        counted = omega (arith, k.counted);
      }))
  carry_piece Rests p d o o' e (inr (inr k)) =
      inr
      (inr
      (record {
        before = x ∷ k.before;
        at = k.at;
        later = k.later;
        calls = ap (x ∷◌) k.calls;
        until = longer_piece p d o o' k.before e k.until;
        rested = k.rested;
      }))

-- before any call
live_now : {C S : Type 0} (book : S → Book) (s : S) (n d o : ℕ) → Sound (book s) → Live n d o (book s) → StillLive {C = C} book n d o [] s
unfolding after named
live_now book s n d o b l = record { owes = o; live = l; ahead = (still_ahead (book s) n d o b.order l).0; counted = omega arith }

current_now : {C S : Type 0} (book : S → Book) (s : S) (p d o : ℕ) → Current p d o (book s) → (book s).clock < d → StillCurrent {C = C} book p d o [] s
unfolding after named
current_now book s p d o l t = record { owes = o; current = l; ahead = t; counted = omega arith }

module _ {C S : Type 0} (book : S → Book) (Ends Rests : ℕ → Did C S → Type 0) (x : Did C S) (xs : List (Did C S)) (s : S) (sound : Sound (book s)) (m : Makes book Ends Rests x s) where
  told : (w : Who) → tally w x ≡ gives m.move (book s) w
  told w = names_given m.move (book s) x.came w m.names

  clock : (book x.came.state).clock ≡ (moved m.move (book s)).clock
  clock = sym m.read.clock

  -- the job over one call, and on from there
  job_call : (n d o : ℕ) → Live n d o (book s)
      → ((o' : ℕ) → Live n d o' (book x.came.state) → JobKept book Ends n d o' xs x.came.state)
      → JobKept book Ends n d o (x ∷ xs) s
  unfolding named Known
  job_call n d o l on = go (job_moved m.move (book s) n d o sound m.right l)
    where
      go : JobThen (gives m.move (book s) (job n)) (moved m.move (book s)) n d o ⊎ (m.move ≡ ends n) → JobKept book Ends n d o (x ∷ xs) s
      go (inl (live o' l' e)) = carry book x xs s Ends n d o o' (omega (arith, told (job n))) (on o' (reordered_live _ _ m.read n d o' l'))
      go (inl (out f e t)) =
          let all : tally (job n) x ≡ o = told (job n) ∙ e in
          let some = (still_ahead (book s) n d o sound.order l).1 in
          let (who, ticks) = tallied (job n) x (omega arith) in
          let rest : x.came.owes + x.came.ticks ≡ o = job_told m.move (book s) x.came n d o sound m.right m.names l who (omega arith) in
          inr
          (inl
          (record {
            before = [];
            at = x;
            later = xs;
            calls = refl;
            until = live_now book s n d o sound l;
            names = who;
            some = omega arith;
            last = omega arith;
            in_time = omega (arith, clock);
            out = reordered_not_live _ _ m.read n f;
            counted = omega arith;
          }))
      go (inr e) =
          inr
          (inr
          (record {
            before = [];
            at = x;
            later = xs;
            calls = refl;
            until = live_now book s n d o sound l;
            ended = subst (λ k. Known Ends Rests k x) e m.known;
          }))

  -- the piece over one call, and on from there
  piece_call : (p d o : ℕ) → Current p d o (book s) → (book s).clock < d
      → ((o' : ℕ) → Current p d o' (book x.came.state) → (book x.came.state).clock < d → PieceKept book Rests p d o' xs x.came.state)
      → PieceKept book Rests p d o (x ∷ xs) s
  unfolding named Known
  piece_call p d o l t on = go (piece_moved m.move (book s) p d o sound m.right l t)
    where
      go : PieceThen (gives m.move (book s) (feed p)) (moved m.move (book s)) p d o ⊎ (m.move ≡ rests p) → PieceKept book Rests p d o (x ∷ xs) s
      go (inl (current o' l' t' e)) =
          carry_piece book x xs s Rests p d o o' (omega (arith, told (feed p))) (on o' (reordered_current _ _ m.read p d o' l') (omega (arith, clock)))
      go (inl (served t' e)) =
          inr
          (inl
          (record {
            before = [];
            at = x;
            later = xs;
            calls = refl;
            until = current_now book s p d o l t;
            reached = omega (arith, clock);
            counted = omega (arith, told (feed p));
          }))
      go (inr e) =
          inr
          (inr
          (record {
            before = [];
            at = x;
            later = xs;
            calls = refl;
            until = current_now book s p d o l t;
            rested = subst (λ k. Known Ends Rests k x) e m.known;
          }))

module _ {C S : Type 0} (y : System C S) where
  -- A YES IS KEPT: a live job, over any calls at all
  pub job_is_kept : (xs : List (Did C S)) (s : S) (n d o : ℕ) → y.Good s → Allowed y.allows xs s → Live n d o (y.book s)
      → JobKept y.book y.Ends n d o xs s
  unfolding Allowed
  job_is_kept [] s n d o g a l = inl (live_now y.book s n d o (y.sound s g) l)
  job_is_kept (x ∷ xs) s n d o g a l =
      let (g', m) = y.follows x s g a.0 in
      job_call y.book y.Ends y.Rests x xs s (y.sound s g) m n d o l
      (λ o' l'. job_is_kept xs x.came.state n d o' g' a.1 l')

  -- EVERY LAYER IS SERVED: a current piece, over any calls at all
  pub piece_is_kept : (xs : List (Did C S)) (s : S) (p d o : ℕ) → y.Good s → Allowed y.allows xs s → Current p d o (y.book s) → (y.book s).clock < d
      → PieceKept y.book y.Rests p d o xs s
  unfolding Allowed
  piece_is_kept [] s p d o g a l t = inl (current_now y.book s p d o l t)
  piece_is_kept (x ∷ xs) s p d o g a l t =
      let (g', m) = y.follows x s g a.0 in
      piece_call y.book y.Ends y.Rests x xs s (y.sound s g) m p d o l t
      (λ o' l' t'. piece_is_kept xs x.came.state p d o' g' a.1 l' t')

  -- when the clock has reached its deadline the job has left in time, or was ended
  pub job_is_done : (xs : List (Did C S)) (s : S) (n d o : ℕ) → y.Good s → Allowed y.allows xs s → Live n d o (y.book s) → d ≤ (y.book (after xs s)).clock
      → HasLeft y.book n d o xs s ⊎ WasEnded y.book y.Ends n d o xs s
  job_is_done xs s n d o g a l h = go (job_is_kept xs s n d o g a l)
    where
      go : JobKept y.book y.Ends n d o xs s → HasLeft y.book n d o xs s ⊎ WasEnded y.book y.Ends n d o xs s
      go (inl k) = absurd (omega (arith, k.ahead))
      go (inr k) = k

  -- and the piece was served, or rested
  pub piece_is_done : (xs : List (Did C S)) (s : S) (p d o : ℕ) → y.Good s → Allowed y.allows xs s → Current p d o (y.book s) → (y.book s).clock < d
      → d ≤ (y.book (after xs s)).clock
      → WasServed y.book p d o xs s ⊎ WasRested y.book y.Rests p d o xs s
  piece_is_done xs s p d o g a l t h = go (piece_is_kept xs s p d o g a l t)
    where
      go : PieceKept y.book y.Rests p d o xs s → WasServed y.book p d o xs s ⊎ WasRested y.book y.Rests p d o xs s
      go (inl k) = absurd (omega (arith, k.ahead))
      go (inr k) = k

module _ {C S : Type 0} (book : S → Book) where
  -- who has left, and whose deadline came, was named for all the work
  pub left_with_its_work : (n d work : ℕ) (xs : List (Did C S)) (s : S) → HasLeft book n d work xs s → work ≤ named (job n) xs
  unfolding named
  left_with_its_work n d work xs s k =
      omega (
        arith,
        ap (named (job n)) k.calls,
        named_append (job n) k.before (k.at ∷ k.later),
        named_last (job n) k.before k.at,
        k.counted,
      )

  pub served_with_its_work : (p d work : ℕ) (xs : List (Did C S)) (s : S) → WasServed book p d work xs s → work ≤ named (feed p) xs
  unfolding named
  served_with_its_work p d work xs s k =
      omega (
        arith,
        ap (named (feed p)) k.calls,
        named_append (feed p) k.before (k.at ∷ k.later),
        named_last (feed p) k.before k.at,
        k.counted,
      )
