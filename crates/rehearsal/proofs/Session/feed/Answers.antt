-- `rehearsal::Session::feed` meets its contract: the four numbers are written one after another.
use Rattle.std.proofs.Common.{◌≡◌, ℕ, zero, suc, ◌+◌, ◌*◌, ◌-◌, ◌≤◌, List, [], ◌∷◌, length, refl, ap, arith, ◌∙◌}
use lib.ListN.{set}
use borrow.Rule.Slice.PartMut.{put_mid}
use Rattle.sayings.specs.declared.Said.{Said}
use Rattle.rehearsal.specs.Session.{reply}
use Rattle.rehearsal.proofs.Session.feed.Goals as goal

-- four numbers written at once are those written one by one
four : (a : ℕ) (xs : List ℕ) (p w o l : ℕ) → a + 4 ≤ length xs
    → put_mid a 4 xs (p ∷ w ∷ o ∷ l ∷ []) ≡ set (set (set (set xs a p) (a + 1) w) (a + 2) o) (a + 3) l
four zero (x ∷ y ∷ z ∷ t ∷ xs) p w o l h = refl
four zero (x ∷ y ∷ z ∷ []) p w o l h = absurd (omega arith)
four zero (x ∷ y ∷ []) p w o l h = absurd (omega arith)
four zero (x ∷ []) p w o l h = absurd (omega arith)
four zero [] p w o l h = absurd (omega arith)
four (suc a) (x ∷ xs) p w o l h =
    let one : suc a + 1 ≡ suc (a + 1) = omega arith in
    let two : suc a + 2 ≡ suc (a + 2) = omega arith in
    let three : suc a + 3 ≡ suc (a + 3) = omega arith in
    ap (x ∷◌) (four a xs p w o l (omega arith)) ∙ rw (one, two, three) refl
four (suc a) [] p w o l h = absurd (omega arith)

written : (a k : ℕ) (xs ys : List ℕ) (p w o l : ℕ) → k ≡ 4 → ys ≡ p ∷ w ∷ o ∷ l ∷ [] → a + 4 ≤ length xs
    → put_mid a k xs ys ≡ set (set (set (set xs a p) (a + 1) w) (a + 2) o) (a + 3) l
written a k xs ys p w o l e f h = rw (e, f) (four a xs p w o l h)

pub returns : goal.returns
returns c =
    let s = c.args.self in
    ap
    (λ l. reply (record { desk = s.desk; list = l; feeds = s.feeds + 1; opened = s.opened; over = s.over; left = s.left }) Said.Nothing)
    (written (4 * s.feeds) (4 * s.feeds + 4 - 4 * s.feeds) s.list _ _ _ _ _ (omega arith) c.copy_from_slice.ensures.after (omega arith))
