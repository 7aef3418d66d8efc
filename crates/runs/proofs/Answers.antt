-- What going on answers by its lines, and what it then hands back.
use mathlib.Core.Path.{◌≡◌, refl, sym}
use mathlib.Core.Bool.{true}
use mathlib.Core.List.{List, [], ◌∷◌}
use Prim.Native.Nat.{ℕ}
use native.Mathlib.Omega.{arith}
use borrow.Author.Tests.{eqb-true}
use Rattle.lists.proofs.Tests.{both}
use lib.ListN.{length}
use Rattle.answers.specs.declared.Refusal.{Refusal}
use Rattle.answers.specs.Verdicts.{Verdict}
use Rattle.std.specs.Prelude.{Ok, Err}
use Rattle.answers.specs.Answers.{on_yes}
use Rattle.desk.specs.declared.Desk.{Desk}
use Rattle.waveform.specs.declared.cursor.Cursor.{Cursor}
use Rattle.waveform.specs.Parts.{bytes_of}
use Rattle.runs.specs.declared.Went.{Went}
use Rattle.runs.specs.Parts.{Part, part_of, stuck, go_answer, refused_went, went_of, went_bytes}

-- a part that is stuck wrote nothing
pub stuck_nothing : (p : Part) → stuck p ≡ true → bytes_of p.lines ≡ []
unfolding stuck
stuck_nothing p h = none_of (bytes_of p.lines) (eqb-true _ _ (both _ _ h).0)
  where
    none_of : (bs : List ℕ) → length bs ≡ 0 → bs ≡ []
    none_of [] e = refl
    none_of (b ∷ bs) e = absurd (omega (arith, e))

-- the answer's fields by a part and a verdict
abbrev pub went_by : Desk → Cursor → Part → Verdict → Went
went_by d c p v =
    record {
      desk = on_yes v p.desk d;
      cursor = on_yes v p.cursor c;
      verdict = v;
      bytes = on_yes v (length (bytes_of p.lines)) 0;
      steps = on_yes v (length p.names) 0;
    }

module _ (size most : ℕ) (d : Desk) (c : Cursor) where
  pub went_no : (r : Refusal) → go_answer size most d c ≡ Err r → (refused_went d c r ≡ went_of size most d c) × ([] ≡ went_bytes size most d c)
  unfolding went_of went_bytes
  went_no r e = let p = part_of size most d c in (λ i. went_by d c p (sym e i), λ i. on_yes (sym e i) (bytes_of p.lines) [])

  pub went_yes : go_answer size most d c ≡ Ok tt
      → (went_by d c (part_of size most d c) (Ok tt) ≡ went_of size most d c) × (bytes_of (part_of size most d c).lines ≡ went_bytes size most d c)
  unfolding went_of went_bytes
  went_yes e = let p = part_of size most d c in (λ i. went_by d c p (sym e i), λ i. on_yes (sym e i) (bytes_of p.lines) [])
