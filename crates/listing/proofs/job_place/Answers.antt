-- `listing::job_place` meets its contract: what `position` says of the records is the first that has the number.
use mathlib.Core.Path.{sym, ap, ◌∙◌}
use borrow.Author.Rules.{rules}
use borrow.Author.Tests.{tests}
use Prim.Native.Nat.{ℕ}
use mathlib.Core.List.{List}
use lib.Dec.{eqb}
use Rattle.std.specs.Simd.{first_chunks}
use Rattle.std.proofs.lemmas.Iterator.{YieldsList-from_slice}
use Rattle.std.proofs.lemmas.Iterator.Adapters.{position_from-zero}
use Rattle.std.proofs.lemmas.Iterator.Search.{position_from_yields_List}
use Rattle.listing.specs.Labels.{big_endian, record_bytes, whole, job_place}
use Rattle.listing.proofs.Labels.{record_chunks}
use Rattle.listing.proofs.job_place.Goals as goal

pub returns-in-Some : goal.returns-in-Some
returns-in-Some c =
    let s = c.args.labels.now in
    let p = λ (r : List ℕ). eqb (big_endian r 0) c.args.number in
    let records = first_chunks record_bytes (whole s) s in
    let said = position_from_yields_List p _ _ c.position-found.result c.position-found.ensures.ran (YieldsList-from_slice records (c.iter.ensures.rest ∙ c.as_chunks.ensures.front)) (λ x b q k. search (rules, tests)) in
    sym (ap job_place (record_chunks (whole s) s c.args.number 0 ∙ sym (said ∙ position_from-zero p records) ∙ c.in-Some.is))

pub returns-in-None : goal.returns-in-None
returns-in-None c =
    let s = c.args.labels.now in
    let p = λ (r : List ℕ). eqb (big_endian r 0) c.args.number in
    let records = first_chunks record_bytes (whole s) s in
    let said = position_from_yields_List p _ _ c.position-found.result c.position-found.ensures.ran (YieldsList-from_slice records (c.iter.ensures.rest ∙ c.as_chunks.ensures.front)) (λ x b q k. search (rules, tests)) in
    sym (ap job_place (record_chunks (whole s) s c.args.number 0 ∙ sym (said ∙ position_from-zero p records) ∙ c.in-None.is))
