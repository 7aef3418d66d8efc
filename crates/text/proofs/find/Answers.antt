-- `text::find` meets its contract: the position in the bytes from `from` on is that far behind `from`.
use Rattle.std.proofs.Common.{◌≡◌, ◌<◌, drop, ◌+◌, length, eqb, sym, ap, ◌∙◌, arith, rules, tests}
use Rattle.std.specs.Option.{option_map}
use Rattle.std.proofs.lemmas.Iterator.{YieldsList-from_slice}
use Rattle.std.proofs.lemmas.Iterator.Search.{position_from_yields_List}
use Rattle.std.proofs.lemmas.Iterator.Adapters.{position_from-zero}
use Rattle.text.proofs.Fields.{found_past_end, found_behind, rest_part}
use Rattle.text.proofs.find.Goals as goal

pub returns-in_err-get : goal.returns-in_err-get
returns-in_err-get c =
    let past : length c.args.s.now < c.args.from = search rules in
    c.from_residual.ensures ∙ sym (found_past_end _ _ c.args.s.now (omega arith))

pub returns-in_err-place : goal.returns-in_err-place
returns-in_err-place c =
    let a = c.args in
    let rest : c.in_ok-get.field-0.now ≡ drop a.from a.s.now = c.in_ok-get.ensures.lookup.0.2 ∙ rest_part a.s.now a.from in
    let place = position_from_yields_List (λ b. eqb b a.byte) _ _ c.position.result c.position.ensures.ran (YieldsList-from_slice (drop a.from a.s.now) cc) (λ x b q k. search (rules, tests)) in
    c.from_residual-in_err-place.ensures
    ∙ ap (option_map (λ k. a.from + k)) (sym c.in_err-place.was ∙ place ∙ position_from-zero (λ b. eqb b a.byte) _)
    ∙ sym (found_behind a.byte a.from _)

pub returns : goal.returns
returns c =
    let a = c.args in
    let rest : c.in_ok-get.field-0.now ≡ drop a.from a.s.now = c.in_ok-get.ensures.lookup.0.2 ∙ rest_part a.s.now a.from in
    let place = position_from_yields_List (λ b. eqb b a.byte) _ _ c.position.result c.position.ensures.ran (YieldsList-from_slice (drop a.from a.s.now) cc) (λ x b q k. search (rules, tests)) in
    ap (option_map (λ k. a.from + k)) (sym c.in_ok-place.was ∙ place ∙ position_from-zero (λ b. eqb b a.byte) _)
    ∙ sym (found_behind a.byte a.from _)
