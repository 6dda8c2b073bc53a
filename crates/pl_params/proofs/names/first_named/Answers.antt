use Rattle.std.proofs.Common.{◌≡◌, List, ℕ, Some, None, ap, sym, ◌∙◌}
use Rattle.std.specs.List.{position_from}
use Rattle.std.specs.HashMap.{get_by_text}
use Rattle.pl_base.specs.Folding.{folded}
use Rattle.pl_literal.specs.Booleans.{spells}
use Rattle.pl_params.proofs.Places.{at_place, no_place}
use Rattle.pl_params.proofs.names.first_named.Goals as goal

pub returns-in-Some : goal.returns-in-Some
returns-in-Some c =
    let name = c.args.name.now in
    let key : c.as_str.result.now ≡ folded name = c.as_str.ensures.value ∙ c.in_ok-name.ensures in
    let place : position_from (λ one. spells name one.name) 0 c.args.given.now ≡
    Some c.in-Some.at.now =
    sym (c.requires (folded name)) ∙
    sym (ap (λ (upper : List ℕ). get_by_text c.args.places.now upper) key) ∙
    sym c.in-Some.ensures.value in
    c.get-in-Some.ensures.value ∙
    sym (at_place (λ one. spells name one.name) c.args.given.now c.in-Some.at.now place)

pub returns : goal.returns
returns c =
    let name = c.args.name.now in
    let key : c.as_str.result.now ≡ folded name = c.as_str.ensures.value ∙ c.in_ok-name.ensures in
    let place : position_from (λ one. spells name one.name) 0 c.args.given.now ≡ None =
    sym (c.requires (folded name)) ∙
    sym (ap (λ (upper : List ℕ). get_by_text c.args.places.now upper) key) ∙
    sym c.in-None.ensures.value in
    sym (no_place (λ one. spells name one.name) c.args.given.now 0 place)
