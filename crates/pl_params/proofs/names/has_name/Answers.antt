use Rattle.std.proofs.Common.{◌≡◌, List, ℕ, ap, ◌∙◌}
use Rattle.std.specs.Option.{is_some}
use Rattle.std.specs.HashMap.{get_by_text}
use Rattle.pl_base.specs.Folding.{folded}
use Rattle.pl_literal.specs.Booleans.{spells}
use Rattle.pl_params.proofs.Places.{place_is_some}
use Rattle.pl_params.proofs.names.has_name.Goals as goal

pub returns : goal.returns
returns c =
    let name = c.args.name.now in
    let key : c.as_str.result.now ≡ folded name = c.as_str.ensures.value ∙ c.in_ok-name.ensures in
    c.contains_key-is.ensures
    ∙ ap (λ (upper : List ℕ). is_some (get_by_text c.args.places.now upper)) key
    ∙ ap is_some (c.requires (folded name))
    ∙ place_is_some (λ param. spells name param.name) c.args._declared.now 0
