use Rattle.std.proofs.Common.{◌≡◌, ℕ, List, ap, sym, ◌∙◌}
use Rattle.std.specs.HashMap.{get_by_text}
use Rattle.pl_base.specs.Folding.{folded}
use Rattle.pl_cond.proofs.gathering.Gathered.with.Goals as goal

pub replaced-requires : goal.replaced-requires
replaced-requires c =
    let name = c.args.later.name in
    let key : c.as_str.result.now ≡ folded name = c.as_str.ensures.value ∙ c.in_ok-name.ensures in
    sym (c.args.self.indexed (folded name))
    ∙ sym (ap (λ (upper : List ℕ). get_by_text c.args.self.places upper) key)
    ∙ sym c.in-Some.ensures

pub extended-requires-clause-new : goal.extended-requires-clause-new
extended-requires-clause-new c =
    let name = c.args.later.name in
    let key : c.as_str.result.now ≡ folded name = c.as_str.ensures.value ∙ c.in_ok-name.ensures in
    sym (c.args.self.indexed (folded name))
    ∙ sym (ap (λ (upper : List ℕ). get_by_text c.args.self.places upper) key)
    ∙ sym c.in-None.ensures
