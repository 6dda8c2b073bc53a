use Rattle.std.proofs.Common.{[], map, refl, sym, ap, ◌∙◌}
use Rattle.pl_json.specs.Members.{is_in_order, member, names_of}
use Rattle.pl_json.proofs.Ordering.{all_in_order, already_in_order, members_again}
use Rattle.pl_json.proofs.members.Members.in_order.Goals as goal

pub returns-then-is_in_order : goal.returns-then-is_in_order
returns-then-is_in_order g c =
    sym (already_in_order c.args.members
    (ap (λ ms. is_in_order (names_of ms)) (sym c.as_slice.ensures) ∙ sym c.is_in_order.ensures ∙
    c.if-is_in_order.true))

pub returns : goal.returns
returns g c =
    c.in_ok-members.ensures ∙ ap (map (λ entry. member entry.0 entry.1)) c.in_ok-by_name.ensures ∙
    members_again _

pub invariant_of-result-2 : goal.invariant_of-result-2
invariant_of-result-2 g c =
    ap (λ ms. is_in_order (names_of ms)) (c.in_ok-members.ensures ∙
    ap (map (λ entry. member entry.0 entry.1)) c.in_ok-by_name.ensures ∙ members_again _) ∙
    all_in_order [] c.args.members refl
