use Rattle.std.proofs.Common.{true, ◌∙◌, ap, sym}
use Rattle.std.proofs.lemmas.List.{length-map}
use Rattle.pl_log.specs.Kept.{item_of, items_of}
use Rattle.pl_log.specs.Latest.{latest}
use Rattle.pl_log.proofs.Chains.{last_number_all}
use Rattle.pl_log.proofs.log.Log.last.Goals as goal

pub returns : goal.returns
returns g c =
    let kept = c.as_slice-kept.result.now in
    c.latest_item.ensures (λ _. true)
    (sym (last_number_all (items_of kept) ∙ length-map kept item_of))
    ∙ ap (λ l. latest (λ _. true) (items_of l)) c.as_slice-kept.ensures.value
    ∙ ap (λ log. latest (λ _. true) log.items) c.self.view_is
