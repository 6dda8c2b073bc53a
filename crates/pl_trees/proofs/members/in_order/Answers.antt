use Rattle.std.proofs.Common.{◌≡◌, ◌+◌, ◌∷◌, drop, refl, sym, ap, ◌∙◌, arith}
use Rattle.std.proofs.lemmas.List.{drop_more}
use Rattle.serde_json.specs.Data.{no_members}
use Rattle.pl_trees.specs.Trees.{data_of_members}
use Rattle.pl_trees.specs.Views.{members_view}
use Rattle.pl_trees.proofs.Trees.{one_in}
use Rattle.pl_trees.proofs.members.in_order.Goals as goal

pub loop-member-preserved : goal.loop-member-preserved
loop-member-preserved c =
    let l = c.loop-member in
    let i = l.member-index in
    let xs = c.args.members.now in
    let x = c.member-item.result in
    let here : drop i xs ≡ x ∷ drop (i + 1) xs =
    drop_more xs i x (omega arith) ∙ ap (λ y. y ∷ drop (i + 1) xs) (sym c.member-item.is) in
    one_in (data_of_members (members_view xs) no_members) l.found.entries
    c.insert.new.self.entries (drop i xs) (drop (i + 1) xs) x x.0 _ here
    refl refl c.in_ok-insert.ensures.entries l.invariant
