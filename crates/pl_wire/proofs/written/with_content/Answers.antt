use Rattle.std.proofs.Common.{◌≡◌, ◌++◌, List, ℕ, IfOk, ap, subst, ◌∙◌}
use Rattle.pl_wire.proofs.Gathered.{gathered}
use Rattle.pl_wire.proofs.written.with_content.Goals as goal

pub returns : goal.returns
returns c =
    subst (λ (all : List ℕ). IfOk c.joined.result (λ bytes. bytes ≡ all))
    (ap (λ f. f ++ c.args.content.now) c.in_ok-front.ensures
    ∙ gathered c.args.status c.args.kind.now c.args.content.now)
    c.joined.ensures
