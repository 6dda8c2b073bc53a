use Rattle.std.proofs.Common.{[], ◌∷◌, ◌++◌, ap, sym, ◌∙◌}
use Rattle.std.specs.List.{list_any}
use Rattle.pl_base.specs.Texts.{is}
use Rattle.pl_root.proofs.Sets.{one_more}
use Rattle.pl_root.proofs.aliases.Aliases.with.Goals as goal

pub invariant_of-result : goal.invariant_of-result
invariant_of-result c = λ key.
    one_more _ _ _ _ _ key c.in_ok-copy.ensures (c.in_ok-insert.ensures.updates.0 key)
    (c.self.invariant key)
    ∙ ap (list_any (is key)) (sym (c.in_ok-push.ensures.ok
    ∙ ap (λ last. c.self.inside.all ++ last ∷ []) c.in_ok-copy-2.ensures))
