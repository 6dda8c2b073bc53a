use Rattle.std.proofs.Common.{Bool, sym, ◌∙◌}
use Rattle.std.specs.Prelude.{◌&&◌, List}
use Rattle.pl_base.specs.declared.resource.ResourceKey.{ResourceKey}
use Rattle.pl_torn.specs.Exclusive as spec
use Rattle.pl_torn.specs.declared.seen.Seen.{Seen}
use Rattle.pl_torn.proofs.Turns.{hit, miss, none}
use Rattle.pl_torn.proofs.exclusive.share.Goals as goal

abbrev test : List Seen → List ResourceKey → ResourceKey → Bool
test all others key = spec.is_used others key && spec.is_exclusive all key

pub returns-then-branch : goal.returns-then-branch
returns-then-branch c =
    sym (hit (test c.args.all.now c.args.others.now) c.args.uses.now c.loop-key.key-index
    c.key-item.result c.key-item.result c.loop-key-test.true c.key-item.is
    (sym c.in_ok-is_shared.ensures ∙ c.if-branch.true)) ∙ c.loop-key.invariant

pub loop-key-preserved : goal.loop-key-preserved
loop-key-preserved c =
    miss (test c.args.all.now c.args.others.now) c.args.uses.now c.loop-key.key-index
    c.key-item.result c.key-item.result c.loop-key-test.true c.key-item.is
    (sym c.in_ok-is_shared.ensures ∙ c.if-branch.false) ∙ c.loop-key.invariant

pub returns : goal.returns
returns c =
    sym (none (test c.args.all.now c.args.others.now) c.args.uses.now c.loop-key.key-index
    c.loop-key-test.false) ∙ c.loop-key.invariant
