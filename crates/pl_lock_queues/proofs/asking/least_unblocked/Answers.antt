use Rattle.std.specs.BTreeMap.{keys}
use Rattle.std.proofs.Common.{◌≡◌, rules, inl, inr, ⊎_elim}
use Rattle.std.proofs.lemmas.Map.Iter.{rest_all, rest_more}
use Rattle.std.specs.Map.Iter.{deref}
use Rattle.pl_base.specs.declared.resource.ResourceKey.{ResourceKey}
use Rattle.pl_lock_queues.specs.Asked.{IsClear, IsUpTo}
use Rattle.pl_lock_queues.proofs.Earlier.{is_left, none_left, one_less}
use Rattle.pl_lock_queues.proofs.asking.least_unblocked.Goals as goal

pub loop-key-init : goal.loop-key-init
loop-key-init c =
    let start : c.into_iter-key-iterator.result ≡ keys c.args.marks.now = search rules in
    record {
      is = λ place e. inl (c.first_of-best.ensures.is place e);
      free = c.first_of-best.ensures.least;
      unblocked = λ place key some first un. inl (is_left c.args.marks.now
          c.into_iter-key-iterator.result c.keys-key-items.ensures.ordered start key some);
    }

pub loop-key-preserved : goal.loop-key-preserved
loop-key-preserved c =
    let now = c.loop-key.invariant in
    let rest = rest_more (deref {X = ResourceKey}) c.loop-key.key-iterator c.next.new.self
    c.next.result c.in-Some.key c.in-Some.is c.next.ensures.steps in
    record {
      is = λ place e. ⊎_elim (λ was. now.is place was) (λ un. inr un) (c.better-best.ensures.is place e);
      free = λ place h. c.better-best.ensures.kept place (now.free place h);
      unblocked = λ place key some first un.
          one_less c.in-Some.key.now key c.loop-key.key-iterator c.next.new.self
          (λ (k : ResourceKey). IsClear c.args.lines.now.lines c.args.marks.now place k)
          (IsUpTo c.better-best.result place) rest first
          (λ here. c.better-best.ensures.here place here un)
          (⊎_elim (λ left. inl left) (λ upto. inr (c.better-best.ensures.kept place upto))
          (now.unblocked place key some first un));
    }

pub returns-clause-is : goal.returns-clause-is
returns-clause-is c = c.loop-key.invariant.is

pub returns-clause-free : goal.returns-clause-free
returns-clause-free c = c.loop-key.invariant.free

pub returns-clause-unblocked : goal.returns-clause-unblocked
returns-clause-unblocked c = λ place key some first un.
    none_left key c.loop-key.key-iterator (IsUpTo c.loop-key.best place)
    (rest_all (deref {X = ResourceKey}) c.loop-key.key-iterator c.next.new.self c.next.result
    c.in-None.is c.next.ensures.steps)
    (c.loop-key.invariant.unblocked place key some first un)
