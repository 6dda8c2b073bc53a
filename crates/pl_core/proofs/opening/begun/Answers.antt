use Rattle.std.proofs.Common.{◌≡◌, List, length, sym, ap, ◌∙◌}
use Rattle.std.proofs.lemmas.List.{map-id}
use Rattle.std.proofs.lemmas.Iterator.Adapters.{YieldsList-from_vec}
use Rattle.std.proofs.lemmas.Iterator.Consumers.{YieldsList-end}
use Rattle.pl_facts.specs.declared.fact.Fact.{Fact}
use Rattle.pl_history.specs.History.{Opening}
use Rattle.pl_journal.specs.Log.{Log, empty}
use Rattle.pl_core.proofs.Opened.{begun_is}
use Rattle.pl_core.proofs.opening.begun.Goals as goal

pub returns : goal.returns
returns c =
    let opening : Opening = record {
      admin = c.args.admin;
      moment = c.args.numbers.moment;
      run = c.args.numbers.run;
      version = c.args.numbers.version;
      change = c.args.change;
      facts = c.args.facts.items;
    } in
    let ended = YieldsList-end (YieldsList-from_vec {s = c.into_iter-fact-iterator.result}
    c.args.facts.items c.into_iter-fact-iterator.ensures.into_iter_gives.0
    (c.into_iter-fact-iterator.ensures.into_iter_gives.1 ∙ c.args.facts.ok.0)) c.loop-fact.yielded
    c.loop-fact.fact-iterator c.loop-fact.yielded_by c.next.result c.next.new.self c.in-None.is
    c.next.ensures.steps in
    let all : c.loop-fact.yielded ≡ c.args.facts.items =
    sym (map-id c.loop-fact.yielded) ∙ ended.0 in
    let all_there : c.loop-fact.journal ≡ record (empty c.args.admin) { facts = c.args.facts.items } =
    c.loop-fact.invariant
    ∙ ap (λ (facts : List Fact). record (empty c.args.admin) { facts = facts }) all in
    c.begin.ensures ∙ ap (λ (l : Log). record l {
      opening = record {
        moment = opening.moment;
        run = opening.run;
        version = opening.version;
        facts = length l.facts;
      };
      installed = length l.facts;
    }) all_there ∙ begun_is opening
