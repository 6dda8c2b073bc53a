use Rattle.std.proofs.Common.{ap, subst, ◌∙◌, arith}
use Rattle.pl_facts.specs.Sizes.{counted}
use Rattle.pl_history.specs.History.{Opening}
use Rattle.pl_journal.specs.Log.{Log, last_moment, version}
use Rattle.pl_snapshots.proofs.FactByFact.{none_gathered}
use Rattle.pl_snapshots.specs.Gathering.{IsGathered}
use Rattle.pl_core.proofs.Opened.{opened_gathered, opened_is, opened_kept}
use Rattle.pl_core.proofs.service.Core.opened.Goals as goal

pub catch_up-requires : goal.catch_up-requires
catch_up-requires c =
    none_gathered c.journal-4.result.now.facts c.new-gathered.result c.new-gathered.ensures

pub invariant_of-result : goal.invariant_of-result
invariant_of-result c =
    let opening : Opening = record {
      admin = c.args.admin;
      moment = c.args.numbers.moment;
      run = c.args.numbers.run;
      version = c.args.numbers.version;
      change = c.args.change;
      facts = c.args.facts.items;
    } in
    let kept =
    opened_kept c.in_ok-journal.journal opening c.new.result.items c.in_ok-journal.ensures
    c.new.ensures.items c.last_moment-moment.result c.version-version.result _ c.requires.fit
    c.requires.moment (omega (arith, c.ranges.change.fits))
    (c.last_moment-moment.ensures ∙ ap (λ (l : Log). last_moment l) c.journal-2.ensures)
    (c.version-version.ensures ∙ ap (λ (l : Log). counted (version l)) c.journal-3.ensures) in (
      kept.0,
      kept.1,
      kept.2,
      opened_gathered c.in_ok-journal.journal opening c.new.result.items c.in_ok-journal.ensures
          c.new.ensures.items c.catch_up.new.self
          (subst (λ (l : Log). IsGathered l.facts c.catch_up.new.self) c.journal-4.ensures
          c.catch_up.ensures.gathered),
    )

pub returns : goal.returns
returns c =
    let opening : Opening = record {
      admin = c.args.admin;
      moment = c.args.numbers.moment;
      run = c.args.numbers.run;
      version = c.args.numbers.version;
      change = c.args.change;
      facts = c.args.facts.items;
    } in
    opened_is c.in_ok-journal.journal opening c.new.result.items c.in_ok-journal.ensures
    c.new.ensures.items
