use Rattle.std.proofs.Common.{◌≡◌, ◌++◌, ◌≤◌, length, drop, sym, ap, subst, ◌∙◌, arith}
use Rattle.std.proofs.lemmas.Result.{IfOk-weaker, on_err_weaker}
use Rattle.pl_journal.specs.Log.{Log}
use Rattle.pl_row_changes.specs.Changing.{AreOfEntry}
use Rattle.pl_step.specs.Full.{back, with_facts}
use Rattle.pl_step.specs.Step.{Serves, given, happened, stepped_with}
use Rattle.pl_step.proofs.Behind.{back_to, both, still_installed, within}
use Rattle.pl_step.proofs.Fitting.{fits}
use Rattle.pl_step.proofs.Serving.{serves}
use Rattle.pl_step.proofs.stepping.serve.Goals as goal

pub push_event-requires-clause-can_run : goal.push_event-requires-clause-can_run
push_event-requires-clause-can_run c =
    fits c.settle_for.new.journal c.args.call.now.moment c.args.who.now c.args.made
    c.requires.can_run c.args.call.now.request c.in_ok-reply.field-0 c.in_ok-reply.ensures

pub enter-requires-clause-installed : goal.enter-requires-clause-installed
enter-requires-clause-installed c =
    let log = c.args.journal.now in
    let (due, settles, settled) = c.in_ok-settle_for.ensures.ok in
    let more = happened c.args.call.now.moment c.in_ok-reply.field-0.event in
    c.len-from.ensures ∙ ap (λ (one : Log). length one.facts) c.journal.ensures
    ∙ sym c.requires.installed
    ∙ sym (still_installed log c.requires.installed due more c.settle_for.new.journal
    c.push_event.new.journal settled c.in_ok-push_event.ensures.ok)

pub enter-requires-clause-within : goal.enter-requires-clause-within
enter-requires-clause-within c =
    let log = c.args.journal.now in
    let (due, settles, settled) = c.in_ok-settle_for.ensures.ok in
    let more = happened c.args.call.now.moment c.in_ok-reply.field-0.event in
    within log c.requires.installed due more c.settle_for.new.journal c.push_event.new.journal
    settled c.in_ok-push_event.ensures.ok c.len-from.result
    (c.len-from.ensures ∙ ap (λ (one : Log). length one.facts) c.journal.ensures)

pub returns-clause-ok : goal.returns-clause-ok
returns-clause-ok c =
    let log = c.args.journal.now in
    let call = c.args.call.now in
    let held = c.args.held.now in
    let new = c.push_event.new.journal in
    let from = c.len-from.result in
    let answer = c.in_ok-reply.field-0 in
    let end = c.enter.new.journal in
    let (due, settles, settled) = c.in_ok-settle_for.ensures.ok in
    IfOk-weaker c.enter.result
    (λ entered. (entered.stepped ≡ given held (back new) call.request
    (stepped_with answer.reply (drop from new.facts)))
    × (end ≡ with_facts (back new) entered.stepped.added))
    (λ entered. Serves held log call c.args.made c.args.who.now entered.stepped
    × (end ≡ with_facts log entered.stepped.added))
    (λ entered. serves held log call c.args.made c.args.who.now c.requires.installed due settles
    c.settle_for.new.journal new settled answer c.in_ok-reply.ensures
    c.in_ok-push_event.ensures.ok from
    (c.len-from.ensures ∙ ap (λ (one : Log). length one.facts) c.journal.ensures) end
    entered.stepped)
    c.enter.ensures.ok

pub returns-clause-rows : goal.returns-clause-rows
returns-clause-rows c =
    let log = c.args.journal.now in
    let change = c.args.held.now.change in
    let new = c.push_event.new.journal in
    let (due, settles, settled) = c.in_ok-settle_for.ensures.ok in
    let more = happened c.args.call.now.moment c.in_ok-reply.field-0.event in
    let same = back_to log c.requires.installed due more c.settle_for.new.journal new settled
    c.in_ok-push_event.ensures.ok in
    IfOk-weaker c.enter.result
    (λ entered. AreOfEntry change entered.rows.next (back new) entered.stepped.added
    entered.rows.changes)
    (λ entered. AreOfEntry change entered.rows.next log entered.stepped.added
    entered.rows.changes)
    (λ entered is. subst (λ (one : Log). AreOfEntry change entered.rows.next one
    entered.stepped.added entered.rows.changes) same is)
    c.enter.ensures.rows

pub returns-clause-err : goal.returns-clause-err
returns-clause-err c =
    let log = c.args.journal.now in
    let new = c.push_event.new.journal in
    let (due, settles, settled) = c.in_ok-settle_for.ensures.ok in
    let more = happened c.args.call.now.moment c.in_ok-reply.field-0.event in
    let same = back_to log c.requires.installed due more c.settle_for.new.journal new settled
    c.in_ok-push_event.ensures.ok in
    on_err_weaker c.enter.result
    (λ some. (some.0, some.1 ∙ ap (λ (one : Log). with_facts one some.0) same))
    c.enter.ensures.err
