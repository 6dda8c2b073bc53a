use Rattle.std.proofs.Common.{◌≡◌, ◌+◌, List, Option, IfOk, length, sym, ap, subst, ◌∙◌, arith}
use Rattle.std.proofs.Common.{◌<◌, ◌⊎◌, [], refl}
use Rattle.std.specs.Prelude.{vec_capacity, vec_len}
use Rattle.pl_core.specs.Kept.{AreNumbers, IsKept, change_behind, opening_of, pending_of}
use Rattle.pl_core.specs.Prepared.{IsEntryOf, added_by, next_number}
use Rattle.pl_core.specs.State.{State, held, log}
use Rattle.pl_facts.specs.Sizes.{counted, size_of, total}
use Rattle.pl_facts.specs.declared.entry.Entry.{Entry}
use Rattle.pl_history.specs.History.{Opening, held_of, log_of}
use Rattle.pl_history.specs.Legal.{Legal}
use Rattle.pl_journal.specs.Log.{Log}
use Rattle.pl_history.specs.Below.pl_step.specs.Full.{with_facts}
use Rattle.pl_history.specs.Below.pl_step.specs.Step.{IsStep, stepped_with}
use Rattle.pl_history.specs.Below.pl_step.specs.declared.held.Held.{Held}
use Rattle.pl_snapshots.specs.Gathering.{IsGathered}
use Rattle.pl_core.proofs.Keeping.{all_installed, back_behind, back_fit, back_gathered, back_whole}
use Rattle.pl_core.proofs.Keeping.{gathered_back, gathered_behind}
use Rattle.pl_core.proofs.Keeping.{kept_behind, numbers_behind, opening_behind, pending_behind}
use Rattle.pl_core.proofs.Keeping.{went_back}
use Rattle.pl_core.proofs.Preparing.{behind_by, changed_by, guarded_by, if_ok, kept_room}
use Rattle.pl_core.proofs.Preparing.{made_can_run, on_err, pending_by}
use Rattle.pl_core.proofs.Preparing.{prepared_by, steps_at}
use Rattle.pl_core.proofs.service.Core.prepare.Goals as goal

pub catch_up-requires : goal.catch_up-requires
catch_up-requires c =
    subst (λ (l : Log). IsGathered l.facts c.self.inside.gathered) (sym c.journal.ensures)
    (back_gathered c.self.inside.first c.self.inside.journal c.back_to_installed.new.self
    c.self.inside.entries.items c.self.invariant.0 c.back_to_installed.ensures
    c.self.inside.gathered c.self.invariant.3)

-- where memory is wanting, nothing is prepared
pub invariant_of-self : goal.invariant_of-self
invariant_of-self c =
    back_whole c.self.inside.first c.self.inside.journal c.back_to_installed.new.self
    c.self.inside.entries.items c.self.invariant.0 c.back_to_installed.ensures c.catch_up.new.self
    c.self.inside.size c.self.inside.moment c.self.inside.version c.self.inside.change _
    c.self.inside.entries.items refl
    (subst (λ (l : Log). IsGathered l.facts c.catch_up.new.self) c.journal.ensures
    c.catch_up.ensures.gathered)
    c.self.invariant.1

pub invariant_of-self-in_err-reserve : goal.invariant_of-self-in_err-reserve
invariant_of-self-in_err-reserve c =
    back_whole c.self.inside.first c.self.inside.journal c.back_to_installed.new.self
    c.self.inside.entries.items c.self.invariant.0 c.back_to_installed.ensures c.catch_up.new.self
    c.self.inside.size c.self.inside.moment c.self.inside.version c.self.inside.change _
    c.reserve.new.self.items c.reserve.ensures.items
    (subst (λ (l : Log). IsGathered l.facts c.catch_up.new.self) c.journal.ensures
    c.catch_up.ensures.gathered)
    c.self.invariant.1

pub returns-in_err-catch_up-clause-opening : goal.returns-in_err-catch_up-clause-opening
returns-in_err-catch_up-clause-opening c =
    let opening = opening_of c.self.inside.first c.self.inside.journal in
    opening_behind c.back_to_installed.new.self c.self.inside.entries.items [] opening
    (back_behind c.self.inside.first c.self.inside.journal c.back_to_installed.new.self
    c.self.inside.entries.items c.self.invariant.0 c.back_to_installed.ensures)
    ∙ ap (λ (state : State). state.opening) c.self.view_is

pub prepare-requires-clause-fit : goal.prepare-requires-clause-fit
prepare-requires-clause-fit c =
    back_fit c.self.inside.first c.self.inside.journal c.back_to_installed.new.self
    c.self.inside.entries.items c.self.invariant.0 c.back_to_installed.ensures

pub prepare-requires-clause-installed : goal.prepare-requires-clause-installed
prepare-requires-clause-installed c =
    let entries = c.self.inside.entries.items in
    subst (λ (l : Log). l.installed ≡ length l.facts)
    (sym (c.back_to_installed.ensures ∙ went_back c.self.inside.first c.self.inside.journal entries c.self.invariant.0))
    (all_installed (opening_of c.self.inside.first c.self.inside.journal) entries)

pub prepare-requires-clause-can_run : goal.prepare-requires-clause-can_run
prepare-requires-clause-can_run c =
    made_can_run c.compilations_can_run.ensures c.requires.made.0 c.args.made c.requires.made.2

-- the journal is that of the entries, with some facts behind theirs
module _ (c : goal.After-prepare) where
  base : c.back_to_installed.new.self
      ≡ log_of (opening_of c.self.inside.first c.self.inside.journal) c.self.inside.entries.items
  base = c.back_to_installed.ensures
      ∙ went_back c.self.inside.first c.self.inside.journal c.self.inside.entries.items c.self.invariant.0

  some : (more : _) × (c.prepare.new.journal ≡ with_facts c.back_to_installed.new.self more)
  some = behind_by c.back_to_installed.new.self c.prepare.new.journal c.prepare.result
      c.prepare.ensures.journal c.prepare.ensures.err

  at : (more : _) → c.prepare.new.journal ≡ with_facts c.back_to_installed.new.self more →
      c.prepare.new.journal ≡
      with_facts (log_of (opening_of c.self.inside.first c.self.inside.journal) c.self.inside.entries.items) more
  at more is = is ∙ ap (λ (l : Log). with_facts l more) base

  opening_is : opening_of c.self.inside.first c.prepare.new.journal ≡ c.args.self.now.opening
  opening_is =
      opening_behind c.prepare.new.journal c.self.inside.entries.items some.0
      (opening_of c.self.inside.first c.self.inside.journal) (at some.0 some.1)
      ∙ ap (λ (state : State). state.opening) c.self.view_is

  entries_are : c.reserve.new.self.items ≡ c.args.self.now.entries
  entries_are = c.reserve.ensures.items ∙ ap (λ (state : State). state.entries) c.self.view_is

  log_is : c.back_to_installed.new.self ≡ log c.args.self.now
  log_is = base ∙ ap (λ (state : State). log_of state.opening state.entries) c.self.view_is

  count : c.len.result ≡ length c.args.self.now.entries
  count =
      let here : c.len.result ≡ length c.reserve.new.self.items =
      omega (arith, c.len.ensures, c.reserve.new.self.ok.0, c.reserve.new.self.ok.1) in
      here ∙ ap (λ (es : List Entry). length es) entries_are

  held_is :
      let here : Held = record {
        entries = c.len.result;
        size = c.self.inside.size;
        change = c.self.inside.change;
      } in
      here ≡ held c.args.self.now
  held_is =
      let size : c.self.inside.size ≡ counted (total size_of c.args.self.now.entries) =
      c.self.invariant.1.size_is
      ∙ ap (λ (state : State). counted (total size_of state.entries)) c.self.view_is in
      let change : c.self.inside.change ≡ (held c.args.self.now).change =
      c.self.invariant.1.change_is
      ∙ ap (λ (state : State). (held_of state.opening state.entries).change) c.self.view_is in
      (λ i. record { entries = count i; size = size i; change = change i })

  numbered : (entry : Option Entry) →
      IsEntryOf (c.len.result + 1) c.args.seat c.args.call.now entry →
      IsEntryOf (next_number c.args.self.now) c.args.seat c.args.call.now entry
  numbered entry is =
      subst (λ n. IsEntryOf (n + 1) c.args.seat c.args.call.now entry) count is

  -- the entries so far are a legal history, and so they are with this one
  legal_now : Legal c.args.self.now.opening c.args.self.now.entries
  legal_now = subst (λ (state : State). Legal state.opening state.entries) c.self.view_is
      c.self.invariant.0.legal

  steps_now : IfOk c.prepare.result (λ prepared.
      IsStep (held c.args.self.now) (log c.args.self.now) c.args.call.now c.args.made
      (stepped_with prepared.reply (added_by prepared.entry)))
  steps_now = steps_at _ (held c.args.self.now) c.back_to_installed.new.self
      (log c.args.self.now) c.args.call.now c.args.made c.prepare.result held_is log_is
      c.prepare.ensures.steps

  entry_now : IfOk c.prepare.result (λ prepared.
      IsEntryOf (next_number c.args.self.now) c.args.seat c.args.call.now prepared.entry)
  entry_now = if_ok _ _ c.prepare.result (λ prepared is. numbered prepared.entry is)
      c.prepare.ensures.entry

  change_here : c.self.inside.change ≡
      (held_of (opening_of c.self.inside.first c.self.inside.journal)
      c.self.inside.entries.items).change
  change_here = c.self.invariant.1.change_is

pub invariant_of-self-2 : goal.invariant_of-self-2
invariant_of-self-2 c =
    let new = c.prepare.new.journal in
    let entries = c.self.inside.entries.items in
    let opening = opening_of c.self.inside.first c.self.inside.journal in
    let room : vec_len c.reserve.new.self < vec_capacity c.reserve.new.self =
    omega (arith, c.in_ok-reserve.ensures.ok) in
    let behind = at c (some c).0 (some c).1 in (
      subst (λ (es : List Entry). IsKept c.self.inside.first new es) (sym c.reserve.ensures.items)
          (kept_behind new entries (some c).0 opening behind
          c.self.invariant.0.legal c.prepare.ensures.fit c.self.invariant.0.within),
      subst (λ (es : List Entry). AreNumbers (opening_of c.self.inside.first new) es
          c.self.inside.size c.self.inside.moment c.self.inside.version c.self.inside.change)
          (sym c.reserve.ensures.items)
          (numbers_behind new entries (some c).0 opening behind _ _ _ _ c.self.invariant.1),
      subst (λ (es : List Entry). (pending_of new ≡ []) ⊎
          ((vec_len c.reserve.new.self < vec_capacity c.reserve.new.self) ×
          (c.prepare.new.behind ≡
          change_behind (opening_of c.self.inside.first new) es (pending_of new))))
          (sym c.reserve.ensures.items)
          (subst (λ (o : Opening). (pending_of new ≡ []) ⊎
          ((vec_len c.reserve.new.self < vec_capacity c.reserve.new.self) ×
          (c.prepare.new.behind ≡ change_behind o entries (pending_of new))))
          (sym (opening_behind new entries (some c).0 opening behind))
          (kept_room opening entries c.self.inside.change c.prepare.new.behind (change_here c)
          c.prepare.result c.back_to_installed.new.self new
          (vec_len c.reserve.new.self < vec_capacity c.reserve.new.self) room (base c)
          c.prepare.ensures.number c.prepare.ensures.journal c.prepare.ensures.err)),
      subst (λ (es : List Entry).
          IsGathered (log_of (opening_of c.self.inside.first new) es).facts c.catch_up.new.self)
          (sym c.reserve.ensures.items)
          (gathered_behind new entries (some c).0 opening behind c.catch_up.new.self
          (gathered_back c.self.inside.first c.self.inside.journal c.back_to_installed.new.self
          entries c.self.invariant.0 c.back_to_installed.ensures c.catch_up.new.self
          (subst (λ (l : Log). IsGathered l.facts c.catch_up.new.self) c.journal.ensures
          c.catch_up.ensures.gathered))),
    )

pub returns-clause-opening : goal.returns-clause-opening
returns-clause-opening c = opening_is c

pub returns-clause-err : goal.returns-clause-err
returns-clause-err c =
    let opening = opening_of c.self.inside.first c.self.inside.journal in
    let behind = back_behind c.self.inside.first c.self.inside.journal c.back_to_installed.new.self
    c.self.inside.entries.items c.self.invariant.0 c.back_to_installed.ensures in
    on_err c.prepare.result (λ is. ap pending_of is
    ∙ pending_behind c.back_to_installed.new.self c.self.inside.entries.items [] opening behind)
    c.prepare.ensures.err

pub returns-clause-steps : goal.returns-clause-steps
returns-clause-steps c = steps_now c

pub returns-clause-changes : goal.returns-clause-changes
returns-clause-changes c =
    let state = c.args.self.now in
    changed_by state.opening state.entries c.self.inside.change c.prepare.new.behind
    (c.self.invariant.1.change_is
    ∙ ap (λ (s : State). (held_of s.opening s.entries).change) c.self.view_is)
    c.prepare.result c.back_to_installed.new.self (log_is c) c.prepare.ensures.rows
    c.prepare.ensures.number

pub returns-clause-guarded : goal.returns-clause-guarded
returns-clause-guarded c =
    let now = c.args.self.now in
    let new : State = record {
      opening = opening_of c.self.inside.first c.prepare.new.journal;
      entries = c.reserve.new.self.items;
      pending = pending_of c.prepare.new.journal;
    } in
    guarded_by now new c.args.seat c.args.call.now c.args.made (opening_is c) (entries_are c)
    c.requires.well_formed c.requires.moment c.requires.made c.access_laws.ensures.guarded
    (legal_now c) c.prepare.result (steps_now c) (entry_now c)

pub returns-clause-answered : goal.returns-clause-answered
returns-clause-answered c =
    let now = c.args.self.now in
    if_ok _ _ c.prepare.result (λ prepared steps orderly.
    c.claim_laws.ensures.answered now.opening now.entries orderly (legal_now c) c.args.call.now
    c.args.made (stepped_with prepared.reply (added_by prepared.entry)) steps) (steps_now c)

pub returns-clause-prepared : goal.returns-clause-prepared
returns-clause-prepared c =
    let now = c.args.self.now in
    let new : State = record {
      opening = opening_of c.self.inside.first c.prepare.new.journal;
      entries = c.reserve.new.self.items;
      pending = pending_of c.prepare.new.journal;
    } in
    prepared_by now new c.args.seat c.args.call.now c.args.made (opening_is c) (entries_are c)
    c.requires.well_formed c.requires.moment c.requires.made c.prepare.result
    (pending_by c.prepare.result c.back_to_installed.new.self c.prepare.new.journal new.pending
    (λ more is. pending_behind c.prepare.new.journal c.self.inside.entries.items more
    (opening_of c.self.inside.first c.self.inside.journal) (at c more is))
    c.prepare.ensures.journal) (steps_now c) (entry_now c)
