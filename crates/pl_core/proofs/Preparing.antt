-- What is prepared is the next entry.
use Rattle.std.proofs.Common.{◌≡◌, ◌≤◌, ℕ, true, List, [], Option, Some, None}
use Rattle.std.proofs.Common.{Result, Ok, Err, IfOk, OnErr, sym, ap, subst, ◌∙◌, ◌+◌, ◌⊎◌, inl, inr}
use Rattle.std.proofs.Common.{arith}
use Rattle.pl_base.specs.declared.memory.Memory.{Memory}
use Rattle.pl_history.specs.Below.pl_compilation.specs.Made.{IsMade, IsMadeOf}
use Rattle.pl_core.specs.Kept.{change_behind, pending_of}
use Rattle.pl_core.specs.Prepared.{IsEntryOf, IsPrepared, added_by, entries_with, next_number}
use Rattle.pl_core.specs.State.{State, held, log}
use Rattle.pl_core.specs.declared.prepared.Prepared.{Prepared}
use Rattle.pl_facts.specs.Sizes.{counted}
use Rattle.pl_facts.specs.declared.entry.Entry.{Entry}
use Rattle.pl_facts.specs.declared.fact.Fact.{Fact}
use Rattle.pl_history.specs.Guarded.{IsGuarded}
use Rattle.pl_history.specs.History.{Opening, held_of, log_of}
use Rattle.pl_history.specs.Legal.{Follows, Legal}
use Rattle.pl_history.specs.Made.{IsMadeFor}
use Rattle.pl_history.proofs.Longer.{legal_more}
use Rattle.pl_history.proofs.Within.{one_more}
use Rattle.pl_journal.specs.Log.{Log, last_moment}
use Rattle.pl_plan.specs.declared.plan.Compiled.{Compiled}
use Rattle.pl_history.specs.Below.pl_queueing.specs.Queueing.{Made}
use Rattle.pl_requests.specs.WellFormed.{is_well_formed}
use Rattle.pl_requests.specs.declared.call.Call.{Call}
use Rattle.pl_requests.specs.declared.reply.Reply.{Reply}
use Rattle.pl_results.specs.Nodes.{CanRun}
use Rattle.pl_snapshots.specs.declared.snapshot.Snapshot.{Snapshot}
use Rattle.pl_all_rows.specs.Below.pl_row_changes.proofs.OfEntry.{none_changed}
use Rattle.pl_all_rows.specs.Below.pl_row_changes.specs.Changing.{AreOfEntry}
use Rattle.pl_all_rows.specs.Below.pl_row_changes.specs.Counting.{row_changes}
use Rattle.pl_history.specs.Below.pl_step.specs.Fits.{CanRunMade}
use Rattle.pl_history.specs.Below.pl_step.specs.Full.{with_facts}
use Rattle.pl_history.specs.Below.pl_step.specs.Step.{IsStep, stepped_with}
use Rattle.pl_history.specs.Below.pl_step.specs.declared.held.Held.{Held}
use Rattle.pl_history.specs.Below.pl_step.specs.declared.stepped.Stepped.{Stepped}
use Rattle.pl_core.proofs.Keeping.{nothing_behind, pending_behind}

pub if_ok : {X E : Type 0} (P Q : X → Type 0) (r : Result X E) → ((x : X) → P x → Q x) →
    IfOk r P → IfOk r Q
if_ok P Q (Ok x) step holds = step x holds
if_ok P Q (Err e) step holds = tt

pub on_err : {X E P Q : Type 0} (r : Result X E) → (P → Q) → OnErr r P → OnErr r Q
on_err (Ok x) step holds = tt
on_err (Err e) step holds = step holds

-- ---- what was made can run

pub made_can_run : ((snapshot : Snapshot) (compiled : Compiled) →
    IsMadeOf snapshot (Ok compiled) → CanRun compiled.plan) → (snapshot : Option Snapshot)
    (made : Made) → IsMade snapshot made → CanRunMade made
made_can_run runs snapshot None is = tt
made_can_run runs snapshot (Some (Err refusal)) is = tt
made_can_run runs None (Some (Ok compiled)) is = absurd is
made_can_run runs (Some snapshot) (Some (Ok compiled)) is = runs snapshot compiled is

-- ---- where no fact comes there is no entry

pub no_facts : (held : Held) (log : Log) (call : Call) (made : Made) (stepped : Stepped) →
    stepped.added ≡ [] → IsStep held log call made stepped →
    IsStep held log call made (stepped_with stepped.reply [])
no_facts held log call made stepped none is =
    subst (λ (facts : List Fact). IsStep held log call made (stepped_with stepped.reply facts)) none
    is

-- ---- some facts stand behind the others, or none

pub behind_by : (old new : Log) (result : Result Prepared Memory) →
    IfOk result (λ prepared. new ≡ with_facts old (added_by prepared.entry)) →
    OnErr result (new ≡ old) → (more : List Fact) × (new ≡ with_facts old more)
behind_by old new (Ok prepared) ok err = (added_by prepared.entry, ok)
behind_by old new (Err memory) ok err = ([], err ∙ sym (nothing_behind old))

-- ---- the step of the same journal

pub steps_at : (h held : Held) (l log : Log) (call : Call) (made : Made)
    (result : Result Prepared Memory) → h ≡ held → l ≡ log →
    IfOk result (λ prepared. IsStep h l call made
    (stepped_with prepared.reply (added_by prepared.entry))) →
    IfOk result (λ prepared. IsStep held log call made
    (stepped_with prepared.reply (added_by prepared.entry)))
steps_at h held l log call made result held_is log_is steps =
    subst (λ (k : Log). IfOk result (λ prepared. IsStep held k call made
    (stepped_with prepared.reply (added_by prepared.entry)))) log_is
    (subst (λ (g : Held). IfOk result (λ prepared. IsStep g l call made
    (stepped_with prepared.reply (added_by prepared.entry)))) held_is steps)

-- ---- the entry follows those before it

module _ (now new : State) (seat : ℕ) (call : Call) (made : Made)
    (opening_is : new.opening ≡ now.opening) (entries_are : new.entries ≡ now.entries)
    (well_formed : is_well_formed call ≡ true) (later : last_moment (log now) ≤ call.moment)
    (made_is : IsMadeFor (log now) call made) where
  follows : (reply : Reply) (entry : Entry) →
      IsStep (held now) (log now) call made (stepped_with reply entry.facts) →
      IsEntryOf (next_number now) seat call (Some entry) → Follows now.opening now.entries entry
  follows reply entry steps is =
      let call_is : call ≡ entry.call = sym is.call_is in
      record {
        number = is.number_is;
        well_formed = subst (λ (one : Call). is_well_formed one ≡ true) call_is well_formed;
        later = subst (λ (one : Call). last_moment (log now) ≤ one.moment) call_is later;
        adds = is.adds;
        made = made;
        is = subst (λ (one : Call). IsMadeFor (log now) one made) call_is made_is;
        reply = reply;
        steps =
            subst (λ (one : Call). IsStep (held now) (log now) one made
            (stepped_with reply entry.facts)) call_is steps;
      }

  is_prepared : (reply : Reply) (entry : Option Entry) → new.pending ≡ added_by entry →
      IsStep (held now) (log now) call made (stepped_with reply (added_by entry)) →
      IsEntryOf (next_number now) seat call entry → IsPrepared new entry
  is_prepared reply None pending steps is = pending
  is_prepared reply (Some entry) pending steps is = (
    subst (λ (entries : List Entry). Follows new.opening entries entry) (sym entries_are)
        (subst (λ opening. Follows opening now.entries entry) (sym opening_is)
        (follows reply entry steps is)),
    pending,
  )

  legal_with : (reply : Reply) (entry : Option Entry) → Legal now.opening now.entries →
      IsStep (held now) (log now) call made (stepped_with reply (added_by entry)) →
      IsEntryOf (next_number now) seat call entry →
      Legal now.opening (entries_with now.entries entry)
  legal_with reply None legal steps is = legal
  legal_with reply (Some entry) legal steps is =
      legal_more now.opening [] now.entries entry legal (follows reply entry steps is)

  pub guarded_by : ((opening : Opening) (entries : List Entry) → Legal opening entries →
      IsGuarded opening entries) → Legal now.opening now.entries →
      (result : Result Prepared Memory) →
      IfOk result (λ prepared. IsStep (held now) (log now) call made
      (stepped_with prepared.reply (added_by prepared.entry))) →
      IfOk result (λ prepared. IsEntryOf (next_number now) seat call prepared.entry) →
      IfOk result (λ prepared.
      IsGuarded now.opening (entries_with now.entries prepared.entry))
  guarded_by laws legal (Ok prepared) steps is =
      laws now.opening (entries_with now.entries prepared.entry)
      (legal_with prepared.reply prepared.entry legal steps is)
  guarded_by laws legal (Err memory) steps is = tt

  pub prepared_by : (result : Result Prepared Memory) →
      IfOk result (λ prepared. new.pending ≡ added_by prepared.entry) →
      IfOk result (λ prepared. IsStep (held now) (log now) call made
      (stepped_with prepared.reply (added_by prepared.entry))) →
      IfOk result (λ prepared. IsEntryOf (next_number now) seat call prepared.entry) →
      IfOk result (λ prepared. IsPrepared new prepared.entry)
  prepared_by (Ok prepared) pending steps is =
      is_prepared prepared.reply prepared.entry pending steps is
  prepared_by (Err memory) pending steps is = tt

-- what is pending where the result is there
pub pending_by : (result : Result Prepared Memory) (old new : Log) (pending : List Fact) →
    ((more : List Fact) → new ≡ with_facts old more → pending ≡ more) →
    IfOk result (λ prepared. new ≡ with_facts old (added_by prepared.entry)) →
    IfOk result (λ prepared. pending ≡ added_by prepared.entry)
pending_by (Ok prepared) old new pending tells is = tells (added_by prepared.entry) is
pending_by (Err memory) old new pending tells is = tt

-- ---- what the entry changes among the kept rows

module _ (opening : Opening) (entries : List Entry) (change behind : ℕ)
    (change_is : change ≡ (held_of opening entries).change) where
  number_with : (entry : Option Entry) →
      behind ≡ counted (change + row_changes (log_of opening entries).facts (added_by entry)) →
      behind ≡ (held_of opening (entries_with entries entry)).change
  number_with None is =
      omega (arith, is, change_is, none_changed (log_of opening entries).facts)
  number_with (Some entry) is =
      omega (arith, is, change_is, one_more opening entries entry)

  pub changed_by : (result : Result Prepared Memory) (base : Log) →
      base ≡ log_of opening entries →
      IfOk result (λ prepared. AreOfEntry change behind base (added_by prepared.entry)
      prepared.changes) →
      IfOk result (λ prepared. behind ≡ counted (change +
      row_changes base.facts (added_by prepared.entry))) →
      IfOk result (λ prepared. AreOfEntry (held_of opening entries).change
      (held_of opening (entries_with entries prepared.entry)).change (log_of opening entries)
      (added_by prepared.entry) prepared.changes)
  changed_by (Err memory) base is rows number = tt
  changed_by (Ok prepared) base is rows number =
      let next = number_with prepared.entry (subst (λ (l : Log). behind ≡ counted (change +
      row_changes l.facts (added_by prepared.entry))) is number) in
      subst (λ (n : ℕ). AreOfEntry n (held_of opening (entries_with entries prepared.entry)).change
      (log_of opening entries) (added_by prepared.entry) prepared.changes) change_is
      (subst (λ (n : ℕ). AreOfEntry change n (log_of opening entries) (added_by prepared.entry)
      prepared.changes) next
      (subst (λ (l : Log). AreOfEntry change behind l (added_by prepared.entry) prepared.changes) is
      rows))

  -- the number behind what was prepared is kept
  pub kept_room : (result : Result Prepared Memory) (base new : Log) (Room : Type 0) → Room →
      base ≡ log_of opening entries →
      IfOk result (λ prepared. behind ≡ counted (change +
      row_changes base.facts (added_by prepared.entry))) →
      IfOk result (λ prepared. new ≡ with_facts base (added_by prepared.entry)) →
      OnErr result (new ≡ base) → (pending_of new ≡ []) ⊎ (Room × (behind ≡
      change_behind opening entries (pending_of new)))
  kept_room (Err memory) base new Room room is number ok err =
      inl (pending_behind new entries [] opening
      (err ∙ is ∙ sym (nothing_behind (log_of opening entries))))
  kept_room (Ok prepared) base new Room room is number ok err =
      let more = added_by prepared.entry in
      let pending : pending_of new ≡ more = pending_behind new entries more opening
      (ok ∙ ap (λ (l : Log). with_facts l more) is) in
      let here : behind ≡ counted (change + row_changes (log_of opening entries).facts more) =
      subst (λ (l : Log). behind ≡ counted (change + row_changes l.facts more)) is number in
      let behind_is : behind ≡ change_behind opening entries more =
      omega (arith, here, change_is) in
      inr (
        room,
        behind_is
            ∙ ap (λ (facts : List Fact). change_behind opening entries facts) (sym pending),
      )
