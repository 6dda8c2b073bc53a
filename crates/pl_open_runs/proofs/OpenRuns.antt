-- What is known of the open runs: they ascend, and they are those that are open.
use Rattle.std.proofs.Common.{◌≡◌, ℕ, Bool, true, false, ◌&&◌, List, [], ◌∷◌, length, filter}
use Rattle.std.proofs.Common.{filter_map}
use Rattle.std.proofs.Common.{Option, None, Some, is_some, if◌then◌else◌, refl, sym, ap, ◌∙◌, subst}
use Rattle.std.proofs.Common.{inl, inr}
use Rattle.std.specs.Cmp.{nat_cmp_total}
use Rattle.std.specs.List.{cons_option, list_any}
use Rattle.std.specs.Option.{option_map_or, option_or}
use Rattle.std.specs.Ordering.{nat_cmp}
use Rattle.std.proofs.lemmas.Bool.{true≢false}
use Rattle.pl_facts.specs.declared.fact.Event.{Event}
use Rattle.pl_facts.specs.declared.fact.Event.TheVariants as event
use Rattle.pl_facts.specs.declared.fact.Fact.{Fact}
use Rattle.pl_facts.specs.declared.fact.QueuedRun.{QueuedRun}
use Rattle.pl_journal.specs.About.{is_about, key_of}
use Rattle.pl_journal.specs.Kinds.{is_queueing}
use Rattle.pl_journal.specs.Runs.{number_told, queueing, run_told}
use Rattle.pl_journal.specs.Settings.{by}
use Rattle.pl_log.specs.Keys.{Named, Run, Stage, Job, same_key}
use Rattle.pl_log.proofs.Naming.{exact_key}
use Rattle.pl_open_runs.specs.Index.{Ascends, Covers, has}
use Rattle.pl_open_runs.specs.Open.{has_open_stage, is_open, open_runs, queued_runs}
use Rattle.pl_open_runs.proofs.Numbers.{InOrder, among_all, among_filter, among_kept, among_of}
use Rattle.pl_open_runs.proofs.Numbers.{ascends_of, has_of, in_order_all, in_order_filter}
use Rattle.pl_open_runs.proofs.Numbers.{in_order_of}
use Rattle.pl_facts.specs.Below.pl_plan.proofs.Members.{Among, one_list}

-- the run that a key names
abbrev pub run_named : Named → ℕ
run_named (Run run) = run
run_named (Stage run stage) = run
run_named (Job run stage job) = run
run_named _ = 0

pub number_of : (e : Event) (run : ℕ) → same_key (key_of e) (Run run) ≡ true →
    is_queueing e ≡ true → number_told e ≡ Some run
number_of (event.RunQueued queued) run about is =
    ap (λ key. Some (run_named key)) (exact_key (Run queued.run) (Run run) about)
number_of _ run about is = absurd (true≢false (sym is))

-- ---- what is open was queued

abbrev numbers : List Fact → List ℕ
numbers facts = filter_map (λ fact. number_told fact.event) facts

behind_option : (o : Option ℕ) (ns : List ℕ) (run : ℕ) → Among ns run → Among (cons_option o ns) run
behind_option None ns run h = h
behind_option (Some n) ns run h = inr h

queued_by : (fact : Fact) (later : List Fact) (run : ℕ) (o : Option Fact) (b : Bool) →
    (is_some o ≡ true → Among (numbers later) run) →
    (b ≡ true → number_told fact.event ≡ Some run) →
    is_some (option_or o (if b then Some fact else None)) ≡ true →
    Among (numbers (fact ∷ later)) run
queued_by fact later run (Some one) b before here h =
    behind_option (number_told fact.event) (numbers later) run (before refl)
queued_by fact later run None true before here h =
    subst (λ o. Among (cons_option o (numbers later)) run) (sym (here refl)) (inl refl)
queued_by fact later run None false before here h = absurd (true≢false (sym h))

both_true : (b c : Bool) → (b && c) ≡ true → (b ≡ true) × (c ≡ true)
both_true true c h = (refl, h)
both_true false c h = absurd (true≢false (sym h))

queued_among : (facts : List Fact) (run : ℕ) → is_some (queueing run facts) ≡ true →
    Among (numbers facts) run
queued_among [] run h = absurd (true≢false (sym h))
queued_among (fact ∷ later) run h =
    queued_by fact later run (queueing run later)
    (is_about (Run run) fact && is_queueing fact.event)
    (queued_among later run)
    (λ is. let both = both_true (is_about (Run run) fact) (is_queueing fact.event) is in
    number_of fact.event run both.0 both.1) h

open_is_queued : (stages : QueuedRun → Bool) (o : Option Fact) →
    option_map_or stages (by run_told o) false ≡ true → is_some o ≡ true
open_is_queued stages None h = absurd (true≢false (sym h))
open_is_queued stages (Some fact) h = refl

-- ---- the open runs

pub open_in_order : (facts : List Fact) → InOrder (open_runs facts)
open_in_order facts =
    in_order_filter (λ run. is_open run facts) (queued_runs facts) (in_order_all (numbers facts))

pub among_is_open : (facts : List Fact) (run : ℕ) → Among (open_runs facts) run →
    is_open run facts ≡ true
among_is_open facts run h = (among_filter (λ one. is_open one facts) (queued_runs facts) run h).0

pub open_is_among : (facts : List Fact) (run : ℕ) → is_open run facts ≡ true →
    Among (open_runs facts) run
open_is_among facts run is =
    among_kept (λ one. is_open one facts) (queued_runs facts) run is
    (among_all (numbers facts) run (queued_among facts run (open_is_queued
    (λ queued. has_open_stage run (length queued.compiled.plan.stages) facts)
    (queueing run facts) is)))

-- numbers in order that are those of the open runs
pub are_open_runs : (facts : List Fact) (runs : List ℕ) → InOrder runs →
    ((run : ℕ) → Among runs run → is_open run facts ≡ true) →
    ((run : ℕ) → is_open run facts ≡ true → Among runs run) → runs ≡ open_runs facts
are_open_runs facts runs up to from =
    one_list nat_cmp nat_cmp_total runs (open_runs facts) up (open_in_order facts)
    (λ run h. open_is_among facts run (to run h)) (λ run h. from run (among_is_open facts run h))

-- those that are open of known ones among which all are
pub open_of_known : (facts : List Fact) (known : List ℕ) → InOrder known → Covers known facts →
    filter (λ run. is_open run facts) known ≡ open_runs facts
open_of_known facts known up covers =
    let test : ℕ → Bool = λ run. is_open run facts in
    are_open_runs facts (filter test known) (in_order_filter test known up)
    (λ run h. (among_filter test known run h).0)
    (λ run is. among_kept test known run is (among_of known run (covers run is)))

-- ---- what others may rest on

same_truth : (a b : Bool) → (a ≡ true → b ≡ true) → (b ≡ true → a ≡ true) → a ≡ b
same_truth true b to from = sym (to refl)
same_truth false true to from = from refl
same_truth false false to from = refl

-- each number is less than those behind it
pub open_runs_ascend : (facts : List Fact) → Ascends (open_runs facts)
open_runs_ascend facts = ascends_of (open_runs facts) (open_in_order facts)

-- they are the runs that are open
pub open_runs_hold : (facts : List Fact) (run : ℕ) → has (open_runs facts) run ≡ is_open run facts
open_runs_hold facts run = same_truth (has (open_runs facts) run) (is_open run facts)
    (λ h. among_is_open facts run (among_of (open_runs facts) run h))
    (λ is. has_of (open_runs facts) run (open_is_among facts run is))
