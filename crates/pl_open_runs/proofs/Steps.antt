-- Which runs are open after one more fact.
use Rattle.std.proofs.Common.{◌≡◌, ℕ, Bool, true, false, ◌&&◌, ◌||◌, List, [], ◌∷◌, ◌++◌, length}
use Rattle.std.proofs.Common.{cond}
use Rattle.std.proofs.Common.{Option, None, Some, is_none, refl, sym, ap, ◌∙◌}
use Rattle.std.specs.List.{list_any, range_with_len}
use Rattle.std.specs.Option.{option_map_or}
use Rattle.std.proofs.lemmas.Bool.{true≢false}
use Rattle.std.proofs.lemmas.Option.{none-some, same_Some}
use Rattle.pl_facts.specs.declared.fact.Event.{Event}
use Rattle.pl_facts.specs.declared.fact.Event.TheVariants as event
use Rattle.pl_facts.specs.declared.fact.Fact.{Fact}
use Rattle.pl_facts.specs.declared.fact.QueuedRun.{QueuedRun}
use Rattle.pl_journal.specs.About.{is_about, key_of}
use Rattle.pl_journal.specs.Kinds.{is_queueing, is_stage_end}
use Rattle.pl_journal.specs.Runs.{number_told, queueing, run_told, stage_end}
use Rattle.pl_journal.specs.Settings.{by}
use Rattle.pl_log.specs.Keys.{Run, Stage, same_key}
use Rattle.pl_log.proofs.Chains.{latest_push}
use Rattle.pl_log.proofs.Naming.{exact_key}
use Rattle.pl_open_runs.specs.Index.{HasFewStages, ended_told}
use Rattle.pl_open_runs.specs.Open.{has_open_stage, is_open, is_open_stage}
use Rattle.pl_open_runs.proofs.OpenRuns.{number_of, run_named}

-- ---- what a fact tells

ended_of : (e : Event) (run stage : ℕ) → same_key (key_of e) (Stage run stage) ≡ true →
    is_stage_end e ≡ true → ended_told e ≡ Some run
ended_of (event.StageEnded r s outcome rule) run stage about is =
    ap (λ key. Some (run_named key)) (exact_key (Stage r s) (Stage run stage) about)
ended_of _ run stage about is = absurd (true≢false (sym is))

-- no fact tells both
pub not_both : (e : Event) (run one : ℕ) → number_told e ≡ Some run → ended_told e ≡ Some one → ⊥
not_both (event.RunQueued queued) run one is other = none-some one other
not_both _ run one is other = none-some run is

-- what queues no run
pub few_else : (fact : Fact) → ((run : ℕ) → number_told fact.event ≡ Some run → ⊥) →
    HasFewStages fact
few_else fact never = λ queued is. absurd (never queued.run (told fact.event queued is))
  where
    told : (e : Event) (queued : QueuedRun) → run_told e ≡ Some queued →
        number_told e ≡ Some queued.run
    told (event.RunQueued one) queued is =
        ap (λ (r : QueuedRun). Some r.run) (same_Some one queued is)
    told _ queued is = absurd (none-some queued is)

-- ---- one fact more

both_by : (b c : Bool) → (b ≡ true → c ≡ true → ⊥) → (b && c) ≡ false
both_by true true never = absurd (never refl refl)
both_by true false never = refl
both_by false c never = refl

queueing_same : (facts : List Fact) (fact : Fact) (run : ℕ) →
    (number_told fact.event ≡ Some run → ⊥) →
    queueing run (facts ++ fact ∷ []) ≡ queueing run facts
queueing_same facts fact run never =
    latest_push (λ one. is_about (Run run) one && is_queueing one.event) facts fact
    ∙ ap (λ b. cond b (Some fact) (queueing run facts))
    (both_by (is_about (Run run) fact) (is_queueing fact.event)
    (λ about is. never (number_of fact.event run about is)))

stage_end_same : (facts : List Fact) (fact : Fact) (run stage : ℕ) →
    (ended_told fact.event ≡ Some run → ⊥) →
    stage_end run stage (facts ++ fact ∷ []) ≡ stage_end run stage facts
stage_end_same facts fact run stage never =
    latest_push (λ one. is_about (Stage run stage) one && is_stage_end one.event) facts fact
    ∙ ap (λ b. cond b (Some fact) (stage_end run stage facts))
    (both_by (is_about (Stage run stage) fact) (is_stage_end fact.event)
    (λ about is. never (ended_of fact.event run stage about is)))

-- a fact that neither queues the run nor ends a stage of it
pub open_same : (facts : List Fact) (fact : Fact) (run : ℕ) →
    (number_told fact.event ≡ Some run → ⊥) → (ended_told fact.event ≡ Some run → ⊥) →
    is_open run (facts ++ fact ∷ []) ≡ is_open run facts
open_same facts fact run not_queued not_ended = λ i. option_map_or
    (λ queued. list_any (λ stage. is_none (stage_end_same facts fact run stage not_ended i))
    (range_with_len 0 (length queued.compiled.plan.stages)))
    (by run_told (queueing_same facts fact run not_queued i)) false

weaker_by : (p q : ℕ → Bool) (ns : List ℕ) (b c : Bool) → (b ≡ true → c ≡ true) →
    (list_any p ns ≡ true → list_any q ns ≡ true) → (b || list_any p ns) ≡ true →
    (c || list_any q ns) ≡ true
weaker_by p q ns b true here later h = refl
weaker_by p q ns true false here later h = absurd (true≢false (sym (here refl)))
weaker_by p q ns false false here later h = later h

any_weaker : (p q : ℕ → Bool) → ((n : ℕ) → p n ≡ true → q n ≡ true) → (ns : List ℕ) →
    list_any p ns ≡ true → list_any q ns ≡ true
any_weaker p q to [] h = h
any_weaker p q to (n ∷ ns) h =
    weaker_by p q ns (p n) (q n) (to n) (any_weaker p q to ns) h

none_before : (b : Bool) (fact : Fact) (o : Option Fact) → is_none (cond b (Some fact) o) ≡ true →
    is_none o ≡ true
none_before true fact o h = absurd (true≢false (sym h))
none_before false fact o h = h

open_stage_before : (facts : List Fact) (fact : Fact) (run stage : ℕ) →
    is_open_stage run stage (facts ++ fact ∷ []) ≡ true → is_open_stage run stage facts ≡ true
open_stage_before facts fact run stage h =
    none_before (is_about (Stage run stage) fact && is_stage_end fact.event) fact
    (stage_end run stage facts)
    (sym (ap is_none (latest_push (λ one. is_about (Stage run stage) one && is_stage_end one.event)
    facts fact)) ∙ h)

open_by : (run : ℕ) (before after : List Fact) (o : Option QueuedRun) →
    ((stage : ℕ) → is_open_stage run stage after ≡ true → is_open_stage run stage before ≡ true) →
    option_map_or (λ queued. has_open_stage run (length queued.compiled.plan.stages) after) o false
    ≡ true →
    option_map_or (λ queued. has_open_stage run (length queued.compiled.plan.stages) before) o false
    ≡ true
open_by run before after None to h = h
open_by run before after (Some queued) to h = any_weaker
    (λ stage. is_open_stage run stage after) (λ stage. is_open_stage run stage before) to
    (range_with_len 0 (length queued.compiled.plan.stages)) h

-- only a queueing opens a run
pub open_before : (facts : List Fact) (fact : Fact) (run : ℕ) →
    (number_told fact.event ≡ Some run → ⊥) → is_open run (facts ++ fact ∷ []) ≡ true →
    is_open run facts ≡ true
open_before facts fact run not_queued h =
    open_by run facts (facts ++ fact ∷ []) (by run_told (queueing run facts))
    (open_stage_before facts fact run)
    (sym (ap (λ o. option_map_or
    (λ queued. has_open_stage run (length queued.compiled.plan.stages) (facts ++ fact ∷ []))
    (by run_told o) false) (queueing_same facts fact run not_queued)) ∙ h)
