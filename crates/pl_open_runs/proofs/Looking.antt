-- What look-ups tell of a run.
use Rattle.std.proofs.Common.{◌≡◌, ℕ, zero, suc, ◌+◌, ◌<◌, ◌^◌, Bool, true, false, not, ◌&&◌, ◌||◌}
use Rattle.std.proofs.Common.{List, [], ◌∷◌, ◌++◌, length, All, Option, None, Some, IfSome, is_none}
use Rattle.std.proofs.Common.{is_some, if◌then◌else◌, refl, ap, ◌∙◌, arith, Bor}
use Rattle.std.specs.List.{list_any, range_with_len}
use Rattle.std.specs.Option.{option_copied, option_or}
use Rattle.std.proofs.lemmas.List.Elements.{All-head, All-tail}
use Rattle.std.proofs.lemmas.List.Folds.{list_any-append, list_any_at}
use Rattle.std.proofs.lemmas.List.FromFn.{get_or-range_with_len, length-range_with_len}
use Rattle.std.proofs.lemmas.Option.{none-some}
use Rattle.pl_facts.specs.declared.fact.Fact.{Fact}
use Rattle.pl_facts.specs.declared.fact.QueuedRun.{QueuedRun}
use Rattle.pl_journal.specs.About.{is_about}
use Rattle.pl_journal.specs.Kinds.{is_queueing}
use Rattle.pl_journal.specs.Runs.{queueing, run_told}
use Rattle.pl_journal.specs.Settings.{by}
use Rattle.pl_log.specs.Keys.{Run}
use Rattle.pl_log.specs.Latest.{latest}
use Rattle.pl_open_runs.specs.Index.{HasFewStages}
use Rattle.pl_open_runs.specs.Open.{has_open_stage, is_open_stage}

-- ---- stages

from_first : (n : ℕ) → 0 + n ≡ n
from_first n = omega arith

-- one open stage suffices
pub one_open : (run stage stages : ℕ) (facts : List Fact) → stage < stages →
    is_open_stage run stage facts ≡ true → has_open_stage run stages facts ≡ true
one_open run stage stages facts within is =
    list_any_at (λ one. is_open_stage run one facts) (range_with_len 0 stages) stage 0
    (omega (arith, length-range_with_len 0 stages))
    (ap (λ one. is_open_stage run one facts)
    (get_or-range_with_len 0 stages stage 0 within ∙ from_first stage) ∙ is)

range_more : (a n : ℕ) → range_with_len a (suc n) ≡ range_with_len a n ++ (a + n) ∷ []
range_more a zero = ap (λ k. k ∷ []) (omega arith)
range_more a (suc n) = ap (λ l. a ∷ l) (range_more (a + 1) n
    ∙ ap (λ k. range_with_len (a + 1) n ++ k ∷ []) (omega arith))

-- none of so many is, nor is the next
pub none_more : (run stages : ℕ) (facts : List Fact) → has_open_stage run stages facts ≡ false →
    is_open_stage run stages facts ≡ false → has_open_stage run (stages + 1) facts ≡ false
none_more run stages facts before here =
    let test : ℕ → Bool = λ one. is_open_stage run one facts in
    let next : stages + 1 ≡ suc stages = omega arith in
    ap (λ n. list_any test (range_with_len 0 n)) next
    ∙ ap (list_any test)
    (range_more 0 stages ∙ ap (λ n. range_with_len 0 stages ++ n ∷ []) (from_first stages))
    ∙ list_any-append test (range_with_len 0 stages) (stages ∷ [])
    ∙ (λ i. before i || (here i || false))

-- what an empty look-up says, by the answer of its `is_none`
pub none_by : {X : Type 0} (some : Bool) (o : Option X) (none : Bool) → is_some o ≡ some →
    some ≡ not none → is_none o ≡ none
none_by some o true is told = ap not (is ∙ told)
none_by some o false is told = ap not (is ∙ told)

pub copied_some : {X : Type 0} (o : Option (Bor X)) → is_some (option_copied o) ≡ is_some o
copied_some None = refl
copied_some (Some x) = refl

-- ---- runs

few_in : (o : Option Fact) (b : Bool) (fact : Fact) → IfSome o HasFewStages → HasFewStages fact →
    IfSome (option_or o (if b then Some fact else None)) HasFewStages
few_in (Some one) b fact h here = h
few_in None true fact h here = here
few_in None false fact h here = tt

few_latest : (test : Fact → Bool) (facts : List Fact) → All HasFewStages facts →
    IfSome (latest test facts) HasFewStages
few_latest test [] all = tt
few_latest test (fact ∷ facts) all = few_in (latest test facts) (test fact) fact
    (few_latest test facts (All-tail HasFewStages fact facts all))
    (All-head HasFewStages fact facts all)

few_by : (o : Option Fact) (queued : QueuedRun) → IfSome o HasFewStages →
    by run_told o ≡ Some queued → length queued.compiled.plan.stages < 2 ^ 32
few_by None queued h is = absurd (none-some queued is)
few_by (Some fact) queued h is = h queued is

-- a run that was queued has few stages
pub few_queued : (facts : List Fact) (run : ℕ) (queued : QueuedRun) → All HasFewStages facts →
    by run_told (queueing run facts) ≡ Some queued →
    length queued.compiled.plan.stages < 2 ^ 32
few_queued facts run queued all is = few_by (queueing run facts) queued
    (few_latest (λ fact. is_about (Run run) fact && is_queueing fact.event) facts all) is
