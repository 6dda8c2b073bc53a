-- What is looked up behind a fact about something else.
use Rattle.std.proofs.Common.{◌≡◌, ℕ, ◌&&◌, ◌++◌, Bool, true, false, List, [], ◌∷◌, Some}
use Rattle.std.proofs.Common.{None, refl, sym, ap, cond, ◌∙◌, flat_map, not, subst}
use Rattle.std.specs.List.{All}
use Rattle.std.specs.Prelude.{if◌then◌else◌}
use Rattle.std.specs.Option.{option_map_or, option_or}
use Rattle.std.specs.Ordering.{is_eq}
use Rattle.std.proofs.lemmas.List.{append_assoc, append-nil}
use Rattle.std.proofs.lemmas.List.Elements.{All-head, All-tail}
use Rattle.pl_base.specs.declared.resource.ResourceKey.{ResourceKey}
use Rattle.pl_facts.specs.declared.fact.Event.{Event}
use Rattle.pl_facts.specs.declared.fact.Event.TheVariants as event
use Rattle.pl_facts.specs.declared.fact.Fact.{Fact}
use Rattle.pl_due.specs.Below.pl_journal.specs.About.{is_about, key_of, latest_of}
use Rattle.pl_due.specs.Below.pl_journal.specs.Kinds.{is_canceling, is_decision_by, is_job_end, is_queueing}
use Rattle.pl_due.specs.Below.pl_journal.specs.Kinds.{is_stage_end, is_start, is_taking}
use Rattle.pl_due.specs.Below.pl_journal.specs.Runs.{decided, decision, decisions, still_decided, verdict_told}
use Rattle.pl_due.specs.Below.pl_journal.specs.Settings.{by, default_pool, resource, resource_told}
use Rattle.pl_log.proofs.Chains.{latest_push}
use Rattle.pl_log.proofs.Naming.{exact_key}
use Rattle.pl_log.specs.Keys.{Job, Named, Resource, Run, Stage, resource_cmp}
use Rattle.pl_log.specs.Latest.{latest, latest_first}
use Rattle.pl_run_laws.specs.Runs.{IsElsewhere, IsSameRun, run_in}
use Rattle.pl_run_laws.specs.Uses.{AreSameUses, SetsNone}

-- ---- lists

module _ {X : Type 0} (test : X → Bool) (x : X) (fails : test x ≡ false) where
  untouched : (xs : List X) → latest test (xs ++ x ∷ []) ≡ latest test xs
  untouched xs =
      latest_push test xs x ∙ ap (λ (b : Bool). cond b (Some x) (latest test xs)) fails

  all_untouched : (xs : List X) → latest_first test (xs ++ x ∷ []) ≡ latest_first test xs
  all_untouched [] = ap (λ (b : Bool). if b then x ∷ [] else []) fails
  all_untouched (y ∷ xs) =
      ap (λ found. found ++ (if test y then y ∷ [] else [])) (all_untouched xs)

-- ---- keys

false_and : (a b : Bool) → a ≡ false → (a && b) ≡ false
false_and a b is = ap (λ x. x && b) is

-- what isn't about the run isn't about any of its stages and jobs
other_key : (run : ℕ) (fact : Fact) (key : Named) → IsElsewhere run fact → run_in key ≡ Some run →
    is_about key fact ≡ false
other_key run fact key elsewhere in_run = go (is_about key fact) refl
  where
    go : (b : Bool) → is_about key fact ≡ b → b ≡ false
    go false is = refl
    go true is =
        absurd (elsewhere (ap run_in (exact_key (key_of fact.event) key is) ∙ in_run))

module _ (facts : List Fact) (fact : Fact) (run : ℕ) (elsewhere : IsElsewhere run fact) where
  abbrev behind : List Fact
  behind = facts ++ fact ∷ []

  latest_same : (key : Named) (test : Event → Bool) → run_in key ≡ Some run →
      latest_of key test behind ≡ latest_of key test facts
  latest_same key test in_run = untouched (λ one. is_about key one && test one.event) fact
      (false_and (is_about key fact) (test fact.event)
      (other_key run fact key elsewhere in_run)) facts

  -- ---- decisions

  same_decision : (r stage : ℕ) (name : List ℕ) → r ≡ run →
      by verdict_told (decision r stage name behind)
      ≡ by verdict_told (decision r stage name facts)
  same_decision r stage name is = ap (by verdict_told)
      (latest_same (Stage r stage) (is_decision_by name) (ap Some is))

  abbrev counts : List Fact → ℕ → Fact → Bool
  counts all stage one = is_about (Stage run stage) one && still_decided all one.event

  still_same : (one : Event) → run_in (key_of one) ≡ Some run →
      still_decided behind one ≡ still_decided facts one
  still_same (event.DecisionMade r s approver approve) is =
      ap (λ said. option_map_or (λ now. if now then approve else not approve) said false)
      (same_decision r s approver (one_some is))
    where
      one_some : Some r ≡ Some run → r ≡ run
      one_some e = cc
  still_same _ is = refl

  counts_same : (stage : ℕ) (one : Fact) → counts behind stage one ≡ counts facts stage one
  counts_same stage one = go (is_about (Stage run stage) one) refl
    where
      go : (b : Bool) → is_about (Stage run stage) one ≡ b →
          (b && still_decided behind one.event) ≡ (b && still_decided facts one.event)
      go false is = refl
      go true is = still_same one.event (ap run_in (exact_key (key_of one.event) (Stage run stage)
          is))

  decisions_same : (stage : ℕ) → decisions run stage behind ≡ decisions run stage facts
  decisions_same stage = ap (λ found. flat_map (λ one. decided one.event) found)
      (all_untouched (counts behind stage) fact
      (false_and (is_about (Stage run stage) fact) (still_decided behind fact.event)
      (other_key run fact (Stage run stage) elsewhere refl)) facts
      ∙ λ i. latest_first (λ one. counts_same stage one i) facts)

  same_run : IsSameRun run facts behind
  same_run = record {
    queued = latest_same (Run run) is_queueing refl;
    canceled = latest_same (Run run) is_canceling refl;
    started = λ stage. latest_same (Stage run stage) is_start refl;
    ended = λ stage. latest_same (Stage run stage) is_stage_end refl;
    taken = λ stage job. latest_same (Job run stage job) is_taking refl;
    finished = λ stage job. latest_same (Job run stage job) is_job_end refl;
    decided = decisions_same;
  }

-- ---- resources

same_resource : (facts : List Fact) (fact : Fact) (key : ResourceKey) →
    is_about (Resource key) fact ≡ false → resource key (facts ++ fact ∷ []) ≡ resource key facts
same_resource facts fact key unset =
    ap (λ set. option_or (by resource_told set)
    (if is_eq (resource_cmp key default_pool.key) then Some default_pool else None))
    (untouched (is_about (Resource key)) fact unset facts)

same_uses : (facts : List Fact) (fact : Fact) (uses : List ResourceKey) → SetsNone uses fact →
    AreSameUses uses facts (facts ++ fact ∷ [])
same_uses facts fact [] none = tt
same_uses facts fact (key ∷ uses) none =
    (same_resource facts fact key none.0, same_uses facts fact uses none.1)

-- ---- several facts

itself : (run : ℕ) (facts : List Fact) → IsSameRun run facts facts
itself run facts = record {
  queued = refl;
  canceled = refl;
  started = λ stage. refl;
  ended = λ stage. refl;
  taken = λ stage job. refl;
  finished = λ stage job. refl;
  decided = λ stage. refl;
}

joined : (run : ℕ) (old mid new : List Fact) → IsSameRun run old mid → IsSameRun run mid new →
    IsSameRun run old new
joined run old mid new one more = record {
  queued = more.queued ∙ one.queued;
  canceled = more.canceled ∙ one.canceled;
  started = λ stage. more.started stage ∙ one.started stage;
  ended = λ stage. more.ended stage ∙ one.ended stage;
  taken = λ stage job. more.taken stage job ∙ one.taken stage job;
  finished = λ stage job. more.finished stage job ∙ one.finished stage job;
  decided = λ stage. more.decided stage ∙ one.decided stage;
}

pub same_run_behind : (run : ℕ) (facts more : List Fact) → All (IsElsewhere run) more →
    IsSameRun run facts (facts ++ more)
same_run_behind run facts [] none =
    subst (IsSameRun run facts) (sym (append-nil facts)) (itself run facts)
same_run_behind run facts (fact ∷ more) all =
    subst (IsSameRun run facts) (append_assoc facts (fact ∷ []) more)
    (joined run facts (facts ++ fact ∷ []) ((facts ++ fact ∷ []) ++ more)
    (same_run facts fact run (All-head (IsElsewhere run) fact more all))
    (same_run_behind run (facts ++ fact ∷ []) more (All-tail (IsElsewhere run) fact more all)))

joined_uses : (uses : List ResourceKey) (old mid new : List Fact) → AreSameUses uses old mid →
    AreSameUses uses mid new → AreSameUses uses old new
joined_uses [] old mid new one more = tt
joined_uses (key ∷ uses) old mid new one more =
    (more.0 ∙ one.0, joined_uses uses old mid new one.1 more.1)

alike_itself : (uses : List ResourceKey) (facts : List Fact) → AreSameUses uses facts facts
alike_itself [] facts = tt
alike_itself (key ∷ uses) facts = (refl, alike_itself uses facts)

pub same_uses_behind : (uses : List ResourceKey) (facts more : List Fact) →
    All (SetsNone uses) more → AreSameUses uses facts (facts ++ more)
same_uses_behind uses facts [] none =
    subst (AreSameUses uses facts) (sym (append-nil facts)) (alike_itself uses facts)
same_uses_behind uses facts (fact ∷ more) all =
    subst (AreSameUses uses facts) (append_assoc facts (fact ∷ []) more)
    (joined_uses uses facts (facts ++ fact ∷ []) ((facts ++ fact ∷ []) ++ more)
    (same_uses facts fact uses (All-head (SetsNone uses) fact more all))
    (same_uses_behind uses (facts ++ fact ∷ []) more (All-tail (SetsNone uses) fact more all)))
