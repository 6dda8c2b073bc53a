-- A call is answered the same where the same is found.
use Rattle.std.proofs.Common.{◌≡◌, ◌⊎◌, ◌++◌, ◌+◌, ℕ, zero, suc, Bool, cond, true, false, true≢false, List, [], ◌∷◌}
use Rattle.std.proofs.Common.{append-nil, append_assoc, drop, count_by, max, Option, Some, None, inl}
use Rattle.std.proofs.Common.{inr, if◌then◌else◌, refl, sym, ap, subst, ◌∙◌, arith}
use Rattle.std.proofs.lemmas.List.Sums.{sum_by-append}
use Rattle.std.specs.Option.{option_map_or}
use Rattle.pl_step_laws.specs.Below.pl_step.specs.Below.pl_answers.specs.declared.answer.Answer.{Answer}
use Rattle.pl_facts.specs.Sizes.{counted}
use Rattle.pl_facts.specs.declared.fact.Event.{Event}
use Rattle.pl_facts.specs.declared.fact.Event.TheVariants as event
use Rattle.pl_facts.specs.declared.fact.Fact.{Fact}
use Rattle.pl_journal.specs.About.{is_also_about, second_of}
use Rattle.pl_journal.specs.Kinds.{is_file_change}
use Rattle.pl_journal.specs.Log.{changes_since, last_run, version, Log}
use Rattle.pl_journal.specs.Runs.{number_told}
use Rattle.pl_journal.specs.Settings.{by, principal_with}
use Rattle.pl_log.specs.Keys.{names, Queue}
use Rattle.pl_step_laws.specs.Below.pl_step.specs.Below.pl_queueing.specs.Queueing.{Made}
use Rattle.pl_requests.specs.declared.call.Call.{Call}
use Rattle.pl_requests.specs.declared.request.Request.{Request}
use Rattle.pl_requests.specs.declared.request.Request.TheVariants as request
use Rattle.pl_requests.specs.declared.settings.PrincipalSetting.{PrincipalSetting}
use Rattle.pl_rules.specs.declared.rule.Rule.TheVariants as rules
use Rattle.pl_same_lookups.specs.Alike.{FindAlike, LookAlike}
use Rattle.pl_same_lookups.proofs.More.{alike_behind}
use Rattle.pl_same_step.specs.Same.{HasRoom, LogsAlike, StayAlike}
use Rattle.pl_same_step.proofs.Answering.{answers_same, owner_same}
use Rattle.pl_same_step.proofs.Dueing.{settles_same}
use Rattle.pl_same_step.proofs.Seeing.{turned}
use Rattle.pl_step_laws.specs.Below.pl_step.specs.Below.pl_jobs.specs.Below.pl_settling.proofs.Behind.{untouched}
use Rattle.pl_step_laws.specs.Below.pl_step.specs.Below.pl_jobs.specs.Below.pl_settling.proofs.Giving.{gives}
use Rattle.pl_step_laws.specs.Below.pl_step.specs.Below.pl_jobs.specs.Below.pl_settling.specs.Gives.{Gives}
use Rattle.pl_step_laws.specs.Below.pl_step.specs.Below.pl_jobs.specs.Below.pl_settling.specs.Settles.{Settles}
use Rattle.pl_step_laws.specs.Below.pl_step.specs.Answering.{Answers}
use Rattle.pl_step_laws.specs.Below.pl_step.specs.Callers.{may_call}
use Rattle.pl_step_laws.specs.Below.pl_step.specs.Full.{is_too_much, with_facts}
use Rattle.pl_step_laws.specs.Below.pl_step.specs.Step.{forbidden, given, happened, refusing, stepped_with, IsStep, Serves}
use Rattle.pl_step_laws.specs.Below.pl_step.specs.Step.{SettlesFor, StepsAs}
use Rattle.pl_step_laws.specs.Below.pl_step.specs.declared.held.Held.{Held}
use Rattle.pl_step_laws.specs.Below.pl_step.specs.declared.stepped.Stepped.{Stepped}

-- ---- what is due queues no run and changes no file

abbrev IsQuiet : Event → Type 0
IsQuiet one = (names (second_of one) Queue ≡ false) × (is_file_change one ≡ false)

quiet_due : (facts : List Fact) (moment : ℕ) (one : Event) → Gives facts moment one → IsQuiet one
quiet_due facts moment (event.StageStarted run stage) is = (refl, refl)
quiet_due facts moment (event.StageEnded run stage outcome rule) is = (refl, refl)
quiet_due facts moment (event.JobEnded outcome reported stage job run rule outputs) is =
    (refl, refl)
quiet_due facts moment _ is = absurd is

abbrev no_facts : List Fact
no_facts = []

changes_stay : (p : Fact → Bool) (start : ℕ) (facts : List Fact) (one : Fact) → p one ≡ false →
    count_by p (drop start (facts ++ one ∷ [])) ≡ count_by p (drop start facts)
changes_stay p zero facts one not = sum_by-append (λ fact. cond (p fact) 1 0) facts (one ∷ [])
    ∙ plus_none (count_by p facts) (count_by p (one ∷ [])) (none_here (p one) not)
  where
    none_here : (b : Bool) → b ≡ false → 0 + cond b 1 0 ≡ 0
    none_here true e = absurd (true≢false e)
    none_here false e = refl

    plus_none : (n m : ℕ) → m ≡ 0 → n + m ≡ n
    plus_none n m e = omega (arith, e)
changes_stay p (suc start) [] one not = ap (count_by p) (nothing start) where
  nothing : (n : ℕ) → drop n no_facts ≡ no_facts
  nothing zero = refl
  nothing (suc n) = refl
changes_stay p (suc start) (fact ∷ facts) one not = changes_stay p start facts one not

abbrev with_one : Log → Fact → Log
with_one log one = with_facts log (one ∷ [])

-- behind what is due the numbers are what they were
abbrev Stay : Log → Log → Type 0
Stay log other = (last_run log ≡ last_run other) × (version log ≡ version other)

numbers_one : (log : Log) (one : Fact) → IsQuiet one.event → Stay (with_one log one) log
numbers_one log one quiet = (
  ap (λ (found : Option Fact). option_map_or (λ run. max log.opening.run run)
      (by number_told found) log.opening.run)
      (untouched (is_also_about Queue) log.facts one quiet.0),
  ap (λ n. log.opening.version + n) (changes_stay (λ fact. is_file_change fact.event)
      log.opening.facts log.facts one quiet.1),
)

numbers_due : (log : Log) (moment : ℕ) (due : List Fact) → Settles moment log.facts due →
    Stay (with_facts log due) log
numbers_due log moment [] is = (
  ap (λ (facts : List Fact). last_run (record log { facts = facts })) (append-nil log.facts),
  ap (λ (facts : List Fact). version (record log { facts = facts })) (append-nil log.facts),
)
numbers_due log moment (one ∷ due) is =
    let rest = numbers_due (with_one log one) moment due is.2 in
    let here = numbers_one log one
    (quiet_due log.facts moment one.event (gives log.facts moment one.event is.0)) in
    let same = append_assoc log.facts (one ∷ []) due in (
      sym (ap (λ (facts : List Fact). last_run (record log { facts = facts })) same)
          ∙ (rest.0 ∙ here.0),
      sym (ap (λ (facts : List Fact). version (record log { facts = facts })) same)
          ∙ (rest.1 ∙ here.1),
    )

-- ---- so behind what is due the journals are alike

pub logs_turned : (log other : Log) → LogsAlike log other → LogsAlike other log
logs_turned log other same = record {
  look = turned log.facts other.facts same.look;
  finds = record {
    tokens = λ token. sym (same.finds.tokens token);
    holders = λ agent. sym (same.finds.holders agent);
  };
  admin = sym same.admin;
  run = sym same.run;
  version = sym same.version;
}

settled_alike : (log other : Log) (moment : ℕ) (due : List Fact) →
    StayAlike moment log other →
    Settles moment log.facts due → LogsAlike (with_facts log due) (with_facts other due)
settled_alike log other moment due same is =
    let left = numbers_due log moment due is in
    let right = numbers_due other moment due
    (settles_same moment log.facts other.facts due same.now.look is) in
    record {
      look = alike_behind log.facts other.facts due same.now.look;
      finds = same.later due is;
      admin = same.now.admin;
      run = left.0 ∙ (same.now.run ∙ sym right.0);
      version = ap counted left.1 ∙ (same.now.version ∙ sym (ap counted right.1));
    }

-- where nothing is
nothing_alike : (log other : Log) → LogsAlike log other →
    LogsAlike (with_facts log []) (with_facts other [])
nothing_alike log other same =
    subst (λ (facts : List Fact). LogsAlike (record log { facts = facts }) (with_facts other []))
    (sym (append-nil log.facts))
    (subst (λ (facts : List Fact). LogsAlike log (record other { facts = facts }))
    (sym (append-nil other.facts)) same)

comes : (asked : Request) (moment : ℕ) (facts due : List Fact) →
    SettlesFor asked moment facts due → (due ≡ []) ⊎ Settles moment facts due
comes request.Shutdown moment facts due is = inl is
comes _ moment facts due is = inr is

settles_for : (asked : Request) (moment : ℕ) (facts other due : List Fact) →
    LookAlike facts other → SettlesFor asked moment facts due →
    SettlesFor asked moment other due
settles_for request.Shutdown moment facts other due alike is = is
settles_for _ moment facts other due alike is = settles_same moment facts other due alike is

behind_alike : (log other : Log) (moment : ℕ) (due : List Fact) →
    StayAlike moment log other →
    (due ≡ []) ⊎ Settles moment log.facts due →
    LogsAlike (with_facts log due) (with_facts other due)
behind_alike log other moment due same (inl none) =
    subst (λ (facts : List Fact). LogsAlike (with_facts log facts) (with_facts other facts))
    (sym none) (nothing_alike log other same.now)
behind_alike log other moment due same (inr is) = settled_alike log other moment due same is

-- ---- the step

-- where the journal isn't full, what was to be given is
fits : (held : Held) (log : Log) (asked : Request) (stepped : Stepped) →
    HasRoom (given held log asked stepped) → given held log asked stepped ≡ stepped
fits held log asked stepped room = go (is_too_much held log asked stepped.added) refl where
  go : (b : Bool) → is_too_much held log asked stepped.added ≡ b →
      given held log asked stepped ≡ stepped
  go true e = absurd (room
      (ap (λ (b : Bool). if b then refusing 409 rules.JournalFull else stepped) e))
  go false e = ap (λ (b : Bool). if b then refusing 409 rules.JournalFull else stepped) e

abbrev pub OneStep : Type 0
OneStep = (held : Held) (log : Log) (call : Call) (made : Made) (left right : Stepped) →
    IsStep held log call made left → IsStep held log call made right → left ≡ right

module _ (one_step : OneStep) (held its : Held) (log other : Log) (call : Call)
    (same : StayAlike call.moment log other) (made : Made) (stepped also : Stepped) (room : HasRoom stepped)
    (rooms : HasRoom also) (is_also : IsStep its other call made also) where
  abbrev caller : Option PrincipalSetting
  caller = principal_with other.admin call.caller.bytes other.facts

  -- what the other journal gives is what the first does
  module _ (who : PrincipalSetting) (known : caller ≡ Some who)
      (may : may_call who call.request ≡ true)
      (serves : Serves held log call made who.name stepped) where
    abbrev told : Stepped
    told = stepped_with serves.answer.reply
        (serves.due ++ happened call.moment serves.answer.event)

    alike : LogsAlike (with_facts log serves.due) (with_facts other serves.due)
    alike = behind_alike log other call.moment serves.due same
        (comes call.request call.moment log.facts serves.due serves.settles)

    also_served : Serves its other call made who.name (given its other call.request told)
    also_served = record {
      due = serves.due;
      settles = settles_for call.request call.moment log.facts other.facts serves.due
          same.now.look serves.settles;
      answer = serves.answer;
      answers = answers_same (with_facts log serves.due) (with_facts other serves.due) alike
          (logs_turned (with_facts log serves.due) (with_facts other serves.due) alike)
          call.moment who.name made call.request serves.answer serves.answers;
      gives = refl;
    }

    is_given : given its other call.request told ≡ also
    is_given = one_step its other call made (given its other call.request told) also
        (subst (λ (c : Option PrincipalSetting).
        StepsAs its other call made (given its other call.request told) c) (sym known)
        (inr (may, also_served))) is_also

    served : stepped ≡ also
    served =
        let left : given held log call.request told ≡ told = fits held log call.request told
        (λ full. room (serves.gives ∙ full)) in
        let right : given its other call.request told ≡ told = fits its other call.request told
        (λ full. rooms (sym is_given ∙ full)) in
        serves.gives ∙ (left ∙ (sym right ∙ is_given))

  by_caller : (c : Option PrincipalSetting) → caller ≡ c → StepsAs held log call made stepped c →
      stepped ≡ also
  by_caller None e is = is ∙ one_step its other call made (refusing 401 rules.TokenUnknown) also
      (subst (λ (c : Option PrincipalSetting).
      StepsAs its other call made (refusing 401 rules.TokenUnknown) c) (sym e) refl) is_also
  by_caller (Some who) e (inl is) = is.1 ∙ one_step its other call made (forbidden call.request)
      also (subst (λ (c : Option PrincipalSetting).
      StepsAs its other call made (forbidden call.request) c) (sym e) (inl (is.0, refl))) is_also
  by_caller (Some who) e (inr is) = served who e is.0 is.1

  pub same_step : IsStep held log call made stepped → stepped ≡ also
  same_step is = by_caller caller refl (subst (StepsAs held log call made stepped)
      (owner_same log other same.now call.caller.bytes) is)
