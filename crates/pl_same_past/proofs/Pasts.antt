-- Two pasts that keep the same find the same, and answer the same.
use Rattle.std.proofs.Common.{◌≡◌, ◌≤◌, ◌++◌, ℕ, nat_lt, Bool, true, false, List, [], ◌∷◌, Option, Some}
use Rattle.std.proofs.Common.{None, append-nil, append_assoc, if◌then◌else◌, refl, sym, ap, subst, ◌∙◌}
use Rattle.std.proofs.Common.{inl, inr, arith}
use Rattle.std.specs.List.{AllByRecursion}
use Rattle.pl_base.specs.declared.digest.Digest.{Digest}
use Rattle.pl_opening_laws.specs.Below.pl_opening.specs.Below.pl_due.specs.Due.{IsDue}
use Rattle.pl_facts.specs.Sizes.{counted}
use Rattle.pl_facts.specs.declared.entry.Entry.{Entry}
use Rattle.pl_facts.specs.declared.fact.Fact.{Fact}
use Rattle.pl_never_torn.specs.Below.pl_history.specs.History.{log_of, opened, Opening}
use Rattle.pl_never_torn.specs.Below.pl_history.specs.Made.{IsMadeFor, WantsAs, WantsFor}
use Rattle.pl_never_torn.specs.Below.pl_history.proofs.Standing.{first_facts}
use Rattle.pl_journal.specs.Log.{last_moment, last_run, version, Log}
use Rattle.pl_journal.specs.Settings.{principal_with}
use Rattle.pl_keeper.specs.declared.records.Meta.{Meta}
use Rattle.pl_keeper.specs.declared.records.Record.{Record}
use Rattle.pl_keeper.specs.declared.records.Record.TheVariants as kept
use Rattle.pl_kept.specs.Kept.{numbers_kept}
use Rattle.pl_never_torn.specs.Below.pl_queueing.specs.Queueing.{Made}
use Rattle.pl_requests.specs.declared.call.Call.{Call}
use Rattle.pl_requests.specs.declared.request.Order.{Order}
use Rattle.pl_requests.specs.declared.request.Request.{Request}
use Rattle.pl_requests.specs.declared.request.Request.TheVariants as request
use Rattle.pl_requests.specs.declared.settings.PrincipalSetting.{PrincipalSetting}
use Rattle.pl_never_torn.specs.Holders.{HoldOne}
use Rattle.pl_never_torn.specs.Jobs.{AreJobsInTime, AreSaid}
use Rattle.pl_never_torn.specs.Own.{AreOwn}
use Rattle.pl_never_torn.specs.Owners.{AreApart}
use Rattle.pl_never_torn.specs.Rising.{NoneLater}
use Rattle.pl_never_torn.specs.Standing.{HasStood}
use Rattle.pl_never_torn.proofs.Making.{own_all}
use Rattle.pl_never_torn.proofs.Owners.{apart_keeps}
use Rattle.pl_never_torn.proofs.Rising.{joined, rising, weaker}
use Rattle.pl_never_torn.proofs.First.{admin_is, first_apart, first_sound}
use Rattle.pl_never_torn.proofs.Staying.{stays, with_one, Before, Keeps, Laws}
use Rattle.pl_same_step.specs.Below.pl_same_lookups.specs.Alike.{FindAlike, LookAlike}
use Rattle.pl_same_step.specs.Below.pl_same_lookups.proofs.Finding.{never}
use Rattle.pl_same_step.specs.Below.pl_same_lookups.proofs.More.{alike_behind}
use Rattle.pl_same_step.specs.Same.{LogsAlike, StayAlike}
use Rattle.pl_same_step.proofs.Answering.{owner_same}
use Rattle.pl_same_step.proofs.Dueing.{settles_same}
use Rattle.pl_same_step.proofs.Seeing.{file_same, turned}
use Rattle.pl_same_past.specs.Past.{AreSame, IsPast}
use Rattle.pl_same_past.specs.Rooted.{AreRooted}
use Rattle.pl_same_past.proofs.Holders.{holder_same, HoldSo}
use Rattle.pl_same_past.proofs.Keeping.{look_alike, IsBased}
use Rattle.pl_same_past.proofs.Rooting.{rooted_keep, Rooted}
use Rattle.pl_same_past.proofs.Tokens.{token_same}
use Rattle.pl_opening_laws.specs.Below.pl_opening.specs.Below.pl_settling.specs.Settles.{Settles}
use Rattle.pl_never_torn.specs.Below.pl_snapshots.specs.Snapshots.{of_text, Wants, WantsOrder}
use Rattle.pl_never_torn.specs.Below.pl_snapshots.specs.declared.snapshot.Snapshot.{Snapshot}
use Rattle.pl_never_torn.specs.Below.pl_sources.specs.Again.{CompilesToOne, SourcesCompileAgain}
use Rattle.pl_never_torn.specs.Below.pl_step.specs.Callers.{may_call}
use Rattle.pl_never_torn.specs.Below.pl_step.specs.Full.{with_facts}

-- ---- what holds of a past, now and behind what is due

abbrev Whole : Log → Type 0
Whole log = Rooted log × AreApart log.admin log.facts

whole_keep : Keeps Whole
whole_keep = record {
  due = λ log one before is_due was. (
    rooted_keep.due log one before is_due was.0,
    apart_keeps.due log one before is_due was.1,
  );
  asked = λ log made one has before few tells was. (
    rooted_keep.asked log made one has before few tells was.0,
    apart_keeps.asked log made one has before few tells was.1,
  );
  installed = λ log count was. (
    rooted_keep.installed log count was.0,
    apart_keeps.installed log count was.1,
  );
}

whole_due : (log : Log) (moment : ℕ) (due : List Fact) → Before moment log.facts →
    Settles moment log.facts due → Whole log → Whole (with_facts log due)
whole_due log moment [] before settles was = subst (λ (facts : List Fact).
    Whole (record log { facts = facts })) (sym (append-nil log.facts)) was
whole_due log moment (one ∷ due) before settles was =
    subst (λ (facts : List Fact). Whole (record log { facts = facts }))
    (append_assoc log.facts (one ∷ []) due)
    (whole_due (with_one log one) moment due
    (joined (λ fact. fact.moment ≤ moment) log.facts (one ∷ []) before
    (omega (arith, settles.1), tt)) settles.2
    (whole_keep.due log one (subst (λ m. Before m log.facts) (sym settles.1) before)
    (subst (λ m. IsDue log.facts m (Some one.event)) (sym settles.1) settles.0) was))

module _ (laws : Laws) (opening : Opening) (entries : List Entry)
    (is : IsPast opening entries) where
  abbrev log : Log
  log = log_of opening entries

  whole_now : Whole log
  whole_now = stays laws Whole whole_keep opening entries is.stood.orderly is.stood.later (
    (
      (
        (
          first_sound opening is.stood.sound,
          subst AreSaid (sym (first_facts opening)) is.stood.said,
          subst AreJobsInTime (sym (first_facts opening)) is.stood.jobs,
        ),
        subst HoldOne (sym (first_facts opening)) is.stood.holds,
      ),
      subst AreRooted (sym (first_facts opening)) is.rooted,
    ),
    first_apart opening is.stood.apart,
  ) is.legal

  pub based : SourcesCompileAgain → IsBased log.facts
  based again = record {
    own = own_all again laws opening entries is.stood.orderly is.stood.later
        (subst AreOwn (sym (first_facts opening)) is.stood.own) is.legal;
    taken = whole_now.0.0.1.planned;
    rooted = whole_now.0.1;
  }

  early : (moment : ℕ) → last_moment log ≤ moment → Before moment log.facts
  early moment late = weaker (λ fact. fact.moment ≤ last_moment log)
      (λ fact. fact.moment ≤ moment) (λ fact e. omega (arith, e, late)) log.facts
      (rising opening entries is.stood.later is.legal)

  whole_then : (moment : ℕ) → last_moment log ≤ moment → (due : List Fact) →
      Settles moment log.facts due → Whole (with_facts log due)
  whole_then moment late due settles =
      whole_due log moment due (early moment late) settles whole_now

hold_so : (past : Log) → Whole past → HoldSo past.facts
hold_so past is = record {
  jobs = is.0.0.0.2;
  holds = is.0.0.1;
  once = is.0.1.once;
}

pub find_alike : (log other : Log) → LookAlike log.facts other.facts → Whole log → Whole other →
    FindAlike log.facts other.facts
find_alike log other alike left right = record {
  tokens = token_same log.admin other.admin log.facts other.facts alike left.1 right.1;
  holders = holder_same log.facts other.facts alike (turned log.facts other.facts alike)
      (hold_so log left) (hold_so other right);
}

-- ---- the numbers

abbrev moment_in : Option Record → ℕ
moment_in (Some (kept.Meta told)) = told.moment
moment_in _ = 0

abbrev run_in : Option Record → ℕ
run_in (Some (kept.Meta told)) = told.run
run_in _ = 0

abbrev version_in : Option Record → ℕ
version_in (Some (kept.Meta told)) = told.version
version_in _ = 0

pub record TellNumbers (log : Log) (numbers : Meta) : Type 0 where
  pub moment : last_moment log ≡ numbers.moment
  pub run : last_run log ≡ numbers.run
  pub version_is : counted (version log) ≡ numbers.version

abbrev pub told_of : ℕ → Log → Record
told_of change log = kept.Meta (record {
  moment = last_moment log;
  run = last_run log;
  version = counted (version log);
  change = change;
})

tell_numbers : (change : ℕ) (log : Log) (numbers : Meta) →
    numbers_kept change log ≡ Some (kept.Meta numbers) → TellNumbers log numbers
tell_numbers change log numbers e = by_test (nat_lt 0 change) e where
  by_test : (b : Bool) → (if b then Some (told_of change log) else None)
      ≡ Some (kept.Meta numbers) → TellNumbers log numbers
  by_test true f =
      record { moment = ap moment_in f; run = ap run_in f; version_is = ap version_in f }
  by_test false f = absurd (never (kept.Meta numbers) f)

-- ---- the same is found

module _ (laws : Laws) (again : SourcesCompileAgain) (one_thing : CompilesToOne)
    (opening : Opening) (entries : List Entry) (other : Opening) (others : List Entry)
    (are : AreSame opening entries other others) where
  abbrev left : Log
  left = log_of opening entries

  abbrev right : Log
  right = log_of other others

  look : LookAlike left.facts right.facts
  look = look_alike one_thing left.facts right.facts (based laws opening entries are.one again)
      (based laws other others are.two again) are.keep.each

  one_told : TellNumbers left are.numbers
  one_told = tell_numbers are.change left are.numbers are.counted

  two_told : TellNumbers right are.numbers
  two_told =
      tell_numbers are.their_change right are.numbers (sym are.keep.numbers ∙ are.counted)

  pub logs_alike : LogsAlike left right
  logs_alike = record {
    look = look;
    finds = find_alike left right look (whole_now laws opening entries are.one)
        (whole_now laws other others are.two);
    admin = admin_is opening entries ∙ (are.admin ∙ sym (admin_is other others));
    run = one_told.run ∙ sym two_told.run;
    version = one_told.version_is ∙ sym two_told.version_is;
  }

  pub stay_alike : (moment : ℕ) → last_moment left ≤ moment → StayAlike moment left right
  stay_alike moment late = record {
    now = logs_alike;
    later = λ due settles. find_alike (with_facts left due) (with_facts right due)
        (alike_behind left.facts right.facts due look)
        (whole_then laws opening entries are.one moment late due settles)
        (whole_then laws other others are.two moment late_too due
        (settles_same moment left.facts right.facts due look settles));
  }
    where
      late_too : last_moment right ≤ moment
      late_too = omega (arith, late, one_told.moment, two_told.moment)

-- ---- what is to be compiled

module _ (log other : Log) (same : LogsAlike log other) where
  order_same : (order : Order) (snapshot : Option Snapshot) → WantsOrder log order snapshot →
      WantsOrder other order snapshot
  order_same order None is = sym (same.look.pipelines order.pipeline) ∙ is
  order_same order (Some snapshot) is = (
    is.0,
    sym (same.look.pipelines order.pipeline) ∙ is.1,
    record {
      files = λ key. is.2.files key ∙ file_same log.facts other.facts same.look key;
      version = is.2.version ∙ same.version;
      root = is.2.root;
      arguments = is.2.arguments;
    },
  )

  wants_same : (asked : Request) (snapshot : Option Snapshot) → Wants log asked snapshot →
      Wants other asked snapshot
  wants_same (request.QueueText text) snapshot is =
      is ∙ ap (λ n. Some (record (of_text log text) { version = n })) same.version
  wants_same (request.Queue order) snapshot is = order_same order snapshot is
  wants_same _ snapshot is = is

  wants_as_same : (call : Call) (snapshot : Option Snapshot)
      (caller : Option PrincipalSetting) → WantsAs log call snapshot caller →
      WantsAs other call snapshot caller
  wants_as_same call snapshot None is = is
  wants_as_same call snapshot (Some who) (inl is) = inl is
  wants_as_same call snapshot (Some who) (inr is) =
      inr (is.0, wants_same call.request snapshot is.1)

  pub made_same : (call : Call) (made : Made) → IsMadeFor log call made →
      IsMadeFor other call made
  made_same call made is = (
    is.0,
    subst (WantsAs other call is.0) (owner_same log other same call.caller.bytes)
        (wants_as_same call is.0 (principal_with log.admin call.caller.bytes log.facts) is.1),
    is.2,
  )

-- ---- a new service

pub new_past : (admin : Digest) → HasStood (opened admin) → IsPast (opened admin) []
new_past admin stood = record {
  stood = stood;
  rooted = record {
    canceled = λ run there. absurd (there refl);
    started = λ run stage there. absurd (there refl);
    ended = λ run stage there. absurd (there refl);
    job_ended = λ run stage job there. absurd (there refl);
    once = tt;
  };
  legal = tt;
}
