-- What was compiled before stands where neither the files nor the root have moved.
use Rattle.std.proofs.Common.{◌≡◌, ◌<◌, ◌+◌, ◌++◌, ℕ, Bool, true, false, List, [], ◌∷◌, Option}
use Rattle.std.proofs.Common.{Some, None, Result, Ok, Err, count_by, refl, sym, ap}
use Rattle.std.proofs.Common.{subst, ◌∙◌, ⊎_elim, IfSome, cond, append-nil, append_assoc}
use Rattle.std.proofs.Common.{arith}
use Rattle.std.proofs.Math.Seq.{drop-append_seam}
use Rattle.std.proofs.lemmas.List.Sums.{sum_by-append, sum_by-cons}
use Rattle.std.specs.FinMap.{same_map}
use mathlib.Core.List.{IsPrefix}
use Rattle.pl_base.proofs.FileKeys.{exact_files, files_total}
use Rattle.pl_base.specs.declared.digest.Digest.{Digest}
use Rattle.pl_base.specs.declared.expanded.Argument.{Argument}
use Rattle.pl_base.specs.declared.expanded.Refusal.{Refusal}
use Rattle.pl_base.specs.declared.place.FileKey.{FileKey}
use Rattle.pl_opening.specs.Below.pl_compilation.specs.Made.{IsMadeOf}
use Rattle.pl_facts.specs.Sizes.{counted}
use Rattle.pl_facts.specs.declared.entry.Entry.{Entry}
use Rattle.pl_facts.specs.declared.fact.Event.{Event}
use Rattle.pl_facts.specs.declared.fact.Event.TheVariants as event
use Rattle.pl_facts.specs.declared.fact.Fact.{Fact}
use Rattle.pl_opening.specs.Below.pl_history.specs.History.{Opening, facts_of, log_of}
use Rattle.pl_opening.specs.Below.pl_history.specs.Made.{WantsAs, WantsFor}
use Rattle.pl_journal.specs.About.{is_about, key_of}
use Rattle.pl_journal.specs.Kinds.{is_file_change}
use Rattle.pl_journal.specs.Log.{Log, version}
use Rattle.pl_journal.specs.Settings.{by, file, principal_with, text_told}
use Rattle.pl_log.specs.Keys.{File, same_key}
use Rattle.pl_plan.specs.declared.plan.Compiled.{Compiled}
use Rattle.pl_requests.specs.declared.call.Call.{Call}
use Rattle.pl_requests.specs.declared.request.Request.{Request}
use Rattle.pl_requests.specs.declared.request.Request.TheVariants as request
use Rattle.pl_requests.specs.declared.settings.PrincipalSetting.{PrincipalSetting}
use Rattle.pl_service.specs.Ahead.{IsAhead, Stands}
use Rattle.pl_service.specs.Past.{Past, log}
use Rattle.pl_service.specs.declared.ahead.Ahead.{Ahead}
use Rattle.pl_opening.specs.Below.pl_settling.proofs.Behind.{untouched}
use Rattle.pl_snapshots.specs.Snapshots.{AreFiles, Texts, Wants, of_text}
use Rattle.pl_snapshots.specs.declared.snapshot.Snapshot.{Snapshot}

-- ---- facts that change no file

abbrev changes : Fact → Bool
changes fact = is_file_change fact.event

not_about : (key : FileKey) (told : Event) → is_file_change told ≡ false
    → same_key (key_of told) (File key) ≡ false
not_about key (event.FilePut file) not = absurd (cc not)
not_about key (event.FileRemoved k) not = absurd (cc not)
not_about key (event.PipelineSet told) not = refl
not_about key (event.ResourceSet told) not = refl
not_about key (event.PrincipalSet told) not = refl
not_about key (event.AgentSet told) not = refl
not_about key (event.RunQueued told) not = refl
not_about key (event.DecisionMade run stage approver approve) not = refl
not_about key (event.StageStarted run stage) not = refl
not_about key (event.StageEnded run stage outcome rule) not = refl
not_about key (event.JobTaken run stage job agent) not = refl
not_about key (event.JobEnded outcome reported stage job run rule outputs) not = refl
not_about key (event.RunCanceled run) not = refl

one_if : Bool → ℕ
one_if b = cond b 1 0

none_first : (b : Bool) (n : ℕ) → cond b 1 0 + n ≡ 0 → (b ≡ false) × (n ≡ 0)
none_first true n is = absurd (omega (arith, is))
none_first false n is = (refl, omega (arith, is))

-- files stay as they are
file_stays : (key : FileKey) (facts more : List Fact) → count_by changes more ≡ 0
    → file key (facts ++ more) ≡ file key facts
file_stays key facts [] none = ap (file key) (append-nil facts)
file_stays key facts (one ∷ more) none =
    let apart = none_first (changes one) (count_by changes more)
    (sym (sum_by-cons (λ fact. cond (changes fact) 1 0) one more) ∙ none) in
    ap (file key) (sym (append_assoc facts (one ∷ []) more))
    ∙ file_stays key (facts ++ one ∷ []) more apart.1
    ∙ ap (by text_told) (untouched (is_about (File key)) facts one
    (not_about key one.event apart.0))

-- ---- by the version

facts_of-append : (xs ys : List Entry) → facts_of (xs ++ ys) ≡ facts_of xs ++ facts_of ys
facts_of-append [] ys = refl
facts_of-append (x ∷ xs) ys =
    ap (λ more. x.facts ++ more) (facts_of-append xs ys)
    ∙ sym (append_assoc x.facts (facts_of xs) (facts_of ys))

facts_are : (opening : Opening) (entries : List Entry)
    → (log_of opening entries).facts ≡ opening.facts ++ facts_of entries
unfolding log_of
facts_are opening entries = refl

version_is : (opening : Opening) (entries : List Entry)
    → version (log_of opening entries) ≡ opening.version + count_by changes (facts_of entries)
unfolding log_of
version_is opening entries =
    ap (λ (facts : List Fact). opening.version + count_by changes facts)
    (drop-append_seam opening.facts (facts_of entries))

same_count : (v w : ℕ) → counted v ≡ counted w → counted v < 18446744073709551615 → v ≡ w
same_count v w same below = omega (arith, same, below)

no_more : (v a b : ℕ) → v + a ≡ v + (a + b) → b ≡ 0
no_more v a b is = omega (arith, is)

-- behind entries that left the version as it was, each file is as it was
files_stay : (opening : Opening) (before after : List Entry) → IsPrefix before after
    → version (log_of opening before) ≡ version (log_of opening after) → (key : FileKey)
    → file key (log_of opening after).facts ≡ file key (log_of opening before).facts
files_stay opening before after prefix same key =
    let more = facts_of prefix.0 in
    let facts_after : facts_of after ≡ facts_of before ++ more =
    ap facts_of (sym prefix.1) ∙ facts_of-append before prefix.0 in
    let counts : count_by changes (facts_of after) ≡ count_by changes (facts_of before)
    + count_by changes more =
    ap (count_by changes) facts_after
    ∙ sum_by-append (λ fact. cond (changes fact) 1 0) (facts_of before) more in
    let none : count_by changes more ≡ 0 =
    no_more opening.version (count_by changes (facts_of before)) (count_by changes more)
    (sym (version_is opening before) ∙ same ∙ version_is opening after
    ∙ ap (λ n. opening.version + n) counts) in
    ap (file key) (facts_are opening after
    ∙ ap (λ facts. opening.facts ++ facts) facts_after
    ∙ sym (append_assoc opening.facts (facts_of before) more))
    ∙ file_stays key (opening.facts ++ facts_of before) more none
    ∙ ap (file key) (sym (facts_are opening before))

-- ---- what is wanted

wanted_by : (told : Log) (call : Call) (snapshot : Snapshot) (who : Option PrincipalSetting)
    → WantsAs told call (Some snapshot) who → Wants told call.request (Some snapshot)
wanted_by told call snapshot None wants = absurd (cc wants)
wanted_by told call snapshot (Some who) wants =
    ⊎_elim (λ none. absurd (cc (none.1))) (λ may. may.1) wants

pub wanted_is : (told : Log) (call : Call) (snapshot : Snapshot)
    → WantsFor told call (Some snapshot) → Wants told call.request (Some snapshot)
wanted_is told call snapshot wants =
    wanted_by told call snapshot (principal_with told.admin call.caller.bytes told.facts) wants

-- the same files and arguments
abbrev AreSame : Snapshot → Snapshot → Type 0
AreSame a b = (a.files ≡ b.files) × (a.arguments ≡ b.arguments)

some_is : (a b : Snapshot) → Some a ≡ Some b → a ≡ b
some_is a b is = cc is

none_here : (a : Snapshot) → Some a ≡ None → ⊥
none_here a is = cc is

module _ (opening : Opening) (before after : List Entry) (prefix : IsPrefix before after)
    (a b : Snapshot) (same : a.version ≡ b.version) (below : a.version < 18446744073709551615) where
  abbrev Same : Request → Type 0
  Same asked = Wants (log_of opening before) asked (Some a)
      → Wants (log_of opening after) asked (Some b) → AreSame a b

  same_files : AreFiles (log_of opening before).facts a.files
      → AreFiles (log_of opening after).facts b.files
      → a.version ≡ counted (version (log_of opening before))
      → b.version ≡ counted (version (log_of opening after)) → a.files ≡ b.files
  same_files old new old_is new_is =
      let versions : version (log_of opening before) ≡ version (log_of opening after) =
      same_count (version (log_of opening before)) (version (log_of opening after))
      (sym old_is ∙ same ∙ new_is) (subst (λ n. n < 18446744073709551615) old_is below) in
      same_map files_total exact_files a.files b.files (λ key.
      old key ∙ sym (files_stay opening before after prefix versions key) ∙ sym (new key))

  same_for : (asked : Request) → Same asked
  same_for (request.QueueText text) old new =
      let one = some_is a (of_text (log_of opening before) text) old in
      let two = some_is b (of_text (log_of opening after) text) new in (
        ap (λ (s : Snapshot). s.files) one ∙ sym (ap (λ (s : Snapshot). s.files) two),
        ap (λ (s : Snapshot). s.arguments) one ∙ sym (ap (λ (s : Snapshot). s.arguments) two),
      )
  same_for (request.Queue order) old new = (
    same_files old.2.files new.2.files old.2.version new.2.version,
    old.2.arguments ∙ sym new.2.arguments,
  )
  same_for (request.PutFile told) old new = absurd (none_here a old)
  same_for (request.RemoveFile key) old new = absurd (none_here a old)
  same_for (request.GetFile key) old new = absurd (none_here a old)
  same_for (request.SetPipeline told) old new = absurd (none_here a old)
  same_for (request.SetResource told) old new = absurd (none_here a old)
  same_for (request.SetPrincipal told) old new = absurd (none_here a old)
  same_for (request.SetAgent told) old new = absurd (none_here a old)
  same_for (request.ReadRun run) old new = absurd (none_here a old)
  same_for (request.Cancel run) old new = absurd (none_here a old)
  same_for (request.Decide run stage approve) old new = absurd (none_here a old)
  same_for request.Draw old new = absurd (none_here a old)
  same_for (request.Claim job) old new = absurd (none_here a old)
  same_for (request.Why job agent) old new = absurd (none_here a old)
  same_for (request.Report job report) old new = absurd (none_here a old)
  same_for request.Shutdown old new = absurd (none_here a old)

-- ---- what was compiled

abbrev with_parts : Texts → FileKey → List Argument → ℕ → Snapshot
with_parts files root arguments version =
    record { files = files; version = version; root = root; arguments = arguments }

moved : (made : Result Compiled Refusal) (a b : Snapshot) → a.files ≡ b.files → a.root ≡ b.root
    → a.arguments ≡ b.arguments → IsMadeOf a made → IsMadeOf b made
moved made a b files root arguments is =
    subst (λ (fs : Texts). IsMadeOf (with_parts fs b.root b.arguments b.version) made) files
    (subst (λ (key : FileKey). IsMadeOf (with_parts a.files key b.arguments b.version) made) root
    (subst (λ (args : List Argument). IsMadeOf (with_parts a.files a.root args b.version) made)
    arguments (versionless made a b.version is)))
  where
    versionless : (made : Result Compiled Refusal) (a : Snapshot) (n : ℕ) → IsMadeOf a made
        → IsMadeOf (with_parts a.files a.root a.arguments n) made
    versionless (Ok compiled) a n is = is
    versionless (Err refusal) a n is = is

stands : (past : Past) (call : Call) (now : Snapshot) (ahead : Ahead)
    → WantsFor (log past) call (Some now) → IsAhead past call ahead → Stands now ahead
stands past call now ahead wants is = λ current.
    let same = same_for past.opening is.before past.entries is.begins ahead.snapshot now current.0
    current.1 call.request (wanted_is (log_of past.opening is.before) call ahead.snapshot is.wants)
    (wanted_is (log past) call now wants) in
    moved ahead.made ahead.snapshot now same.0 current.2 same.1 is.made

-- where anything was compiled before
pub stands_if : (past : Past) (call : Call) (now : Snapshot) (ahead : Option Ahead)
    → WantsFor (log past) call (Some now) → IfSome ahead (IsAhead past call)
    → IfSome ahead (Stands now)
stands_if past call now None wants is = tt
stands_if past call now (Some ahead) wants is = stands past call now ahead wants is

-- a call's moment says nothing of what is wanted
pub ahead_lifted : (past : Past) (call later : Call) (ahead : Option Ahead)
    → later.caller ≡ call.caller → later.request ≡ call.request
    → IfSome ahead (IsAhead past call) → IfSome ahead (IsAhead past later)
ahead_lifted past call later None caller asked is = tt
ahead_lifted past call later (Some ahead) caller asked is = record {
  before = is.before;
  begins = is.begins;
  wants = at_moment;
  made = is.made;
}
  where
    told : Log
    told = log_of past.opening is.before

    at_moment : WantsFor told later (Some ahead.snapshot)
    at_moment =
        subst (λ (r : Request). WantsFor told
        (record { moment = later.moment; caller = later.caller; request = r })
        (Some ahead.snapshot)) (sym asked)
        (subst (λ (c : Digest). WantsFor told
        (record { moment = later.moment; caller = c; request = call.request })
        (Some ahead.snapshot)) (sym caller) is.wants)
