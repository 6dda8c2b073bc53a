-- What is to be compiled for a call leaves no choice, and so neither does what it is compiled to.
use Rattle.std.proofs.Common.{◌≡◌, true, false, Option, Some, None, inl, inr, refl, sym}
use Rattle.std.proofs.Common.{ap, subst, ◌∙◌}
use Rattle.std.proofs.lemmas.Option.{none-some}
use Rattle.std.specs.FinMap.{same_map}
use Rattle.pl_base.proofs.FileKeys.{exact_files, files_total}
use Rattle.pl_alone.specs.Below.pl_compilation.specs.Made.{IsMade}
use Rattle.pl_alone.specs.Below.pl_history.specs.Made.{IsMadeFor, WantsAs, WantsFor}
use Rattle.pl_journal.specs.Log.{Log}
use Rattle.pl_journal.specs.Settings.{principal_with}
use Rattle.pl_queueing.specs.Queueing.{Made}
use Rattle.pl_requests.specs.declared.call.Call.{Call}
use Rattle.pl_requests.specs.declared.request.Order.{Order}
use Rattle.pl_requests.specs.declared.request.Request.{Request}
use Rattle.pl_requests.specs.declared.request.Request.TheVariants as request
use Rattle.pl_requests.specs.declared.settings.PipelineSetting.{PipelineSetting}
use Rattle.pl_requests.specs.declared.settings.PrincipalSetting.{PrincipalSetting}
use Rattle.pl_snapshots.specs.Snapshots.{IsOfOrder, Wants, WantsOrder}
use Rattle.pl_snapshots.specs.declared.snapshot.Snapshot.{Snapshot}
use Rattle.pl_sources.specs.Again.{CompilesToOne}
use Rattle.pl_reply_laws.proofs.Compiled.{one_made_of}

-- files that stand alike are one set of files
one_of_order : (log : Log) (told : PipelineSetting) (order : Order) (left right : Snapshot) →
    IsOfOrder log told order left → IsOfOrder log told order right → left ≡ right
one_of_order log told order left right is has =
    let files : left.files ≡ right.files = same_map files_total exact_files left.files right.files
    (λ key. is.files key ∙ sym (has.files key)) in
    let version : left.version ≡ right.version = is.version ∙ sym has.version in
    let root : left.root ≡ right.root = is.root ∙ sym has.root in
    let arguments : left.arguments ≡ right.arguments = is.arguments ∙ sym has.arguments in
    λ i. record {
      files = files i;
      version = version i;
      root = root i;
      arguments = arguments i;
    }

one_ordered : (log : Log) (order : Order) (left right : Option Snapshot) →
    WantsOrder log order left → WantsOrder log order right → left ≡ right
one_ordered log order None None is has = refl
one_ordered log order None (Some right) is (told, known, has) =
    absurd (none-some told (sym is ∙ known))
one_ordered log order (Some left) None (told, known, is) has =
    absurd (none-some told (sym has ∙ known))
one_ordered log order (Some left) (Some right) (told, known, is) (other, also, has) =
    let e : Some told ≡ Some other = sym known ∙ also in
    let same : told ≡ other = cc in
    ap Some (one_of_order log other order left right
    (subst (λ (told : PipelineSetting). IsOfOrder log told order left) same is) has)

one_wants : (log : Log) (asked : Request) (left right : Option Snapshot) →
    Wants log asked left → Wants log asked right → left ≡ right
one_wants log (request.PutFile file) left right a b = a ∙ sym b
one_wants log (request.RemoveFile key) left right a b = a ∙ sym b
one_wants log (request.GetFile key) left right a b = a ∙ sym b
one_wants log (request.SetPipeline told) left right a b = a ∙ sym b
one_wants log (request.SetResource told) left right a b = a ∙ sym b
one_wants log (request.SetPrincipal told) left right a b = a ∙ sym b
one_wants log (request.SetAgent told) left right a b = a ∙ sym b
one_wants log (request.QueueText text) left right a b = a ∙ sym b
one_wants log (request.Queue order) left right a b = one_ordered log order left right a b
one_wants log (request.ReadRun run) left right a b = a ∙ sym b
one_wants log (request.Cancel run) left right a b = a ∙ sym b
one_wants log (request.Decide run stage approve) left right a b = a ∙ sym b
one_wants log request.Draw left right a b = a ∙ sym b
one_wants log (request.Claim job) left right a b = a ∙ sym b
one_wants log (request.Why job named) left right a b = a ∙ sym b
one_wants log (request.Report job told) left right a b = a ∙ sym b
one_wants log request.Shutdown left right a b = a ∙ sym b

one_by : (log : Log) (call : Call) (left right : Option Snapshot)
    (caller : Option PrincipalSetting) → WantsAs log call left caller →
    WantsAs log call right caller → left ≡ right
one_by log call left right None a b = a ∙ sym b
one_by log call left right (Some who) (inl a) (inl b) = a.1 ∙ sym b.1
one_by log call left right (Some who) (inl a) (inr b) =
    let e : false ≡ true = sym a.0 ∙ b.0 in absurd (cc)
one_by log call left right (Some who) (inr a) (inl b) =
    let e : false ≡ true = sym b.0 ∙ a.0 in absurd (cc)
one_by log call left right (Some who) (inr a) (inr b) =
    one_wants log call.request left right a.1 b.1

pub one_wanted : (log : Log) (call : Call) (left right : Option Snapshot) →
    WantsFor log call left → WantsFor log call right → left ≡ right
one_wanted log call left right a b =
    one_by log call left right (principal_with log.admin call.caller.bytes log.facts) a b

one_made : CompilesToOne → (snapshot : Option Snapshot) (left right : Made) →
    IsMade snapshot left → IsMade snapshot right → left ≡ right
one_made one None None None a b = refl
one_made one None None (Some right) a b = absurd b
one_made one None (Some left) right a b = absurd a
one_made one (Some snapshot) None right a b = absurd a
one_made one (Some snapshot) (Some left) None a b = absurd b
one_made one (Some snapshot) (Some left) (Some right) a b =
    ap Some (one_made_of one snapshot left right a b)

pub one_made_for : CompilesToOne → (log : Log) (call : Call) (left right : Made) →
    IsMadeFor log call left → IsMadeFor log call right → left ≡ right
one_made_for one log call left right (snapshot, wants, is) (other, also, has) =
    let same : snapshot ≡ other = one_wanted log call snapshot other wants also in
    one_made one other left right
    (subst (λ (snapshot : Option Snapshot). IsMade snapshot left) same is) has
