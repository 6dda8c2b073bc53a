-- What is to be compiled for a request that queues a run (Microsoft Learn, Azure Pipelines,
-- "Pipeline runs").
use Rattle.std.specs.Prelude.{◌≡◌, ℕ, List, [], Option, Some, None, codes}
use Rattle.std.specs.FinMap as finite
use Rattle.pl_base.specs.Files.{file_cmp}
use Rattle.pl_base.specs.declared.place.FileKey.{FileKey}
use Rattle.pl_journal.specs.Below.pl_facts.specs.Sizes.{counted}
use Rattle.pl_journal.specs.Below.pl_facts.specs.declared.fact.Fact.{Fact}
use Rattle.pl_journal.specs.Log.{Log, version}
use Rattle.pl_journal.specs.Settings.{file, pipeline}
use Rattle.pl_requests.specs.declared.request.Order.{Order}
use Rattle.pl_requests.specs.declared.request.Request.{Request}
use Rattle.pl_requests.specs.declared.request.Request.TheVariants as request
use Rattle.pl_requests.specs.declared.settings.PipelineSetting.{PipelineSetting}
use Rattle.pl_snapshots.specs.declared.snapshot.Snapshot.{Snapshot}

-- files' texts by their keys
abbrev pub Texts : Type 0
Texts = finite.FinMap file_cmp (List ℕ)

-- each file as it stands, and no other
abbrev pub AreFiles : List Fact → Texts → Type 0
AreFiles facts texts = (key : FileKey) → finite.get texts key ≡ file key facts

-- ---- a text that is queued: alone in its set of files, without arguments

abbrev pub text_file : FileKey
text_file = record {
  repo = codes "text";
  git_ref = codes "refs/heads/text";
  path = codes "/text.yml";
}

abbrev pub of_text : Log → List ℕ → Snapshot
of_text log text = record {
  files = finite.insert finite.empty text_file text;
  version = counted (version log);
  root = text_file;
  arguments = [];
}

-- ---- a pipeline that is queued: its file under the order's ref, among all files

abbrev pub root_of : PipelineSetting → Order → FileKey
root_of told order = record { repo = told.repo; git_ref = order.git_ref; path = told.path }

pub record IsOfOrder (log : Log) (told : PipelineSetting) (order : Order) (snapshot : Snapshot) :
    Type 0 where
  pub files : AreFiles log.facts snapshot.files
  pub version : snapshot.version ≡ counted (version log)
  pub root : snapshot.root ≡ root_of told order
  pub arguments : snapshot.arguments ≡ order.arguments

-- a pipeline that isn't there isn't compiled
abbrev pub WantsOrder : Log → Order → Option Snapshot → Type 0
WantsOrder log order None = pipeline order.pipeline log.facts ≡ None
WantsOrder log order (Some snapshot) = (told : PipelineSetting)
    × (pipeline order.pipeline log.facts ≡ Some told) × IsOfOrder log told order snapshot

abbrev pub Wants : Log → Request → Option Snapshot → Type 0
Wants log (request.QueueText text) snapshot = snapshot ≡ Some (of_text log text)
Wants log (request.Queue order) snapshot = WantsOrder log order snapshot
Wants log _ snapshot = snapshot ≡ None
