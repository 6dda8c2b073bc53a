-- What items are about, and when two of these are one.
use Rattle.std.specs.Prelude.{ℕ, Bool, true, false, List, Option, Some, None}
use Rattle.std.specs.Ordering.{nat_cmp, ordering_then, is_eq}
use Rattle.std.specs.declared.cmp.Ordering.{Ordering}
use Rattle.pl_base.specs.Files.{file_cmp, text_cmp}
use Rattle.pl_base.specs.declared.place.FileKey.{FileKey}
use Rattle.pl_base.specs.declared.resource.ResourceKey.{ResourceKey}
use Rattle.pl_base.specs.contracts.resource.ResourceKeyOrd.TheImpl as resource
use Rattle.pl_log.specs.declared.key.Key.{Key}
use Rattle.pl_log.specs.declared.key.Key.TheVariants as key
use Rattle.pl_log.specs.declared.key.SecondKey.{SecondKey}
use Rattle.pl_log.specs.declared.key.SecondKey.TheVariants as second

-- a key without where it lies in memory
pub data Named : Type 0 where
  File : FileKey → Named
  Pipeline : List ℕ → Named
  Resource : ResourceKey → Named
  Principal : List ℕ → Named
  Agent : List ℕ → Named
  Run : ℕ → Named
  Stage : ℕ → ℕ → Named
  Job : ℕ → ℕ → ℕ → Named

pub data SecondNamed : Type 0 where
  Token : List ℕ → SecondNamed
  Taker : List ℕ → SecondNamed
  Queue : SecondNamed

abbrev pub seen : Key → Named
seen (key.File file) = File file.now
seen (key.Pipeline name) = Pipeline name.now
seen (key.Resource told) = Resource told.now
seen (key.Principal name) = Principal name.now
seen (key.Agent name) = Agent name.now
seen (key.Run run) = Run run
seen (key.Stage run stage) = Stage run stage
seen (key.Job run stage job) = Job run stage job

abbrev pub second_seen : SecondKey → SecondNamed
second_seen (second.Token digest) = Token digest.now.bytes
second_seen (second.Taker name) = Taker name.now
second_seen second.Queue = Queue

-- by kind, then by name
abbrev pub resource_cmp : ResourceKey → ResourceKey → Ordering
resource_cmp = (resource.ghosts).cmp

-- by run, then by place
abbrev pub stage_cmp : ℕ × ℕ → ℕ × ℕ → Ordering
stage_cmp a b = ordering_then (nat_cmp a.0 b.0) (nat_cmp a.1 b.1)

abbrev pub job_cmp : ℕ × ℕ × ℕ → ℕ × ℕ × ℕ → Ordering
job_cmp a b =
    ordering_then (ordering_then (nat_cmp a.0 b.0) (nat_cmp a.1 b.1)) (nat_cmp a.2 b.2)

-- whether two keys are one: neither comes before the other
abbrev pub same_key : Named → Named → Bool
same_key (File a) (File b) = is_eq (file_cmp a b)
same_key (Pipeline a) (Pipeline b) = is_eq (text_cmp a b)
same_key (Resource a) (Resource b) = is_eq (resource_cmp a b)
same_key (Principal a) (Principal b) = is_eq (text_cmp a b)
same_key (Agent a) (Agent b) = is_eq (text_cmp a b)
same_key (Run a) (Run b) = is_eq (nat_cmp a b)
same_key (Stage run stage) (Stage r s) = is_eq (stage_cmp (run, stage) (r, s))
same_key (Job run stage job) (Job r s j) = is_eq (job_cmp (run, stage, job) (r, s, j))
same_key _ _ = false

abbrev pub same_second : SecondNamed → SecondNamed → Bool
same_second (Token a) (Token b) = is_eq (text_cmp a b)
same_second (Taker a) (Taker b) = is_eq (text_cmp a b)
same_second Queue Queue = true
same_second _ _ = false

-- whether something is about a key, by what it is about
abbrev pub names : Option SecondNamed → SecondNamed → Bool
names None key = false
names (Some one) key = same_second one key
