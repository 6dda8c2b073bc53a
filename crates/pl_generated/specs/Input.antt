-- The input that is generated for a rehearsal: a pool that one stage at a time uses, and texts whose
-- stages all use it.
use Rattle.std.specs.Prelude.{ℕ, zero, suc, ◌+◌, ◌%◌, ◌++◌, nat_eq, true, List, [], ◌∷◌, None}
use Rattle.std.specs.Prelude.{codes, decimal, if◌then◌else◌}
use Rattle.pl_base.specs.declared.resource.Kind.TheVariants.{Pool}
use Rattle.pl_requests.specs.declared.request.Request.{Request}
use Rattle.pl_requests.specs.declared.request.Request.TheVariants.{QueueText, SetResource}
use Rattle.pl_requests.specs.declared.settings.ResourceSetting.{ResourceSetting}

-- the runs of every other text wait for their turn, and those of the others give way to later ones
abbrev pub behaviour_line : ℕ → List ℕ
behaviour_line number =
    if nat_eq (number % 2) 0 then codes "lockBehavior: sequential\n" else []

-- how many legs the job of the first stage has: one to four
abbrev pub legs : ℕ → ℕ
legs number = 1 + number % 4

-- the text of this number, counted from 1
abbrev pub text : ℕ → List ℕ
text number = behaviour_line number
    ++ codes "stages:\n- stage: A\n  jobs:\n  - job: J\n    strategy:\n      parallel: "
    ++ decimal (legs number)
    ++ codes "\n    steps:\n    - script: echo "
    ++ decimal number
    ++ codes "\n- stage: B\n  jobs:\n  - job: K\n    steps:\n    - script: echo done\n"

-- every pipeline may use the pool `Default`, one stage at a time, without a check
abbrev pub exclusive_pool : ResourceSetting
exclusive_pool = record {
  key = record { kind = Pool; name = codes "Default" };
  pipelines = None;
  exclusive = true;
  checks = [];
}

-- the pool is set first, and then a run of each text is queued, in order
abbrev pub input : ℕ → List Request
input zero = SetResource exclusive_pool ∷ []
input (suc runs) = input runs ++ QueueText (text (suc runs)) ∷ []
