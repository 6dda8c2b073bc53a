-- The job that a reply gives to an agent.
use Rattle.std.specs.Prelude.{ℕ, List, Option, Some, None, codes, find, nat_eq}
use Rattle.std.specs.Cmp.Lexicographic.{pointwise}
use Rattle.std.specs.Option.{option_and_then, option_map}
use Rattle.pl_json.specs.declared.json.Json.{Json, out-Json}
use Rattle.pl_json.specs.declared.json.Json.TheOpen.{Json-F}
use Rattle.pl_json.specs.declared.members.Member.{Member}
use Rattle.pl_requests.specs.declared.reply.Body.{Body}
use Rattle.pl_requests.specs.declared.reply.Body.TheVariants as body
use Rattle.pl_requests.specs.declared.request.JobName.{JobName}

-- a value as its kind tells it
abbrev pub Opened : Type 0
Opened = Json-F Json

-- what an object has under a name
abbrev pub value_in : List ℕ → List (Member Json) → Option Json
value_in name members =
    option_map (λ one. one.value) (find (λ one. pointwise nat_eq one.name name) members)

abbrev pub number_of : Opened → Option ℕ
number_of (Json-F.Number number) = Some number
number_of other = None

abbrev pub text_of : Opened → Option (List ℕ)
text_of (Json-F.Text text) = Some text
text_of other = None

abbrev pub number_told : Option Json → Option ℕ
number_told value = option_and_then (λ value. number_of (out-Json value)) value

abbrev pub text_told : Option Json → Option (List ℕ)
text_told value = option_and_then (λ value. text_of (out-Json value)) value

abbrev pub name_of : Option ℕ → Option (List ℕ) → Option (List ℕ) → Option JobName
name_of (Some run) (Some stage) (Some job) =
    Some (record { run = run; stage = stage; job = job })
name_of run stage job = None

abbrev pub job_among : List (Member Json) → Option JobName
job_among members = name_of (number_told (value_in (codes "run") members))
    (text_told (value_in (codes "stage") members)) (text_told (value_in (codes "job") members))

-- an object that names a run by its number, a stage by its name and a job by its label
abbrev pub job_of : Opened → Option JobName
job_of (Json-F.Object members) = job_among members
job_of other = None

abbrev pub job_in : Body → Option JobName
job_in (body.Json value) = job_of (out-Json value)
job_in other = None
