-- Replies that hold a JSON object.
use Rattle.std.specs.Prelude.{ℕ, List, [], ◌∷◌, codes}
use Rattle.pl_json.specs.declared.json.Json.{Json}
use Rattle.pl_json.specs.declared.json.Json.TheVariants as json
use Rattle.pl_json.specs.declared.members.Member.{Member}
use Rattle.pl_json.specs.Members.{member}
use Rattle.pl_requests.specs.declared.reply.Reply.{Reply}
use Rattle.pl_requests.specs.declared.reply.Body.TheVariants as body

-- a reply that is an object with these members
abbrev pub json_reply : ℕ → List (Member Json) → Reply
json_reply status members = record { status = status; body = body.Json (json.Object members) }

-- a refusal names the rule that is broken
abbrev pub refusal : ℕ → List ℕ → Reply
refusal status rule = json_reply status (member (codes "rule") (json.Text rule) ∷ [])
