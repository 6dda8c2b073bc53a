-- What a request is answered, and what happens by it.
use Rattle.std.specs.Prelude.{ℕ, List, [], ◌∷◌, Some, None}
use Rattle.pl_answers.specs.declared.answer.Answer.{Answer}
use Rattle.pl_facts.specs.declared.fact.Event.{Event}
use Rattle.pl_json.specs.declared.json.Json.{Json}
use Rattle.pl_refusals.specs.Rows.{number, rule_object}
use Rattle.pl_requests.specs.Replies.{json_reply}
use Rattle.pl_requests.specs.declared.reply.Body.TheVariants as body
use Rattle.pl_requests.specs.declared.reply.Reply.{Reply}
use Rattle.pl_rules.specs.declared.rule.Rule.{Rule}

-- ---- replies

abbrev pub with_json : ℕ → Json → Reply
with_json status told = record { status = status; body = body.Json told }

-- it was done
abbrev pub empty_object : Reply
empty_object = json_reply 200 []

-- an object of one number
abbrev pub numbered : ℕ → List ℕ → ℕ → Reply
numbered status name value = json_reply status (number name value ∷ [])

-- there is nothing to tell
abbrev pub no_content : Reply
no_content = record { status = 204; body = body.Empty }

-- ---- answers

-- and this happens
abbrev pub with_fact : Reply → Event → Answer
with_fact reply event = record { reply = reply; event = Some event }

-- and nothing happens
abbrev pub without_fact : Reply → Answer
without_fact reply = record { reply = reply; event = None }

-- the request breaks this rule, and nothing happens
abbrev pub refused : ℕ → Rule → Answer
refused status rule = without_fact (with_json status (rule_object rule))
