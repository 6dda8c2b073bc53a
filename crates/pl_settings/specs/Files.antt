-- Files that are put, removed and got.
use Rattle.std.specs.Prelude.{ℕ, ◌+◌, List, codes, is_some, if◌then◌else◌}
use Rattle.std.specs.Option.{option_map_or}
use Rattle.pl_answers.specs.Answers.{numbered, refused, with_fact, without_fact}
use Rattle.pl_answers.specs.declared.answer.Answer.{Answer}
use Rattle.pl_base.specs.declared.place.FileKey.{FileKey}
use Rattle.pl_facts.specs.Sizes.{counted}
use Rattle.pl_facts.specs.declared.fact.Event.TheVariants as event
use Rattle.pl_facts.specs.declared.fact.Fact.{Fact}
use Rattle.pl_journal.specs.Log.{Log, version}
use Rattle.pl_journal.specs.Settings.{file, file_put}
use Rattle.pl_requests.specs.declared.reply.Body.TheVariants as body
use Rattle.pl_requests.specs.declared.reply.Reply.{Reply}
use Rattle.pl_requests.specs.declared.settings.FileText.{FileText}
use Rattle.pl_rules.specs.declared.rule.Rule.TheVariants as rules

-- the version of the files after one more change, as far as the code counts
abbrev pub next_version : Log → ℕ
next_version log = counted (version log + 1)

abbrev pub versioned : Log → Reply
versioned log = numbered 200 (codes "version") (next_version log)

-- a put without a change counts too
abbrev pub put_file : Log → FileText → Answer
put_file log told = with_fact (versioned log) (event.FilePut told)

abbrev pub remove_file : Log → FileKey → Answer
remove_file log key = if is_some (file key log.facts)
    then with_fact (versioned log) (event.FileRemoved key) else refused 404 rules.FileUnknown

-- its bytes as they were put last
abbrev pub get_file : List Fact → FileKey → Answer
get_file facts key = option_map_or
    (λ told. without_fact (record { status = 200; body = body.Raw told }))
    (file_put key facts) (refused 404 rules.FileUnknown)
