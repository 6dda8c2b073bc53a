-- The reply where memory is wanting, as bytes.
use Rattle.std.proofs.Common.{◌≡◌, ◌++◌, List, [], ◌∷◌, ℕ, codes, ap, rules}
use Rattle.std.specs.Fmt.{digits}
use Rattle.json.specs.Print.{escape_byte, print, print_from}
use Rattle.json.specs.Token.{begin_object, end_object, key, string}
use Rattle.pl_json.specs.Members.{member}
use Rattle.pl_json.specs.declared.json.Json.{the_lemmas}
use Rattle.pl_json.specs.declared.json.Json.TheVariants as json
use Rattle.pl_requests.specs.Replies.{refusal}
use Rattle.pl_wire.specs.Json.{tokens_of}
use Rattle.pl_wire.specs.Written.{written, status_line, with_headers}

-- the tokens of a refusal
refusal_tokens :
    (rule : List ℕ) →
    tokens_of (json.Object (member (codes "rule") (json.Text rule) ∷ [])) ≡
    begin_object ∷ key (codes "rule") ∷ string rule ∷ end_object ∷ []
refusal_tokens rule = search (rules, the_lemmas)

pub memory_written :
    written (refusal 507 (codes "memory")) ≡
    codes "HTTP/1.1 507 Insufficient Storage\r\nContent-Type: application/json\r\n" ++
    codes "Content-Length: 17\r\n\r\n{\"rule\":\"memory\"}"
unfolding written print_from escape_byte digits
memory_written = ap (λ ts. status_line 507 ++ with_headers (codes "application/json") (print ts))
    (refusal_tokens (codes "memory"))
