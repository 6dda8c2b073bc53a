-- Replies as bytes (RFC 9112, section 4; RFC 8259 without blanks).
use Rattle.std.specs.Prelude.{ℕ, List, [], ◌++◌, length, codes, if◌then◌else◌, ◌==◌}
use Rattle.std.specs.Fmt.{decimal}
use Rattle.pl_requests.specs.declared.reply.Reply.{Reply}
use Rattle.pl_requests.specs.declared.reply.Body.{Body}
use Rattle.pl_requests.specs.declared.reply.Body.TheVariants.{Empty, Raw}
use Rattle.pl_requests.specs.declared.reply.Body.TheVariants as body
use Rattle.pl_wire.specs.Json.{json_text}
use Rattle.pl_wire.specs.Message.{crlf}

-- the reason phrase of a status (RFC 9110, section 15)
abbrev pub phrase : ℕ → List ℕ
phrase status =
    if status == 200 then codes "OK"
    else if status == 201 then codes "Created"
    else if status == 204 then codes "No Content"
    else if status == 400 then codes "Bad Request"
    else if status == 401 then codes "Unauthorized"
    else if status == 403 then codes "Forbidden"
    else if status == 404 then codes "Not Found"
    else if status == 405 then codes "Method Not Allowed"
    else if status == 409 then codes "Conflict"
    else if status == 411 then codes "Length Required"
    else if status == 413 then codes "Payload Too Large"
    else if status == 422 then codes "Unprocessable Entity"
    else if status == 431 then codes "Request Header Fields Too Large"
    else if status == 503 then codes "Service Unavailable"
    else if status == 507 then codes "Insufficient Storage"
    else []

abbrev pub status_line : ℕ → List ℕ
status_line status = codes "HTTP/1.1 " ++ decimal status ++ codes " " ++ phrase status ++ crlf

abbrev pub kind_line : List ℕ → List ℕ
kind_line kind = codes "Content-Type: " ++ kind ++ crlf

abbrev pub length_line : ℕ → List ℕ
length_line len = codes "Content-Length: " ++ decimal len ++ crlf

-- all that stands before a content of so many bytes
abbrev pub front : ℕ → List ℕ → ℕ → List ℕ
front status kind len = status_line status ++ kind_line kind ++ length_line len ++ crlf

-- the two headers, an empty line and the content
abbrev pub with_headers : List ℕ → List ℕ → List ℕ
with_headers kind content = kind_line kind ++ length_line (length content) ++ crlf ++ content

-- what stands behind the status line
abbrev pub written_body : Body → List ℕ
written_body Empty = crlf
written_body (body.Json value) = with_headers (codes "application/json")
    (json_text value)
written_body (Raw told) = with_headers (codes "text/plain") told.text

-- a reply as it is sent
unfoldable pub written : Reply → List ℕ
written reply = status_line reply.status ++ written_body reply.body
