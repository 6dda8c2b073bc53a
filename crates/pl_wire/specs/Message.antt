-- The messages of the service (RFC 9112, sections 2 to 6): a head and its content.
use Rattle.std.specs.Prelude.{◌≡◌, ℕ, ◌+◌, ◌≤◌, ◌<◌, ◌⊎◌, List, [], ◌∷◌, ◌++◌, length, take, Result}
use Rattle.std.specs.Prelude.{Ok, Err, true}
use Rattle.sha2.specs.Sha256.{sha256}
use Rattle.httparse.specs.Grammar.{RequestHead, print_request, ReadsRequest, EndsInTarget}
use Rattle.pl_base.specs.declared.digest.Digest.{Digest}
use Rattle.pl_heads.specs.declared.fault.HttpFault.{HttpFault}
use Rattle.pl_heads.specs.Fields.{token_of}
use Rattle.pl_heads.specs.Fronts.{fields_of, framed, IsFaulty}
use Rattle.pl_heads.specs.Heads.{HasHead, IsPartialHead, head_limit, below_limit, field_limit}
use Rattle.pl_requests.specs.declared.request.Request.{Request}
use Rattle.pl_requests.specs.WellFormed.{is_request}
use Rattle.pl_wire.specs.Asked.{asked}
use Rattle.pl_wire.specs.declared.message.RequestFault.{RequestFault}
use Rattle.pl_wire.specs.declared.message.Message.{Message}
use Rattle.pl_wire.specs.declared.message.Message.TheVariants.{Ask, Refused}
use Rattle.pl_wire.specs.declared.message.Next.{Next}
use Rattle.pl_wire.specs.declared.message.Next.TheVariants.{Partial, Whole, Bad}

abbrev pub crlf : List ℕ
crlf = 13 ∷ 10 ∷ []

abbrev pub message_by : Digest → Result Request RequestFault → Message
message_by caller (Ok request) = Ask caller request
message_by caller (Err fault) = Refused fault

-- the message of a token, a method, a target and a content
abbrev pub told : List ℕ → List ℕ → List ℕ → List ℕ → Message
told token method target content =
    message_by (record { bytes = sha256 token }) (asked method target content)

-- the message of a head and its content
abbrev pub message_of : RequestHead → List ℕ → Message
message_of head content = told (token_of (fields_of head)) head.method head.target content

-- the bytes are a head within the limits, and as many bytes of content as it says
pub record IsFramed (bytes : List ℕ) (head : RequestHead) (content : List ℕ) : Type 0 where
  pub reads : ReadsRequest bytes head content
  pub short : length (print_request head) ≤ head_limit
  pub few : length head.fields ≤ field_limit
  pub framing : framed head ≡ Ok (length content)

-- the bytes are this message
abbrev pub IsMessage : List ℕ → Message → Type 0
IsMessage bytes message =
    (head : RequestHead) × (content : List ℕ) × IsFramed bytes head content
    × (message ≡ message_of head content)

-- a head whose content isn't whole
pub record AwaitsContent (bytes : List ℕ) (head : RequestHead) (len : ℕ) : Type 0 where
  pub has : HasHead bytes head
  pub framing : framed head ≡ Ok len
  pub missing : length bytes < length (print_request head) + len

-- the beginning of a head, or a head whose content isn't whole
abbrev pub IsPartial : List ℕ → Type 0
IsPartial bytes = IsPartialHead bytes ⊎ ((head : RequestHead) × (len : ℕ) ×
    AwaitsContent bytes head len)

-- bytes that begin as these begin a message, while they are fewer than so many
abbrev pub WaitsFor : ℕ → List ℕ → Type 0
WaitsFor wanted bytes = (more : List ℕ) → length (bytes ++ more) < wanted →
    IsPartial (bytes ++ more)

-- neither: a fault after which the link ends
abbrev pub IsBad : List ℕ → HttpFault → Type 0
IsBad bytes fault = IsFaulty bytes fault

-- what stands at the front of the bytes
abbrev pub StandsFirst : List ℕ → Next → Type 0
StandsFirst bytes Partial = IsPartial bytes
StandsFirst bytes (Whole taken message) =
    (0 < taken) × (taken ≤ length bytes) × IsMessage (take taken bytes) message
StandsFirst bytes (Bad fault) = IsBad bytes fault

-- no message is a proper front of another, and a message's bytes have one reading
abbrev pub OneReading : Type 0
OneReading = (a b x y : List ℕ) (m n : Message) → IsMessage a m → IsMessage b n → a ++ x ≡ b ++ y →
    (a ≡ b) × (m ≡ n)

abbrev pub IsNotWhole : Next → Type 0
IsNotWhole (Whole taken message) = ⊥
IsNotWhole Partial = Unit {0}
IsNotWhole (Bad fault) = Unit {0}

-- Of the answers to bytes one is right, but while they end inside a target: that it isn't UTF-8 may
-- be told later, and a fault is told in its place where the limit comes first.
abbrev pub OneAnswer : Type 0
OneAnswer = (bytes : List ℕ) (first second : Next) → StandsFirst bytes first →
    StandsFirst bytes second
    → (first ≡ second) ⊎ (EndsInTarget (take below_limit bytes) × IsNotWhole first ×
    IsNotWhole second)

-- a message at the front stays when more bytes come, and so does a fault
pub record MessagesStay : Type 0 where
  pub wholes : (bytes more : List ℕ) (taken : ℕ) (message : Message)
      → StandsFirst bytes (Whole taken message) → StandsFirst (bytes ++ more) (Whole taken message)
  pub faults :
      (bytes more : List ℕ) (fault : HttpFault) → IsBad bytes fault → IsBad (bytes ++ more) fault

-- a request that is read keeps the rules and limits of its fields
abbrev pub RequestsAreWellFormed : Type 0
RequestsAreWellFormed = (bytes : List ℕ) (taken : ℕ) (caller : Digest) (request : Request)
    → StandsFirst bytes (Whole taken (Ask caller request)) → is_request request ≡ true
