-- The head of a request at the front of a link's bytes (RFC 9112, sections 2 to 5), with this
-- project's limits. What a head is, is the grammar of `httparse`.
use Rattle.std.specs.Prelude.{ℕ, ◌≤◌, ◌⊎◌, List, length, take}
use Rattle.httparse.specs.Grammar.{RequestHead, print_request, ReadsRequest, HasNoRequest}
use Rattle.httparse.specs.Grammar.{NeverHasRequest, MayBecomeRequest}
use Rattle.httparse.specs.Spans.{RequestExceeds}

-- the most bytes of a head, its last empty line among them
abbrev pub head_limit : ℕ
head_limit = 16384

-- one byte fewer
abbrev pub below_limit : ℕ
below_limit = 16383

-- the most headers
abbrev pub field_limit : ℕ
field_limit = 64

-- a head within the limits stands at the front
pub record HasHead (bytes : List ℕ) (head : RequestHead) : Type 0 where
  pub rest : List ℕ
  pub reads : ReadsRequest bytes head rest
  pub short : length (print_request head) ≤ head_limit
  pub few : length head.fields ≤ field_limit

-- no head is whole, no 65th header line is, and more bytes can make a head
pub record IsOpen (bytes : List ℕ) : Type 0 where
  pub none : HasNoRequest bytes
  pub unfinished : MayBecomeRequest bytes
  pub few : ¬ (RequestExceeds field_limit bytes)

-- the same of fewer bytes than the limit
pub record IsPartialHead (bytes : List ℕ) : Type 0 where
  pub open_is : IsOpen bytes
  pub short : length bytes ≤ below_limit

-- a 65th header line is whole, or 16,384 bytes hold no head where one byte fewer could begin one
abbrev pub IsLargeHead : List ℕ → Type 0
IsLargeHead bytes =
    RequestExceeds field_limit (take head_limit bytes)
    ⊎ ((head_limit ≤ length bytes) × HasNoRequest (take head_limit bytes)
    × MayBecomeRequest (take below_limit bytes))

-- fewer than 16,384 bytes show that no continuation is a head, before a 65th header line
pub record IsBadHead (bytes : List ℕ) : Type 0 where
  pub never : NeverHasRequest (take below_limit bytes)
  pub few : ¬ (RequestExceeds field_limit (take below_limit bytes))
