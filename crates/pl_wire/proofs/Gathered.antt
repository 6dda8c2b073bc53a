-- The pieces of a reply, one behind the other.
use Rattle.std.proofs.Common.{◌≡◌, ℕ, ◌-◌, List, ◌++◌, length, drop, ap, sym, ◌∙◌, append_assoc}
use Rattle.std.proofs.Common.{length-append, arith}
use Rattle.std.proofs.Math.Seq.{drop-append_seam}
use Rattle.pl_wire.specs.Message.{crlf}
use Rattle.pl_wire.specs.Written.{front, status_line, kind_line, length_line, with_headers}

regroup : (s k l m c : List ℕ) → (((s ++ k) ++ l) ++ m) ++ c ≡ s ++ (((k ++ l) ++ m) ++ c)
regroup s k l m c = simp append_assoc

pub gathered :
    (status : ℕ) (kind content : List ℕ) →
    front status kind (length content) ++ content ≡ status_line status ++ with_headers kind content
gathered status kind content =
    regroup (status_line status) (kind_line kind) (length_line (length content)) crlf content

-- how long a content is that stands behind a front
pub counted :
    (likely content bytes : List ℕ) (at : ℕ) → at ≡ length likely → bytes ≡ likely ++ content →
    length bytes - at ≡ length content
counted likely content bytes at is all =
    omega (arith, ap length all, length-append likely content, is)

-- a front that is put over another one of its length
pub put_right :
    (status : ℕ) (kind likely content bytes fits : List ℕ) (at len : ℕ) → at ≡ length likely →
    bytes ≡ likely ++ content → len ≡ length bytes - at → fits ≡ front status kind len →
    length fits ≡ at →
    fits ++ drop (length fits) bytes ≡ status_line status ++ with_headers kind content
put_right status kind likely content bytes fits at len is all told made level =
    ap (λ n. fits ++ drop n bytes) (level ∙ is) ∙ ap (λ b. fits ++ drop (length likely) b) all
    ∙ ap (λ c. fits ++ c) (drop-append_seam likely content)
    ∙ ap (λ f. f ++ content) (made ∙ ap (front status kind)
    (told ∙ counted likely content bytes at is all))
    ∙ gathered status kind content

-- a content that is spelled behind the front for its length
pub spelled_again :
    (status : ℕ) (kind likely content bytes fits : List ℕ) (at len : ℕ) → at ≡ length likely →
    bytes ≡ likely ++ content → len ≡ length bytes - at → fits ≡ front status kind len →
    fits ++ content ≡ status_line status ++ with_headers kind content
spelled_again status kind likely content bytes fits at len is all told made =
    ap (λ f. f ++ content) (made ∙ ap (front status kind)
    (told ∙ counted likely content bytes at is all))
    ∙ gathered status kind content

-- the pieces of a front
pub pieces :
    (h0 h1 h2 h3 k l : List ℕ) (status len : ℕ) (kind : List ℕ) → h1 ≡ h0 ++ k → h2 ≡ h1 ++ l →
    h3 ≡ h2 ++ crlf → h0 ≡ status_line status → k ≡ kind_line kind → l ≡ length_line len →
    h3 ≡ front status kind len
pieces h0 h1 h2 h3 k l status len kind first second third is_status is_kind is_length =
    third
    ∙ ap (λ h. h ++ crlf) (second ∙ ap (λ h. h ++ l) (first ∙ ap (λ h. h ++ k) is_status))
    ∙ ap (λ v. ((status_line status ++ v) ++ l) ++ crlf) is_kind
    ∙ ap (λ v. ((status_line status ++ kind_line kind) ++ v) ++ crlf) is_length
