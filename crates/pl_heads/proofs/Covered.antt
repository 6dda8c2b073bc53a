-- Heads that spans cover.
use Rattle.std.proofs.Common.{◌≡◌, ℕ, ◌+◌, ◌-◌, ◌*◌, ◌<◌, ◌≤◌, List, [], ◌∷◌, ◌++◌, length, take}
use Rattle.std.proofs.Common.{drop, map, refl, sym, ap, ◌∙◌, subst, arith, Result, Ok, Err, IsUtf8}
use Rattle.std.proofs.Common.{All, inl, inr}
use Rattle.std.proofs.lemmas.List.{length-map, length-take, length-take-le}
use Rattle.httparse.specs.declared.spans.HeaderSpan.{HeaderSpan}
use Rattle.httparse.specs.declared.spans.RequestSpans.{RequestSpans}
use Rattle.httparse.specs.Grammar.{RequestHead, print_request}
use Rattle.httparse.specs.Spans.{header_bytes, span_bytes, name_and_value, IsRequestAt}
use Rattle.httparse.specs.Spans.{IsRequestWithin, IsHeaderWithin, IsWithin}
use Rattle.pl_heads.specs.declared.fault.HttpFault.{HttpFault}
use Rattle.pl_heads.specs.Fields.{Named, token_of}
use Rattle.pl_heads.specs.Framing.{content_length}
use Rattle.pl_heads.specs.Fronts.{fields_of, framed, IsFaulty}
use Rattle.pl_heads.specs.Heads.{HasHead, head_limit, field_limit}

module _ (bytes : List ℕ) (headers : List HeaderSpan) (spans : RequestSpans) where
  pub has_head :
      length headers ≡ field_limit → length bytes ≤ head_limit → IsRequestWithin bytes headers spans
      → (h : RequestHead) → IsRequestAt bytes headers spans h → HasHead bytes h
  has_head room short within h at = record {
    rest = drop spans.len bytes;
    reads = at.reads;
    short = omega (arith, at.len, within.section.len_fits);
    few = omega (
      arith,
      count,
      length-take-le spans.headers headers within.section.count_fits,
      within.section.count_fits,
    );
  }
    where
      count : length (take spans.headers headers) ≡ length h.fields
      count =
          sym (length-map (take spans.headers headers) (header_bytes bytes))
          ∙ ap length at.fields ∙ length-map h.fields name_and_value

  pub fields_within :
      IsRequestWithin bytes headers spans → (fields : List HeaderSpan) →
      fields ≡ take spans.headers headers
      → All (IsHeaderWithin (length bytes)) fields
  fields_within within fields are = subst (All (IsHeaderWithin (length bytes))) (sym are) each
    where
      each : All (IsHeaderWithin (length bytes)) (take spans.headers headers)
      each k d less =
          let fits = within.section.headers_fit k d less in
          let len = within.section.len_fits in
          ((fits.0.0, omega arith), (fits.1.0, omega arith))

  pub framing_is :
      (h : RequestHead) → IsRequestAt bytes headers spans h →
      (method : List ℕ) (fields : List HeaderSpan) (r : Result ℕ HttpFault)
      → method ≡ span_bytes bytes spans.method → fields ≡ take spans.headers headers
      → r ≡ content_length method (map (header_bytes bytes) fields) → framed h ≡ r
  framing_is h at method fields r method_is are said =
      sym (said ∙ ap (λ (m : List ℕ). content_length m (map (header_bytes bytes) fields))
      (method_is ∙ at.method)
      ∙ ap (content_length h.method) (ap (map (header_bytes bytes)) are ∙ at.fields))

  pub token_is :
      (h : RequestHead) → IsRequestAt bytes headers spans h →
      (fields : List HeaderSpan) (token : List ℕ)
      → fields ≡ take spans.headers headers → token ≡ token_of (map (header_bytes bytes) fields) →
      token ≡ token_of (fields_of h)
  token_is h at fields token are said = said ∙ ap token_of (ap (map (header_bytes bytes)) are ∙
      at.fields)
