use Rattle.std.proofs.Common.{arith, ◌-◌, ◌≡◌, ◌++◌, ◌∙◌, ap, codes, drop, length, string_bytes}
use Rattle.pl_wire.specs.Json.{json_text}
use Rattle.pl_wire.proofs.Gathered.{put_right, spelled_again}
use Rattle.pl_wire.proofs.written.with_json.Goals as goal

pub returns-then-len-at : goal.returns-then-len-at
returns-then-len-at c =
    let likely = string_bytes c.in_ok-likely.likely in
    let bytes = c.in_ok-bytes.bytes.items in
    let fits = string_bytes c.in_ok-front.front in
    let text = json_text c.args.value.now in
    let at : c.len-at.result ≡ length likely =
    omega (arith, c.len-at.ensures, c.in_ok-likely.likely.bytes.ok) in
    let len : c.len.result ≡ length bytes = omega (arith, c.len.ensures, c.in_ok-bytes.bytes.ok) in
    let level : length fits ≡ c.len-at.result =
    omega (arith, c.len-2.ensures, c.if-len-at.true, c.in_ok-front.front.bytes.ok) in
    c.from_vec.ensures ∙ c.put_over.ensures
    ∙ ap (λ f. f ++ drop (length f) bytes) c.as_bytes.ensures.value
    ∙ put_right c.args.status (codes "application/json") likely text bytes fits c.len-at.result
    (c.len.result - c.len-at.result) at
    (c.in_ok-bytes.ensures ∙ ap (λ f. f.items ++ text) c.into_bytes.ensures.value)
    (omega (arith, len)) c.in_ok-front.ensures level

pub returns : goal.returns
returns c =
    let likely = string_bytes c.in_ok-likely.likely in
    let bytes = c.in_ok-bytes.bytes.items in
    let fits = string_bytes c.in_ok-front.front in
    let text = json_text c.args.value.now in
    let at : c.len-at.result ≡ length likely =
    omega (arith, c.len-at.ensures, c.in_ok-likely.likely.bytes.ok) in
    let len : c.len.result ≡ length bytes = omega (arith, c.len.ensures, c.in_ok-bytes.bytes.ok) in
    c.from_vec-2.ensures ∙ c.in_ok-spelled_behind.ensures
    ∙ ap (λ f. f.items ++ text) c.into_bytes-2.ensures.value
    ∙ spelled_again c.args.status (codes "application/json") likely text bytes fits
    c.len-at.result (c.len.result - c.len-at.result) at
    (c.in_ok-bytes.ensures ∙ ap (λ f. f.items ++ text) c.into_bytes.ensures.value)
    (omega (arith, len)) c.in_ok-front.ensures
