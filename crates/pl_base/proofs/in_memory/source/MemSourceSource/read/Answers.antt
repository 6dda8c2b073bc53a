use Rattle.std.proofs.Common.{◌≡◌, ◌+◌, ◌++◌, ℕ, List, take, drop, Some, ap, sym, ◌∙◌}
use Rattle.std.proofs.lemmas.List.{take-append-drop, drop-drop}
use Rattle.pl_base.proofs.in_memory.source.MemSourceSource.read.Goals as goal

-- what is left from a place on is a piece of it and what is left behind that
read_on :
    (at count : ℕ) (bytes piece : List ℕ) → piece ≡ take count (drop at bytes) →
    drop at bytes ≡ piece ++ drop (at + count) bytes
read_on at count bytes piece is = sym (take-append-drop count (drop at bytes)) ∙
    (ap (λ front. front ++ drop count (drop at bytes)) (sym is) ∙
    ap (λ rest. piece ++ rest) (drop-drop count at bytes))

pub returns-clause-bytes : goal.returns-clause-bytes
returns-clause-bytes c =
    let source = c.args.self.now in
    let count = c.copy_front-count.result in
    let rest = c.split_at.ensures.back ∙ ap (λ bytes. drop source.at bytes) c.as_slice-2.ensures in
    ap Some (read_on source.at count source.bytes _ (c.copy_front-count.ensures.copied ∙
    ap (λ bytes. take count bytes) rest))
