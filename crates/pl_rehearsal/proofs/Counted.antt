-- Stages that gave way, an entry more.
use Rattle.std.proofs.Common.{◌≡◌, ◌<◌, ◌+◌, ◌++◌, ℕ, List, [], ◌∷◌, length, take, get_or, cond, sym, ap}
use Rattle.std.proofs.Common.{◌∙◌, append-nil}
use Rattle.std.proofs.lemmas.Grind.{flat_map-append}
use Rattle.std.proofs.lemmas.List.{take_more}
use Rattle.std.proofs.lemmas.List.Sums.{sum_by-append, sum_by_more}
use Rattle.pl_alone.specs.Below.pl_history.specs.History.{facts_of}
use Rattle.pl_facts.specs.declared.entry.Entry.{Entry}
use Rattle.pl_facts.specs.declared.fact.Fact.{Fact}
use Rattle.pl_rehearsal.specs.Summary.{ends_superseded, superseded_among}

both : (xs ys : List Fact) →
    superseded_among (xs ++ ys) ≡ superseded_among xs + superseded_among ys
both xs ys =
    sum_by-append (λ (fact : Fact). cond (ends_superseded fact.event) 1 0) xs ys

pub fact_more : (facts : List Fact) (at : ℕ) (fact : Fact) → at < length facts →
    fact ≡ get_or facts at fact → superseded_among (take at facts)
    + cond (ends_superseded fact.event) 1 0 ≡ superseded_among (take (at + 1) facts)
fact_more facts at fact below is = sym (
    sum_by_more (λ (one : Fact). cond (ends_superseded one.event) 1 0) facts at fact below
    ∙ ap (λ (one : Fact). superseded_among (take at facts) + cond (ends_superseded one.event) 1 0)
    (sym is))

facts_next : (before : List Entry) (entry : Entry) →
    facts_of (before ++ entry ∷ []) ≡ facts_of before ++ entry.facts
facts_next before entry = flat_map-append (λ (one : Entry). one.facts) before (entry ∷ [])
    ∙ ap (λ facts. facts_of before ++ facts) (append-nil entry.facts)

pub counted_more : (entries : List Entry) (at : ℕ) (entry : Entry) → at < length entries →
    entry ≡ get_or entries at entry → superseded_among (facts_of (take at entries))
    + superseded_among entry.facts ≡ superseded_among (facts_of (take (at + 1) entries))
counted_more entries at entry below is = sym (
    ap (λ (some : List Entry). superseded_among (facts_of some)) (take_more entries at entry below)
    ∙ (ap (λ (one : Entry). superseded_among (facts_of (take at entries ++ one ∷ []))) (sym is)
    ∙ (ap superseded_among (facts_next (take at entries) entry)
    ∙ both (facts_of (take at entries)) entry.facts)))
