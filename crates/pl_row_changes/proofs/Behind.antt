-- Facts behind those that are installed.
use Rattle.std.proofs.Common.{◌≡◌, ◌≤◌, ℕ, List, [], ◌++◌, length, take, drop, refl, sym, ap, ◌∙◌}
use Rattle.std.proofs.Common.{append-nil, arith, Result, Ok, Err, OnErr}
use Rattle.std.proofs.lemmas.List.{length-take-le, take-append-drop, take_at}
use Rattle.pl_facts.specs.declared.fact.Fact.{Fact}
use Rattle.pl_journal.specs.Log.{Log}
use Rattle.pl_rows.specs.Entry.{with_added}
use Rattle.pl_row_changes.specs.Changing.{installed}

pub whole : (log : Log) (added : List Fact) → drop log.installed log.facts ≡ added →
    log ≡ with_added (installed log) added
whole log added e =
    sym (ap (λ (facts : List Fact). record log { facts = facts })
    (take-append-drop log.installed log.facts)) ∙
    ap (λ (facts : List Fact). with_added (installed log) facts) e

pub nothing_more : (log : Log) → log ≡ with_added log []
nothing_more log =
    sym (ap (λ (facts : List Fact). record log { facts = facts }) (append-nil log.facts))

-- without what was added, and isn't installed
pub back_again : (log : Log) (more : List Fact) → log.installed ≤ length log.facts →
    installed (with_added (installed log) more) ≡ installed log
back_again log more within = ap (λ (facts : List Fact). record log { facts = facts })
    (take_at (take log.installed log.facts) more log.installed
    (length-take-le log.installed log.facts within))

pub on_err : {X E : Type 0} (r : Result X E) (P : Type 0) → P → OnErr r P
on_err (Ok x) P p = tt
on_err (Err e) P p = p
