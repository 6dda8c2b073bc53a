-- No entry leads past numbers of 18 digits.
use Rattle.std.proofs.Common.{◌≡◌, ◌+◌, ◌≤◌, ◌||◌, ℕ, Bool, List, [], ◌∷◌, ◌++◌, length, refl, sym}
use Rattle.std.proofs.Common.{ap}
use Rattle.std.proofs.Common.{subst, ◌∙◌, arith}
use Rattle.std.specs.Prelude.{nat_le, nat_lt}
use Rattle.std.proofs.lemmas.Bool.{ltb-false, or_parts}
use Rattle.std.proofs.lemmas.List.{append-nil, append_assoc}
use Rattle.pl_facts.specs.Sizes.{counted, size_with}
use Rattle.pl_facts.specs.declared.entry.Entry.{Entry}
use Rattle.pl_facts.specs.declared.fact.Fact.{Fact}
use Rattle.pl_history.specs.History.{Opening, changes_along, facts_of, held_of, log_of}
use Rattle.pl_history.specs.History as history
use Rattle.pl_history.specs.Legal.{Follows, Legal, LegalFrom}
use Rattle.pl_history.specs.Numbers.{AreWithin}
use Rattle.pl_journal.specs.Log.{Log, last_run, version}
use Rattle.pl_step.specs.Below.pl_row_changes.specs.Counting.{row_changes}
use Rattle.pl_step.specs.Full.{is_large, last_number, most_bytes, most_entries, next_change}
use Rattle.pl_step.specs.Full.{with_facts}
use Rattle.pl_history.proofs.Longer.{made_last}
use Rattle.pl_history.proofs.Standing.{entered}

-- ---- the number of the next change counts one entry more

along_more : (facts : List Fact) (entries : List Entry) (entry : Entry) →
    changes_along facts (entries ++ entry ∷ []) ≡
    changes_along facts entries + row_changes (facts ++ facts_of entries) entry.facts
along_more facts [] entry =
    let same : row_changes facts entry.facts ≡ row_changes (facts ++ []) entry.facts =
    ap (λ (some : List Fact). row_changes some entry.facts) (sym (append-nil facts)) in
    omega (arith, same)
along_more facts (one ∷ entries) entry =
    let same : row_changes ((facts ++ one.facts) ++ facts_of entries) entry.facts ≡
    row_changes (facts ++ (one.facts ++ facts_of entries)) entry.facts =
    ap (λ (some : List Fact). row_changes some entry.facts)
    (append_assoc facts one.facts (facts_of entries)) in
    omega (arith, same, along_more (facts ++ one.facts) entries entry)

pub one_more : (opening : Opening) (entries : List Entry) (entry : Entry) →
    history.next_change opening (entries ++ entry ∷ []) ≡ history.next_change opening entries
    + row_changes (log_of opening entries).facts entry.facts
unfolding log_of
one_more opening entries entry = omega (arith, along_more opening.facts entries entry)

-- ---- an entry for which there is room

within_more : (opening : Opening) (before : List Entry) (entry : Entry) →
    Follows opening before entry → AreWithin opening (before ++ entry ∷ [])
within_more opening before entry follows =
    let is = (entered opening before entry follows).1 in
    let held = held_of opening before in
    let log = log_of opening before in
    let after = with_facts log entry.facts in
    let room = or_parts (is_large held after entry.call.request entry.facts)
    (nat_lt last_number (next_change held log entry.facts)) is.room in
    let parts = or_parts (nat_le most_entries held.entries)
    (nat_lt most_bytes (held.size + size_with entry.call.request entry.facts)
    || (nat_lt last_number (last_run after) || nat_lt last_number (version after))) room.0 in
    let more = or_parts (nat_lt most_bytes (held.size + size_with entry.call.request entry.facts))
    (nat_lt last_number (last_run after) || nat_lt last_number (version after)) parts.1 in
    let last = or_parts (nat_lt last_number (last_run after))
    (nat_lt last_number (version after)) more.1 in
    let change : next_change held log entry.facts ≤ last_number =
    ltb-false last_number (next_change held log entry.facts) room.1 in
    record {
      run = subst (λ (l : Log). last_run l ≤ last_number) (made_last opening before entry)
          (ltb-false last_number (last_run after) last.0);
      version_is = subst (λ (l : Log). version l ≤ last_number) (made_last opening before entry)
          (ltb-false last_number (version after) last.1);
      change = omega (arith, change, one_more opening before entry);
    }

within_from : (opening : Opening) (before entries : List Entry) → AreWithin opening before →
    LegalFrom opening before entries → AreWithin opening (before ++ entries)
within_from opening before [] was legal =
    subst (λ (es : List Entry). AreWithin opening es) (sym (append-nil before)) was
within_from opening before (entry ∷ entries) was legal =
    subst (λ (es : List Entry). AreWithin opening es) (append_assoc before (entry ∷ []) entries)
    (within_from opening (before ++ entry ∷ []) entries
    (within_more opening before entry legal.0) legal.1)

pub all_within : (opening : Opening) (entries : List Entry) → AreWithin opening [] →
    Legal opening entries → AreWithin opening entries
all_within opening entries was legal = within_from opening [] entries was legal
