-- A history with one entry more.
use Rattle.std.proofs.Common.{◌≡◌, List, [], ◌∷◌, ◌++◌, length, sym, ap, subst}
use Rattle.std.proofs.lemmas.List.{append-nil, append_assoc, flat_map_more}
use Rattle.pl_facts.specs.declared.entry.Entry.{Entry}
use Rattle.pl_facts.specs.declared.fact.Fact.{Fact}
use Rattle.pl_history.specs.History.{Opening, log_of}
use Rattle.pl_history.specs.Legal.{Follows, LegalFrom}
use Rattle.pl_step.specs.Full.{with_facts}

-- ---- its facts are installed

pub made_last : (opening : Opening) (entries : List Entry) (entry : Entry) →
    record (with_facts (log_of opening entries) entry.facts) {
      installed = length (with_facts (log_of opening entries) entry.facts).facts;
    } ≡ log_of opening (entries ++ entry ∷ [])
unfolding log_of
made_last opening entries entry =
    ap (λ (facts : List Fact). record (log_of opening entries) {
      facts = facts;
      installed = length facts;
    }) (flat_map_more (λ (one : Entry). one.facts) opening.facts entries entry)

-- ---- it is legal

pub legal_more : (opening : Opening) (before entries : List Entry) (entry : Entry) →
    LegalFrom opening before entries → Follows opening (before ++ entries) entry →
    LegalFrom opening before (entries ++ entry ∷ [])
legal_more opening before [] entry legal follows =
    (subst (λ (es : List Entry). Follows opening es entry) (append-nil before) follows, tt)
legal_more opening before (one ∷ entries) entry legal follows = (
  legal.0,
  legal_more opening (before ++ one ∷ []) entries entry legal.1
      (subst (λ (es : List Entry). Follows opening es entry)
      (sym (append_assoc before (one ∷ []) entries)) follows),
)
