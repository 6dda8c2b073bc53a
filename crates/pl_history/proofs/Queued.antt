-- The runs that were queued are among those that are kept in order.
use Rattle.std.proofs.Common.{◌≡◌, ◌&&◌, ℕ, Bool, true, false, List, [], ◌∷◌, Option, Some, None}
use Rattle.std.proofs.Common.{filter_map, if◌then◌else◌, refl, sym, subst, inl, inr}
use Rattle.std.specs.List.{Contains, cons_option}
use Rattle.std.specs.Option.{option_or}
use Rattle.pl_granting_laws.specs.Below.pl_settling.specs.Below.pl_due.proofs.Members.{here, there}
use Rattle.pl_granting_laws.specs.Below.pl_settling.specs.Below.pl_due.proofs.Standing.{first_of_two, second_of_two}
use Rattle.pl_facts.specs.declared.fact.Fact.{Fact}
use Rattle.pl_journal.specs.About.{is_about}
use Rattle.pl_journal.specs.Kinds.{is_queueing}
use Rattle.pl_journal.specs.Runs.{number_told, queueing}
use Rattle.pl_log.specs.Keys.{Run}
use Rattle.pl_open_runs.proofs.Numbers.{among_all}
use Rattle.pl_open_runs.proofs.OpenRuns.{number_of}
use Rattle.pl_open_runs.specs.Open.{queued_runs}
use Rattle.pl_plan.proofs.Members.{Among}

abbrev numbers : List Fact → List ℕ
numbers facts = filter_map (λ fact. number_told fact.event) facts

behind_option : (o : Option ℕ) (ns : List ℕ) (run : ℕ) → Among ns run → Among (cons_option o ns) run
behind_option None ns run h = h
behind_option (Some n) ns run h = inr h

queued_by : (fact : Fact) (later : List Fact) (run : ℕ) (o : Option Fact) (b : Bool) →
    (¬ (o ≡ None) → Among (numbers later) run) →
    (b ≡ true → number_told fact.event ≡ Some run) →
    ¬ (option_or o (if b then Some fact else None) ≡ None) → Among (numbers (fact ∷ later)) run
queued_by fact later run (Some one) b before told some =
    behind_option (number_told fact.event) (numbers later) run (before some)
queued_by fact later run None true before told some =
    subst (λ o. Among (cons_option o (numbers later)) run) (sym (told refl)) (inl refl)
queued_by fact later run None false before told some = absurd (some refl)

queued_among : (facts : List Fact) (run : ℕ) → ¬ (queueing run facts ≡ None) →
    Among (numbers facts) run
queued_among [] run some = absurd (some refl)
queued_among (fact ∷ later) run some =
    queued_by fact later run (queueing run later)
    (is_about (Run run) fact && is_queueing fact.event) (queued_among later run)
    (λ is. number_of fact.event run
    (first_of_two (is_about (Run run) fact) (is_queueing fact.event) is)
    (second_of_two (is_about (Run run) fact) (is_queueing fact.event) is)) some

contained : (ns : List ℕ) (run : ℕ) → Among ns run → Contains ns run
contained [] run h = absurd h
contained (n ∷ ns) run (inl same) = subst (Contains (n ∷ ns)) same (here n ns)
contained (n ∷ ns) run (inr later) = there run n ns (contained ns run later)

pub queued_contains : (facts : List Fact) (run : ℕ) → ¬ (queueing run facts ≡ None) →
    Contains (queued_runs facts) run
queued_contains facts run some =
    contained (queued_runs facts) run (among_all (numbers facts) run (queued_among facts run some))
