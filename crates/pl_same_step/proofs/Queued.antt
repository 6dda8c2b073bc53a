-- The runs that were queued are the same where the same is found.
use Rattle.std.proofs.Common.{◌≡◌, ◌&&◌, ◌⊎◌, ℕ, Bool, true, false, true≢false, List, [], ◌∷◌, Option}
use Rattle.std.proofs.Common.{Some, None, is_some, filter_map, if◌then◌else◌, inl, inr, refl, sym, ap}
use Rattle.std.proofs.Common.{subst, ◌∙◌}
use Rattle.std.specs.Cmp.{nat_cmp_total}
use Rattle.std.specs.List.{cons_option}
use Rattle.std.specs.Option.{option_or}
use Rattle.std.specs.Ordering.{nat_cmp}
use Rattle.pl_step_laws.specs.Below.pl_step.specs.Below.pl_decisions.specs.Below.pl_due.proofs.Standing.{first_of_two, second_of_two}
use Rattle.pl_facts.specs.declared.fact.Event.{Event}
use Rattle.pl_facts.specs.declared.fact.Event.TheVariants as event
use Rattle.pl_facts.specs.declared.fact.Fact.{Fact}
use Rattle.pl_journal.specs.About.{is_about, key_of}
use Rattle.pl_journal.specs.Kinds.{is_queueing}
use Rattle.pl_journal.specs.Runs.{number_told, queueing}
use Rattle.pl_log.proofs.Naming.{key_itself}
use Rattle.pl_log.specs.Keys.{same_key, Run}
use Rattle.pl_step_laws.specs.Below.pl_step.specs.Below.pl_decisions.specs.Below.pl_due.specs.Below.pl_open_runs.specs.Open.{in_order, queued_runs}
use Rattle.pl_step_laws.specs.Below.pl_step.specs.Below.pl_decisions.specs.Below.pl_due.specs.Below.pl_open_runs.proofs.Numbers.{among_all, among_put, in_order_all}
use Rattle.pl_step_laws.specs.Below.pl_step.specs.Below.pl_decisions.specs.Below.pl_due.specs.Below.pl_open_runs.proofs.OpenRuns.{number_of}
use Rattle.pl_plan.proofs.Members.{one_list, Among}
use Rattle.pl_same_lookups.specs.Alike.{LookAlike}
use Rattle.pl_same_lookups.proofs.Finding.{never, same_some}

abbrev numbers : List Fact → List ℕ
numbers facts = filter_map (λ fact. number_told fact.event) facts

-- a number among those in order is one of them
among_in : (ns : List ℕ) (run : ℕ) → Among (in_order ns) run → Among ns run
among_in [] run h = h
among_in (n ∷ ns) run h = go (among_put (in_order ns) n run h) (among_in ns run) where
  go : (n ≡ run) ⊎ Among (in_order ns) run → (Among (in_order ns) run → Among ns run) →
      Among (n ∷ ns) run
  go (inl e) rest = inl e
  go (inr h) rest = inr (rest h)

-- ---- what was queued is told

behind_option : (o : Option ℕ) (ns : List ℕ) (run : ℕ) → Among ns run → Among (cons_option o ns) run
behind_option None ns run h = h
behind_option (Some n) ns run h = inr h

queued_in : (facts : List Fact) (run : ℕ) → is_some (queueing run facts) ≡ true →
    Among (numbers facts) run
queued_in [] run h = absurd (true≢false (sym h))
queued_in (fact ∷ later) run h =
    go (queueing run later) (is_about (Run run) fact && is_queueing fact.event) (queued_in later run)
    (λ is. number_of fact.event run
    (first_of_two (is_about (Run run) fact) (is_queueing fact.event) is)
    (second_of_two (is_about (Run run) fact) (is_queueing fact.event) is)) h
  where
    go : (o : Option Fact) (b : Bool) → (is_some o ≡ true → Among (numbers later) run) →
        (b ≡ true → number_told fact.event ≡ Some run) →
        is_some (option_or o (if b then Some fact else None)) ≡ true →
        Among (numbers (fact ∷ later)) run
    go (Some one) b before here h =
        behind_option (number_told fact.event) (numbers later) run (before refl)
    go None true before here h =
        subst (λ o. Among (cons_option o (numbers later)) run) (sym (here refl)) (inl refl)
    go None false before here h = absurd (true≢false (sym h))

-- ---- and what is told was queued

pub queues : (one : Event) (run : ℕ) → number_told one ≡ Some run →
    (same_key (key_of one) (Run run) && is_queueing one) ≡ true
queues (event.RunQueued told) run e =
    subst (λ r. (same_key (Run told.run) (Run r) && true) ≡ true) (same_some told.run run e)
    (ap (λ (b : Bool). b && true) (key_itself (Run told.run)))
queues _ run e = absurd (never run e)

or_left : (o p : Option Fact) → is_some o ≡ true → is_some (option_or o p) ≡ true
or_left None p h = absurd (true≢false (sym h))
or_left (Some one) p h = refl

or_here : (o : Option Fact) (fact : Fact) (b : Bool) → b ≡ true →
    is_some (option_or o (if b then Some fact else None)) ≡ true
or_here None fact b t = ap (λ (c : Bool). is_some (if c then Some fact else None)) t
or_here (Some one) fact b t = refl

in_queued : (facts : List Fact) (run : ℕ) → Among (numbers facts) run →
    is_some (queueing run facts) ≡ true
in_queued [] run h = absurd h
in_queued (fact ∷ later) run h = go (number_told fact.event) refl h (in_queued later run) where
  go : (n : Option ℕ) → number_told fact.event ≡ n →
      Among (cons_option n (numbers later)) run →
      (Among (numbers later) run → is_some (queueing run later) ≡ true) →
      is_some (queueing run (fact ∷ later)) ≡ true
  go None e h rest = or_left (queueing run later)
      (if is_about (Run run) fact && is_queueing fact.event then Some fact else None) (rest h)
  go (Some n) e (inr h) rest = or_left (queueing run later)
      (if is_about (Run run) fact && is_queueing fact.event then Some fact else None) (rest h)
  go (Some n) e (inl same) rest = or_here (queueing run later) fact
      (is_about (Run run) fact && is_queueing fact.event)
      (queues fact.event run (e ∙ ap Some same))

-- ---- so they are the same

still_among : (facts other : List Fact) → LookAlike facts other → (run : ℕ) →
    Among (queued_runs facts) run → Among (queued_runs other) run
still_among facts other alike run h = among_all (numbers other) run (queued_in other run
    (sym (ap is_some (alike.queueings run))
    ∙ in_queued facts run (among_in (numbers facts) run h)))

among_before : (facts other : List Fact) → LookAlike facts other → (run : ℕ) →
    Among (queued_runs other) run → Among (queued_runs facts) run
among_before facts other alike run h = among_all (numbers facts) run (queued_in facts run
    (ap is_some (alike.queueings run) ∙ in_queued other run (among_in (numbers other) run h)))

pub queued_runs_same : (facts other : List Fact) → LookAlike facts other →
    queued_runs facts ≡ queued_runs other
queued_runs_same facts other alike = one_list nat_cmp nat_cmp_total (queued_runs facts)
    (queued_runs other) (in_order_all (numbers facts)) (in_order_all (numbers other))
    (still_among facts other alike) (among_before facts other alike)
