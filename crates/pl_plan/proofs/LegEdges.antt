-- A leg waits for legs as its job waits for jobs.
use Rattle.std.proofs.Common.{◌≡◌, ℕ, zero, suc, ◌+◌, ◌<◌, ◌≤◌, ◌⊎◌, inl, inr, Bool, true, false}
use Rattle.std.proofs.Common.{cond}
use Rattle.std.proofs.Common.{Some, None, Option, List, [], ◌∷◌, ◌++◌, length, map, refl, sym, ap}
use Rattle.std.proofs.Common.{subst, ◌∙◌, ltb, arith, append_assoc}
use Rattle.std.specs.Prelude.{unwrap_or, flat_map, replicate}
use Rattle.std.specs.List.{Contains, AllByRecursion}
use Rattle.std.specs.Option.{option_or}
use Rattle.std.proofs.lemmas.Bool.{cond_below, cond_above}
use Rattle.std.proofs.lemmas.List.{length-replicate}
use Rattle.std.proofs.lemmas.List.Elements.{Contains-append_left, Contains-append_right}
use Rattle.std.proofs.lemmas.List.Elements.{Contains-append_cases, Contains-push_cases}
use Rattle.pl_literal.specs.Booleans.{spells}
use Rattle.pl_graph.specs.Waits.{edges_by, edges_of_one}
use Rattle.pl_schema_parts.specs.declared.pipeline.DependSpec.{DependSpec}
use Rattle.pl_schema_parts.specs.declared.pipeline.JobSpec.{JobSpec}
use Rattle.pl_depends.specs.Graph.{places_named, job_waits, waiting_job, waits_of}
use Rattle.pl_depends.specs.Places.{Finding, places_under, places_from, leg_count, job_entries}
use Rattle.pl_depends.specs.Places.{leg_entries}
use Rattle.pl_depends.proofs.Within.{both}

-- ---- what a list contains

head : {X : Type 0} (x : X) (xs : List X) → Contains (x ∷ xs) x
head x xs = (0, omega arith, refl)

tail : {X : Type 0} (x y : X) (xs : List X) → Contains xs y → Contains (x ∷ xs) y
tail x y xs (k, below, is) = (suc k, omega arith, is)

none_in : {X : Type 0} {P : Type 0} (x : X) → Contains [] x → P
none_in x (k, below, is) = absurd (omega arith)

in_both : (xs ys us vs : List ℕ) (x u : ℕ) → (Contains xs x → Contains us u) →
    (Contains ys x → Contains vs u) → Contains xs x ⊎ Contains ys x → Contains (us ++ vs) u
in_both xs ys us vs x u left right (inl inside) = Contains-append_left us vs u (left inside)
in_both xs ys us vs x u left right (inr inside) = Contains-append_right us vs u (right inside)

-- ---- which job a leg is of

abbrev pub owner : ℕ → ℕ → List JobSpec → ℕ → ℕ
owner at first [] place = at
owner at first (job ∷ jobs) place = cond (ltb place (first + leg_count job.legs)) at
    (owner (at + 1) (first + leg_count job.legs) jobs place)

in_more : (first count place : ℕ) →
    (Contains (places_from first count) place → (first ≤ place) × (place < first + count)) →
    Contains (places_from first count) place ⊎ (first + count ≡ place) →
    (first ≤ place) × (place < first + suc count)
in_more first count place before (inl inside) =
    let low : first ≤ place = (before inside).0 in
    let high : place < first + count = (before inside).1 in
    (low, omega arith)
in_more first count place before (inr is) = (omega arith, omega arith)

in_places : (first count place : ℕ) → Contains (places_from first count) place →
    (first ≤ place) × (place < first + count)
in_places first zero place inside = none_in place inside
in_places first (suc count) place inside = in_more first count place (in_places first count place)
    (Contains-push_cases (places_from first count) (first + count) place inside)

-- the legs under a name are those of the job under that name
abbrev Told : Option (List ℕ) → Option (List ℕ) → (ℕ → ℕ) → ℕ → Type 0
Told legs jobs job_of first = (place : ℕ) → Contains (unwrap_or legs []) place →
    Contains (unwrap_or jobs []) (job_of place) × (first ≤ place)

this_job : (at first count : ℕ) (later : ℕ → ℕ) (place : ℕ) →
    (first ≤ place) × (place < first + count) →
    Contains (at ∷ []) (cond (ltb place (first + count)) at (later place)) × (first ≤ place)
this_job at first count later place within =
    let low : first ≤ place = within.0 in
    let high : place < first + count = within.1 in
    ((0, omega arith, cond_below place (first + count) at (later place) high), low)

later_job : (at first count : ℕ) (later : ℕ → ℕ) (jobs : Option (List ℕ)) (place : ℕ) →
    Contains (unwrap_or jobs []) (later place) × (first + count ≤ place) →
    Contains (unwrap_or jobs []) (cond (ltb place (first + count)) at (later place))
    × (first ≤ place)
later_job at first count later jobs place told =
    let past : first + count ≤ place = told.1 in
    let P : ℕ → Type 0 = λ job. Contains (unwrap_or jobs []) job in (
      subst P (cond_above place (first + count) at (later place) (later place) past refl) told.0,
      omega arith,
    )

by_name : (same : Bool) (at first count : ℕ) (later : ℕ → ℕ) (legs jobs : Option (List ℕ)) →
    Told legs jobs later (first + count) →
    Told (option_or (cond same (Some (places_from first count)) None) legs)
    (option_or (cond same (Some (at ∷ [])) None) jobs)
    (λ place. cond (ltb place (first + count)) at (later place)) first
by_name true at first count later legs jobs told place inside =
    this_job at first count later place (in_places first count place inside)
by_name false at first count later legs jobs told place inside =
    later_job at first count later jobs place (told place inside)

pub under_both : (jobs : List JobSpec) (at first : ℕ) (name : List ℕ) →
    Told (places_under (leg_entries first jobs) name) (places_under (job_entries at jobs) name)
    (owner at first jobs) first
under_both [] at first name = λ place inside. none_in place inside
under_both (job ∷ jobs) at first name =
    let count = leg_count job.legs in
    by_name (spells name job.name) at first count (owner (at + 1) (first + count) jobs)
    (places_under (leg_entries (first + count) jobs) name)
    (places_under (job_entries (at + 1) jobs) name)
    (under_both jobs (at + 1) (first + count) name)

-- ---- what is waited for

abbrev pub Follows : Finding → Finding → (ℕ → ℕ) → Type 0
Follows legs jobs job_of = (name : List ℕ) (place : ℕ) →
    Contains (unwrap_or (legs name) []) place → Contains (unwrap_or (jobs name) []) (job_of place)

named_both : (legs jobs : Finding) (job_of : ℕ → ℕ) → Follows legs jobs job_of →
    (depends : List DependSpec) (place : ℕ) → Contains (places_named legs depends) place →
    Contains (places_named jobs depends) (job_of place)
named_both legs jobs job_of follows [] place inside = none_in place inside
named_both legs jobs job_of follows (depend ∷ depends) place inside =
    in_both (unwrap_or (legs depend.name) []) (places_named legs depends)
    (unwrap_or (jobs depend.name) []) (places_named jobs depends) place (job_of place)
    (follows depend.name place) (named_both legs jobs job_of follows depends place)
    (Contains-append_cases (unwrap_or (legs depend.name) []) (places_named legs depends) place
    inside)

waits_both : (legs jobs : Finding) (job_of : ℕ → ℕ) → Follows legs jobs job_of →
    (depends : Option (List DependSpec)) (place : ℕ) → Contains (job_waits legs depends) place →
    Contains (job_waits jobs depends) (job_of place)
waits_both legs jobs job_of follows None place inside = none_in place inside
waits_both legs jobs job_of follows (Some depends) place inside =
    named_both legs jobs job_of follows depends place inside

-- ---- edges

abbrev pub leg_waits : Finding → List JobSpec → List (List ℕ)
leg_waits find jobs =
    flat_map (λ job. replicate (leg_count job.legs) (job_waits find job.depends)) jobs

edges_by_append : (at : ℕ) (xs ys : List (List ℕ)) →
    edges_by at (xs ++ ys) ≡ edges_by at xs ++ edges_by (at + length xs) ys
edges_by_append at [] ys =
    let e : at ≡ at + 0 = omega arith in ap (λ n. edges_by n ys) e
edges_by_append at (x ∷ xs) ys =
    let e : at + 1 + length xs ≡ at + suc (length xs) = omega arith in
    ap (λ rest. edges_of_one at x ++ rest) (edges_by_append (at + 1) xs ys
    ∙ ap (λ n. edges_by (at + 1) xs ++ edges_by n ys) e)
    ∙ sym (append_assoc (edges_of_one at x) (edges_by (at + 1) xs)
    (edges_by (at + suc (length xs)) ys))

all_of_one : (P : ℕ × ℕ → Type 0) (at : ℕ) (depends : List ℕ) →
    ((other : ℕ) → Contains depends other → P (at, other)) →
    AllByRecursion P (edges_of_one at depends)
all_of_one P at [] each = tt
all_of_one P at (other ∷ depends) each = (
  each other (head other depends),
  all_of_one P at depends (λ x inside. each x (tail other x depends inside)),
)

own_edges : (P : ℕ × ℕ → Type 0) (count first : ℕ) (depends : List ℕ) →
    ((place other : ℕ) → first ≤ place → place < first + count → Contains depends other →
    P (place, other)) → AllByRecursion P (edges_by first (replicate count depends))
own_edges P zero first depends each = tt
own_edges P (suc count) first depends each =
    both P (edges_of_one first depends) (edges_by (first + 1) (replicate count depends))
    (all_of_one P first depends (λ other inside. each first other (omega arith) (omega arith)
    inside))
    (own_edges P count (first + 1) depends (λ place other low high inside.
    each place other (omega (arith, low)) (omega (arith, high)) inside))

in_one : (at : ℕ) (depends : List ℕ) (other : ℕ) → Contains depends other →
    Contains (edges_of_one at depends) (at, other)
in_one at [] other inside = none_in other inside
in_one at (x ∷ depends) other (zero, below, is) = (0, omega arith, ap (λ y. (at, y)) is)
in_one at (x ∷ depends) other (suc k, below, is) =
    tail (at, x) (at, other) (edges_of_one at depends)
    (in_one at depends other (k, omega arith, is))

abbrev pub IsJobEdge : List (ℕ × ℕ) → (ℕ → ℕ) → ℕ × ℕ → Type 0
IsJobEdge edges job_of edge = Contains edges (job_of edge.0, job_of edge.1)

pub leg_edges : (edges : List (ℕ × ℕ)) (job_of : ℕ → ℕ) (legs find : Finding)
    → Follows legs find job_of → (jobs : List JobSpec) (at first : ℕ)
    → ((place : ℕ) → first ≤ place → job_of place ≡ owner at first jobs place)
    → ((edge : ℕ × ℕ) → Contains (edges_by at (waits_of (map (waiting_job find) jobs))) edge
    → Contains edges edge)
    → AllByRecursion (IsJobEdge edges job_of) (edges_by first (leg_waits legs jobs))
leg_edges edges job_of legs find follows [] at first owns among = tt
leg_edges edges job_of legs find follows (job ∷ jobs) at first owns among =
    let count = leg_count job.legs in
    let depends = job_waits legs job.depends in
    let waited = job_waits find job.depends in
    let later = edges_by (at + 1) (waits_of (map (waiting_job find) jobs)) in
    let P : ℕ × ℕ → Type 0 = IsJobEdge edges job_of in
    let All : List (ℕ × ℕ) → Type 0 = λ es. AllByRecursion P es in
    let Later : ℕ → Type 0 = λ n. AllByRecursion P (edges_by n (leg_waits legs jobs)) in
    subst All (sym (edges_by_append first (replicate count depends) (leg_waits legs jobs)))
    (both P (edges_by first (replicate count depends))
    (edges_by (first + length (replicate count depends)) (leg_waits legs jobs))
    (own_edges P count first depends (λ place other low high inside.
    let Q : ℕ → Type 0 = λ owning. Contains edges (owning, job_of other) in
    subst Q (cond_below place (first + count) at (owner (at + 1) (first + count) jobs place) high
    ∙ sym (owns place low))
    (among (at, job_of other) (Contains-append_left (edges_of_one at waited) later
    (at, job_of other) (in_one at waited (job_of other)
    (waits_both legs find job_of follows job.depends other inside))))))
    (subst Later (ap (λ n. first + n) (sym (length-replicate count depends)))
    (leg_edges edges job_of legs find follows jobs (at + 1) (first + count)
    (λ place low. owns place (omega (arith, low))
    ∙ sym (cond_above place (first + count) at (owner (at + 1) (first + count) jobs place)
    (owner (at + 1) (first + count) jobs place) low refl))
    (λ edge inside. among edge (Contains-append_right (edges_of_one at waited) later edge
    inside)))))
