-- Each waits for some of the same list.
use Rattle.std.proofs.Common.{◌≡◌, ℕ, ◌+◌, ◌-◌, ◌<◌, ◌≤◌, ◌⊎◌, inl, inr, Bool, true, false, cond}
use Rattle.std.proofs.Common.{suc, Some, None, Option, List, [], ◌∷◌, ◌++◌, length, get_or, map}
use Rattle.std.proofs.Common.{refl, sym}
use Rattle.std.proofs.Common.{ap, subst, ◌∙◌, arith}
use Rattle.std.specs.Prelude.{nat_eq, unwrap_or, slice_index}
use Rattle.std.specs.Option.{IfSome, option_or}
use Rattle.std.specs.List.{All, AllByRecursion}
use Rattle.std.proofs.lemmas.Bool.{cases_lt}
use Rattle.std.proofs.lemmas.List.{length-map, get_or_default}
use Rattle.std.proofs.lemmas.List.Elements.{All-from_recursion, All-contains}
use Rattle.std.proofs.lemmas.List.Elements.{Contains-get_or}
use Rattle.pl_graph.proofs.Lists.{goes_on}
use Rattle.pl_graph.specs.Graph.{AreEdges, DependsOn, IsCycle}
use Rattle.pl_literal.specs.Booleans.{spells}
use Rattle.pl_graph.specs.Waits.{edges_by, edges_of_one}
use Rattle.pl_schema_parts.specs.declared.pipeline.DependSpec.{DependSpec}
use Rattle.pl_schema_parts.specs.declared.pipeline.JobSpec.{JobSpec}
use Rattle.pl_schema_parts.specs.declared.pipeline.StageSpec.{StageSpec}
use Rattle.pl_depends.specs.declared.graph.Waiting.{Waiting}
use Rattle.pl_depends.specs.Places.{Finding, Entry, places_under, stage_entries, job_entries}
use Rattle.pl_depends.specs.Graph.{AreBelow, IsGraph, places_named, the_one_before, stage_waits}
use Rattle.pl_depends.specs.Graph.{job_waits, waiting_stages, stage_graph, waiting_job, job_graph}
use Rattle.pl_depends.specs.Graph.{waits_of}
use Rattle.pl_depends.specs.Cycles.{AreOn}

pub both : {X : Type 0} (P : X → Type 0) (xs ys : List X) → AllByRecursion P xs →
    AllByRecursion P ys → AllByRecursion P (xs ++ ys)
both P [] ys of_xs of_ys = of_ys
both P (x ∷ xs) ys of_xs of_ys = (of_xs.0, both P xs ys of_xs.1 of_ys)

-- ---- what is found under a name

abbrev pub FindsBelow : ℕ → Finding → Type 0
FindsBelow count find = (asked : List ℕ) → AreBelow count (unwrap_or (find asked) [])

abbrev pub EntriesBelow : ℕ → List Entry → Type 0
EntriesBelow count entries = AllByRecursion (λ entry. AreBelow count entry.1) entries

pick : (count : ℕ) (same : Bool) (own : List ℕ) (rest : Option (List ℕ)) → AreBelow count own →
    AreBelow count (unwrap_or rest []) →
    AreBelow count (unwrap_or (option_or (cond same (Some own) None) rest) [])
pick count true own rest of_own of_rest = of_own
pick count false own rest of_own of_rest = of_rest

pub found_below : (count : ℕ) (entries : List Entry) → EntriesBelow count entries →
    FindsBelow count (places_under entries)
found_below count [] below asked = tt
found_below count (entry ∷ entries) below asked =
    pick count (spells asked entry.0) entry.1 (places_under entries asked) below.0
    (found_below count entries below.1 asked)

pub named_below : (count : ℕ) (find : Finding) → FindsBelow count find →
    (depends : List DependSpec) → AreBelow count (places_named find depends)
named_below count find below [] = tt
named_below count find below (depend ∷ depends) =
    both (λ place. place < count) (unwrap_or (find depend.name) []) (places_named find depends)
    (below depend.name) (named_below count find below depends)

-- ---- stages

stage_entries_below : (count at : ℕ) (stages : List StageSpec) → at + length stages ≤ count →
    EntriesBelow count (stage_entries at stages)
stage_entries_below count at [] within = tt
stage_entries_below count at (stage ∷ stages) within =
    ((omega arith, tt), stage_entries_below count (at + 1) stages (omega arith))

before_below : (count at : ℕ) (first : Bool) → at < count →
    AreBelow count (cond first [] ((at - 1) ∷ []))
before_below count at true within = tt
before_below count at false within = (omega arith, tt)

stage_below : (count at : ℕ) (find : Finding) → FindsBelow count find → at < count →
    (depends : Option (List DependSpec)) → AreBelow count (stage_waits find at depends)
stage_below count at find below within None = before_below count at (nat_eq at 0) within
stage_below count at find below within (Some depends) = named_below count find below depends

abbrev WaitsBelow : ℕ → List Waiting → Type 0
WaitsBelow count graph = AllByRecursion (λ waiting. AreBelow count waiting.depends) graph

stages_below : (count at : ℕ) (find : Finding) → FindsBelow count find → (stages : List StageSpec)
    → at + length stages ≤ count → WaitsBelow count (waiting_stages find at stages)
stages_below count at find below [] within = tt
stages_below count at find below (stage ∷ stages) within = (
  stage_below count at find below (omega arith) stage.depends,
  stages_below count (at + 1) find below stages (omega arith),
)

length_waiting : (find : Finding) (at : ℕ) (stages : List StageSpec) →
    length (waiting_stages find at stages) ≡ length stages
length_waiting find at [] = refl
length_waiting find at (stage ∷ stages) = ap (λ n. suc n) (length_waiting find (at + 1) stages)

pub length_stages : (stages : List StageSpec) → length (stage_graph stages) ≡ length stages
length_stages stages = length_waiting (places_under (stage_entries 0 stages)) 0 stages

pub stages_are_graph : (stages : List StageSpec) → IsGraph (stage_graph stages)
stages_are_graph stages =
    let find = places_under (stage_entries 0 stages) in
    let P : ℕ → Type 0 = λ count. WaitsBelow count (stage_graph stages) in
    subst P (sym (length_stages stages)) (stages_below (length stages) 0 find
    (found_below (length stages) (stage_entries 0 stages)
    (stage_entries_below (length stages) 0 stages (omega arith))) stages (omega arith))

-- ---- jobs

job_entries_below : (count at : ℕ) (jobs : List JobSpec) → at + length jobs ≤ count →
    EntriesBelow count (job_entries at jobs)
job_entries_below count at [] within = tt
job_entries_below count at (job ∷ jobs) within =
    ((omega arith, tt), job_entries_below count (at + 1) jobs (omega arith))

pub job_below : (count : ℕ) (find : Finding) → FindsBelow count find →
    (depends : Option (List DependSpec)) → AreBelow count (job_waits find depends)
job_below count find below None = tt
job_below count find below (Some depends) = named_below count find below depends

jobs_below : (count : ℕ) (find : Finding) → FindsBelow count find → (jobs : List JobSpec) →
    WaitsBelow count (map (waiting_job find) jobs)
jobs_below count find below [] = tt
jobs_below count find below (job ∷ jobs) =
    (job_below count find below job.depends, jobs_below count find below jobs)

pub jobs_are_graph : (jobs : List JobSpec) → IsGraph (job_graph jobs)
jobs_are_graph jobs =
    let find = places_under (job_entries 0 jobs) in
    let P : ℕ → Type 0 = λ count. WaitsBelow count (job_graph jobs) in
    subst P (sym (length-map jobs (waiting_job find))) (jobs_below (length jobs) find
    (found_below (length jobs) (job_entries 0 jobs)
    (job_entries_below (length jobs) 0 jobs (omega arith))) jobs)

-- ---- edges

abbrev pub IsEdge : ℕ → ℕ × ℕ → Type 0
IsEdge count edge = (edge.0 < count) × (edge.1 < count)

pub one_edges : (count at : ℕ) (depends : List ℕ) → at < count → AreBelow count depends →
    AllByRecursion (IsEdge count) (edges_of_one at depends)
one_edges count at [] within below = tt
one_edges count at (other ∷ depends) within below =
    ((within, below.0), one_edges count at depends within below.1)

all_edges : (count at : ℕ) (graph : List Waiting) → WaitsBelow count graph →
    at + length graph ≤ count → AllByRecursion (IsEdge count) (edges_by at (waits_of graph))
all_edges count at [] below within = tt
all_edges count at (waiting ∷ graph) below within =
    both (IsEdge count) (edges_of_one at waiting.depends) (edges_by (at + 1) (waits_of graph))
    (one_edges count at waiting.depends (omega arith) below.0)
    (all_edges count (at + 1) graph below.1 (omega arith))

pub are_edges : (graph : List Waiting) → IsGraph graph →
    AreEdges (length graph) (edges_by 0 (waits_of graph))
are_edges graph below = All-from_recursion (IsEdge (length graph)) (edges_by 0 (waits_of graph))
    (all_edges (length graph) 0 graph below (omega arith))

-- ---- a cycle goes along edges

pub on_graph : (count : ℕ) (edges : List (ℕ × ℕ)) (nodes : List ℕ) → AreEdges count edges →
    IsCycle edges nodes → All (λ node. node < count) nodes
on_graph count edges nodes are cycle k d within =
    let node = get_or nodes k d in
    let (b, depends, on) = goes_on (DependsOn edges) nodes node cycle.closed
    (Contains-get_or nodes k d within) in
    (All-contains (IsEdge count) edges (node, b) are depends).0

cycle_some : (edges : List (ℕ × ℕ)) (nodes : List ℕ) → IsCycle edges nodes → 0 < length nodes
cycle_some edges [] cycle = absurd cycle.closed
cycle_some edges (node ∷ nodes) cycle = omega arith

pub edges_at : (count : ℕ) (edges : List (ℕ × ℕ)) (graph : List Waiting) → count ≡ length graph →
    edges ≡ edges_by 0 (waits_of graph) → IsGraph graph → AreEdges count edges
edges_at count edges graph count_is edges_are below =
    let P : ℕ → Type 0 = λ n. AreEdges n edges in
    let Q : List (ℕ × ℕ) → Type 0 = λ es. AreEdges (length graph) es in
    subst P (sym count_is) (subst Q (sym edges_are) (are_edges graph below))

pub on_cycle : (edges : List (ℕ × ℕ)) (graph : List Waiting) (nodes : List ℕ) →
    edges ≡ edges_by 0 (waits_of graph) → IsGraph graph → IsCycle edges nodes → AreOn graph nodes
on_cycle edges graph nodes edges_are below cycle = (
  cycle_some edges nodes cycle,
  on_graph (length graph) edges nodes
      (edges_at (length graph) edges graph refl edges_are below) cycle,
)

pub graph_by : (graph made : List Waiting) → graph ≡ made → IsGraph made → IsGraph graph
graph_by graph made same below = subst IsGraph (sym same) below

pub cycle_on : (asked told made : List Waiting) (nodes taken : List ℕ) (found : Option (List ℕ)) →
    asked ≡ made → told ≡ made → found ≡ Some nodes → taken ≡ nodes →
    IfSome found (λ on. AreOn asked on) → AreOn told taken
cycle_on asked told made nodes taken found asked_is told_is is taken_is within =
    let P : Option (List ℕ) → Type 0 = λ o. IfSome o (λ on. AreOn asked on) in
    let Q : List ℕ → Type 0 = λ on. AreOn asked on in
    let R : List Waiting → Type 0 = λ graph. AreOn graph taken in
    subst R (asked_is ∙ sym told_is) (subst Q (sym taken_is) (subst P is within))
