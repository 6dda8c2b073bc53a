-- What the proofs of this crate use of std.
pub use Rattle.pl_graph.specs.Graph.{AreEdges, Chain, ClosedChain, DependsOn, DependsTransitively}
pub use Rattle.pl_graph.specs.Graph.{EachOnce, InTurn, IsAfter, IsCanonicalCycle, IsCycle}
pub use Rattle.pl_graph.specs.Graph.{IsLeastDependency, IsLeastTopological, IsTopological, Leads}
pub use Rattle.pl_graph.specs.Graph.{Remains, Walk}
pub use Rattle.pl_graph.specs.Placing.{IsLeastReady, IsPlacement, PlacesLeast}
pub use Rattle.pl_graph.specs.Sets.{GoesOn, HasNone, IsNext, edge_cmp, has, joins, turned_of}
pub use Rattle.pl_graph.specs.Walking.{AllGoOn, IsCycleFrom}
pub use Rattle.std.proofs.Common.{Bool, List, Ordering, [], ap, append_assoc, arith, drop, eqb}
pub use Rattle.std.proofs.Common.{false, get_or, inl, inr, length, refl, rules, slice_index, subst}
pub use Rattle.std.proofs.Common.{suc, sym, take, true, zero, ℕ, ⊎_elim, ◌++◌, ◌+◌, ◌-◌, ◌<◌, ◌∙◌}
pub use Rattle.std.proofs.Common.{◌∷◌, ◌≡◌, ◌≢◌, ◌≤◌, ◌⊎◌}
pub use Rattle.std.proofs.lemmas.Bool.{cases_eq, false≢true}
pub use Rattle.std.proofs.lemmas.Bool.Decides.{Decides-eqb, nat_tests}
pub use Rattle.std.proofs.lemmas.List.{append-nil, drop-append-le, drop_more, get_or-map}
pub use Rattle.std.proofs.lemmas.List.{get_or_append_left, get_or_default, length-append}
pub use Rattle.std.proofs.lemmas.List.{length-map, length_push, take-append-drop}
pub use Rattle.std.proofs.lemmas.List.Elements.{All-contains, Contains-append_left}
pub use Rattle.std.proofs.lemmas.List.Elements.{Contains-append_right, Contains-push}
pub use Rattle.std.proofs.lemmas.List.Elements.{Contains-push_cases}
pub use Rattle.std.proofs.lemmas.Map.Lookups.{exact_pairs, exact_unsigned}
pub use Rattle.std.specs.BTreeSet.{BTreeSet, IsFromIterResult, Updates, btree_set_len, contains}
pub use Rattle.std.specs.BTreeSet.{keys}
pub use Rattle.std.specs.List.{All, Contains, list_any}
pub use Rattle.std.specs.List.Sorted.{IsPermutation}
pub use Rattle.std.specs.Ordering.{nat_cmp, ordering_then}
pub use Rattle.std.specs.Prelude.{◌↔◌}
pub use Rattle.std.specs.declared.cmp.Ordering.TheVariants.{Greater}
