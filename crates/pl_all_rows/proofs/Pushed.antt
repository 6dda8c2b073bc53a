-- Rows that come one after the other.
use Rattle.std.proofs.Common.{◌≡◌, ◌⊎◌, inl, inr, ℕ, suc, ◌+◌, ◌<◌, ◌≤◌, List, [], ◌∷◌, ◌++◌}
use Rattle.std.proofs.Common.{Option, Some, None, length, take, get_or, slice_get, refl, sym, ap}
use Rattle.std.proofs.Common.{◌∙◌, append_assoc, append-nil, arith}
use Rattle.std.specs.Option.{option_map_or}
use Rattle.std.proofs.lemmas.Option.{get_or_from_slice_get, slice_get_cases, slice_get_within}
use Rattle.std.proofs.Math.Seq.{take-suc}
use Rattle.pl_base.specs.declared.row.Row.{Row}
use Rattle.pl_facts.specs.declared.fact.Fact.{Fact}
use Rattle.pl_kept.specs.Kept.{Where}
use Rattle.pl_touched.specs.Touched.{rows_at}
use Rattle.pl_row_changes.specs.Below.pl_touching.proofs.Following.{rows_joined}
use Rattle.pl_all_rows.specs.Brought.{brought, brought_at, brought_by}

module _ (facts : List Fact) (one two all : List Where) (are : all ≡ one ++ two) where
  pub push_all : (old mid new : List Row) → mid ≡ old ++ rows_at one facts →
      new ≡ mid ++ rows_at two facts → new ≡ old ++ rows_at all facts
  push_all old mid new first second =
      second ∙ (ap (λ (rows : List Row). rows ++ rows_at two facts) first ∙
      (append_assoc old (rows_at one facts) (rows_at two facts) ∙
      ap (λ (rows : List Row). old ++ rows) (sym (rows_joined facts one two) ∙
      ap (λ (places : List Where). rows_at places facts) (sym are))))

brought_joined : (one two : List Fact) →
    brought_by (one ++ two) ≡ brought_by one ++ brought_by two
brought_joined [] two = λ i. brought_by two
brought_joined (fact ∷ one) two =
    ap (λ (places : List Where). brought fact.event ++ places) (brought_joined one two) ∙
    sym (append_assoc (brought fact.event) (brought_by one) (brought_by two))

-- one fact more
taken_one : (facts : List Fact) (at : ℕ) (fact : Fact) → slice_get facts at ≡ Some fact →
    take (at + 1) facts ≡ take at facts ++ fact ∷ []
taken_one facts at fact is =
    let e : at + 1 ≡ suc at = omega arith in
    ap (λ n. take n facts) e ∙ take-suc facts at fact (slice_get_within facts at fact is)
    ∙ ap (λ one. take at facts ++ one ∷ []) (get_or_from_slice_get facts at fact fact is)

none_within : (facts : List Fact) (at : ℕ) → at < length facts → slice_get facts at ≡ None → ⊥
none_within facts at within none = go (slice_get_cases facts at).1 where
  go : ((fact : Fact) × (at < length facts) × (slice_get facts at ≡ Some fact) ×
      (get_or facts at fact ≡ fact)) ⊎ ((length facts ≤ at) × (slice_get facts at ≡ None)) → ⊥
  go (inl (fact, below, is, gets)) = absurd (cc)
  go (inr (all, gets)) = omega (arith, all, within)

pub brought_next : (facts : List Fact) (at : ℕ) → at < length facts →
    brought_by (take (at + 1) facts) ≡ brought_by (take at facts) ++ brought_at at facts
brought_next facts at within = by (slice_get facts at) refl where
  by : (o : Option Fact) → slice_get facts at ≡ o → brought_by (take (at + 1) facts) ≡
      brought_by (take at facts) ++ option_map_or (λ fact. brought fact.event) o []
  by (Some fact) is = ap brought_by (taken_one facts at fact is) ∙
      (brought_joined (take at facts) (fact ∷ []) ∙
      ap (λ (places : List Where). brought_by (take at facts) ++ places)
      (append-nil (brought fact.event)))
  by None none = absurd (none_within facts at within none)
