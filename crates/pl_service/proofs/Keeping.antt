-- What the keeper applied makes of the rows of a service those behind the call.
use Rattle.std.proofs.Common.{◌≡◌, List, Option, Some, None, refl, sym, ap, subst, ◌∙◌}
use Rattle.std.proofs.Math.Logic.{∥∥₁_map}
use Rattle.std.specs.Prelude.{[]}
use Rattle.pl_base.specs.declared.digest.Digest.{Digest}
use Rattle.pl_base.specs.declared.row.Change.{Change}
use Rattle.pl_base.specs.declared.row.Row.{Row}
use Rattle.pl_opening.specs.Below.pl_core.specs.Prepared.{IsPrepared, added_by, entries_with}
use Rattle.pl_opening.specs.Below.pl_core.specs.Prepared.{installed, next_change}
use Rattle.pl_opening.specs.Below.pl_core.specs.Rows.{AreKept}
use Rattle.pl_opening.specs.Below.pl_core.specs.State.{State, held, log}
use Rattle.pl_facts.specs.declared.entry.Entry.{Entry}
use Rattle.pl_opening.specs.Below.pl_history.specs.Claims.{IsOrderly}
use Rattle.pl_opening.specs.Below.pl_history.specs.History.{Opening}
use Rattle.pl_opening.specs.Below.pl_history.specs.Legal.{Follows, Legal}
use Rattle.pl_keeper.specs.Keeping.{WhereTold, all_changed}
use Rattle.pl_opening.specs.Below.pl_row_changes.specs.Changing.{AreOfEntry}
use Rattle.pl_opening.specs.Opening.{IsOpenedOf}
use Rattle.pl_service.specs.Begun.{IsBegun}
use Rattle.pl_service.specs.Kept.{IsKeepable, IsKeptAt, state_at}
use Rattle.pl_service.specs.Past.{Past, past_at}
use Rattle.pl_service.specs.Rows.{AreChangedBy, StayKept, state_of}

-- the law of the kept rows
abbrev pub KeptLaw : Type 0
KeptLaw = (state : State) (entry : Entry) (changes : List Change) (rows : List Row) →
    IsOrderly state.opening → Legal state.opening state.entries →
    Follows state.opening state.entries entry →
    AreOfEntry (held state).change (next_change state (Some entry)) (log state) entry.facts
    changes → AreKept state rows →
    AreKept (installed (Some entry) state) (all_changed changes rows)

pub where_more : (before after : Option (List Row)) (P Q : List Row → List Row → Type 0)
    → ((old new : List Row) → P old new → Q old new) → WhereTold before after P
    → WhereTold before after Q
where_more before None P Q so is = tt
where_more None (Some new) P Q so is = absurd is
where_more (Some old) (Some new) P Q so is = so old new is

-- ---- by the states on the way

module _ (first prepared last : State) (changes : List Change)
    (opening_is : prepared.opening ≡ first.opening) (entries_are : prepared.entries ≡ first.entries)
  where
    past_is : (entry : Option Entry) → last ≡ installed entry prepared → past_at last ≡
        record { opening = first.opening; entries = entries_with first.entries entry }
    past_is entry is =
        ap (λ (state : State). past_at state) is
        ∙ ap (λ (o : Opening). let past : Past =
        record { opening = o; entries = entries_with prepared.entries entry } in past) opening_is
        ∙ ap (λ (entries : List Entry). let past : Past =
        record { opening = first.opening; entries = entries_with entries entry } in past)
        entries_are

    follows : (entry : Entry) → IsPrepared prepared (Some entry)
        → Follows first.opening first.entries entry
    follows entry is =
        subst (λ (entries : List Entry). Follows first.opening entries entry) entries_are
        (subst (λ (o : Opening). Follows o prepared.entries entry) opening_is is.0)

    stays : KeptLaw → (entry : Option Entry) → last ≡ installed entry prepared
        → Legal first.opening first.entries → IsPrepared prepared entry
        → AreOfEntry (held first).change (next_change first entry) (log first) (added_by entry)
        changes → (before after : List Row) → AreChangedBy entry changes before after
        → StayKept (past_at first) (past_at last) before after
    stays law None last_is legal is are before after same = λ orderly kept.
        subst (λ (past : Past). AreKept (state_of past) after) (sym (past_is None last_is))
        (subst (λ (rows : List Row). AreKept (state_of (past_at first)) rows) (sym same) kept)
    stays law (Some entry) last_is legal is are before after changed = λ orderly kept.
        subst (λ (past : Past). AreKept (state_of past) after) (sym (past_is (Some entry) last_is))
        (subst (λ (rows : List Row).
        AreKept (installed (Some entry) (state_of (past_at first))) rows) (sym changed)
        (law (state_of (past_at first)) entry changes before orderly legal (follows entry is) are
        kept))

    pub stays_where : KeptLaw → (entry : Option Entry) → last ≡ installed entry prepared
        → Legal first.opening first.entries → IsPrepared prepared entry
        → AreOfEntry (held first).change (next_change first entry) (log first) (added_by entry)
        changes → (before after : Option (List Row))
        → WhereTold before after (AreChangedBy entry changes)
        → WhereTold before after (StayKept (past_at first) (past_at last))
    stays_where law entry last_is legal is are before after told =
        where_more before after (AreChangedBy entry changes)
        (StayKept (past_at first) (past_at last))
        (stays law entry last_is legal is are) told

-- ---- where nothing is added

same_kept : (old new : Past) → new ≡ old → (before after : List Row) → after ≡ before
    → StayKept old new before after
same_kept old new is before after same = λ orderly kept.
    subst (λ (past : Past). AreKept (state_of past) after) (sym is)
    (subst (λ (rows : List Row). AreKept (state_of old) rows) (sym same) kept)

pub same_where : (old new : Past) → new ≡ old → (before after : Option (List Row))
    → WhereTold before after (λ before after. after ≡ before)
    → WhereTold before after (StayKept old new)
same_where old new is before after told =
    where_more before after (λ before after. after ≡ before) (StayKept old new)
    (same_kept old new is) told

pub none_where : (told : Option (List Row)) → WhereTold told told (λ before after. after ≡ before)
none_where None = tt
none_where (Some rows) = refl

-- ---- at each time

at_opening : (a b : Opening) → a ≡ b → IsKeepable a → IsKeepable b
at_opening a b is keepable = subst (λ (o : Opening). IsKeepable o) is keepable

kept_on : (old new : Past) (before after : Option (List Row))
    → WhereTold before after (StayKept old new) → new.opening ≡ old.opening
    → IsKeptAt old.opening old.entries before → IsKeptAt new.opening new.entries after
kept_on old new before None told opening kept = λ keepable. tt
kept_on old new None (Some rows) told opening kept = absurd told
kept_on old new (Some first) (Some rows) told opening kept = λ keepable.
    let there = at_opening new.opening old.opening opening keepable in
    told there.orderly (kept there)

-- behind a call
pub kept_behind : (old new : Past) (before after : Option (List Row))
    → WhereTold before after (StayKept old new) → new.opening ≡ old.opening
    → ∥ IsKeptAt old.opening old.entries before ∥₁ → ∥ IsKeptAt new.opening new.entries after ∥₁
kept_behind old new before after told opening kept =
    ∥∥₁_map kept (kept_on old new before after told opening)

-- where nothing is added, and no row changes
pub kept_same : (old new : Past) (before after : Option (List Row)) → new ≡ old
    → WhereTold before after (λ before after. after ≡ before)
    → ∥ IsKeptAt old.opening old.entries before ∥₁ → ∥ IsKeptAt new.opening new.entries after ∥₁
kept_same old new before after is told kept =
    kept_behind old new before after (same_where old new is before after told)
    (ap (λ (past : Past). past.opening) is) kept

-- by the opening and the entries
pub past_by : (a b : State) → a.opening ≡ b.opening → a.entries ≡ b.entries
    → past_at a ≡ past_at b
past_by a b opening entries =
    ap (λ (o : Opening). let past : Past = record { opening = o; entries = a.entries } in past)
    opening
    ∙ ap (λ (es : List Entry). let past : Past = record { opening = b.opening; entries = es } in
    past) entries

-- how a service begins
kept_first : (admin : Digest) (past : Past) (told : Option (List Row)) → IsBegun admin told past
    → IsKeptAt past.opening past.entries told
kept_first admin past None begun = λ keepable. tt
kept_first admin past (Some held) begun = λ keepable.
    subst (λ (rows : List Row). AreKept (state_of past) rows) begun.given
    (subst (λ (entries : List Entry). AreKept (state_at past.opening entries) begun.rows)
    (sym begun.opened.entries)
    (keepable.rows begun.rows begun.ordered
    (subst (λ (d : Digest). IsOpenedOf d begun.rows past.opening)
    (sym begun.opened.is.admin_is) begun.opened.is)))

pub kept_begun : (admin : Digest) (past : Past) (told : Option (List Row))
    → IsBegun admin told past → ∥ IsKeptAt past.opening past.entries told ∥₁
kept_begun admin past told begun = ∣ kept_first admin past told begun ∣₁
