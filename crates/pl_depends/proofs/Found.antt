-- Names with their places, one more of them.
use Rattle.std.proofs.Common.{◌≡◌, ℕ, ◌+◌, ◌<◌, ◌≤◌, Bool, true, false, cond, Some, None, Option}
use Rattle.std.proofs.Common.{List}
use Rattle.std.proofs.Common.{[], ◌∷◌, ◌++◌, length, get_or, drop, refl, sym, ap, ◌∙◌, add-one}
use Rattle.std.specs.Prelude.{nat_eq, is_some}
use Rattle.std.specs.Option.{option_or}
use Rattle.std.specs.BTreeMap.{BTreeMap, get, is_at}
use Rattle.std.specs.Cmp.{eq_by_cmp_equiv}
use Rattle.std.specs.Cmp.Lexicographic.{slice_cmp, pointwise, texts_ties}
use Rattle.std.specs.Ordering.{nat_cmp}
use Rattle.std.proofs.lemmas.Bool.{false≢true}
use Rattle.std.proofs.lemmas.Bool.Decides.{Decides-eqb}
use Rattle.std.proofs.lemmas.Cmp.{nat_list_cmp_total}
use Rattle.std.proofs.lemmas.List.{at_drop_more, at_drop_all}
use Rattle.std.proofs.lemmas.Slice.Eq.{slice_eq-Decides}
use Rattle.pl_base.specs.Folding.{folded}
use Rattle.pl_literal.specs.Booleans.{spells}
use Rattle.pl_schema_parts.specs.declared.pipeline.JobSpec.{JobSpec}
use Rattle.pl_schema_parts.specs.declared.pipeline.StageSpec.{StageSpec}
use Rattle.pl_depends.specs.Places.{Finding, Entry, nowhere, also, places_of_one, places_under}
use Rattle.pl_depends.specs.Places.{places_from, stage_entries, job_entries, leg_entries, leg_count}

-- ---- a map

alike : (asked name : List ℕ) → spells asked name ≡ true → folded asked ≡ folded name
alike asked name is = (slice_eq-Decides Decides-eqb (folded asked) (folded name)
    (pointwise nat_eq (folded asked) (folded name)) refl).0 is

or_none : {X : Type 0} (found : Option X) → option_or found None ≡ found
or_none None = refl
or_none (Some x) = refl

none_from : {X : Type 0} (found : Option X) → is_some found ≡ false → found ≡ None
none_from None is = refl
none_from (Some x) is = absurd (false≢true (sym is))

added_at : (found : Option (List ℕ)) (here : List ℕ) (same : Bool) → (same ≡ true → found ≡ None) →
    cond same (Some here) found ≡ option_or found (cond same (Some here) None)
added_at found here true absent = sym (ap (λ o. option_or o (Some here)) (absent refl))
added_at found here false absent = sym (or_none found)

stays_at : (found : Option (List ℕ)) (here : List ℕ) (same : Bool) →
    (same ≡ true → is_some found ≡ true) → found ≡ option_or found (cond same (Some here) None)
stays_at (Some x) here same there = refl
stays_at None here true there = absurd (false≢true (there refl))
stays_at None here false there = refl

abbrev find_in : BTreeMap (List ℕ) (List ℕ) → Finding
find_in map asked = get (slice_cmp nat_cmp) map (folded asked)

-- a name that wasn't there
pub put_new : (old new : BTreeMap (List ℕ) (List ℕ)) (name upper here : List ℕ)
    → ((key : List ℕ) → get (slice_cmp nat_cmp) new key ≡ cond (is_at (slice_cmp nat_cmp upper) key)
    (Some here) (get (slice_cmp nat_cmp) old key))
    → upper ≡ folded name → is_some (get (slice_cmp nat_cmp) old upper) ≡ false
    → find_in new ≡ also (find_in old) name here
put_new old new name upper here updated is_upper absent i asked =
    let found = get (slice_cmp nat_cmp) old (folded asked) in
    (updated (folded asked)
    ∙ ap (λ u. cond (is_at (slice_cmp nat_cmp u) (folded asked)) (Some here) found) is_upper
    ∙ ap (λ same. cond same (Some here) found)
    ((eq_by_cmp_equiv nat_list_cmp_total).symm (folded name) (folded asked)
    ∙ sym (texts_ties (folded asked) (folded name)))
    ∙ added_at found here (spells asked name) (λ is. none_from found
    (ap (λ key. is_some (get (slice_cmp nat_cmp) old key)) (alike asked name is ∙ sym is_upper)
    ∙ absent))) i

-- a name that was there
pub put_old : (old : BTreeMap (List ℕ) (List ℕ)) (name upper here : List ℕ)
    → upper ≡ folded name → is_some (get (slice_cmp nat_cmp) old upper) ≡ true
    → find_in old ≡ also (find_in old) name here
put_old old name upper here is_upper there i asked =
    let found = get (slice_cmp nat_cmp) old (folded asked) in
    (stays_at found here (spells asked name) (λ is.
    ap (λ key. is_some (get (slice_cmp nat_cmp) old key)) (alike asked name is ∙ sym is_upper)
    ∙ there)) i

-- ---- a loop over those who have names

join : {X : Type 0} (a b c : Option X) → option_or a (option_or b c) ≡ option_or (option_or a b) c
join None b c = refl
join (Some x) b c = refl

-- what is found, or else among the rest
abbrev pub with_rest : Finding → List Entry → Finding
with_rest find entries asked = option_or (find asked) (places_under entries asked)

one_more : (whole old new : Finding) (name here : List ℕ) (rest : List Entry)
    → whole ≡ with_rest old ((name, here) ∷ rest) → new ≡ also old name here
    → whole ≡ with_rest new rest
one_more whole old new name here rest so_far added =
    let joined : with_rest old ((name, here) ∷ rest) ≡ with_rest (also old name here) rest =
    (λ i asked. join (old asked) (places_of_one name here asked) (places_under rest asked) i) in
    so_far ∙ joined ∙ ap (λ (find : Finding). with_rest find rest) (sym added)

-- the rest, in front of which an item stands
front : {X : Type 0} (entries : List X → List Entry) (xs : List X) (i : ℕ) (x : X) (old : Finding)
    → i < length xs → x ≡ get_or xs i x
    → with_rest old (entries (drop i xs)) ≡ with_rest old (entries (x ∷ drop (i + 1) xs))
front entries xs i x old within is =
    at_drop_more (λ rest. with_rest old (entries rest)) xs i x within
    ∙ ap (λ y. with_rest old (entries (y ∷ drop (i + 1) xs))) (sym is)

pub stage_more : (stages : List StageSpec) (at : ℕ) (stage : StageSpec) (old new : Finding)
    → at < length stages → stage ≡ get_or stages at stage
    → places_under (stage_entries 0 stages) ≡ with_rest old (stage_entries at (drop at stages))
    → new ≡ also old stage.name (at ∷ [])
    → places_under (stage_entries 0 stages) ≡
    with_rest new (stage_entries (at + 1) (drop (at + 1) stages))
stage_more stages at stage old new within is so_far added =
    one_more (places_under (stage_entries 0 stages)) old new stage.name (at ∷ [])
    (stage_entries (at + 1) (drop (at + 1) stages))
    (so_far ∙ front (stage_entries at) stages at stage old within is) added

pub job_more : (jobs : List JobSpec) (at : ℕ) (job : JobSpec) (old new : Finding)
    → at < length jobs → job ≡ get_or jobs at job
    → places_under (job_entries 0 jobs) ≡ with_rest old (job_entries at (drop at jobs))
    → new ≡ also old job.name (at ∷ [])
    → places_under (job_entries 0 jobs) ≡
    with_rest new (job_entries (at + 1) (drop (at + 1) jobs))
job_more jobs at job old new within is so_far added =
    one_more (places_under (job_entries 0 jobs)) old new job.name (at ∷ [])
    (job_entries (at + 1) (drop (at + 1) jobs))
    (so_far ∙ front (job_entries at) jobs at job old within is) added

pub leg_more : (jobs : List JobSpec) (first next i : ℕ) (job : JobSpec) (old new : Finding)
    → i < length jobs → job ≡ get_or jobs i job → next ≡ first + leg_count job.legs
    → places_under (leg_entries 0 jobs) ≡ with_rest old (leg_entries first (drop i jobs))
    → new ≡ also old job.name (places_from first (leg_count job.legs))
    → places_under (leg_entries 0 jobs) ≡ with_rest new (leg_entries next (drop (i + 1) jobs))
leg_more jobs first next i job old new within is next_is so_far added =
    one_more (places_under (leg_entries 0 jobs)) old new job.name
    (places_from first (leg_count job.legs))
    (leg_entries (first + leg_count job.legs) (drop (i + 1) jobs))
    (so_far ∙ front (leg_entries first) jobs i job old within is) added
    ∙ ap (λ n. with_rest new (leg_entries n (drop (i + 1) jobs))) (sym next_is)

-- nothing is found at first, and nothing is left in the end
pub found_none : (entries : List Entry) (find : Finding) → find ≡ nowhere →
    places_under entries ≡ with_rest find entries
found_none entries find none = ap (λ (f : Finding). with_rest f entries) (sym none)

pub found_all : {X : Type 0} (entries : List X → List Entry) (xs : List X) (i : ℕ)
    (whole find : Finding) → length xs ≤ i → entries [] ≡ []
    → whole ≡ with_rest find (entries (drop i xs)) → find ≡ whole
found_all entries xs i whole find past none so_far =
    let last : with_rest find [] ≡ find = (λ i asked. or_none (find asked) i) in
    sym (so_far ∙ at_drop_all (λ rest. with_rest find (entries rest)) xs i past
    ∙ ap (with_rest find) none ∙ last)

-- one place more
pub places_more : (first count : ℕ) →
    places_from first (count + 1) ≡ places_from first count ++ (first + count) ∷ []
places_more first count = rw add-one refl
