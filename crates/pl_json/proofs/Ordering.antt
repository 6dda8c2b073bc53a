-- Members that are put in one after the other, as entries of a map, and in order.
use Rattle.std.proofs.Common.{◌≡◌, ℕ, Bool, true, false, not, ◌&&◌, List, [], ◌∷◌, ◌++◌, map}
use Rattle.std.proofs.Common.{refl, sym, ap, subst, ◌∙◌, append_assoc}
use Rattle.std.specs.Prelude.{T as Holds}
use Rattle.std.proofs.lemmas.List.{append-nil}
use Rattle.std.specs.declared.cmp.Ordering.{Ordering}
use Rattle.std.specs.declared.cmp.Ordering.TheVariants.{Less, Equal, Greater}
use Rattle.std.specs.Ordering.{is_lt, match_ordering, nat_cmp, ordering_reverse}
use Rattle.std.specs.Cmp.Lexicographic.{slice_cmp, nat_list_cmp_total}
use Rattle.std.specs.BTreeMap.{insert_entry}
use Rattle.pl_json.specs.declared.members.Member.{Member}
use Rattle.pl_json.specs.Members.{ascends, in_order, is_before, is_in_order, member, names_of, put}
use Rattle.pl_json.specs.Members.{put_all}
use Rattle.pl_json.specs.Entries.{entries_of}

and_both : (a b : Bool) → a ≡ true → b ≡ true → (a && b) ≡ true
and_both true b p q = q
and_both false b p q = p

and_first : (a b : Bool) → (a && b) ≡ true → a ≡ true
and_first true b e = refl
and_first false b e = e

and_second : (a b : Bool) → (a && b) ≡ true → b ≡ true
and_second a true e = refl
and_second true false e = e
and_second false false e = e

not_true : false ≡ true → ⊥
not_true e = subst (λ b. Holds (not b)) e tt

less : (o : Ordering) → is_lt o ≡ true → o ≡ Less
less Less e = refl
less Equal e = absurd (not_true e)
less Greater e = absurd (not_true e)

-- of two names in order the second comes behind the first
behind : (one other : List ℕ) → is_before one other ≡ true → slice_cmp nat_cmp other one ≡ Greater
behind one other e =
    nat_list_cmp_total.antisymm other one ∙
    ap ordering_reverse (less (slice_cmp nat_cmp one other) e)

before_by : (one other : List ℕ) → slice_cmp nat_cmp other one ≡ Greater →
    is_before one other ≡ true
before_by one other e =
    ap is_lt (nat_list_cmp_total.antisymm one other ∙ ap ordering_reverse e)

before_all : (a b c : List ℕ) → is_before a b ≡ true → is_before b c ≡ true → is_before a c ≡ true
before_all a b c p q =
    ap is_lt (nat_list_cmp_total.trans a b c (less (slice_cmp nat_cmp a b) p)
    (less (slice_cmp nat_cmp b c) q))

rest_in_order :
    (name : List ℕ) (names : List (List ℕ)) →
    ascends name names ≡ true →
    is_in_order names ≡ true
rest_in_order name [] h = refl
rest_in_order name (next ∷ names) h = and_second (is_before name next) _ h

module _ {X : Type 0} where
  -- a member is put where an entry is
  pub entries_put :
      (name : List ℕ) (value : X) (members : List (Member X)) →
      entries_of (put name value members) ≡
      insert_entry (slice_cmp nat_cmp) (entries_of members) name value
  entries_put name value [] = refl
  entries_put name value (one ∷ more) =
      elim (slice_cmp nat_cmp name one.name) as (λ o.
      entries_of (match_ordering o (member name value ∷ one ∷ more) (member one.name value ∷ more)
      (one ∷ put name value more)) ≡
      match_ordering o ((name, value) ∷ entries_of (one ∷ more))
      ((one.name, value) ∷ entries_of more)
      ((one.name, one.value) ∷ insert_entry (slice_cmp nat_cmp) (entries_of more) name value)) [
        | Less ↦ refl
        | Equal ↦ refl
        | Greater ↦ ap (λ es. (one.name, one.value) ∷ es) (entries_put name value more)
      ]

  -- one more at the end is put last
  pub put_all_last :
      (members more : List (Member X)) (one : Member X) →
      put_all members (more ++ one ∷ []) ≡ put one.name one.value (put_all members more)
  put_all_last members [] one = refl
  put_all_last members (first ∷ more) one =
      put_all_last (put first.name first.value members) more one

  -- what is put keeps the order
  keeps_by :
      (o : Ordering) (first name : List ℕ) (value : X) (one : Member X) (more : List (Member X)) →
      slice_cmp nat_cmp name one.name ≡ o →
      is_before first name ≡ true →
      ascends first (names_of (one ∷ more)) ≡ true →
      (is_before one.name name ≡ true → ascends one.name (names_of (put name value more)) ≡ true) →
      ascends first (names_of (match_ordering o (member name value ∷ one ∷ more)
      (member one.name value ∷ more) (one ∷ put name value more))) ≡ true
  keeps_by Less first name value one more is p h rest =
      and_both _ _ p (and_both _ _ (ap is_lt is) (and_second (is_before first one.name) _ h))
  keeps_by Equal first name value one more is p h rest = h
  keeps_by Greater first name value one more is p h rest =
      and_both _ _ (and_first (is_before first one.name) _ h) (rest (before_by one.name name is))

  keeps :
      (first name : List ℕ) (value : X) (members : List (Member X)) →
      is_before first name ≡ true →
      ascends first (names_of members) ≡ true →
      ascends first (names_of (put name value members)) ≡ true
  keeps first name value [] p h = and_both _ _ p refl
  keeps first name value (one ∷ more) p h =
      keeps_by (slice_cmp nat_cmp name one.name) first name value one more refl p h
      (λ q. keeps one.name name value more q (and_second (is_before first one.name) _ h))

  keeps_first_by :
      (o : Ordering) (name : List ℕ) (value : X) (one : Member X) (more : List (Member X)) →
      slice_cmp nat_cmp name one.name ≡ o →
      is_in_order (names_of (one ∷ more)) ≡ true →
      is_in_order (names_of (match_ordering o (member name value ∷ one ∷ more)
      (member one.name value ∷ more) (one ∷ put name value more))) ≡ true
  keeps_first_by Less name value one more is h = and_both _ _ (ap is_lt is) h
  keeps_first_by Equal name value one more is h = h
  keeps_first_by Greater name value one more is h =
      keeps one.name name value more (before_by one.name name is) h

  put_in_order :
      (name : List ℕ) (value : X) (members : List (Member X)) →
      is_in_order (names_of members) ≡ true →
      is_in_order (names_of (put name value members)) ≡ true
  put_in_order name value [] h = refl
  put_in_order name value (one ∷ more) h =
      keeps_first_by (slice_cmp nat_cmp name one.name) name value one more refl h

  pub all_in_order :
      (members more : List (Member X)) →
      is_in_order (names_of members) ≡ true →
      is_in_order (names_of (put_all members more)) ≡ true
  all_in_order members [] h = h
  all_in_order members (one ∷ more) h =
      all_in_order (put one.name one.value members) more
      (put_in_order one.name one.value members h)

  -- members that ascend are put where they are
  last_behind :
      (name : List ℕ) (members : List (Member X)) (last : Member X) →
      ascends name (names_of (members ++ last ∷ [])) ≡ true →
      is_before name last.name ≡ true
  last_behind name [] last h = and_first (is_before name last.name) true h
  last_behind name (one ∷ more) last h =
      before_all name one.name last.name (and_first (is_before name one.name) _ h)
      (last_behind one.name more last (and_second (is_before name one.name) _ h))

  front_ascends :
      (name : List ℕ) (front more : List (Member X)) →
      ascends name (names_of (front ++ more)) ≡ true →
      ascends name (names_of front) ≡ true
  front_ascends name [] more h = refl
  front_ascends name (one ∷ front) more h =
      and_both _ _ (and_first (is_before name one.name) _ h)
      (front_ascends one.name front more (and_second (is_before name one.name) _ h))

  front_in_order :
      (front more : List (Member X)) →
      is_in_order (names_of (front ++ more)) ≡ true →
      is_in_order (names_of front) ≡ true
  front_in_order [] more h = refl
  front_in_order (one ∷ front) more h = front_ascends one.name front more h

  put_last :
      (front : List (Member X)) (last : Member X) →
      is_in_order (names_of (front ++ last ∷ [])) ≡ true →
      put last.name last.value front ≡ front ++ last ∷ []
  put_last [] last h = refl
  put_last (one ∷ more) last h =
      ap (λ o. match_ordering o (last ∷ one ∷ more) (member one.name last.value ∷ more)
      (one ∷ put last.name last.value more))
      (behind one.name last.name (last_behind one.name more last h)) ∙
      ap (λ members. one ∷ members) (put_last more last (rest_in_order one.name _ h))

  put_where_they_are :
      (front more : List (Member X)) →
      is_in_order (names_of (front ++ more)) ≡ true →
      put_all front more ≡ front ++ more
  put_where_they_are front [] h = sym (append-nil front)
  put_where_they_are front (one ∷ more) h =
      let there : (front ++ one ∷ []) ++ more ≡ front ++ one ∷ more =
      append_assoc front (one ∷ []) more in
      let whole : is_in_order (names_of ((front ++ one ∷ []) ++ more)) ≡ true =
      ap (λ members. is_in_order (names_of members)) there ∙ h in
      ap (λ members. put_all members more)
      (put_last front one (front_in_order (front ++ one ∷ []) more whole)) ∙
      put_where_they_are (front ++ one ∷ []) more whole ∙ there

  pub already_in_order :
      (members : List (Member X)) → is_in_order (names_of members) ≡ true →
      in_order members ≡ members
  already_in_order members h = put_where_they_are [] members h

  -- entries of members are these members again
  pub members_again :
      (members : List (Member X)) →
      map (λ entry. member entry.0 entry.1) (entries_of members) ≡ members
  members_again [] = refl
  members_again (one ∷ more) = ap (λ rest. one ∷ rest) (members_again more)
