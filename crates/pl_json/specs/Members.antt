-- The members of an object (RFC 8259, section 4), each name once and in byte order.
use Rattle.std.specs.Prelude.{ℕ, Bool, true, ◌&&◌, List, [], ◌∷◌, map, refl}
use Rattle.std.specs.Coded.{Coded, code_by, coded×, coded_list, coded_ℕ}
use Rattle.std.specs.Ordering.{is_lt, match_ordering, nat_cmp}
use Rattle.std.specs.Cmp.Lexicographic.{slice_cmp}
use Rattle.pl_json.specs.declared.members.Member.{Member}

-- a name stands before another in byte order
abbrev pub is_before : List ℕ → List ℕ → Bool
is_before one other = is_lt (slice_cmp nat_cmp one other)

-- each name stands before the next one, from this one on
abbrev pub ascends : List ℕ → List (List ℕ) → Bool
ascends name [] = true
ascends name (next ∷ names) = is_before name next && ascends next names

abbrev pub is_in_order : List (List ℕ) → Bool
is_in_order [] = true
is_in_order (name ∷ names) = ascends name names

module _ {T : Type 0} where
  abbrev pub member : List ℕ → T → Member T
  member name value = record { name = name; value = value }

  abbrev pub names_of : List (Member T) → List (List ℕ)
  names_of members = map (λ one. one.name) members

  -- a member in its place, or in place of the one of its name
  abbrev pub put : List ℕ → T → List (Member T) → List (Member T)
  put name value [] = member name value ∷ []
  put name value (one ∷ more) = match_ordering (slice_cmp nat_cmp name one.name)
      (member name value ∷ one ∷ more) (member one.name value ∷ more) (one ∷ put name value more)

  -- one after the other
  abbrev pub put_all : List (Member T) → List (Member T) → List (Member T)
  put_all members [] = members
  put_all members (one ∷ more) = put_all (put one.name one.value members) more

  -- members in byte order of their names; of one name the last counts
  abbrev pub in_order : List (Member T) → List (Member T)
  in_order members = put_all [] members

  abbrev pub coded_member : Coded T → Coded (Member T)
  coded_member coded =
      code_by (List ℕ × T) (coded× (coded_list coded_ℕ) coded) (λ one. (one.name, one.value))
      (λ parts. member parts.0 parts.1) (λ _. refl)

  abbrev pub coded_members : Coded T → Coded (List (Member T))
  coded_members coded = coded_list (coded_member coded)
