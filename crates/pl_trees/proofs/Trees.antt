-- What `json` reads over the content's own text, beside what `serde_json` reads.
use Rattle.std.proofs.Common.{◌≡◌, ℕ, List, [], ◌∷◌, Bool, true, false, cond, ◌&&◌, refl, sym, ap}
use Rattle.std.proofs.Common.{◌∙◌, subst, Option, Some, None, option_map, option_and_then, Bor}
use Rattle.std.proofs.Common.{Ordering, Less, Equal, Greater, bytes_eq, true≢false}
use Rattle.std.proofs.lemmas.Map.Text.{is_eq-slice_cmp}
use Rattle.std.proofs.lemmas.Slice.Eq.{bytes_eq-Decides}
use Rattle.std.specs.BTreeMap.{insert_entry}
use Rattle.std.specs.Cmp.Lexicographic.{slice_cmp}
use Rattle.std.specs.Option.{is_some}
use Rattle.std.specs.Ordering.{is_eq, match_ordering, nat_cmp}
use Rattle.json.specs.Find as look
use Rattle.json.specs.Json as json
use Rattle.json.specs.Lex.{tokens}
use Rattle.json.specs.Token.{Token}
use Rattle.serde_json.proofs.Views.{get_member-put, get_member-put_other}
use Rattle.serde_json.specs.Data.{Num, Data, null, boolean, number, string, array, object, put}
use Rattle.serde_json.specs.Data.{Items, item, Members, no_members, member}
use Rattle.serde_json.specs.Find.{as_bool, as_number, as_object, as_str, get, get_member}
use Rattle.serde_json.specs.Read.{number_of, of_items, of_json, of_members, read}
use Rattle.pl_trees.specs.Trees.{are_among, has_only, is_among}
use Rattle.pl_trees.specs.Trees.{data_of, data_of_items, data_of_members, entries_seen, in_range}
use Rattle.pl_trees.specs.Trees.{items_in_range, keys_are_among, members_in_range, number_or_null}
use Rattle.pl_trees.specs.Trees.{seen}
use Rattle.pl_trees.specs.Views.{members_view}
use Rattle.pl_trees.specs.declared.tree.Tree.{Tree}

-- ---- the same value

abbrev pub guard : {A : Type 0} → Bool → A → Option A
guard b a = cond b (Some a) None

number_reads : (o : Option Num) → option_map number o ≡ guard (is_some o) (number_or_null o)
number_reads None = refl
number_reads (Some n) = refl

under : {A B : Type 0} (f : A → B) (b : Bool) (a : A) → option_map f (guard b a) ≡ guard b (f a)
under f true a = refl
under f false a = refl

item_reads :
    (b c : Bool) (d : Data) (ds : Items) →
    option_and_then (λ x. option_map (item x) (guard c ds)) (guard b d) ≡ guard (b && c) (item d ds)
item_reads true c d ds = under (item d) c ds
item_reads false c d ds = refl

member_reads :
    (b : Bool) (d : Data) (rest : Data → Option Members) (c : Bool) (found : Members) →
    rest d ≡ guard c found → option_and_then rest (guard b d) ≡ guard (b && c) found
member_reads true d rest c found e = e
member_reads false d rest c found e = refl

mutual
  -- of a value whose numbers are in range `serde_json` makes its data, and of another one nothing
  pub reads : (j : json.Json) → of_json j ≡ guard (in_range j) (data_of j)
  reads json.null = refl
  reads (json.boolean b) = refl
  reads (json.number s) = number_reads (number_of s)
  reads (json.string s) = refl
  reads (json.array js) =
      ap (option_map array) (items_read js) ∙ under array (items_in_range js) (data_of_items js)
  reads (json.object ms) =
      ap (option_map object) (members_read ms no_members)
      ∙ under object (members_in_range ms) (data_of_members ms no_members)

  items_read : (js : json.Items) → of_items js ≡ guard (items_in_range js) (data_of_items js)
  items_read json.no_items = refl
  items_read (json.item j js) =
      ap (option_and_then (λ d. option_map (item d) (of_items js))) (reads j)
      ∙ ap (λ more. option_and_then (λ d. option_map (item d) more)
      (guard (in_range j) (data_of j))) (items_read js)
      ∙ item_reads (in_range j) (items_in_range js) (data_of j) (data_of_items js)

  members_read :
      (ms : json.Members) (found : Members) →
      of_members ms found ≡ guard (members_in_range ms) (data_of_members ms found)
  members_read json.no_members found = refl
  members_read (json.member k j ms) found =
      ap (option_and_then (λ d. of_members ms (put k d found))) (reads j)
      ∙ member_reads (in_range j) (data_of j) (λ d. of_members ms (put k d found))
      (members_in_range ms) (data_of_members ms (put k (data_of j) found))
      (members_read ms (put k (data_of j) found))

-- a text's tokens are one value, begin with one and go on, or begin with none
pub one_value :
    (text : List ℕ) (j : json.Json) → json.value 127 (tokens text) ≡ Some (j, []) →
    read text ≡ of_json j
one_value text j e =
    ap (λ o. option_and_then of_json (option_and_then (λ p. json.if_last p.0 p.1) o)) e

pub value_and_more :
    (text : List ℕ) (j : json.Json) (t : Token) (ts : List Token) →
    json.value 127 (tokens text) ≡ Some (j, t ∷ ts) → read text ≡ None
value_and_more text j t ts e =
    ap (λ o. option_and_then of_json (option_and_then (λ p. json.if_last p.0 p.1) o)) e

pub no_value : (text : List ℕ) → json.value 127 (tokens text) ≡ None → read text ≡ None
no_value text e =
    ap (λ o. option_and_then of_json (option_and_then (λ p. json.if_last p.0 p.1) o)) e

-- a text has no number
pub text_in_range : (j : json.Json) → is_some (look.as_str j) ≡ true → in_range j ≡ true
text_in_range json.null e = refl
text_in_range (json.boolean b) e = refl
text_in_range (json.number s) e = absurd (true≢false (sym e))
text_in_range (json.string s) e = refl
text_in_range (json.array js) e = absurd (true≢false (sym e))
text_in_range (json.object ms) e = absurd (true≢false (sym e))

-- ---- looking into it

no_str : (o : Option Num) → as_str (number_or_null o) ≡ None
no_str None = refl
no_str (Some n) = refl

pub str_seen : (j : json.Json) → as_str (data_of j) ≡ look.as_str j
str_seen json.null = refl
str_seen (json.boolean b) = refl
str_seen (json.number s) = no_str (number_of s)
str_seen (json.string s) = refl
str_seen (json.array js) = refl
str_seen (json.object ms) = refl

no_bool : (o : Option Num) → as_bool (number_or_null o) ≡ None
no_bool None = refl
no_bool (Some n) = refl

pub bool_seen : (j : json.Json) → as_bool (data_of j) ≡ look.as_bool j
bool_seen json.null = refl
bool_seen (json.boolean b) = refl
bool_seen (json.number s) = no_bool (number_of s)
bool_seen (json.string s) = refl
bool_seen (json.array js) = refl
bool_seen (json.object ms) = refl

the_number : (o : Option Num) → as_number (number_or_null o) ≡ o
the_number None = refl
the_number (Some n) = refl

pub number_seen :
    (j : json.Json) → as_number (data_of j) ≡ option_and_then number_of (look.as_number j)
number_seen json.null = refl
number_seen (json.boolean b) = refl
number_seen (json.number s) = the_number (number_of s)
number_seen (json.string s) = refl
number_seen (json.array js) = refl
number_seen (json.object ms) = refl

abbrev later : Option Data → Option Data → Option Data
later None old = old
later (Some d) old = Some d

apart : (k q : List ℕ) → bytes_eq k q ≡ false → q ≡ k → ⊥
apart k q e same = true≢false (sym ((bytes_eq-Decides k q).1 (sym same)) ∙ e)

later_found :
    (q k : List ℕ) (j : json.Json) (found : Members) (o : Option json.Json) (b : Bool) →
    bytes_eq k q ≡ b →
    later (option_map data_of o) (get_member q (put k (data_of j) found))
    ≡ later (option_map data_of (look.later_or o (cond b (Some j) None))) (get_member q found)
later_found q k j found (Some x) b e = refl
later_found q k j found None true e =
    subst (λ name. get_member name (put k (data_of j) found) ≡ Some (data_of j))
    ((bytes_eq-Decides k q).0 e) (get_member-put k (data_of j) found)
later_found q k j found None false e = get_member-put_other q k (data_of j) found (apart k q e)

member_seen :
    (q : List ℕ) (ms : json.Members) (found : Members) →
    get_member q (data_of_members ms found)
    ≡ later (option_map data_of (look.get_member q ms)) (get_member q found)
member_seen q json.no_members found = refl
member_seen q (json.member k j ms) found =
    member_seen q ms (put k (data_of j) found)
    ∙ later_found q k j found (look.get_member q ms) (bytes_eq k q) refl

only_later : (o : Option Data) → later o None ≡ o
only_later None = refl
only_later (Some d) = refl

nothing : (q : List ℕ) (o : Option Num) → get q (number_or_null o) ≡ None
nothing q None = refl
nothing q (Some n) = refl

pub get_seen :
    (q : List ℕ) (j : json.Json) → get q (data_of j) ≡ option_map data_of (look.get q j)
get_seen q json.null = refl
get_seen q (json.boolean b) = refl
get_seen q (json.number s) = nothing q (number_of s)
get_seen q (json.string s) = refl
get_seen q (json.array js) = refl
get_seen q (json.object ms) =
    member_seen q ms no_members ∙ only_later (option_map data_of (look.get_member q ms))

-- ---- names of members

again : (b c : Bool) → (b && c) ≡ (b && (b && c))
again true c = refl
again false c = refl

turned : (a b c : Bool) → (a && (b && c)) ≡ (b && (a && c))
turned true b c = refl
turned false true c = refl
turned false false c = refl

with_last : (a b c : Bool) → (a && (b && c)) ≡ ((b && a) && c)
with_last true true c = refl
with_last true false c = refl
with_last false true c = refl
with_last false false c = refl

to_the_end : (b : Bool) → (b && true) ≡ b
to_the_end true = refl
to_the_end false = refl

module _ (names : List (List ℕ)) where
  among_put_by :
      (o : Ordering) (k l : List ℕ) (d e : Data) (ms : Members) → slice_cmp nat_cmp k l ≡ o →
      are_among names (put k d ms) ≡ (is_among names k && are_among names ms) →
      are_among names (match_ordering o (member k d (member l e ms)) (member l d ms)
      (member l e (put k d ms)))
      ≡ (is_among names k && (is_among names l && are_among names ms))
  among_put_by Less k l d e ms is rest = refl
  among_put_by Equal k l d e ms is rest =
      let same : k ≡ l = (bytes_eq-Decides k l).0 (sym (is_eq-slice_cmp k l) ∙ ap is_eq is) in
      again (is_among names l) (are_among names ms)
      ∙ ap (λ name. is_among names name && (is_among names l && are_among names ms)) (sym same)
  among_put_by Greater k l d e ms is rest =
      ap (λ b. is_among names l && b) rest
      ∙ turned (is_among names l) (is_among names k) (are_among names ms)

  among_put :
      (k : List ℕ) (d : Data) (ms : Members) →
      are_among names (put k d ms) ≡ (is_among names k && are_among names ms)
  among_put k d no_members = refl
  among_put k d (member l e ms) =
      among_put_by (slice_cmp nat_cmp k l) k l d e ms refl (among_put k d ms)

  among_all :
      (ms : json.Members) (found : Members) →
      are_among names (data_of_members ms found)
      ≡ (keys_are_among names ms && are_among names found)
  among_all json.no_members found = refl
  among_all (json.member k j ms) found =
      among_all ms (put k (data_of j) found)
      ∙ ap (λ b. keys_are_among names ms && b) (among_put k (data_of j) found)
      ∙ with_last (keys_are_among names ms) (is_among names k) (are_among names found)

  pub among_seen :
      (ms : json.Members) →
      are_among names (data_of_members ms no_members) ≡ keys_are_among names ms
  among_seen ms = among_all ms no_members ∙ to_the_end (keys_are_among names ms)

abbrev pub judged : List (List ℕ) → Option Members → Bool
judged names None = false
judged names (Some ms) = are_among names ms

pub only_of : (names : List (List ℕ)) (d : Data) → has_only names d ≡ judged names (as_object d)
only_of names null = refl
only_of names (boolean b) = refl
only_of names (number n) = refl
only_of names (string s) = refl
only_of names (array ds) = refl
only_of names (object ms) = refl

-- ---- values by their names

abbrev by_bytes : Bor (List ℕ) → Bor (List ℕ) → Ordering
by_bytes one other = slice_cmp nat_cmp one.now other.now

entries_by :
    (o : Ordering) (a b c : List (Bor (List ℕ) × Bor Tree)) →
    entries_seen (match_ordering o a b c)
    ≡ match_ordering o (entries_seen a) (entries_seen b) (entries_seen c)
entries_by Less a b c = refl
entries_by Equal a b c = refl
entries_by Greater a b c = refl

pub entries_put :
    (es : List (Bor (List ℕ) × Bor Tree)) (k : Bor (List ℕ)) (v : Bor Tree) →
    entries_seen (insert_entry by_bytes es k v) ≡ put k.now (seen v.now) (entries_seen es)
entries_put [] k v = refl
entries_put (e ∷ es) k v =
    entries_by (slice_cmp nat_cmp k.now e.0.now) _ _ _
    ∙ ap (λ (ms : Members). match_ordering (slice_cmp nat_cmp k.now e.0.now)
    (member k.now (seen v.now) (member e.0.now (seen e.1.now) (entries_seen es)))
    (member e.0.now (seen v.now) (entries_seen es)) (member e.0.now (seen e.1.now) ms))
    (entries_put es k v)

-- one member more
pub one_in :
    (whole : Members) (old new : List (Bor (List ℕ) × Bor Tree))
    (here rest : List (Bor (List ℕ) × Tree)) (x : Bor (List ℕ) × Tree) (k : Bor (List ℕ))
    (v : Bor Tree) → here ≡ x ∷ rest → k.now ≡ x.0.now → v.now ≡ x.1 →
    new ≡ insert_entry by_bytes old k v →
    data_of_members (members_view here) (entries_seen old) ≡ whole →
    data_of_members (members_view rest) (entries_seen new) ≡ whole
one_in whole old new here rest x k v is named valued put_in so_far =
    ap (λ es. data_of_members (members_view rest) (entries_seen es)) put_in
    ∙ ap (data_of_members (members_view rest)) (entries_put old k v)
    ∙ ap (λ name. data_of_members (members_view rest) (put name (seen v.now) (entries_seen old)))
    named
    ∙ ap (λ value. data_of_members (members_view rest)
    (put x.0.now (seen value) (entries_seen old))) valued
    ∙ sym (ap (λ ms. data_of_members (members_view ms) (entries_seen old)) is)
    ∙ so_far
