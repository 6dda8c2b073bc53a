-- A printed text as characters.
use Rattle.std.proofs.Common.{◌≡◌, ℕ, Bool, true, ◌&&◌, List, [], ◌∷◌, ◌++◌, map, codes, refl, ap}
use Rattle.std.proofs.Common.{sym, ◌∙◌, rules}
use Rattle.std.specs.Prelude.{flat_map, chars, encode_utf8_all}
use Rattle.std.specs.Char.{encode_utf8}
use Rattle.std.specs.Str.{is_utf8}
use Rattle.std.specs.List.{list_all, AllByRecursion}
use Rattle.std.proofs.Math.Utf8.{scalars}
use Rattle.std.proofs.lemmas.Bool.{and_parts, and_from}
use Rattle.std.proofs.lemmas.List.{map-append}
use Rattle.std.proofs.lemmas.List.Folds.{list_all-append}
use Rattle.std.proofs.lemmas.Str.{chars-encodes, encodes-append, encodes-chars, scalars-chars}
use Rattle.std.proofs.lemmas.Str.{IsUtf8-from_is_utf8, is_utf8-from_IsUtf8}
use Rattle.pl_base.specs.declared.place.Place.{Place}
use Rattle.pl_base.specs.declared.node.Node.{Node, fold-Node}
use Rattle.pl_base.specs.declared.node.NodePair.{NodePair, fold-NodePair}
use Rattle.pl_base.specs.declared.node.NodeBody.{NodeBody, fold-NodeBody, the_lemmas}
use Rattle.pl_base.specs.declared.node.NodeBody.TheVariants as bodies
use Rattle.pl_base.specs.declared.node.NodeBody.TheOpen.{NodeBody-F, Node-F, NodePair-F, Scalar}
use Rattle.pl_base.specs.declared.node.NodeBody.TheOpen.{Seq, Map}
use Rattle.pl_printing.specs.Printed.{Line, Written, inline, below, indented, quoted, entry}
use Rattle.pl_printing.specs.Printed.{item_entry, pair_entry, sequence_of, mapping_of, lines_of}
use Rattle.pl_printing.specs.Printed.{written, written_body, written_pair, printed}
use Rattle.pl_printing.proofs.Nodes.{node_written, pair_written, sequence_written, mapping_written}
use Rattle.pl_round_trip.specs.Trees.{has_texts, texts_of_body, texts_of_pair, texts_in_body}
use Rattle.pl_round_trip.specs.Trees.{texts_in_node, texts_in_pair}
use Rattle.pl_round_trip.proofs.RowsTrees.{node_induction}
use Rattle.pl_round_trip.proofs.TextsEscapes.{quoted_bytes, quoted_scalars, scalars_append}

-- ---- trees of characters

-- a tree with other texts, at the same places
abbrev pub recoded_in_body : (List ℕ → List ℕ) → NodeBody-F NodeBody Node NodePair → NodeBody
recoded_in_body recode (Scalar text) = bodies.Scalar (recode text)
recoded_in_body recode (Seq items) = bodies.Seq items
recoded_in_body recode (Map pairs) = bodies.Map pairs

abbrev pub recoded_in_node : Node-F NodeBody Node NodePair → Node
recoded_in_node node = record { place = node.place; body = node.body }

abbrev pub recoded_in_pair : (List ℕ → List ℕ) → NodePair-F NodeBody Node NodePair → NodePair
recoded_in_pair recode pair = record {
  key = recode pair.key;
  key_place = pair.key_place;
  item =
      pair.item;
}

abbrev pub recoded : (List ℕ → List ℕ) → Node → Node
recoded recode = fold-Node NodeBody Node NodePair (recoded_in_body recode) recoded_in_node
    (recoded_in_pair recode)

abbrev pub recoded_body : (List ℕ → List ℕ) → NodeBody → NodeBody
recoded_body recode = fold-NodeBody NodeBody Node NodePair (recoded_in_body recode) recoded_in_node
    (recoded_in_pair recode)

abbrev pub recoded_pair : (List ℕ → List ℕ) → NodePair → NodePair
recoded_pair recode = fold-NodePair NodeBody Node NodePair (recoded_in_body recode) recoded_in_node
    (recoded_in_pair recode)

-- bytes as characters, and characters as bytes
abbrev pub decoded : Node → Node
decoded = recoded chars

abbrev pub encoded : Node → Node
encoded = recoded encode_utf8_all

pub node_recoded :
    (recode : List ℕ → List ℕ) (node : Node) →
    recoded recode node ≡ record { place = node.place; body = recoded_body recode node.body }
node_recoded recode node = search (rules, the_lemmas)

pub pair_recoded : (recode : List ℕ → List ℕ) (pair : NodePair)
    → recoded_pair recode pair ≡ record {
      key = recode pair.key;
      key_place = pair.key_place;
      item =
          recoded recode pair.item;
    }
pair_recoded recode pair = search (rules, the_lemmas)

pub scalar_recoded :
    (recode : List ℕ → List ℕ) (text : List ℕ) →
    recoded_body recode (bodies.Scalar text) ≡ bodies.Scalar (recode text)
scalar_recoded recode text = search (rules, the_lemmas)

pub sequence_recoded :
    (recode : List ℕ → List ℕ) (items : List Node) →
    recoded_body recode (bodies.Seq items) ≡ bodies.Seq (map (recoded recode) items)
sequence_recoded recode items = search (rules, the_lemmas)

pub mapping_recoded :
    (recode : List ℕ → List ℕ) (pairs : List NodePair) →
    recoded_body recode (bodies.Map pairs) ≡ bodies.Map (map (recoded_pair recode) pairs)
mapping_recoded recode pairs = search (rules, the_lemmas)

-- ---- whose texts are UTF-8

pub node_texts : (node : Node) → has_texts node ≡ texts_of_body node.body
node_texts node = search (rules, the_lemmas)

pub pair_texts : (pair : NodePair) → texts_of_pair pair ≡ (is_utf8 pair.key && has_texts pair.item)
pair_texts pair = search (rules, the_lemmas)

pub scalar_texts : (text : List ℕ) → texts_of_body (bodies.Scalar text) ≡ is_utf8 text
scalar_texts text = search (rules, the_lemmas)

pub sequence_texts :
    (items : List Node) →
    texts_of_body (bodies.Seq items) ≡ list_all (λ texts. texts) (map has_texts items)
sequence_texts items = search (rules, the_lemmas)

pub mapping_texts :
    (pairs : List NodePair) →
    texts_of_body (bodies.Map pairs) ≡ list_all (λ texts. texts) (map texts_of_pair pairs)
mapping_texts pairs = search (rules, the_lemmas)

-- what holds of each item of a sequence and each pair of a mapping
texts_each :
    {X : Type 0} (test : X → Bool) (P : X → Type 0) (xs : List X) →
    list_all (λ texts. texts) (map test xs) ≡ true
    → AllByRecursion (λ x. test x ≡ true → P x) xs → AllByRecursion P xs
texts_each test P [] all each = tt
texts_each test P (x ∷ xs) all each =
    let parts = and_parts (test x) (list_all (λ texts. texts) (map test xs)) all in
    (each.0 parts.0, texts_each test P xs parts.1 each.1)

map_back :
    {X : Type 0} (f g : X → X) (xs : List X) → AllByRecursion (λ x. g (f x) ≡ x) xs →
    map g (map f xs) ≡ xs
map_back f g [] all = refl
map_back f g (x ∷ xs) all = ap (λ y. y ∷ map g (map f xs)) all.0 ∙
    ap (λ ys. x ∷ ys) (map_back f g xs all.1)

map_both : {X Y Z W : Type 0} (f : Y → Z) (g : X → Y) (h : W → Z) (k : X → W) (xs : List X)
    → AllByRecursion (λ x. f (g x) ≡ h (k x)) xs → map f (map g xs) ≡ map h (map k xs)
map_both f g h k [] all = refl
map_both f g h k (x ∷ xs) all = ap (λ y. y ∷ map f (map g xs)) all.0 ∙
    ap (λ ys. h (k x) ∷ ys) (map_both f g h k xs all.1)

-- ---- a tree of texts is what the bytes of its characters are

text_again : (text : List ℕ) → is_utf8 text ≡ true → encode_utf8_all (chars text) ≡ text
text_again text utf8 = encodes-chars text (IsUtf8-from_is_utf8 text utf8)

bytes_of_body : NodeBody → NodeBody
bytes_of_body = recoded_body encode_utf8_all

chars_of_body : NodeBody → NodeBody
chars_of_body = recoded_body chars

bytes_of_pair : NodePair → NodePair
bytes_of_pair = recoded_pair encode_utf8_all

chars_of_pair : NodePair → NodePair
chars_of_pair = recoded_pair chars

scalar_again :
    (text : List ℕ) → texts_of_body (bodies.Scalar text) ≡ true →
    bytes_of_body (chars_of_body (bodies.Scalar text)) ≡ bodies.Scalar text
unfolding bytes_of_body chars_of_body
scalar_again text utf8 =
    ap bytes_of_body (scalar_recoded chars text)
    ∙ (scalar_recoded encode_utf8_all (chars text) ∙
    ap bodies.Scalar (text_again text (sym (scalar_texts text) ∙ utf8)))

sequence_again :
    (items : List Node) →
    AllByRecursion (λ item. has_texts item ≡ true → encoded (decoded item) ≡ item) items
    → texts_of_body (bodies.Seq items) ≡ true → bytes_of_body (chars_of_body (bodies.Seq items)) ≡
    bodies.Seq items
unfolding bytes_of_body chars_of_body
sequence_again items each utf8 =
    ap bytes_of_body (sequence_recoded chars items)
    ∙ (sequence_recoded encode_utf8_all (map decoded items)
    ∙ ap bodies.Seq
    (map_back decoded encoded items (texts_each has_texts (λ item. encoded (decoded item) ≡
    item) items (sym (sequence_texts items) ∙ utf8) each)))

mapping_again :
    (pairs : List NodePair) →
    AllByRecursion (λ pair. texts_of_pair pair ≡ true → bytes_of_pair (chars_of_pair pair) ≡ pair)
    pairs
    → texts_of_body (bodies.Map pairs) ≡ true → bytes_of_body (chars_of_body (bodies.Map pairs)) ≡
    bodies.Map pairs
unfolding bytes_of_body chars_of_body bytes_of_pair chars_of_pair
mapping_again pairs each utf8 =
    ap bytes_of_body (mapping_recoded chars pairs)
    ∙ (mapping_recoded encode_utf8_all (map chars_of_pair pairs)
    ∙ ap bodies.Map (map_back chars_of_pair bytes_of_pair pairs
    (texts_each texts_of_pair (λ pair. bytes_of_pair (chars_of_pair pair) ≡ pair) pairs
    (sym (mapping_texts pairs) ∙ utf8) each)))

node_again :
    (place : Place) (body : NodeBody) →
    (texts_of_body body ≡ true → bytes_of_body (chars_of_body body) ≡ body)
    → has_texts (record { place = place; body = body }) ≡ true →
    encoded (decoded (record { place = place; body = body })) ≡
    record { place = place; body = body }
unfolding bytes_of_body chars_of_body
node_again place body inside utf8 =
    ap encoded (node_recoded chars (record { place = place; body = body }))
    ∙ (node_recoded encode_utf8_all (record { place = place; body = recoded_body chars body })
    ∙ ap (λ (b : NodeBody). record { place = place; body = b })
    (inside (sym (node_texts (record { place = place; body = body })) ∙ utf8)))

pair_again :
    (key : List ℕ) (key_place : Place) (item : Node) →
    (has_texts item ≡ true → encoded (decoded item) ≡ item)
    → texts_of_pair (record { key = key; key_place = key_place; item = item }) ≡ true
    → bytes_of_pair (chars_of_pair (record { key = key; key_place = key_place; item = item })) ≡
    record { key = key; key_place = key_place; item = item }
unfolding bytes_of_pair chars_of_pair
pair_again key key_place item inside utf8 =
    let parts = and_parts (is_utf8 key) (has_texts item)
    (sym (pair_texts (record { key = key; key_place = key_place; item = item })) ∙ utf8) in
    ap bytes_of_pair (pair_recoded chars (record { key = key; key_place = key_place; item = item }))
    ∙ (pair_recoded encode_utf8_all (record {
      key = chars key;
      key_place = key_place;
      item =
          decoded item;
    })
    ∙ (ap (λ (k : List ℕ). record { key = k; key_place = key_place; item = encoded (decoded item) })
    (text_again key parts.0)
    ∙ ap (λ (n : Node). record { key = key; key_place = key_place; item = n }) (inside parts.1)))

pub encoded_decoded : (node : Node) → has_texts node ≡ true → encoded (decoded node) ≡ node
encoded_decoded =
    node_induction
    (λ body. texts_of_body body ≡ true → bytes_of_body (chars_of_body body) ≡ body)
    (λ node. has_texts node ≡ true → encoded (decoded node) ≡ node)
    (λ pair. texts_of_pair pair ≡ true → bytes_of_pair (chars_of_pair pair) ≡ pair)
    scalar_again sequence_again mapping_again node_again pair_again

-- ---- what is printed of the bytes is the bytes of what is printed of the characters

bytes_of_lines : List Line → List Line
bytes_of_lines lines = map encode_utf8_all lines

bytes_of : Written → Written
bytes_of (inline text) = inline (encode_utf8_all text)
bytes_of (below lines) = below (bytes_of_lines lines)

lines_bytes : (node : Written) → lines_of (bytes_of node) ≡ bytes_of_lines (lines_of node)
unfolding bytes_of bytes_of_lines
lines_bytes (inline text) = refl
lines_bytes (below lines) = refl

indented_bytes :
    (lines : List Line) → indented (bytes_of_lines lines) ≡ bytes_of_lines (indented lines)
unfolding bytes_of_lines encode_utf8
indented_bytes [] = refl
indented_bytes (line ∷ lines) = ap (λ more. (32 ∷ 32 ∷ encode_utf8_all line) ∷ more)
    (indented_bytes lines)

entry_bytes :
    (mark : Line) (node : Written) →
    entry (encode_utf8_all mark) (bytes_of node) ≡ bytes_of_lines (entry mark node)
unfolding bytes_of bytes_of_lines encode_utf8
entry_bytes mark (inline text) = ap (λ line. line ∷ []) (sym (encodes-append mark (32 ∷ text)))
entry_bytes mark (below lines) = ap (λ more. encode_utf8_all mark ∷ more) (indented_bytes lines)

item_bytes : (node : Written) → item_entry (bytes_of node) ≡ bytes_of_lines (item_entry node)
unfolding encode_utf8
item_bytes node = entry_bytes (codes "-") node

pair_bytes :
    (key : List ℕ) (node : Written) →
    pair_entry (encode_utf8_all key) (bytes_of node) ≡ bytes_of_lines (pair_entry key node)
unfolding encode_utf8
pair_bytes key node =
    ap (λ mark. entry mark (bytes_of node)) (ap (λ bytes. bytes ++ codes ":") (quoted_bytes key) ∙
    sym (encodes-append (quoted key) (codes ":")))
    ∙ entry_bytes (quoted key ++ codes ":") node

lines_append :
    (xs ys : List Line) → bytes_of_lines (xs ++ ys) ≡ bytes_of_lines xs ++ bytes_of_lines ys
unfolding bytes_of_lines
lines_append xs ys = map-append encode_utf8_all xs ys

items_bytes :
    (items : List Written) →
    flat_map item_entry (map bytes_of items) ≡ bytes_of_lines (flat_map item_entry items)
unfolding bytes_of_lines
items_bytes [] = refl
items_bytes (item ∷ items) =
    ap (λ lines. lines ++ flat_map item_entry (map bytes_of items)) (item_bytes item)
    ∙ (ap (λ lines. bytes_of_lines (item_entry item) ++ lines) (items_bytes items)
    ∙ sym (lines_append (item_entry item) (flat_map item_entry items)))

sequence_bytes :
    (items : List Written) → sequence_of (map bytes_of items) ≡ bytes_of (sequence_of items)
unfolding bytes_of encode_utf8
sequence_bytes [] = refl
sequence_bytes (item ∷ items) = ap below (items_bytes (item ∷ items))

pairs_bytes :
    (pairs : List (List Line)) →
    flat_map (λ entry. entry) (map bytes_of_lines pairs) ≡
    bytes_of_lines (flat_map (λ entry. entry) pairs)
unfolding bytes_of_lines
pairs_bytes [] = refl
pairs_bytes (lines ∷ more) =
    ap (λ rest. bytes_of_lines lines ++ rest) (pairs_bytes more)
    ∙ sym (lines_append lines (flat_map (λ entry. entry) more))

mapping_bytes :
    (pairs : List (List Line)) → mapping_of (map bytes_of_lines pairs) ≡ bytes_of (mapping_of pairs)
unfolding bytes_of encode_utf8
mapping_bytes [] = refl
mapping_bytes (lines ∷ more) = ap below (pairs_bytes (lines ∷ more))

scalar_written : (text : List ℕ) → written_body (bodies.Scalar text) ≡ inline (quoted text)
scalar_written text = search (rules, the_lemmas)

scalar_bytes :
    (text : List ℕ) →
    written_body (bytes_of_body (bodies.Scalar text)) ≡ bytes_of (written_body (bodies.Scalar text))
unfolding bytes_of_body bytes_of
scalar_bytes text =
    ap written_body (scalar_recoded encode_utf8_all text)
    ∙ (scalar_written (encode_utf8_all text)
    ∙ (ap inline (quoted_bytes text)
    ∙ ap bytes_of (sym (scalar_written text))))

written_items :
    (items : List Node) →
    AllByRecursion (λ item. written (encoded item) ≡ bytes_of (written item)) items
    → written_body (bytes_of_body (bodies.Seq items)) ≡ bytes_of (written_body (bodies.Seq items))
unfolding bytes_of_body
written_items items each =
    ap written_body (sequence_recoded encode_utf8_all items)
    ∙ (sequence_written (map encoded items)
    ∙ (ap sequence_of (map_both written encoded bytes_of written items each)
    ∙ (sequence_bytes (map written items)
    ∙ ap bytes_of (sym (sequence_written items)))))

written_pairs :
    (pairs : List NodePair) →
    AllByRecursion (λ pair. written_pair (bytes_of_pair pair) ≡ bytes_of_lines (written_pair pair))
    pairs
    → written_body (bytes_of_body (bodies.Map pairs)) ≡ bytes_of (written_body (bodies.Map pairs))
unfolding bytes_of_body bytes_of_pair
written_pairs pairs each =
    ap written_body (mapping_recoded encode_utf8_all pairs)
    ∙ (mapping_written (map bytes_of_pair pairs)
    ∙ (ap mapping_of (map_both written_pair bytes_of_pair bytes_of_lines written_pair pairs each)
    ∙ (mapping_bytes (map written_pair pairs)
    ∙ ap bytes_of (sym (mapping_written pairs)))))

written_node :
    (place : Place) (body : NodeBody) →
    written_body (bytes_of_body body) ≡ bytes_of (written_body body)
    → written (encoded (record { place = place; body = body })) ≡
    bytes_of (written (record { place = place; body = body }))
unfolding bytes_of_body
written_node place body inside =
    ap written (node_recoded encode_utf8_all (record { place = place; body = body }))
    ∙ (node_written (record { place = place; body = recoded_body encode_utf8_all body })
    ∙ (inside
    ∙ ap bytes_of (sym (node_written (record { place = place; body = body })))))

written_entry :
    (key : List ℕ) (key_place : Place) (item : Node) →
    written (encoded item) ≡ bytes_of (written item)
    → written_pair (bytes_of_pair (record { key = key; key_place = key_place; item = item })) ≡
    bytes_of_lines (written_pair (record { key = key; key_place = key_place; item = item }))
unfolding bytes_of_pair
written_entry key key_place item inside =
    ap written_pair (pair_recoded encode_utf8_all (record {
      key = key;
      key_place = key_place;
      item =
          item;
    }))
    ∙ (pair_written (record {
      key = encode_utf8_all key;
      key_place = key_place;
      item =
          encoded item;
    })
    ∙ (ap (pair_entry (encode_utf8_all key)) inside
    ∙ (pair_bytes key (written item)
    ∙ ap bytes_of_lines
    (sym (pair_written (record { key = key; key_place = key_place; item = item }))))))

written_bytes : (node : Node) → written (encoded node) ≡ bytes_of (written node)
written_bytes =
    node_induction
    (λ body. written_body (bytes_of_body body) ≡ bytes_of (written_body body))
    (λ node. written (encoded node) ≡ bytes_of (written node))
    (λ pair. written_pair (bytes_of_pair pair) ≡ bytes_of_lines (written_pair pair))
    scalar_bytes written_items written_pairs written_node written_entry

broken_bytes :
    (lines : List Line) →
    flat_map (λ line. line ++ 10 ∷ []) (bytes_of_lines lines) ≡
    encode_utf8_all (flat_map (λ line. line ++ 10 ∷ []) lines)
unfolding bytes_of_lines encode_utf8
broken_bytes [] = refl
broken_bytes (line ∷ lines) =
    let rest : List ℕ = flat_map (λ line. line ++ 10 ∷ []) lines in
    ap (λ bytes. (encode_utf8_all line ++ 10 ∷ []) ++ bytes) (broken_bytes lines)
    ∙ (ap (λ bytes. bytes ++ encode_utf8_all rest) (sym (encodes-append line (10 ∷ [])))
    ∙ sym (encodes-append (line ++ 10 ∷ []) rest))

printed_bytes : (node : Node) → printed (encoded node) ≡ encode_utf8_all (printed node)
printed_bytes node =
    ap (λ w. flat_map (λ line. line ++ 10 ∷ []) (lines_of w)) (written_bytes node)
    ∙ (ap (flat_map (λ line. line ++ 10 ∷ [])) (lines_bytes (written node))
    ∙ broken_bytes (lines_of (written node)))

-- ---- its characters are Unicode scalar values

all_scalars : List Line → Bool
all_scalars = list_all scalars

indented_scalars :
    (lines : List Line) → all_scalars lines ≡ true → all_scalars (indented lines) ≡ true
unfolding all_scalars
indented_scalars [] all = refl
indented_scalars (line ∷ lines) all =
    let parts = and_parts (scalars line) (all_scalars lines) all in
    and_from (scalars line) (all_scalars (indented lines)) parts.0 (indented_scalars lines parts.1)

entry_scalars :
    (mark : Line) (node : Written) → scalars mark ≡ true → all_scalars (lines_of node) ≡ true →
    all_scalars (entry mark node) ≡ true
unfolding all_scalars
entry_scalars mark (inline text) first all =
    let parts = and_parts (scalars text) true all in
    and_from (scalars (mark ++ 32 ∷ text)) true (scalars_append mark (32 ∷ text) first parts.0) refl
entry_scalars mark (below lines) first all = and_from (scalars mark) (all_scalars (indented lines))
    first (indented_scalars lines all)

text_scalars : (text : List ℕ) → is_utf8 text ≡ true → scalars (chars text) ≡ true
text_scalars text utf8 = scalars-chars text (IsUtf8-from_is_utf8 text utf8)

scalar_characters :
    (text : List ℕ) → texts_of_body (bodies.Scalar text) ≡ true →
    all_scalars (lines_of (written_body (chars_of_body (bodies.Scalar text)))) ≡ true
unfolding chars_of_body all_scalars
scalar_characters text utf8 =
    ap (λ body. all_scalars (lines_of (written_body body))) (scalar_recoded chars text)
    ∙ (ap (λ w. all_scalars (lines_of w)) (scalar_written (chars text))
    ∙ and_from (scalars (quoted (chars text))) true
    (quoted_scalars (chars text) (text_scalars text (sym (scalar_texts text) ∙ utf8))) refl)

sequence_characters :
    (items : List Node) →
    AllByRecursion (λ item. has_texts item ≡ true →
    all_scalars (lines_of (written (decoded item))) ≡ true) items
    → texts_of_body (bodies.Seq items) ≡ true →
    all_scalars (lines_of (written_body (chars_of_body (bodies.Seq items)))) ≡ true
unfolding chars_of_body all_scalars
sequence_characters items each utf8 =
    ap (λ body. all_scalars (lines_of (written_body body))) (sequence_recoded chars items)
    ∙ (ap (λ w. all_scalars (lines_of w)) (sequence_written (map decoded items))
    ∙ lines_scalars items
    (texts_each has_texts (λ item. all_scalars (lines_of (written (decoded item))) ≡ true) items
    (sym (sequence_texts items) ∙ utf8) each))
  where
    each_entry :
        (items : List Node) →
        AllByRecursion (λ item. all_scalars (lines_of (written (decoded item))) ≡ true) items
        → all_scalars (flat_map item_entry (map written (map decoded items))) ≡ true
    each_entry [] all = refl
    each_entry (item ∷ items) all =
        list_all-append scalars (item_entry (written (decoded item)))
        (flat_map item_entry (map written (map decoded items)))
        ∙ and_from _ _ (entry_scalars (codes "-") (written (decoded item)) refl all.0)
        (each_entry items all.1)

    lines_scalars :
        (items : List Node) →
        AllByRecursion (λ item. all_scalars (lines_of (written (decoded item))) ≡ true) items
        → all_scalars (lines_of (sequence_of (map written (map decoded items)))) ≡ true
    lines_scalars [] all = refl
    lines_scalars (item ∷ items) all = each_entry (item ∷ items) all

mapping_characters :
    (pairs : List NodePair) →
    AllByRecursion (λ pair. texts_of_pair pair ≡ true →
    all_scalars (written_pair (chars_of_pair pair)) ≡ true) pairs
    → texts_of_body (bodies.Map pairs) ≡ true →
    all_scalars (lines_of (written_body (chars_of_body (bodies.Map pairs)))) ≡ true
unfolding chars_of_body chars_of_pair all_scalars
mapping_characters pairs each utf8 =
    ap (λ body. all_scalars (lines_of (written_body body))) (mapping_recoded chars pairs)
    ∙ (ap (λ w. all_scalars (lines_of w)) (mapping_written (map chars_of_pair pairs))
    ∙ lines_scalars pairs
    (texts_each texts_of_pair (λ pair. all_scalars (written_pair (chars_of_pair pair)) ≡ true)
    pairs (sym (mapping_texts pairs) ∙ utf8) each))
  where
    each_entry :
        (pairs : List NodePair) →
        AllByRecursion (λ pair. all_scalars (written_pair (chars_of_pair pair)) ≡ true) pairs
        → all_scalars (flat_map (λ entry. entry) (map written_pair (map chars_of_pair pairs))) ≡
        true
    each_entry [] all = refl
    each_entry (pair ∷ pairs) all =
        list_all-append scalars (written_pair (chars_of_pair pair))
        (flat_map (λ entry. entry) (map written_pair (map chars_of_pair pairs)))
        ∙ and_from _ _ all.0 (each_entry pairs all.1)

    lines_scalars :
        (pairs : List NodePair) →
        AllByRecursion (λ pair. all_scalars (written_pair (chars_of_pair pair)) ≡ true) pairs
        → all_scalars (lines_of (mapping_of (map written_pair (map chars_of_pair pairs)))) ≡ true
    lines_scalars [] all = refl
    lines_scalars (pair ∷ pairs) all = each_entry (pair ∷ pairs) all

node_characters :
    (place : Place) (body : NodeBody) →
    (texts_of_body body ≡ true → all_scalars (lines_of (written_body (chars_of_body body))) ≡ true)
    → has_texts (record { place = place; body = body }) ≡ true →
    all_scalars (lines_of (written (decoded (record { place = place; body = body })))) ≡ true
unfolding chars_of_body
node_characters place body inside utf8 =
    ap (λ node. all_scalars (lines_of (written node)))
    (node_recoded chars (record { place = place; body = body }))
    ∙ (ap (λ w. all_scalars (lines_of w))
    (node_written (record { place = place; body = recoded_body chars body }))
    ∙ inside (sym (node_texts (record { place = place; body = body })) ∙ utf8))

pair_characters :
    (key : List ℕ) (key_place : Place) (item : Node) →
    (has_texts item ≡ true → all_scalars (lines_of (written (decoded item))) ≡ true)
    → texts_of_pair (record { key = key; key_place = key_place; item = item }) ≡ true
    → all_scalars
    (written_pair (chars_of_pair (record { key = key; key_place = key_place; item = item }))) ≡
    true
unfolding chars_of_pair
pair_characters key key_place item inside utf8 =
    let parts = and_parts (is_utf8 key) (has_texts item)
    (sym (pair_texts (record { key = key; key_place = key_place; item = item })) ∙ utf8) in
    ap (λ pair. all_scalars (written_pair pair))
    (pair_recoded chars (record { key = key; key_place = key_place; item = item }))
    ∙ (ap all_scalars
    (pair_written (record { key = chars key; key_place = key_place; item = decoded item }))
    ∙ entry_scalars (quoted (chars key) ++ codes ":") (written (decoded item))
    (scalars_append (quoted (chars key)) (codes ":")
    (quoted_scalars (chars key) (text_scalars key parts.0)) refl)
    (inside parts.1))

written_scalars :
    (node : Node) → has_texts node ≡ true → all_scalars (lines_of (written (decoded node))) ≡ true
written_scalars =
    node_induction
    (λ body. texts_of_body body ≡ true →
    all_scalars (lines_of (written_body (chars_of_body body))) ≡ true)
    (λ node. has_texts node ≡ true → all_scalars (lines_of (written (decoded node))) ≡ true)
    (λ pair. texts_of_pair pair ≡ true → all_scalars (written_pair (chars_of_pair pair)) ≡ true)
    scalar_characters sequence_characters mapping_characters node_characters pair_characters

broken_scalars :
    (lines : List Line) → all_scalars lines ≡ true →
    scalars (flat_map (λ line. line ++ 10 ∷ []) lines) ≡ true
unfolding all_scalars
broken_scalars [] all = refl
broken_scalars (line ∷ lines) all =
    let parts = and_parts (scalars line) (all_scalars lines) all in
    scalars_append (line ++ 10 ∷ []) (flat_map (λ line. line ++ 10 ∷ []) lines)
    (scalars_append line (10 ∷ []) parts.0 refl) (broken_scalars lines parts.1)

printed_scalars : (node : Node) → has_texts node ≡ true → scalars (printed (decoded node)) ≡ true
printed_scalars node utf8 = broken_scalars (lines_of (written (decoded node)))
    (written_scalars node utf8)

-- ---- the printed form

-- it is the bytes of what is printed of the tree of characters
printed_encoded :
    (node : Node) → has_texts node ≡ true → encode_utf8_all (printed (decoded node)) ≡ printed node
printed_encoded node utf8 = sym (printed_bytes (decoded node)) ∙
    ap printed (encoded_decoded node utf8)

pub printed_is_text : (node : Node) → has_texts node ≡ true → is_utf8 (printed node) ≡ true
printed_is_text node utf8 =
    is_utf8-from_IsUtf8 (printed node) (
      printed (decoded node),
      (printed_scalars node utf8, printed_encoded node utf8),
    )

pub printed_chars :
    (node : Node) → has_texts node ≡ true → chars (printed node) ≡ printed (decoded node)
printed_chars node utf8 =
    ap chars (sym (printed_encoded node utf8)) ∙ chars-encodes (printed (decoded node))
    (printed_scalars node utf8)
