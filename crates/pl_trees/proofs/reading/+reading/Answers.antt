use Rattle.std.proofs.Common.{◌≡◌, ◌-◌, ◌<◌, [], ◌∷◌, ◌++◌, length, Some, None, sym, ap, ap₂}
use Rattle.std.proofs.Common.{◌∙◌, arith, rules}
use Rattle.json.specs.Token.{Token}
use Rattle.json.specs.Json.{Json, array, object, parse_map, after_end_array, read_key, items}
use Rattle.json.specs.Json.{members, value}
use Rattle.json.specs.Reads.{token_of}
use Rattle.json.proofs.Grammar.{value_is, value-begin_array, value-begin_object, read_key-shorter}
use Rattle.json.proofs.Grammar.{items_end, items_fail, items_more, members_end, members_no_key}
use Rattle.json.proofs.Grammar.{members_fail, members_more}
use Rattle.pl_trees.specs.Views.{list_view, tree_view}
use Rattle.pl_trees.specs.declared.tree.Tree.{Text, Number, Bool, Null, the_lemmas}
use Rattle.pl_trees.proofs.Lists.{before, before_none, members_before, members_before_none}
use Rattle.pl_trees.proofs.Lists.{none_before, one_item, one_more, one_more_member, one_text}
use Rattle.pl_trees.proofs.Lists.{view_object}
use Rattle.pl_trees.proofs.reading.+reading.Goals as goal

pub read_value-returns-in_err-token-clause-bad : goal.read_value-returns-in_err-token-clause-bad
read_value-returns-in_err-token-clause-bad t c bad =
    let empty : c.args.reader.now ≡ [] = grind arith in
    ap (value c.args.depth) empty ∙ value_is c.args.depth []

pub value_from-returns-then-depth-eq0-clause-bad : goal.value_from-returns-then-depth-eq0-clause-bad
unfolding value
value_from-returns-then-depth-eq0-clause-bad t c never =
    let none : c.args.depth ≡ 0 = omega arith in
    ap₂ value none (ap (λ k. token_of k ∷ c.args.reader.now) c.in-BeginArray.is)

pub value_from-returns-in_err-read_items-in-BeginArray-clause-bad
    : goal.value_from-returns-in_err-read_items-in-BeginArray-clause-bad
value_from-returns-in_err-read_items-in-BeginArray-clause-bad t c bad =
    let opened =
    ap (value c.args.depth) (ap (λ k. token_of k ∷ c.args.reader.now) c.in-BeginArray.is)
    ∙ value-begin_array c.args.depth c.args.reader.now (omega arith) in
    let failed : items (value (c.args.depth - 1)) (length c.args.reader.now) c.args.reader.now
    ≡ None = grind arith in
    opened ∙ ap (parse_map array) failed

pub value_from-returns-then-depth-eq0-2-clause-bad
    : goal.value_from-returns-then-depth-eq0-2-clause-bad
unfolding value
value_from-returns-then-depth-eq0-2-clause-bad t c never =
    let none : c.args.depth ≡ 0 = omega arith in
    ap₂ value none (ap (λ k. token_of k ∷ c.args.reader.now) c.in-BeginObject.is)

pub value_from-returns-in_err-read_members-in-BeginObject-clause-bad
    : goal.value_from-returns-in_err-read_members-in-BeginObject-clause-bad
value_from-returns-in_err-read_members-in-BeginObject-clause-bad t c bad =
    let opened =
    ap (value c.args.depth) (ap (λ k. token_of k ∷ c.args.reader.now) c.in-BeginObject.is)
    ∙ value-begin_object c.args.depth c.args.reader.now (omega arith) in
    let failed : members (value (c.args.depth - 1)) (length c.args.reader.now) c.args.reader.now
    ≡ None = grind arith in
    opened ∙ ap (parse_map object) failed

pub value_from-returns-in-String-clause-ok : goal.value_from-returns-in-String-clause-ok
value_from-returns-in-String-clause-ok t c =
    let is : token_of c.args.token ∷ c.args.reader.now
    ≡ Token.string c.in-String.text.now ∷ c.args.reader.now =
    ap (λ k. token_of k ∷ c.args.reader.now) c.in-String.is in
    let seen : tree_view (Text c.in-String.text) ≡ Json.string c.in-String.text.now =
    search (rules, the_lemmas) in
    ap (value c.args.depth) is ∙ value_is c.args.depth _
    ∙ ap (λ j. Some (j, c.args.reader.now)) (sym seen)

pub value_from-returns-in-Number-clause-ok : goal.value_from-returns-in-Number-clause-ok
value_from-returns-in-Number-clause-ok t c =
    let is : token_of c.args.token ∷ c.args.reader.now
    ≡ Token.number c.in-Number.text.now ∷ c.args.reader.now =
    ap (λ k. token_of k ∷ c.args.reader.now) c.in-Number.is in
    let seen : tree_view (Number c.in-Number.text) ≡ Json.number c.in-Number.text.now =
    search (rules, the_lemmas) in
    ap (value c.args.depth) is ∙ value_is c.args.depth _
    ∙ ap (λ j. Some (j, c.args.reader.now)) (sym seen)

pub value_from-returns-in-Bool-clause-ok : goal.value_from-returns-in-Bool-clause-ok
value_from-returns-in-Bool-clause-ok t c =
    let is : token_of c.args.token ∷ c.args.reader.now
    ≡ Token.boolean c.in-Bool.b ∷ c.args.reader.now =
    ap (λ k. token_of k ∷ c.args.reader.now) c.in-Bool.is in
    let seen : tree_view (Bool c.in-Bool.b) ≡ Json.boolean c.in-Bool.b =
    search (rules, the_lemmas) in
    ap (value c.args.depth) is ∙ value_is c.args.depth _
    ∙ ap (λ j. Some (j, c.args.reader.now)) (sym seen)

pub value_from-returns-in-Null-clause-ok : goal.value_from-returns-in-Null-clause-ok
value_from-returns-in-Null-clause-ok t c =
    let is : token_of c.args.token ∷ c.args.reader.now ≡ Token.null ∷ c.args.reader.now =
    ap (λ k. token_of k ∷ c.args.reader.now) c.in-Null.is in
    let seen : tree_view (Null) ≡ Json.null = search (rules, the_lemmas) in
    ap (value c.args.depth) is ∙ value_is c.args.depth _
    ∙ ap (λ j. Some (j, c.args.reader.now)) (sym seen)

pub value_from-returns-in-EndObject-clause-bad : goal.value_from-returns-in-EndObject-clause-bad
value_from-returns-in-EndObject-clause-bad t c bad =
    rw (value_is c.args.depth (token_of c.args.token ∷ c.args.reader.now)) (grind arith)

pub value_from-returns-in_ok-read_items-in-BeginArray-clause-ok
    : goal.value_from-returns-in_ok-read_items-in-BeginArray-clause-ok
value_from-returns-in_ok-read_items-in-BeginArray-clause-ok t c =
    let opened =
    ap (value c.args.depth) (ap (λ k. token_of k ∷ c.args.reader.now) c.in-BeginArray.is)
    ∙ value-begin_array c.args.depth c.args.reader.now (omega arith) in
    let found = c.in_ok-read_items-in-BeginArray in
    opened ∙ ap (parse_map array) found.ensures.ok
    ∙ ap (λ j. Some (j, c.read_items.new.reader)) (sym c.list.ensures)

pub value_from-returns-in_ok-read_members-in-BeginObject-clause-ok
    : goal.value_from-returns-in_ok-read_members-in-BeginObject-clause-ok
value_from-returns-in_ok-read_members-in-BeginObject-clause-ok t c =
    let opened =
    ap (value c.args.depth) (ap (λ k. token_of k ∷ c.args.reader.now) c.in-BeginObject.is)
    ∙ value-begin_object c.args.depth c.args.reader.now (omega arith) in
    let found = c.in_ok-read_members-in-BeginObject in
    opened ∙ ap (parse_map object) found.ensures.ok
    ∙ ap (λ j. Some (j, c.read_members.new.reader)) (sym (view_object found.field-0))

pub read_item-returns-in_err-token-clause-bad : goal.read_item-returns-in_err-token-clause-bad
read_item-returns-in_err-token-clause-bad t c bad =
    let empty : c.args.reader.now ≡ [] = grind arith in
    ap (value c.args.depth) empty ∙ value_is c.args.depth []

pub read_item-returns-in_ok-keep_text-in-Some-clause-ok
    : goal.read_item-returns-in_ok-keep_text-in-Some-clause-ok
read_item-returns-in_ok-keep_text-in-Some-clause-ok t c =
    let texts = c.args.texts.now.items in
    let text = c.in-Some.text in
    let first : c.args.reader.now ≡ token_of c.in_ok-token.token ∷ c.next.new.self = grind arith in
    let said = c.in-Some.ensures in
    let is = first ∙ ap (λ k. k ∷ c.next.new.self) said.0 in
    let none : c.args.rest.now.items ≡ [] = grind arith in (
      Json.string text.now,
      ap (value c.args.depth) is ∙ value_is c.args.depth _,
      ap₂ list_view c.in_ok-keep_text-in-Some.ensures none ∙ one_text texts text
          ∙ ap (λ rest. list_view texts rest ++ Json.string text.now ∷ []) (sym none),
    )

pub read_item-returns-in_ok-keep-in-None-clause-ok
    : goal.read_item-returns-in_ok-keep-in-None-clause-ok
read_item-returns-in_ok-keep-in-None-clause-ok t c =
    let texts = c.args.texts.now.items in
    let item = c.in_ok-item-in-None.item in
    let first : c.args.reader.now ≡ token_of c.in_ok-token.token ∷ c.next.new.self = grind arith in (
      tree_view item,
      ap (value c.args.depth) first ∙ c.in_ok-item-in-None.ensures.ok,
      ap (list_view texts) c.in_ok-keep-in-None.ensures
          ∙ one_item texts c.args.rest.now.items item,
    )

pub read_items-items-init : goal.read_items-items-init
read_items-items-init t c =
    let nothing : list_view c.new-texts.result.items c.new-rest.result.items ≡ [] =
    ap₂ list_view c.new-texts.ensures.items c.new-rest.ensures.items in (
      length c.args.reader.now,
      omega arith,
      none_before _
          ∙ ap (λ js. parse_map (before js)
          (items (value c.args.depth) (length c.args.reader.now) c.args.reader.now)) (sym nothing),
      omega arith,
    )

pub read_items-returns-in_err-read_item-clause-bad
    : goal.read_items-returns-in_err-read_item-clause-bad
read_items-returns-in_err-read_item-clause-bad t c bad =
    let p = value c.args.depth in
    let l = c.items in
    let n = l.invariant.0 in
    let going : (after_end_array l.reader ≡ None) × (c.take_end_array.new.self ≡ l.reader) =
    grind arith in
    let failed : p c.take_end_array.new.self ≡ None = grind arith in
    l.invariant.2
    ∙ ap (parse_map (before (list_view l.texts.items l.rest.items)))
    (items_fail p n l.reader going.0 (rw (← going.1) failed))

pub read_items-items-preserved : goal.read_items-items-preserved
read_items-items-preserved t c =
    let p = value c.args.depth in
    let l = c.items in
    let n = l.invariant.0 in
    let going : (after_end_array l.reader ≡ None) × (c.take_end_array.new.self ≡ l.reader) =
    grind arith in
    let found = c.in_ok-read_item.ensures in
    let item = found.ok in
    let r = c.read_item.new.reader in
    let less : length r < length l.reader = rw (← going.1) found.shorter in
    let turn = items_more p n l.reader r item.0 (omega (arith, l.invariant.1)) going.0
    (rw (← going.1) item.1) in (
      n - 1,
      omega (arith, l.invariant.1),
      l.invariant.2 ∙ ap (parse_map (before (list_view l.texts.items l.rest.items))) turn
          ∙ one_more (list_view l.texts.items l.rest.items) item.0 _
          ∙ ap (λ js. parse_map (before js) (items p (n - 1) r)) (sym item.2),
      omega (arith, l.invariant.3),
    )

pub read_items-returns-clause-ok : goal.read_items-returns-clause-ok
read_items-returns-clause-ok t c =
    let p = value c.args.depth in
    let l = c.items in
    let n = l.invariant.0 in
    let r = c.take_end_array.new.self in
    l.invariant.2
    ∙ ap (parse_map (before (list_view l.texts.items l.rest.items)))
    (items_end p n l.reader r l.invariant.1 (grind arith))
    ∙ ap (λ js. Some (js, r)) (before_none (list_view l.texts.items l.rest.items))

pub read_members-members-init : goal.read_members-members-init
read_members-members-init t c = (
  length c.args.reader.now,
  omega arith,
  none_before _
      ∙ ap (λ vs. parse_map (members_before vs)
      (members (value c.args.depth) (length c.args.reader.now) c.args.reader.now))
      (sym c.new-found.ensures.items),
  omega arith,
)

pub read_members-returns-in_err-key-clause-bad : goal.read_members-returns-in_err-key-clause-bad
read_members-returns-in_err-key-clause-bad t c bad =
    let p = value c.args.depth in
    let l = c.members in
    let n = l.invariant.0 in
    l.invariant.2
    ∙ ap (parse_map (members_before l.found.items))
    (members_no_key p n l.reader c.in_err-key.ensures.value)

pub read_members-returns-in_err-member-clause-bad
    : goal.read_members-returns-in_err-member-clause-bad
read_members-returns-in_err-member-clause-bad t c bad =
    let p = value c.args.depth in
    let l = c.members in
    let n = l.invariant.0 in
    let k = c.in-Some.key.now in
    let s = c.next_key.new.self in
    let key : read_key l.reader ≡ Some (Some k, s) = grind arith in
    let failed : p s ≡ None = grind arith in
    l.invariant.2
    ∙ ap (parse_map (members_before l.found.items)) (members_fail p n k l.reader s key failed)

pub read_members-members-preserved : goal.read_members-members-preserved
read_members-members-preserved t c =
    let p = value c.args.depth in
    let l = c.members in
    let n = l.invariant.0 in
    let k = c.in-Some.key.now in
    let s = c.next_key.new.self in
    let key : read_key l.reader ≡ Some (Some k, s) = grind arith in
    let done = c.in_ok-member.ensures in
    let v = c.in_ok-member.member in
    let r = c.read_value.new.reader in
    let less = read_key-shorter l.reader (Some k) s key in
    let lesser = done.shorter in
    let pushed = c.in_ok-put.ensures in
    let turn = members_more p n k l.reader s r (tree_view v) (omega (arith, l.invariant.1)) key
    done.ok in (
      n - 1,
      omega (arith, l.invariant.1),
      l.invariant.2 ∙ ap (parse_map (members_before l.found.items)) turn
          ∙ one_more_member l.found.items (c.in-Some.key, v) _
          ∙ ap (λ ms. parse_map (members_before ms) (members p (n - 1) r)) (sym pushed),
      omega (arith, l.invariant.3),
    )

pub read_members-returns-clause-ok : goal.read_members-returns-clause-ok
read_members-returns-clause-ok t c =
    let p = value c.args.depth in
    let l = c.members in
    let n = l.invariant.0 in
    let r = c.next_key.new.self in
    l.invariant.2
    ∙ ap (parse_map (members_before l.found.items))
    (members_end p n l.reader r l.invariant.1 (grind arith))
    ∙ ap (λ ms. Some (ms, r)) (members_before_none l.found.items)
