use Rattle.std.proofs.Common.{◌≡◌, ◌<◌, arith, length, get_or, ap, sym, ◌∙◌, ◌++◌, ◌∷◌, []}
use Rattle.json.specs.Token.{begin_object, end_object, key}
use Rattle.pl_wire.specs.Json.{tokens_in, tokens_of}
use Rattle.pl_wire.proofs.Tokens.{behind_one, between_two, object_tokens, tokens_more}
use Rattle.pl_wire.proofs.spelling.+written.Goals as goal

pub put_items-loop-item-preserved : goal.put_items-loop-item-preserved
put_items-loop-item-preserved t c =
    let below : c.loop-item.item-index < length c.args.items.now = omega arith in
    record {
      tokens = tokens_more tokens_of c.args.items.now c.loop-item.item-index c.item-item.result
          c.loop-item.writer.tokens c.put_value.new.writer.tokens _ below c.item-item.is
          c.in_ok-put_value.ensures.0 c.loop-item.invariant.tokens;
      before = c.in_ok-put_value.ensures.1 ∙ c.loop-item.invariant.before;
    }

pub put_members-loop-member-preserved : goal.put_members-loop-member-preserved
put_members-loop-member-preserved t c =
    let member = c.member-item.result in
    let items = c.as_slice-member-items.ensures in
    let below : c.loop-member.member-index < length c.args.members.now =
    omega (arith, ap length items) in
    let here : member ≡ get_or c.args.members.now c.loop-member.member-index member =
    c.member-item.is ∙ ap (λ l. get_or l c.loop-member.member-index member) items in
    record {
      tokens = tokens_more tokens_in c.args.members.now c.loop-member.member-index member
          c.loop-member.writer.tokens c.put_value.new.writer.tokens _ below here
          (behind_one c.loop-member.writer.tokens c.key.new.self.tokens
          c.put_value.new.writer.tokens (tokens_of member.value) (key member.name)
          (c.in_ok-key.ensures.ok ∙ ap (λ n. c.loop-member.writer.tokens ++ key n ∷ [])
          c.as_str.ensures)
          c.in_ok-put_value.ensures.0)
          c.loop-member.invariant.tokens;
      before = c.in_ok-put_value.ensures.1 ∙ (c.in_ok-key.ensures.room.0 ∙
          c.loop-member.invariant.before);
    }

pub put_value-returns-in_ok-end_object-in-Object :
    goal.put_value-returns-in_ok-end_object-in-Object
put_value-returns-in_ok-end_object-in-Object t c =
    let first = c.in_ok-begin_object-in-Object.ensures in
    let inside = c.in_ok-put_members-in-Object.ensures in
    let last = c.in_ok-end_object-in-Object.ensures in (
      between_two c.args.writer.now.tokens c.begin_object.new.self.tokens
          c.put_members.new.writer.tokens c.end_object.new.self.tokens _ begin_object end_object
          first.ok inside.0 last.ok
          ∙ ap (λ ts. c.args.writer.now.tokens ++ ts) (sym (ap tokens_of c.in-Object.is ∙
          object_tokens _)),
      last.room.0 ∙ (inside.1 ∙ first.room.0),
    )
