use Rattle.std.proofs.Common.{length, take, ap, ◌∙◌, ◌==◌, arith}
use Rattle.std.specs.Str.{chars}
use Rattle.std.specs.Ordering.{nat_cmp}
use Rattle.std.specs.BTreeSet.{contains}
use Rattle.std.specs.List.{list_any}
use Rattle.std.proofs.lemmas.Iterator.{YieldsList-from_chars}
use Rattle.std.proofs.lemmas.List.{length_push, take_all}
use Rattle.std.proofs.lemmas.Iterator.Consumers.{YieldsList-turn, YieldsList-end}
use Rattle.pl_texts.proofs.Characters.{seen_more}
use Rattle.pl_texts.proofs.splitting.characters_of.Goals as goal

pub loop-character-preserved : goal.loop-character-preserved
loop-character-preserved c =
    let turn = YieldsList-turn (YieldsList-from_chars c.args.text.now c.utf8.text cc)
    c.loop-character.yielded _ c.loop-character.yielded_by _ _ c.in-Some.character c.in-Some.is
    c.next.ensures.steps in
    rw (length_push c.loop-character.yielded c.in-Some.character) (
      tt,
      tt,
      λ sought. seen_more (chars c.args.text.now) (length c.loop-character.yielded)
          c.in-Some.character sought (contains nat_cmp c.loop-character.set sought)
          (contains nat_cmp c.insert.new.self sought) turn (c.loop-character.invariant.2 sought)
          (c.in_ok-insert.ensures.updates.0 sought),
    )

pub returns : goal.returns
returns c =
    let ended = YieldsList-end (YieldsList-from_chars c.args.text.now c.utf8.text cc)
    c.loop-character.yielded _ c.loop-character.yielded_by _ _ c.in-None.is
    c.next.ensures.steps in
    λ sought. c.loop-character.invariant.2 sought ∙ ap (list_any (λ other. other == sought))
    (ap (λ count. take count (chars c.args.text.now)) ended.1 ∙
    take_all (length (chars c.args.text.now)) (chars c.args.text.now) (omega arith))
