use Rattle.std.proofs.Common.{◌≡◌, ◌<◌, ◌+◌, ◌*◌, ◌∷◌, ◌++◌, Bor, ℕ, List, [], length, get_or, map}
use Rattle.std.proofs.Common.{replicate, set, take, drop, refl, sym, ap, subst, ◌∙◌, arith}
use Rattle.std.proofs.lemmas.List.{drop_more, get_or_default, length-set, map-append, map_more}
use Rattle.std.proofs.lemmas.List.{take-append-drop, take_all}
use Rattle.std.specs.declared.option.Option.TheVariants.{None, Some}
use Rattle.pl_limits.specs.Places.{numbered, place}
use Rattle.pl_limits.proofs.Seen.{seen, seen_at, seen_length, seen_next, seen_none, seen_set}
use Rattle.pl_limits.proofs.Taken.{ArePlaced, alike, apart_behind, at_first, doubles, moved, moves}
use Rattle.pl_limits.proofs.Taken.{stays, unlike}
use Rattle.pl_limits.proofs.places.displaced.Goals.{in-None, in-Some+else-eq+in_ok-push-in-Some}
use Rattle.pl_limits.proofs.places.displaced.Goals as goal

pub loop-at-init : goal.loop-at-init
loop-at-init c =
    let room = 5 * length c.args.texts.now + 1 in
    let now : c.resize.new.self.items ≡ replicate room 0 = grind arith in
    let none : c.new-rest.result.items ≡ [] = grind arith in
    record {
      room = grind arith;
      placed = moved refl (ap (seen c.args.texts.now) now ∙ seen_none c.args.texts.now room) none
          (at_first (λ text. text.now) room room);
    }

pub returns-then-eq : goal.returns-then-eq
returns-then-eq c =
    let l = c.loop-at in
    let places = l.places.items in
    let texts = c.args.texts.now in
    let i = l.at in
    let room = 5 * length c.args.texts.now + 1 in
    let d : Bor (List ℕ) = record { ref_ptr = (0, 0); now = [] } in
    let x = get_or texts i d in
    let first = c.in-Some.first in
    let at : c.place-here.result ≡ place room x.now = c.place-here.ensures.value in
    let within : c.place-here.result < length places = grind arith in
    let number : get_or places (place room x.now) 0 ≡ c.index.result.now =
    subst (λ p. get_or places p 0 ≡ c.index.result.now) at
    (get_or_default places c.place-here.result 0 c.index.result.now within
    ∙ sym c.index.ensures) in
    let taken : get_or (seen texts places) (place room x.now) None ≡ Some first =
    seen_at texts places (place room x.now) ∙ ap (numbered texts) number
    ∙ sym c.numbered.ensures ∙ c.in-Some.is in
    let whole : map (λ text. text.now) texts ≡
    map (λ text. text.now) (take i texts) ++ x.now ∷ map (λ text. text.now) (drop (i + 1) texts) =
    ap (map (λ text. text.now)) (sym (take-append-drop i texts)
    ∙ ap (λ ys. take i texts ++ ys) (drop_more texts i d (omega arith)))
    ∙ map-append (λ text. text.now) (take i texts) (x ∷ drop (i + 1) texts) in
    sym (doubles (λ text. text.now) room (map (λ text. text.now) (take i texts))
    (seen texts places) l.rest.items x l.invariant.placed first taken
    (map (λ text. text.now) texts) (map (λ text. text.now) (drop (i + 1) texts)) whole
    (alike x.now first.now c.eq.result c.eq.ensures c.if-eq.true))

pub loop-at-preserved : goal.loop-at-preserved
loop-at-preserved c =
    let l = c.loop-at in
    let places = l.places.items in
    let texts = c.args.texts.now in
    let i = l.at in
    let room = 5 * length c.args.texts.now + 1 in
    let d : Bor (List ℕ) = record { ref_ptr = (0, 0); now = [] } in
    let x = get_or texts i d in
    let new = c.match-numbered in
    let at : c.place-here.result ≡ place room x.now = c.place-here.ensures.value in
    let within : c.place-here.result < length places = grind arith in
    let there : place room x.now < length (seen texts places) =
    subst (λ n. place room x.now < n) (sym (seen_length texts places)) (grind (arith, at)) in
    let number : get_or places (place room x.now) 0 ≡ c.index.result.now =
    subst (λ p. get_or places p 0 ≡ c.index.result.now) at
    (get_or_default places c.place-here.result 0 c.index.result.now within
    ∙ sym c.index.ensures) in
    let holds : get_or (seen texts places) (place room x.now) None ≡ c.numbered.result =
    seen_at texts places (place room x.now) ∙ ap (numbered texts) number
    ∙ sym c.numbered.ensures in
    let short : i < length texts = omega arith in
    let step : map (λ text. text.now) (take (i + 1) texts) ≡
    map (λ text. text.now) (take i texts) ++ x.now ∷ [] =
    map_more (λ text. text.now) texts i d short in
    elim c.match-numbered.branch [
      | in-None w ↦
          let now : new.places.items ≡ set places (place room x.now) (i + 1) =
          grind (arith, at) in
          let rest : new.rest.items ≡ l.rest.items = grind arith in
          let one = stays (λ text. text.now) room (map (λ text. text.now) (take i texts))
          (seen texts places) l.rest.items x l.invariant.placed there (holds ∙ w.in-None.is) in
          record {
            room = ap length now ∙ length-set places _ _ ∙ l.invariant.room;
            placed = moved step (ap (seen texts) now ∙ seen_set texts places _ _
                ∙ ap (set (seen texts places) (place room x.now)) (seen_next texts i d short)) rest
                one;
          }
      | in-Some+else-eq+in_ok-push-in-Some w ↦
          let now : new.places.items ≡ places = grind arith in
          let rest : new.rest.items ≡ l.rest.items ++ x ∷ [] = grind arith in
          let one = moves (λ text. text.now) room (map (λ text. text.now) (take i texts))
          (seen texts places) l.rest.items x l.invariant.placed w.in-Some.first
          (holds ∙ w.in-Some.is)
          (unlike x.now w.in-Some.first.now w.eq.result w.eq.ensures w.if-eq.false) in
          record {
            room = ap length now ∙ l.invariant.room;
            placed = moved step (ap (seen texts) now) rest one;
          }
    ]

pub returns : goal.returns
returns c =
    let l = c.loop-at in
    let texts = c.args.texts.now in
    let room = 5 * length c.args.texts.now + 1 in
    let whole : take l.at texts ≡ texts = take_all l.at texts (omega (arith, l.auto.at-end, c.loop-at-test.false)) in
    apart_behind (λ text. text.now) room (map (λ text. text.now) texts) (seen texts l.places.items) l.rest.items
    (subst (λ some. ArePlaced (λ text. text.now) room (map (λ text. text.now) some) (seen texts l.places.items) l.rest.items)
    whole l.invariant.placed)
