use Rattle.std.proofs.Common.{[], ◌∷◌, ◌∙◌, sym, subst}
use Rattle.pl_outfit.specs.Doors.{IsNew}
use Rattle.pl_outfit.specs.Outfit.{outside}
use Rattle.pl_serving.proofs.Sharing.{ended_one, ended_three, ended_two, opens_as_many, opens_by}
use Rattle.pl_serving.proofs.Sharing.{opens_more, shared, shares_none}
use Rattle.pl_serving.proofs.doors.four_doors.Goals as goal

pub returns-in-Err : goal.returns-in-Err
returns-in-Err g c =
    let reading = g.O.In.Source in
    let writing = g.O.Out.Sink in
    let told = outside reading writing in
    let view = g.O.Outfit.view in
    let tells = g.O.Door.Listener.tells in
    let before = told (view c.args.outfit.now) in
    let at = c.args.address.now in
    let one = opens_by reading writing at (view c.args.outfit.now) (view c.door.new.self)
    c.in_ok-first.ensures.1 in
    shares_none tells (tells c.in_ok-first.first) (tells c.share.new.door)
    c.in_ok-first.ensures.0 at c.in-Err.fault before (told (view c.share.new.self))
    (told (view c.door_back.new.self)) [] tt c.in-Err.ensures.shares
    (opens_as_many reading writing 1 at before (view c.door.new.self) (view c.share.new.self) one
    c.in-Err.ensures.out)
    (ended_one reading writing (tells c.share.new.door) (view c.share.new.self)
    (view c.door_back.new.self) c.door_back.ensures)

pub returns-in-Err-share : goal.returns-in-Err-share
returns-in-Err-share g c =
    let reading = g.O.In.Source in
    let writing = g.O.Out.Sink in
    let told = outside reading writing in
    let view = g.O.Outfit.view in
    let tells = g.O.Door.Listener.tells in
    let before = told (view c.args.outfit.now) in
    let at = c.args.address.now in
    let one = opens_by reading writing at (view c.args.outfit.now) (view c.door.new.self)
    c.in_ok-first.ensures.1 in
    let two = opens_more reading writing 1 at before (view c.door.new.self)
    (view c.share.new.self) one c.in-Ok.ensures.out in
    shares_none tells (tells c.share.new.door) (tells c.share-2.new.door)
    (subst IsNew (sym c.in-Ok.ensures.shares.0) c.in_ok-first.ensures.0) at
    c.in-Err-share.fault before (told (view c.share-2.new.self))
    (told (view c.door_back-in-Err-share-2.new.self)) (tells c.in-Ok.handle ∷ [])
    (shared (tells c.in_ok-first.first) (tells c.in-Ok.handle) c.in-Ok.ensures.shares.1, tt)
    c.in-Err-share.ensures.shares
    (opens_as_many reading writing 2 at before (view c.share.new.self) (view c.share-2.new.self)
    two c.in-Err-share.ensures.out)
    (ended_two reading writing (tells c.share-2.new.door) (tells c.in-Ok.handle)
    (view c.share-2.new.self) (view c.door_back-in-Err-share.new.self)
    (view c.door_back-in-Err-share-2.new.self) c.door_back-in-Err-share.ensures
    c.door_back-in-Err-share-2.ensures)

pub returns-in-Err-share-2 : goal.returns-in-Err-share-2
returns-in-Err-share-2 g c =
    let reading = g.O.In.Source in
    let writing = g.O.Out.Sink in
    let told = outside reading writing in
    let view = g.O.Outfit.view in
    let tells = g.O.Door.Listener.tells in
    let before = told (view c.args.outfit.now) in
    let at = c.args.address.now in
    let one = opens_by reading writing at (view c.args.outfit.now) (view c.door.new.self)
    c.in_ok-first.ensures.1 in
    let two = opens_more reading writing 1 at before (view c.door.new.self)
    (view c.share.new.self) one c.in-Ok.ensures.out in
    let three = opens_more reading writing 2 at before (view c.share.new.self)
    (view c.share-2.new.self) two c.in-Ok-share.ensures.out in
    shares_none tells (tells c.share-2.new.door) (tells c.share-3.new.door)
    (subst IsNew (sym (c.in-Ok-share.ensures.shares.0 ∙ c.in-Ok.ensures.shares.0))
    c.in_ok-first.ensures.0)
    at c.in-Err-share-2.fault before (told (view c.share-3.new.self))
    (told (view c.door_back-in-Err-share-2-4.new.self))
    (tells c.in-Ok.handle ∷ tells c.in-Ok-share.handle ∷ []) (
      shared (tells c.in_ok-first.first) (tells c.in-Ok.handle) c.in-Ok.ensures.shares.1,
      (
        shared (tells c.share.new.door) (tells c.in-Ok-share.handle)
            c.in-Ok-share.ensures.shares.1,
        tt,
      ),
    )
    c.in-Err-share-2.ensures.shares
    (opens_as_many reading writing 3 at before (view c.share-2.new.self)
    (view c.share-3.new.self) three c.in-Err-share-2.ensures.out)
    (ended_three reading writing (tells c.share-3.new.door) (tells c.in-Ok.handle)
    (tells c.in-Ok-share.handle) (view c.share-3.new.self)
    (view c.door_back-in-Err-share-2-2.new.self) (view c.door_back-in-Err-share-2-3.new.self)
    (view c.door_back-in-Err-share-2-4.new.self) c.door_back-in-Err-share-2-2.ensures
    c.door_back-in-Err-share-2-3.ensures c.door_back-in-Err-share-2-4.ensures)
