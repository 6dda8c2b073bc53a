use Rattle.std.proofs.Common.{◌≡◌, Some, map, string_bytes}
use Rattle.std.specs.Option.{option_copied}
use Rattle.pl_commands.proofs.Commanded.{before_all, rehearse_is, replay_is, serve_is}
use Rattle.pl_outfit.specs.Outfit.{outside}
use Rattle.pl_words.specs.Words.{command_of}
use Rattle.pl_words.specs.declared.command.Command.TheVariants.{Rehearse, Replay, Serve}
use Rattle.pl_commands.proofs.commands.ran.Goals as goal

pub returns-in-Err : goal.returns-in-Err
returns-in-Err g c =
    before_all g.O.Time.Clock.coming g.O.Door.Listener.tells
    (command_of (map (λ word. string_bytes word) c.args.words.now))
    (outside g.O.In.Source g.O.Out.Sink (g.O.Outfit.view c.args.outfit.now))
    c.in-Err.ensures.memory

pub returns-in-Ok-Some-Replay : goal.returns-in-Ok-Some-Replay
returns-in-Ok-Some-Replay g c =
    let command = command_of (map (λ word. string_bytes word) c.args.words.now) in
    let whole = c.in-Ok-Some-Replay.ensures.command in
    let one = c.in-Ok-Some-Replay.field-0-is in
    let two = c.in-Ok-Some-Replay.field-0-0-is in
    let at_admin = c.in-Ok-Some-Replay.admin-is in
    let at_store = c.in-Ok-Some-Replay.store-is in
    let is : Some (Replay c.in-Ok-Some-Replay.admin c.in-Ok-Some-Replay.store) ≡ command = cc in
    replay_is g.O.Time.Clock.coming g.O.Door.Listener.tells
    command c.in-Ok-Some-Replay.admin
    c.in-Ok-Some-Replay.store (option_copied c.as_ref.result)
    (outside g.O.In.Source g.O.Out.Sink (g.O.Outfit.view c.args.outfit.now)) c.replay.result
    (outside g.O.In.Source g.O.Out.Sink (g.O.Outfit.view c.replay.new.outfit))
    is c.as_ref.ensures.value c.replay.ensures

pub returns-in-Ok-Some-Serve : goal.returns-in-Ok-Some-Serve
returns-in-Ok-Some-Serve g c =
    let command = command_of (map (λ word. string_bytes word) c.args.words.now) in
    let whole = c.in-Ok-Some-Serve.ensures.command in
    let one = c.in-Ok-Some-Serve.field-0-is in
    let two = c.in-Ok-Some-Serve.field-0-0-is in
    let at_admin = c.in-Ok-Some-Serve.admin-is in
    let at_address = c.in-Ok-Some-Serve.address-is in
    let at_store = c.in-Ok-Some-Serve.store-is in
    let is : Some (Serve c.in-Ok-Some-Serve.admin c.in-Ok-Some-Serve.address c.in-Ok-Some-Serve.store) ≡ command = cc in
    serve_is g.O.Time.Clock.coming g.O.Door.Listener.tells
    command c.in-Ok-Some-Serve.admin
    c.in-Ok-Some-Serve.store (option_copied c.as_ref-in-Ok-Some-Serve.result)
    (outside g.O.In.Source g.O.Out.Sink (g.O.Outfit.view c.args.outfit.now)) c.serve_at.result
    (outside g.O.In.Source g.O.Out.Sink (g.O.Outfit.view c.serve_at.new.outfit))
    c.in-Ok-Some-Serve.address is
    c.as_ref-in-Ok-Some-Serve.ensures.value c.serve_at.ensures

pub returns-in-Ok-Some-Rehearse : goal.returns-in-Ok-Some-Rehearse
returns-in-Ok-Some-Rehearse g c =
    let command = command_of (map (λ word. string_bytes word) c.args.words.now) in
    let whole = c.in-Ok-Some-Rehearse.ensures.command in
    let one = c.in-Ok-Some-Rehearse.field-0-is in
    let two = c.in-Ok-Some-Rehearse.field-0-0-is in
    let at_runs = c.in-Ok-Some-Rehearse.runs-is in
    let is : Some (Rehearse c.in-Ok-Some-Rehearse.runs) ≡ command = cc in
    rehearse_is g.O.Time.Clock.coming g.O.Door.Listener.tells command
    c.in-Ok-Some-Rehearse.runs
    (outside g.O.In.Source g.O.Out.Sink (g.O.Outfit.view c.args.outfit.now)) c.rehearse.result
    (outside g.O.In.Source g.O.Out.Sink (g.O.Outfit.view c.rehearse.new.outfit)) is
    c.rehearse.ensures
