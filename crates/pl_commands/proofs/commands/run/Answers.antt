use Rattle.std.proofs.Common.{map, string_bytes}
use Rattle.pl_commands.proofs.Counting.{all_counted}
use Rattle.pl_commands.proofs.Whole.{not_usage, to_its_end, usage_of}
use Rattle.pl_outfit.specs.Outfit.{outside}
use Rattle.pl_words.specs.Words.{command_of}
use Rattle.pl_commands.proofs.commands.run.Goals as goal

pub returns-clause-usage : goal.returns-clause-usage
returns-clause-usage g c = (
  not_usage
      g.O.Time.Clock.coming g.O.Door.Listener.tells
      (outside g.O.In.Source g.O.Out.Sink (g.O.Outfit.view c.args.outfit.now)) c.ran.result
      (outside g.O.In.Source g.O.Out.Sink (g.O.Outfit.view c.ran.new.outfit))
      (command_of (map (λ word. string_bytes word) c.args.words.now)) c.ran.ensures,
  usage_of
      g.O.Time.Clock.coming g.O.Door.Listener.tells
      (outside g.O.In.Source g.O.Out.Sink (g.O.Outfit.view c.args.outfit.now)) c.ran.result
      (outside g.O.In.Source g.O.Out.Sink (g.O.Outfit.view c.ran.new.outfit))
      (command_of (map (λ word. string_bytes word) c.args.words.now)) c.ran.ensures,
)

pub returns-clause-read_to_its_end : goal.returns-clause-read_to_its_end
returns-clause-read_to_its_end g c =
    to_its_end
    g.O.Time.Clock.coming g.O.Door.Listener.tells
    (outside g.O.In.Source g.O.Out.Sink (g.O.Outfit.view c.args.outfit.now)) c.ran.result
    (outside g.O.In.Source g.O.Out.Sink (g.O.Outfit.view c.ran.new.outfit))
    (command_of (map (λ word. string_bytes word) c.args.words.now)) c.ran.ensures

pub returns-clause-reads_counted : goal.returns-clause-reads_counted
returns-clause-reads_counted g c =
    (all_counted
    g.O.Time.Clock.coming g.O.Door.Listener.tells
    (outside g.O.In.Source g.O.Out.Sink (g.O.Outfit.view c.args.outfit.now)) c.ran.result
    (outside g.O.In.Source g.O.Out.Sink (g.O.Outfit.view c.ran.new.outfit))
    (command_of (map (λ word. string_bytes word) c.args.words.now)) c.ran.ensures).reads

pub returns-clause-writes_counted : goal.returns-clause-writes_counted
returns-clause-writes_counted g c =
    (all_counted
    g.O.Time.Clock.coming g.O.Door.Listener.tells
    (outside g.O.In.Source g.O.Out.Sink (g.O.Outfit.view c.args.outfit.now)) c.ran.result
    (outside g.O.In.Source g.O.Out.Sink (g.O.Outfit.view c.ran.new.outfit))
    (command_of (map (λ word. string_bytes word) c.args.words.now)) c.ran.ensures).writes

pub returns-clause-stores_counted : goal.returns-clause-stores_counted
returns-clause-stores_counted g c =
    (all_counted
    g.O.Time.Clock.coming g.O.Door.Listener.tells
    (outside g.O.In.Source g.O.Out.Sink (g.O.Outfit.view c.args.outfit.now)) c.ran.result
    (outside g.O.In.Source g.O.Out.Sink (g.O.Outfit.view c.ran.new.outfit))
    (command_of (map (λ word. string_bytes word) c.args.words.now)) c.ran.ensures).stores

pub returns-clause-doors_counted : goal.returns-clause-doors_counted
returns-clause-doors_counted g c =
    (all_counted
    g.O.Time.Clock.coming g.O.Door.Listener.tells
    (outside g.O.In.Source g.O.Out.Sink (g.O.Outfit.view c.args.outfit.now)) c.ran.result
    (outside g.O.In.Source g.O.Out.Sink (g.O.Outfit.view c.ran.new.outfit))
    (command_of (map (λ word. string_bytes word) c.args.words.now)) c.ran.ensures).doors
