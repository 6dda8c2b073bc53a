-- What is borrowed from an item, by what is meant.
use Rattle.std.specs.Prelude.{◌≡◌, List, [], Option, Result, Ok, Err, unwrap_or}
use Rattle.std.specs.Option.{option_copied}
use denote.Ref.{Bor}
use Rattle.pl_base.specs.declared.value.MarkedPair.{MarkedPair}
use Rattle.pl_directives.specs.declared.fault.ExpandFault.{ExpandFault}
use Rattle.pl_directives.specs.Gives.{Refuses}
use Rattle.pl_calls.specs.declared.call.Call.{Call}
use Rattle.pl_calls.specs.Calls.{Called, seen}

abbrev pub GivesPairs :
    Result (Bor (List MarkedPair)) ExpandFault → Result (List MarkedPair) ExpandFault → Type 0
GivesPairs (Ok pairs) meant = meant ≡ Ok pairs.now
GivesPairs (Err fault) meant = Refuses fault meant

abbrev pub pairs_of : Option (Bor (List MarkedPair)) → List MarkedPair
pairs_of found = unwrap_or (option_copied found) []

abbrev pub GivesFound :
    Result (Option (Bor (List MarkedPair))) ExpandFault → Result (List MarkedPair) ExpandFault →
    Type 0
GivesFound (Ok found) meant = meant ≡ Ok (pairs_of found)
GivesFound (Err fault) meant = Refuses fault meant

abbrev pub GivesCall : Result Call ExpandFault → Result Called ExpandFault → Type 0
GivesCall (Ok call) meant = meant ≡ Ok (seen call)
GivesCall (Err fault) meant = Refuses fault meant
