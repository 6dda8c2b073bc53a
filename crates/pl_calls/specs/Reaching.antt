-- The files that paths lead to (Microsoft Learn, Azure Pipelines, "Templates": template locations,
-- and templates of other repositories).
use Rattle.std.specs.Prelude.{ℕ, Bool, ◌&&◌, List, [], ◌∷◌, ◌++◌, length, nat_le, find, codes}
use Rattle.std.specs.Prelude.{Option, Some, None, Result, Ok, if◌then◌else◌}
use Rattle.std.specs.FinMap as finite
use Rattle.std.specs.List.{list_any}
use Rattle.std.specs.Option.{option_map}
use Rattle.pl_base.specs.Files.{file_cmp}
use Rattle.pl_base.specs.declared.expanded.Repository.{Repository}
use Rattle.pl_base.specs.declared.node.Node.{Node}
use Rattle.pl_base.specs.declared.place.FileKey.{FileKey}
use Rattle.pl_base.specs.declared.place.Place.{Place}
use Rattle.pl_base.specs.Texts.{is}
use Rattle.pl_paths.specs.Paths.{cut_path, from_file, from_root}
use Rattle.pl_paths.specs.declared.cutting.TemplatePath.{TemplatePath}
use Rattle.pl_yaml.specs.declared.fault.YamlFault.TheVariants.{Refused, Memory}
use Rattle.pl_directives.specs.declared.fault.ExpandFault.{ExpandFault}
use Rattle.pl_directives.specs.declared.fault.ExpandProblem.TheVariants.{FileMissing, TooManyFiles}
use Rattle.pl_directives.specs.declared.fault.ExpandProblem.TheVariants.{UnknownAlias, BadFile}
use Rattle.pl_directives.specs.Complaints.{refused, wanting}
use Rattle.pl_reading.specs.Steps.{◌>>=◌}
use Rattle.pl_calls.specs.Meant.{◌>>>◌}
use Rattle.pl_calls.specs.declared.files.Parsed.{Parsed}
use Rattle.pl_calls.specs.declared.files.Parsed.TheVariants.{Good, Bad}
use Rattle.pl_calls.specs.declared.reaching.Home.{Home}
use Rattle.pl_calls.specs.declared.reaching.Opened.{Opened}

-- ---- which file a path leads to that an item at a place holds: none where it leaves the root

abbrev pub key_in : List ℕ → List ℕ → List ℕ → FileKey
key_in repo git_ref path = record { repo = repo; git_ref = git_ref; path = path }

abbrev pub file_in : List ℕ → List ℕ → Option (List ℕ) → Option FileKey
file_in repo git_ref path = option_map (key_in repo git_ref) path

-- the file of an item is that in which its mapping stands, whoever gave the path
abbrev pub beside_item : FileKey → List ℕ → Option FileKey
beside_item file path = file_in file.repo file.git_ref (from_file file.path path)

abbrev pub at_self : FileKey → List ℕ → Option FileKey
at_self root path = file_in root.repo root.git_ref (from_root path)

abbrev pub in_repository :
    Place → Option Repository → List ℕ → Result (Option FileKey) ExpandFault
in_repository at None path = refused UnknownAlias at
in_repository at (Some one) path = Ok (file_in one.name one.git_ref (from_root path))

abbrev pub aliased :
    Place → List ℕ → List ℕ → Home → Result (Option FileKey) ExpandFault
aliased at alias path home =
    if is alias (codes "self") then Ok (at_self home.root path)
    else in_repository at (find (λ one. is one.alias alias) home.repositories) path

abbrev pub target_by :
    Option (List ℕ) → List ℕ → Place → Home → Result (Option FileKey) ExpandFault
target_by None path at home = Ok (beside_item at.file path)
target_by (Some alias) path at home = aliased at alias path home

abbrev pub target : Place → TemplatePath → Home → Result (Option FileKey) ExpandFault
target at cut home = target_by cut.alias cut.path at home

-- ---- a file is called by then: at most 100 are, each counted once

abbrev pub same_file : FileKey → FileKey → Bool
same_file left right =
    is left.repo right.repo && (is left.git_ref right.git_ref && is left.path right.path)

abbrev pub is_called : FileKey → List FileKey → Bool
is_called key used = list_any (same_file key) used

abbrev pub called_then :
    Place → FileKey → List FileKey → Result (Unit {0} × List FileKey) ExpandFault
called_then at key used =
    if is_called key used then Ok (tt, used)
    else if nat_le 100 (length used) then refused TooManyFiles at
    else Ok (tt, used ++ key ∷ [])

-- ---- what a path leads to

abbrev pub found_at :
    Place → FileKey → Option Parsed → List FileKey → Result (Opened × List FileKey) ExpandFault
found_at at key None used = refused FileMissing at
found_at at key (Some file) used =
    called_then at key used >>> λ none used.
    Ok (record { key = key; file = file }, used)

abbrev pub opened_at :
    finite.FinMap file_cmp Parsed → Place → Option FileKey → List FileKey →
    Result (Opened × List FileKey) ExpandFault
opened_at files at None used = refused FileMissing at
opened_at files at (Some key) used = found_at at key (finite.get files key) used

abbrev pub Opens : Type 0
Opens = Place → List ℕ → List FileKey → Result (Opened × List FileKey) ExpandFault

abbrev pub opens : finite.FinMap file_cmp Parsed → Home → Opens
opens files home at path used =
    target at (cut_path path) home >>= λ key. opened_at files at key used

-- ---- the node of a file that was read

abbrev pub node_in : Parsed → Result Node ExpandFault
node_in (Good node) = Ok node
node_in (Bad (Refused code place)) = refused (BadFile code) place
node_in (Bad Memory) = wanting
