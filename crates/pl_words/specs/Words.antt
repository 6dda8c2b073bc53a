-- The command that the words of the command line are: its name, and its options in any order.
use Rattle.std.specs.Prelude.{⊤, ℕ, Bool, true, not, ◌&&◌, ◌≤◌, nat_le, nat_lt, nat_eq, List, []}
use Rattle.std.specs.Prelude.{◌∷◌, length, codes, Option, Some, None, if◌then◌else◌}
use Rattle.std.specs.Option.{option_and_then, option_map}
use Rattle.std.specs.List.{after_first, before_first, list_any}
use Rattle.std.specs.Cmp.Lexicographic.{pointwise}
use Rattle.pl_base.specs.declared.digest.Digest.{Digest}
use Rattle.pl_base.specs.declared.expanded.Argument.{Argument}
use Rattle.pl_digests.specs.Digests.{digest_in, is_of_nothing}
use Rattle.pl_words.specs.Options.{Given, are_once, has_equals, is_equals, is_word, options_of}
use Rattle.pl_words.specs.Options.{value_of}
use Rattle.pl_words.specs.Runs.{runs_in}
use Rattle.pl_words.specs.declared.command.Command.{Command}
use Rattle.pl_words.specs.declared.command.Command.TheVariants.{Compile, Rehearse, Replay, Serve}

-- ---- `replay --admin HEX`, and `--store PATH` or not

-- the digest of no bytes is nobody's
abbrev pub unless_of_nothing : Option Digest → Option Digest
unless_of_nothing None = None
unless_of_nothing (Some digest) = if is_of_nothing digest then None else Some digest

-- the digest that 64 lower-case hexadecimal digits are
abbrev pub digest_of : List ℕ → Option Digest
digest_of text = unless_of_nothing (digest_in text)

abbrev pub admin_of : List Given → Option Digest
admin_of options = option_and_then digest_of (value_of (codes "--admin") options)

abbrev pub store_of : List Given → Option (List ℕ)
store_of options = value_of (codes "--store") options

abbrev pub replay_of : List Given → Option Command
replay_of options =
    if are_once (codes "--admin" ∷ codes "--store" ∷ []) options then
    option_map (λ admin. Replay admin (store_of options)) (admin_of options) else None

-- ---- `serve --admin HEX --listen ADDRESS`, and `--store PATH` or not

abbrev pub serve_at : Option Digest → Option (List ℕ) → Option (List ℕ) → Option Command
serve_at admin address store =
    option_and_then (λ admin. option_map (λ address. Serve admin address store) address) admin

abbrev pub serve_of : List Given → Option Command
serve_of options =
    if are_once (codes "--admin" ∷ codes "--listen" ∷ codes "--store" ∷ []) options then
    serve_at (admin_of options) (value_of (codes "--listen") options) (store_of options) else None

-- ---- `rehearse --runs N`

abbrev pub runs_of : List Given → Option ℕ
runs_of options = option_and_then runs_in (value_of (codes "--runs") options)

abbrev pub rehearse_of : List Given → Option Command
rehearse_of options =
    if are_once (codes "--runs" ∷ []) options then
    option_map (λ runs. Rehearse runs) (runs_of options) else None

-- ---- `compile`, and `--param NAME=TEXT` any number of times, each with another name

-- a value holds a `=`, and what stands before its first one is the name, which isn't empty
abbrev pub argument_of : List ℕ → Option Argument
argument_of value =
    if has_equals value && not (nat_eq (length (before_first is_equals value)) 0) then
    Some (record { name = before_first is_equals value; text = after_first is_equals value })
    else None

abbrev pub argument_given : Given → Option Argument
argument_given one = if is_word one.name (codes "--param") then argument_of one.value else None

abbrev pub is_named : List ℕ → List Argument → Bool
is_named name arguments = list_any (λ argument. pointwise nat_eq argument.name name) arguments

-- an argument before others, none of which has its name
abbrev pub before : Argument → List Argument → Option (List Argument)
before argument arguments =
    if is_named argument.name arguments then None else Some (argument ∷ arguments)

abbrev pub arguments_given : List Given → Option (List Argument)
arguments_given [] = Some []
arguments_given (one ∷ more) =
    option_and_then (λ argument. option_and_then (before argument) (arguments_given more))
    (argument_given one)

abbrev pub arguments_of : List (List ℕ) → Option (List Argument)
arguments_of words = option_and_then arguments_given (options_of words)

-- ---- the command that the words are, if they are one

abbrev pub command_of : List (List ℕ) → Option Command
command_of [] = None
command_of (name ∷ words) =
    if is_word name (codes "replay") then option_and_then replay_of (options_of words)
    else (if is_word name (codes "compile") then
    option_map (λ arguments. Compile arguments) (arguments_of words)
    else (if is_word name (codes "serve") then option_and_then serve_of (options_of words)
    else (if is_word name (codes "rehearse") then
    option_and_then rehearse_of (options_of words) else None)))

-- the words are those of `compile` or of `serve`, or of `replay` with a store: these have texts,
-- which take memory
abbrev pub TakesMemory : Option Command → Type 0
TakesMemory (Some (Compile arguments)) = ⊤
TakesMemory (Some (Serve admin address store)) = ⊤
TakesMemory (Some (Replay admin (Some path))) = ⊤
TakesMemory (Some (Replay admin None)) = ⊥
TakesMemory (Some (Rehearse runs)) = ⊥
TakesMemory None = ⊥
