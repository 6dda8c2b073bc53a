-- Lists item by item.
use Rattle.std.proofs.Common.{◌≡◌, ℕ, List, [], ◌∷◌, ◌++◌, refl, sym, ap, ◌∙◌, append_assoc, Bor}
use Rattle.std.proofs.Common.{Result, Ok, Err}
use Rattle.serde_json.specs.Data.{Data, string}
use Rattle.pl_reading.specs.Steps.{◌>>=◌}
use Rattle.pl_trees.specs.Trees.{data_of_items, entries_seen, seen}
use Rattle.pl_trees.specs.Views.{items_view}
use Rattle.pl_trees.specs.declared.tree.Tree.{Tree}
use Rattle.pl_bodies.specs.declared.fault.BodyFault.{BodyFault}
use Rattle.pl_bodies.specs.Atoms.{text_of}
use Rattle.pl_bodies.specs.Fields.{behind, each, each_named}

abbrev pub Entry : Type 0
Entry = Bor (List ℕ) × Bor Tree

item_behind :
    {X : Type 0} (front : List X) (one : X) (rest : Result (List X) BodyFault) →
    behind front (rest >>= λ more. Ok (one ∷ more)) ≡ behind (front ++ one ∷ []) rest
item_behind front one (Ok more) = ap Ok (sym (append_assoc front (one ∷ []) more))
item_behind front one (Err fault) = refl

behind_none : {X : Type 0} (rest : Result (List X) BodyFault) → behind [] rest ≡ rest
behind_none (Ok more) = refl
behind_none (Err fault) = refl

item_first :
    {X : Type 0} (one : Result X BodyFault) (some rest : Result (List X) BodyFault) →
    (one >>= λ first. (some >>= λ front. behind front rest) >>= λ more. Ok (first ∷ more))
    ≡ ((one >>= λ first. some >>= λ more. Ok (first ∷ more)) >>= λ front. behind front rest)
item_first (Err fault) some rest = refl
item_first (Ok first) (Err fault) rest = refl
item_first (Ok first) (Ok front) (Err fault) = refl
item_first (Ok first) (Ok front) (Ok more) = refl

-- texts, and the items behind them
pub each_both :
    {X : Type 0} (meant : Data → Result X BodyFault) (texts : List (Bor (List ℕ)))
    (rest : List Tree) →
    each meant (data_of_items (items_view texts rest))
    ≡ (each meant (data_of_items (items_view texts [])) >>= λ front.
    behind front (each meant (data_of_items (items_view [] rest))))
each_both meant [] rest = sym (behind_none (each meant (data_of_items (items_view [] rest))))
each_both meant (text ∷ more) rest =
    ap (λ some. meant (string text.now) >>= λ first. some >>= λ others. Ok (first ∷ others))
    (each_both meant more rest)
    ∙ item_first (meant (string text.now)) (each meant (data_of_items (items_view more [])))
    (each meant (data_of_items (items_view [] rest)))

-- one member more of an object of texts
pub one_named :
    {X : Type 0} (make : List ℕ → List ℕ → X) (whole : Result (List X) BodyFault)
    (old new : List X) (here rest : List Entry) (name : Bor (List ℕ)) (value : Bor Tree)
    (text : List ℕ) (one : X) → here ≡ (name, value) ∷ rest →
    text_of (seen value.now) ≡ Ok text → one ≡ make name.now text → new ≡ old ++ one ∷ [] →
    whole ≡ behind old (each_named make (entries_seen here)) →
    whole ≡ behind new (each_named make (entries_seen rest))
one_named make whole old new here rest name value text one is text_is made pushed so_far =
    so_far ∙ ap (λ (es : List Entry). behind old (each_named make (entries_seen es))) is
    ∙ ap (λ t. behind old (t >>= λ said. each_named make (entries_seen rest) >>= λ more.
    Ok (make name.now said ∷ more))) text_is
    ∙ item_behind old (make name.now text) (each_named make (entries_seen rest))
    ∙ ap (λ front. behind front (each_named make (entries_seen rest)))
    (sym (pushed ∙ ap (λ x. old ++ x ∷ []) made))
