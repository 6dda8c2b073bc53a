-- One after the other, as a loop values them.
use Rattle.std.proofs.Common.{◌≡◌, ℕ, zero, suc, ◌-◌, ◌<◌, List, [], ◌∷◌, ◌++◌, Option, Some, None}
use Rattle.std.proofs.Common.{Result, Ok, Err, refl, sym, ap, ◌∙◌, arith}
use Rattle.pl_base.specs.declared.place.FileKey.{FileKey}
use Rattle.pl_base.specs.declared.node.Node.{Node}
use Rattle.pl_base.specs.declared.node.NodeBody.TheVariants.{Seq, Map}
use Rattle.pl_base.specs.declared.node.NodePair.{NodePair}
use Rattle.pl_line.specs.declared.code.YamlCode.TheVariants as codes_of
use Rattle.pl_line.specs.declared.line_fault.Fault.{Fault}
use Rattle.pl_line.specs.declared.line_fault.ReadFault.{ReadFault}
use Rattle.pl_line.specs.declared.line_fault.ReadFault.TheVariants as faults
use Rattle.pl_line.specs.Rows.{Row}
use Rattle.pl_yaml.specs.Reading.{Read, many, many_step}
use Rattle.pl_line.specs.Reading.{fault_at}
use Rattle.pl_line.specs.Gives.{Fails}
use Rattle.pl_reading.specs.Steps.{◌>>=◌}
use Rattle.pl_yaml.specs.Keys.{FoundKey, next_key}
use Rattle.pl_yaml.specs.Nodes.{values_at, inner, node, next_item, item, items, sequence}
use Rattle.pl_yaml.specs.Nodes.{sequence_of, pair, pairs, mapping, mapping_of}
use Rattle.pl_yaml.specs.declared.stack.Mapping.{Mapping}
use Rattle.pl_yaml.specs.declared.stack.Sequence.{Sequence}
use Rattle.pl_yaml.specs.Stack.{node_from, items_from, pairs_from}

-- in a collection one less may open
pub inner_some :
    (file : FileKey) (depth : ℕ) → (depth ≡ 0 → ⊥) →
    inner file depth ≡ Some (values_at file (depth - 1))
unfolding inner node
inner_some file zero more = absurd (more refl)
inner_some file (suc depth) more = let e : suc depth - 1 ≡ depth = omega arith in rw e refl

pub inner_none : (file : FileKey) (depth : ℕ) → depth ≡ 0 → inner file depth ≡ None
unfolding inner
inner_none file depth shut = ap (inner file) shut

pub sequence_shuts :
    (file : FileKey) (depth parent : ℕ) (row : Row) (rows : List Row) (e : ReadFault) → depth ≡ 0 →
    e ≡ faults.Refused (fault_at codes_of.TooDeep row)
    → Fails e (sequence file (inner file depth) parent row rows)
unfolding sequence
sequence_shuts file depth parent row rows e shut is =
    rw is (ap (λ i. sequence file i parent row rows) (inner_none file depth shut))

pub mapping_shuts :
    (file : FileKey) (depth : ℕ) (row : Row) (rows : List Row) (e : ReadFault) → depth ≡ 0 →
    e ≡ faults.Refused (fault_at codes_of.TooDeep row)
    → Fails e (mapping file (inner file depth) row rows)
unfolding mapping
mapping_shuts file depth row rows e shut is =
    rw is (ap (λ i. mapping file i row rows) (inner_none file depth shut))

pub sequence_opens :
    (file : FileKey) (depth parent : ℕ) (row : Row) (rows : List Row) → (depth ≡ 0 → ⊥)
    → sequence file (inner file depth) parent row rows ≡
    sequence_of file (values_at file (depth - 1)) parent row rows
unfolding sequence
sequence_opens file depth parent row rows more = ap (λ i. sequence file i parent row rows)
    (inner_some file depth more)

pub mapping_opens : (file : FileKey) (depth : ℕ) (row : Row) (rows : List Row) → (depth ≡ 0 → ⊥)
    → mapping file (inner file depth) row rows ≡ mapping_of file (values_at file (depth - 1)) row
    rows
unfolding mapping
mapping_opens file depth row rows more = ap (λ i. mapping file i row rows)
    (inner_some file depth more)

-- what fails here, fails on the whole
pub fails_along :
    {A B : Type 0} (e : ReadFault) (part : Result A Fault) (whole : Result B Fault) →
    ((fault : Fault) → part ≡ Err fault → whole ≡ Err fault) → Fails e part → Fails e whole
fails_along faults.Memory part whole along fails = tt
fails_along (faults.Refused fault) part whole along fails = along fault fails

module _ {X A : Type 0} (here : List Row → Read (Option X)) (one : List A → X → List Row → Read A)
  where
    pub many_stops :
        (turns : ℕ) (before : List A) (rows : List Row) (fault : Fault) → 0 < turns →
        here rows ≡ Err fault → many here one turns before rows ≡ Err fault
    unfolding many
    many_stops zero before rows fault some is = absurd (omega arith)
    many_stops (suc turns) before rows fault some is =
        ap (λ r. r >>= λ found. many_step (many here one turns) one before found.0 found.1) is

    pub many_ends :
        (turns : ℕ) (before : List A) (rows left : List Row) → 0 < turns →
        here rows ≡ Ok (None, left) → many here one turns before rows ≡ Ok (before, left)
    unfolding many
    many_ends zero before rows left some is = absurd (omega arith)
    many_ends (suc turns) before rows left some is =
        ap (λ r. r >>= λ found. many_step (many here one turns) one before found.0 found.1) is

    pub many_breaks :
        (turns : ℕ) (before : List A) (rows left : List Row) (x : X) (fault : Fault) → 0 < turns →
        here rows ≡ Ok (Some x, left) → one before x left ≡ Err fault
        → many here one turns before rows ≡ Err fault
    unfolding many
    many_breaks zero before rows left x fault some is broken = absurd (omega arith)
    many_breaks (suc turns) before rows left x fault some is broken =
        ap (λ r. r >>= λ found. many_step (many here one turns) one before found.0 found.1) is ∙
        ap (λ r. r >>= λ next. many here one turns (before ++ next.0 ∷ []) next.1) broken

    pub many_goes :
        (turns : ℕ) (before : List A) (rows left : List Row) (x : X) → 0 < turns →
        here rows ≡ Ok (Some x, left)
        → many here one turns before rows ≡
        (one before x left >>= λ next. many here one (turns - 1) (before ++ next.0 ∷ []) next.1)
    unfolding many
    many_goes zero before rows left x some is = absurd (omega arith)
    many_goes (suc turns) before rows left x some is =
        let e : suc turns - 1 ≡ turns = omega arith in
        ap (λ r. r >>= λ found. many_step (many here one turns) one before found.0 found.1) is
        ∙ sym (ap (λ t. one before x left
        >>= λ next. many here one t (before ++ next.0 ∷ []) next.1) e)

pub bind_bind :
    {A B C : Type 0} (r : Result A Fault) (f : A → Result B Fault) (g : B → Result C Fault) →
    ((r >>= f) >>= g) ≡ (r >>= λ x. f x >>= g)
bind_bind (Ok x) f g = refl
bind_bind (Err fault) f g = refl

-- the same for the two collections
module _ (file : FileKey) (s : Sequence) (turns : ℕ) (before : List Node) (rows : List Row)
    (some : 0 < turns) where
  pub items_stop :
      (e : ReadFault) → Fails e (next_item s.parent s.start.column rows) →
      Fails e (items_from file s turns before rows)
  items_stop e fails =
      fails_along e (next_item s.parent s.start.column rows) (items_from file s turns before rows)
      (λ fault is. ap (λ r. r >>= λ read. Ok (node_from file s.start (Seq read.0), read.1))
      (many_stops (next_item s.parent s.start.column)
      (λ _ r left. item file (values_at file s.depth) r left) turns before rows fault some is))
      fails

  pub items_break :
      (left : List Row) (x : Row) (e : ReadFault) →
      next_item s.parent s.start.column rows ≡ Ok (Some x, left) →
      Fails e (item file (values_at file s.depth) x left)
      → Fails e (items_from file s turns before rows)
  items_break left x e found fails =
      fails_along e (item file (values_at file s.depth) x left)
      (items_from file s turns before rows)
      (λ fault is. ap (λ r. r >>= λ read. Ok (node_from file s.start (Seq read.0), read.1))
      (many_breaks (next_item s.parent s.start.column)
      (λ _ r rest. item file (values_at file s.depth) r rest) turns before rows left x fault
      some found is))
      fails

  pub items_end :
      (left : List Row) (made : Node) → next_item s.parent s.start.column rows ≡ Ok (None, left) →
      made ≡ node_from file s.start (Seq before)
      → items_from file s turns before rows ≡ Ok (made, left)
  items_end left made none is =
      ap (λ r. r >>= λ read. Ok (node_from file s.start (Seq read.0), read.1))
      (many_ends (next_item s.parent s.start.column) (λ _ r left. item file (values_at file s.depth)
      r left) turns before rows left some none)
      ∙ ap (λ n. Ok (n, left)) (sym is)

  pub items_go :
      (left : List Row) (x : Row) → next_item s.parent s.start.column rows ≡ Ok (Some x, left)
      → items_from file s turns before rows ≡ (item file (values_at file s.depth) x left >>=
      λ read. items_from file s (turns - 1) (before ++ read.0 ∷ []) read.1)
  items_go left x found =
      ap (λ r. r >>= λ read. Ok (node_from file s.start (Seq read.0), read.1))
      (many_goes (next_item s.parent s.start.column) (λ _ r left. item file (values_at file s.depth)
      r left) turns before rows left x some found)
      ∙ bind_bind (item file (values_at file s.depth) x left)
      (λ next. items (item file (values_at file s.depth)) s.parent s.start.column (turns - 1)
      (before ++ next.0 ∷ []) next.1)
      (λ read. Ok (node_from file s.start (Seq read.0), read.1))

module _ (file : FileKey) (m : Mapping) (turns : ℕ) (before : List NodePair) (rows : List Row)
    (some : 0 < turns) where
  pub pairs_stop :
      (e : ReadFault) → Fails e (next_key file m.depth m.start.column rows) →
      Fails e (pairs_from file m turns before rows)
  pairs_stop e fails =
      fails_along e (next_key file m.depth m.start.column rows)
      (pairs_from file m turns before rows)
      (λ fault is. ap (λ r. r >>= λ read. Ok (node_from file m.start (Map read.0), read.1))
      (many_stops (next_key file m.depth m.start.column) (pair file (values_at file m.depth)) turns
      before rows fault some is))
      fails

  pub pairs_break :
      (left : List Row) (x : FoundKey) (e : ReadFault) →
      next_key file m.depth m.start.column rows ≡ Ok (Some x, left) →
      Fails e (pair file (values_at file m.depth) before x left)
      → Fails e (pairs_from file m turns before rows)
  pairs_break left x e found fails =
      fails_along e (pair file (values_at file m.depth) before x left)
      (pairs_from file m turns before rows)
      (λ fault is. ap (λ r. r >>= λ read. Ok (node_from file m.start (Map read.0), read.1))
      (many_breaks (next_key file m.depth m.start.column) (pair file (values_at file m.depth)) turns
      before rows left x fault some found is))
      fails

  pub pairs_end :
      (left : List Row) (made : Node) →
      next_key file m.depth m.start.column rows ≡ Ok (None, left) →
      made ≡ node_from file m.start (Map before)
      → pairs_from file m turns before rows ≡ Ok (made, left)
  pairs_end left made none is =
      ap (λ r. r >>= λ read. Ok (node_from file m.start (Map read.0), read.1))
      (many_ends (next_key file m.depth m.start.column) (pair file (values_at file m.depth)) turns
      before rows left some none)
      ∙ ap (λ n. Ok (n, left)) (sym is)

  pub pairs_go :
      (left : List Row) (x : FoundKey) →
      next_key file m.depth m.start.column rows ≡ Ok (Some x, left)
      → pairs_from file m turns before rows ≡ (pair file (values_at file m.depth) before x left >>=
      λ read. pairs_from file m (turns - 1) (before ++ read.0 ∷ []) read.1)
  pairs_go left x found =
      ap (λ r. r >>= λ read. Ok (node_from file m.start (Map read.0), read.1))
      (many_goes (next_key file m.depth m.start.column) (pair file (values_at file m.depth)) turns
      before rows left x some found)
      ∙ bind_bind (pair file (values_at file m.depth) before x left)
      (λ next. pairs file (values_at file m.depth) m.start.column (turns - 1) (before ++
      next.0 ∷ []) next.1)
      (λ read. Ok (node_from file m.start (Map read.0), read.1))
