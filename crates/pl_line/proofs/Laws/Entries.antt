-- The entries of flow collections, as a loop reads them, and how many collections may open.
use Rattle.std.proofs.Common.{◌≡◌, ℕ, zero, suc, ◌-◌, ◌<◌, ◌≤◌, true, false, cond, List, [], ◌∷◌}
use Rattle.std.proofs.Common.{◌++◌, Some, None, Ok, Err, length, refl, sym, ap, ◌∙◌, arith}
use Rattle.pl_base.specs.declared.place.FileKey.{FileKey}
use Rattle.pl_base.specs.declared.node.Node.{Node}
use Rattle.pl_base.specs.declared.node.NodeBody.{NodeBody}
use Rattle.pl_line.specs.declared.code.YamlCode.TheVariants as codes_of
use Rattle.pl_line.specs.declared.line_fault.Fault.{Fault}
use Rattle.pl_line.specs.declared.line_fault.ReadFault.{ReadFault}
use Rattle.pl_line.specs.declared.line_fault.ReadFault.TheVariants as faults
use Rattle.pl_line.specs.Rows.{Row}
use Rattle.pl_line.specs.Reading.{fault_at}
use Rattle.pl_line.specs.Gives.{Fails}
use Rattle.pl_reading.specs.Steps.{◌>>=◌}
use Rattle.pl_line.specs.Left.{behind}
use Rattle.pl_reading.specs.Bytes.{begins_with}
use Rattle.pl_line.specs.Trees.{node_at}
use Rattle.pl_line.specs.Flow.{FlowRead, separated, entries, gathered, sequence, mapping}
use Rattle.pl_line.specs.Flow.{collection, inner, node}
use Rattle.pl_line.proofs.Laws.Faults.{fails_as, fails_along}

-- a text that begins with a character has one
pub begins_some : (c : ℕ) (text : List ℕ) → begins_with c text ≡ true → 1 ≤ length text
begins_some c [] is = grind (arith, is)
begins_some c (first ∷ rest) is = omega arith

-- in a collection one less may open
inner_some :
    (file : FileKey) (depth : ℕ) → (depth ≡ 0 → ⊥) → inner file depth ≡ Some (node file (depth - 1))
unfolding inner
inner_some file zero more = absurd (more refl)
inner_some file (suc depth) more = let e : suc depth - 1 ≡ depth = omega arith in rw e refl

inner_none : (file : FileKey) (depth : ℕ) → depth ≡ 0 → inner file depth ≡ None
unfolding inner
inner_none file depth shut = ap (inner file) shut

pub node_shuts :
    (file : FileKey) (depth : ℕ) (row : Row) (e : ReadFault) → depth ≡ 0 →
    e ≡ faults.Refused (fault_at codes_of.TooDeep row) → Fails e (node file depth row)
unfolding collection
node_shuts file depth row e shut is = fails_as e _ (node file depth row) is
    (ap (λ i. collection file i row) (inner_none file depth shut))

opens : (file : FileKey) (depth : ℕ) (row : Row) → (depth ≡ 0 → ⊥)
    → node file depth row ≡ cond (begins_with 91 row.text) (sequence file (node file (depth - 1))
    row) (mapping file (node file (depth - 1)) row)
unfolding collection
opens file depth row more = ap (λ i. collection file i row) (inner_some file depth more)

pub node_sequence :
    (file : FileKey) (depth : ℕ) (row : Row) → (depth ≡ 0 → ⊥) → begins_with 91 row.text ≡ true →
    node file depth row ≡ sequence file (node file (depth - 1)) row
node_sequence file depth row more here =
    opens file depth row more ∙
    ap (λ b. cond b (sequence file (node file (depth - 1)) row)
    (mapping file (node file (depth - 1)) row)) here

pub node_mapping :
    (file : FileKey) (depth : ℕ) (row : Row) → (depth ≡ 0 → ⊥) → begins_with 91 row.text ≡ false →
    node file depth row ≡ mapping file (node file (depth - 1)) row
node_mapping file depth row more other =
    opens file depth row more ∙
    ap (λ b. cond b (sequence file (node file (depth - 1)) row)
    (mapping file (node file (depth - 1)) row)) other

module _ {A : Type 0} (close : ℕ) (one : List A → Row → FlowRead A) where
  entries_end :
      (turns : ℕ) (before : List A) (row : Row) → 0 < turns → begins_with close row.text ≡ true →
      entries close one turns before row ≡ Ok (before, row)
  unfolding entries
  entries_end zero before row some here = absurd (omega arith)
  entries_end (suc turns) before row some here =
      ap (λ b. cond b (Ok (before, row)) (one before row >>= λ next. separated close next.1 >>=
      λ left. entries close one turns (before ++ next.0 ∷ []) left)) here

  entries_next :
      (turns : ℕ) (before : List A) (row : Row) → 0 < turns → begins_with close row.text ≡ false
      → entries close one turns before row ≡ (one before row >>= λ next. separated close next.1 >>=
      λ left. entries close one (turns - 1) (before ++ next.0 ∷ []) left)
  unfolding entries
  entries_next zero before row some other = absurd (omega arith)
  entries_next (suc turns) before row some other =
      let e : suc turns - 1 ≡ turns = omega arith in
      rw e
      (ap (λ b. cond b (Ok (before, row)) (one before row >>= λ next. separated close next.1 >>=
      λ left. entries close one turns (before ++ next.0 ∷ []) left)) other)

-- the same for the collection that begins at a row
module _ {A : Type 0} (file : FileKey) (body : List A → NodeBody) (close : ℕ) (one : List A → Row →
    FlowRead A) (start : Row) (turns : ℕ) (before : List A) (row : Row)
    (some : 0 < turns) (same : entries close one turns before row ≡
    entries close one (length start.text) [] (behind 1 start)) where
  pub gathered_ends :
      (made : Node) → begins_with close row.text ≡ true → made ≡ node_at file start (body before) →
      gathered file body close one start ≡ Ok (made, row)
  unfolding gathered
  gathered_ends made here is =
      ap (λ r. r >>= λ read. Ok (node_at file start (body read.0), read.1)) (sym same ∙
      entries_end close one turns before row some here) ∙ ap (λ n. Ok (n, row)) (sym is)

  gathered_fails :
      (fault : Fault) → entries close one turns before row ≡ Err fault →
      gathered file body close one start ≡ Err fault
  unfolding gathered
  gathered_fails fault is = ap (λ r. r >>= λ read. Ok (node_at file start (body read.0), read.1))
      (sym same ∙ is)

  pub gathered_breaks :
      (e : ReadFault) → begins_with close row.text ≡ false → Fails e (one before row) →
      Fails e (gathered file body close one start)
  gathered_breaks e other fails =
      fails_along e (one before row) (gathered file body close one start)
      (λ fault is. gathered_fails fault
      (entries_next close one turns before row some other
      ∙ ap (λ r. r >>= λ next. separated close next.1 >>= λ left. entries close one (turns - 1)
      (before ++ next.0 ∷ []) left) is))
      fails

  pub gathered_strays :
      (e : ReadFault) (a : A) (left : Row) → begins_with close row.text ≡ false →
      one before row ≡ Ok (a, left) → Fails e (separated close left)
      → Fails e (gathered file body close one start)
  gathered_strays e a left other read fails =
      fails_along e (separated close left) (gathered file body close one start)
      (λ fault is. gathered_fails fault
      (entries_next close one turns before row some other
      ∙ ap (λ r. r >>= λ next. separated close next.1 >>= λ rest. entries close one (turns - 1)
      (before ++ next.0 ∷ []) rest) read
      ∙ ap (λ r. r >>= λ rest. entries close one (turns - 1) (before ++ a ∷ []) rest) is))
      fails

  pub gathered_goes :
      (a : A) (left rest : Row) (after : List A) → begins_with close row.text ≡ false →
      one before row ≡ Ok (a, left) → separated close left ≡ Ok rest → after ≡ before ++ a ∷ []
      → entries close one (turns - 1) after rest ≡ entries close one (length start.text) []
      (behind 1 start)
  gathered_goes a left rest after other read between is =
      ap (λ b. entries close one (turns - 1) b rest) is
      ∙ sym (entries_next close one turns before row some other
      ∙ ap (λ r. r >>= λ next. separated close next.1 >>= λ back. entries close one (turns - 1)
      (before ++ next.0 ∷ []) back) read
      ∙ ap (λ r. r >>= λ back. entries close one (turns - 1) (before ++ a ∷ []) back) between)
      ∙ same
