-- Walks through the meanings of a call's arguments, one argument after the other.
use Rattle.std.proofs.Common.{◌≡◌, ℕ, zero, suc, ◌+◌, ◌-◌, ◌<◌, ◌≤◌, Bool, true, false, Option}
use Rattle.std.proofs.Common.{Some, None, List, [], ◌∷◌, ◌++◌, length, map, max, min, get_or, drop}
use Rattle.std.proofs.Common.{take, Result, Ok, Err, inl, inr, refl, ap, sym, ◌∙◌, append_assoc}
use Rattle.std.proofs.Common.{arith}
use Rattle.std.specs.Prelude.{◌&&◌, not, nat_le, if◌then◌else◌, slice_get, unwrap_or}
use Rattle.std.specs.Option.{option_map}
use Rattle.std.proofs.lemmas.Option.{slice_get-map}
use Rattle.std.proofs.lemmas.List.{at_drop_more, at_drop_all, append-nil, take_all}
use Rattle.std.proofs.lemmas.Bool.{cases_lt}
use Rattle.std.proofs.lemmas.Bool.Decides.{nat_tests}
use Rattle.pl_base.specs.declared.origin.Origin.{Origin}
use Rattle.pl_base.specs.declared.value.Value.{Value}
use Rattle.pl_base.specs.declared.value.MarkedNode.{MarkedNode}
use Rattle.pl_expr.specs.Conversions.{bool_of, is_null, equals}
use Rattle.pl_expr.specs.declared.expr.Expr.{Expr}
use Rattle.pl_eval.specs.declared.fault.EvalCode.{EvalCode}
use Rattle.pl_eval.specs.declared.fault.EvalFault.{EvalFault}
use Rattle.pl_eval.specs.declared.fault.EvalFault.TheVariants as faults
use Rattle.pl_reading.specs.Steps.{◌>>=◌}
use Rattle.pl_eval.specs.Gives.{Refuses}
use Rattle.pl_eval.specs.Means.{Meaning, null, argument, filled, counted, up_to, all_true, any_true}
use Rattle.pl_eval.specs.Means.{first_filled, is_among, first_is_among, values}

-- a fault that ends a step ends what goes on from it
pub refuses_along :
    {X Y : Type 0} (fault : EvalFault) (step : Result X EvalCode) (whole : Result Y EvalCode) →
    ((code : EvalCode) → step ≡ Err code → whole ≡ Err code) → Refuses fault step →
    Refuses fault whole
refuses_along faults.Memory step whole moves refused = tt
refuses_along (faults.Refused code) step whole moves refused = moves code refused

-- the argument at a place in front of those behind it
front :
    {R : Type 0} (walk : List Meaning → R) (f : Expr → Meaning) (items : List Expr) (i : ℕ)
    (item : Expr) →
    i < length items → item ≡ get_or items i item →
    walk (map f (drop i items)) ≡ walk (f item ∷ map f (drop (i + 1) items))
front walk f items i item within is =
    at_drop_more (λ rest. walk (map f rest)) items i item within ∙
    ap (λ x. walk (f x ∷ map f (drop (i + 1) items))) (sym is)

-- no argument is left
length_map : (f : Expr → Meaning) (items : List Expr) → length (map f items) ≡ length items
length_map f [] = refl
length_map f (item ∷ items) = ap suc (length_map f items)

take_none : (n : ℕ) (arguments : List Meaning) → arguments ≡ [] → take n arguments ≡ []
take_none zero arguments none = refl
take_none (suc n) [] none = refl
take_none (suc n) (first ∷ arguments) none = absurd (cc)

over :
    {R : Type 0} (walk : List Meaning → R) (f : Expr → Meaning) (items : List Expr) (i : ℕ) →
    length items ≤ i → walk (map f (drop i items)) ≡ walk []
over walk f items i ended = at_drop_all (λ rest. walk (map f rest)) items i ended

-- ---- and

both : (r : Result Bool EvalCode) → r ≡ (r >>= λ is. Ok (is && true))
both (Ok true) = refl
both (Ok false) = refl
both (Err code) = refl

-- two arguments at least
abbrev enough : ℕ → Bool → Result Bool EvalCode
enough count is = Ok (is && nat_le 2 count)

alone :
    (here : Origin) (b : Bool) →
    (if b then all_true (Ok (null here) ∷ []) else Ok false) ≡
    ((if b then all_true [] else Ok false) >>= enough 1)
unfolding all_true
alone here true = refl
alone here false = refl

all_filled :
    (here : Origin) (arguments : List Meaning) →
    all_true (filled here 2 arguments) ≡ (all_true arguments >>= enough (length arguments))
unfolding all_true
all_filled here [] = refl
all_filled here (Err code ∷ []) = refl
all_filled here (Ok node ∷ []) = alone here (bool_of node.value)
all_filled here (first ∷ second ∷ arguments) =
    let there : true ≡ nat_le 2 (length (first ∷ second ∷ arguments)) = grind (arith, nat_tests) in
    both (all_true (first ∷ second ∷ arguments)) ∙
    ap (λ (b : Bool). all_true (first ∷ second ∷ arguments) >>= λ is. Ok (is && b)) there

module _ (f : Expr → Meaning) (items : List Expr) (i : ℕ) (item : Expr) where
  pub all_goes_on :
      (node : MarkedNode) → i < length items → item ≡ get_or items i item → f item ≡ Ok node →
      bool_of node.value ≡ true → all_true (map f items) ≡ all_true (map f (drop i items)) →
      all_true (map f items) ≡ all_true (map f (drop (i + 1) items))
  unfolding all_true
  all_goes_on node within is ok holds walked = walked ∙ (front all_true f items i item within is ∙
      rw (ok, holds) refl)

  pub all_ends :
      (here : Origin) (node : MarkedNode) → i < length items → item ≡ get_or items i item →
      f item ≡ Ok node → bool_of node.value ≡ false →
      all_true (map f items) ≡ all_true (map f (drop i items)) →
      all_true (filled here 2 (map f items)) ≡ Ok false
  unfolding all_true
  all_ends here node within is ok fails walked =
      let e : all_true (map f items) ≡ Ok false = walked ∙
      (front all_true f items i item within is ∙ rw (ok, fails) refl) in
      all_filled here (map f items) ∙ ap (λ (r : Result Bool EvalCode). r >>=
      enough (length (map f items))) e

  pub all_stops :
      (here : Origin) (code : EvalCode) → i < length items → item ≡ get_or items i item →
      all_true (map f items) ≡ all_true (map f (drop i items)) → f item ≡ Err code →
      all_true (filled here 2 (map f items)) ≡ Err code
  unfolding all_true
  all_stops here code within is walked fault =
      let e : all_true (map f items) ≡ Err code = walked ∙
      (front all_true f items i item within is ∙ rw fault refl) in
      all_filled here (map f items) ∙ ap (λ (r : Result Bool EvalCode). r >>=
      enough (length (map f items))) e

  pub any_goes_on :
      (node : MarkedNode) → i < length items → item ≡ get_or items i item → f item ≡ Ok node →
      bool_of node.value ≡ false → any_true (map f items) ≡ any_true (map f (drop i items)) →
      any_true (map f items) ≡ any_true (map f (drop (i + 1) items))
  unfolding any_true
  any_goes_on node within is ok fails walked = walked ∙ (front any_true f items i item within is ∙
      rw (ok, fails) refl)

  pub any_ends :
      (node : MarkedNode) → i < length items → item ≡ get_or items i item → f item ≡ Ok node →
      bool_of node.value ≡ true → any_true (map f items) ≡ any_true (map f (drop i items)) →
      any_true (map f items) ≡ Ok true
  unfolding any_true
  any_ends node within is ok holds walked = walked ∙ (front any_true f items i item within is ∙
      rw (ok, holds) refl)

  pub any_stops :
      (code : EvalCode) → i < length items → item ≡ get_or items i item →
      any_true (map f items) ≡ any_true (map f (drop i items)) → f item ≡ Err code →
      any_true (map f items) ≡ Err code
  unfolding any_true
  any_stops code within is walked fault = walked ∙ (front any_true f items i item within is ∙
      rw fault refl)

  pub filled_goes_on :
      (here : Origin) (node : MarkedNode) → i < length items → item ≡ get_or items i item →
      f item ≡ Ok node → is_null node.value ≡ true →
      first_filled here (map f items) ≡ first_filled here (map f (drop i items)) →
      first_filled here (map f items) ≡ first_filled here (map f (drop (i + 1) items))
  unfolding first_filled
  filled_goes_on here node within is ok empty walked = walked ∙
      (front (first_filled here) f items i item within is ∙ rw (ok, empty) refl)

  pub filled_ends :
      (here : Origin) (node : MarkedNode) → i < length items → item ≡ get_or items i item →
      f item ≡ Ok node → is_null node.value ≡ false →
      first_filled here (map f items) ≡ first_filled here (map f (drop i items)) →
      first_filled here (map f items) ≡ Ok node
  unfolding first_filled
  filled_ends here node within is ok full walked = walked ∙
      (front (first_filled here) f items i item within is ∙ rw (ok, full) refl)

  pub filled_stops :
      (here : Origin) (code : EvalCode) → i < length items → item ≡ get_or items i item →
      first_filled here (map f items) ≡ first_filled here (map f (drop i items)) →
      f item ≡ Err code → first_filled here (map f items) ≡ Err code
  unfolding first_filled
  filled_stops here code within is walked fault = walked ∙
      (front (first_filled here) f items i item within is ∙ rw fault refl)

  -- a look at an argument from the second on
  pub among_front :
      (sought : Value) (whole : Result Bool EvalCode) → 0 < i → i < length items →
      item ≡ get_or items i item → whole ≡ is_among sought (map f (drop (max 1 i) items)) →
      whole ≡ is_among sought (f item ∷ map f (drop (i + 1) items))
  among_front sought whole later within is walked =
      let e : max 1 i ≡ i = omega arith in
      walked ∙ (ap (λ n. is_among sought (map f (drop n items))) e ∙ front (is_among sought) f items
      i item within is)

  pub among_goes_on :
      (sought : Value) (whole : Result Bool EvalCode) (node : MarkedNode) → 0 < i →
      i < length items → item ≡ get_or items i item → f item ≡ Ok node →
      equals sought node.value ≡ false → whole ≡ is_among sought (map f (drop (max 1 i) items)) →
      whole ≡ is_among sought (map f (drop (max 1 (i + 1)) items))
  unfolding is_among
  among_goes_on sought whole node later within is ok differs walked =
      let e : i + 1 ≡ max 1 (i + 1) = omega arith in
      among_front sought whole later within is walked ∙
      (rw (ok, differs) refl ∙ ap (λ n. is_among sought (map f (drop n items))) e)

  pub among_ends :
      (sought : Value) (whole : Result Bool EvalCode) (node : MarkedNode) → 0 < i →
      i < length items → item ≡ get_or items i item → f item ≡ Ok node →
      equals sought node.value ≡ true → whole ≡ is_among sought (map f (drop (max 1 i) items)) →
      whole ≡ Ok true
  unfolding is_among
  among_ends sought whole node later within is ok same walked = among_front sought whole later
      within is walked ∙ rw (ok, same) refl

  pub among_stops :
      (sought : Value) (whole : Result Bool EvalCode) (code : EvalCode) → 0 < i → i < length items →
      item ≡ get_or items i item → whole ≡ is_among sought (map f (drop (max 1 i) items)) →
      f item ≡ Err code → whole ≡ Err code
  unfolding is_among
  among_stops sought whole code later within is walked fault = among_front sought whole later within
      is walked ∙ rw fault refl

-- the loop begins at the second argument
pub among_passes :
    (f : Expr → Meaning) (items : List Expr) (i : ℕ) (sought : Value)
    (whole : Result Bool EvalCode) →
    i ≤ 0 → whole ≡ is_among sought (map f (drop (max 1 i) items)) →
    whole ≡ is_among sought (map f (drop (max 1 (i + 1)) items))
among_passes f items i sought whole first walked =
    let e : max 1 i ≡ max 1 (i + 1) = omega arith in
    walked ∙ ap (λ n. is_among sought (map f (drop n items))) e

-- the ends of the loops
pub all_over :
    (f : Expr → Meaning) (items : List Expr) (i : ℕ) (here : Origin) → length items ≤ i →
    all_true (map f items) ≡ all_true (map f (drop i items)) →
    all_true (filled here 2 (map f items)) ≡ Ok (nat_le 2 (length items))
unfolding all_true
all_over f items i here ended walked =
    let e : all_true (map f items) ≡ Ok true = walked ∙ over all_true f items i ended in
    let n : length (map f items) ≡ length items = length_map f items in
    all_filled here (map f items) ∙
    (ap (λ (r : Result Bool EvalCode). r >>= enough (length (map f items))) e ∙
    ap (λ (m : ℕ). Ok (nat_le 2 m)) n)

pub any_over :
    (f : Expr → Meaning) (items : List Expr) (i : ℕ) → length items ≤ i →
    any_true (map f items) ≡ any_true (map f (drop i items)) → any_true (map f items) ≡ Ok false
unfolding any_true
any_over f items i ended walked = walked ∙ over any_true f items i ended

pub filled_over :
    (f : Expr → Meaning) (items : List Expr) (i : ℕ) (here : Origin) → length items ≤ i →
    first_filled here (map f items) ≡ first_filled here (map f (drop i items)) →
    first_filled here (map f items) ≡ Ok (null here)
unfolding first_filled
filled_over f items i here ended walked = walked ∙ over (first_filled here) f items i ended

pub among_over :
    (f : Expr → Meaning) (items : List Expr) (i : ℕ) (sought : Value)
    (whole : Result Bool EvalCode) →
    length items ≤ i → whole ≡ is_among sought (map f (drop (max 1 i) items)) → whole ≡ Ok false
unfolding is_among
among_over f items i sought whole ended walked = walked ∙ over (is_among sought) f items (max 1 i)
    (omega arith)

-- ---- the values of all arguments

abbrev pub behind :
    List MarkedNode → Result (List MarkedNode) EvalCode → Result (List MarkedNode) EvalCode
behind nodes rest = rest >>= λ more. Ok (nodes ++ more)

behind_none : (rest : Result (List MarkedNode) EvalCode) → rest ≡ behind [] rest
behind_none (Ok nodes) = refl
behind_none (Err code) = refl

behind_one :
    (nodes : List MarkedNode) (node : MarkedNode) (rest : Result (List MarkedNode) EvalCode) →
    behind nodes (rest >>= λ more. Ok (node ∷ more)) ≡ behind (nodes ++ node ∷ []) rest
behind_one nodes node (Ok more) = ap (λ all. Ok all) (sym (append_assoc nodes (node ∷ []) more))
behind_one nodes node (Err code) = refl

take_counted :
    (f : Expr → Meaning) (items : List Expr) (most : Option ℕ) →
    up_to most (map f items) ≡ take (counted most (length items)) (map f items)
take_counted f items None =
    sym (take_all (length items) (map f items) (omega (arith, length_map f items)))
take_counted f items (Some most) = elim (cases_lt most (length items)) [
  | inl less ↦ ap (λ n. take n (map f items)) (let e : most ≡ min most (length items) =
      omega arith in e)
  | inr more ↦
      take_all most (map f items) (omega (arith, length_map f items))
      ∙ sym (take_all (min most (length items)) (map f items) (omega (arith, length_map f items)))
]

pub values_begin :
    (f : Expr → Meaning) (items : List Expr) (most : Option ℕ) (count : ℕ) →
    count ≡ counted most (length items) →
    values (up_to most (map f items)) ≡ behind [] (values (take (count - 0) (map f (drop 0 items))))
values_begin f items most count is =
    let e : counted most (length items) ≡ count - 0 = omega (arith, is) in
    ap values (take_counted f items most) ∙
    (behind_none (values (take (counted most (length items)) (map f items))) ∙
    ap (λ n. behind [] (values (take n (map f items)))) e)

values_front :
    (f : Expr → Meaning) (items : List Expr) (i count : ℕ) (item : Expr) → i < count →
    i < length items → item ≡ get_or items i item →
    values (take (count - i) (map f (drop i items))) ≡
    values (f item ∷ take (count - (i + 1)) (map f (drop (i + 1) items)))
values_front f items i count item early within is =
    let e : count - i ≡ suc (count - (i + 1)) = omega arith in
    ap (λ n. values (take n (map f (drop i items)))) e ∙
    front (λ ms. values (take (suc (count - (i + 1))) ms)) f items i item within is

pub values_go_on :
    (f : Expr → Meaning) (items : List Expr) (i count : ℕ) (item : Expr) (node : MarkedNode)
    (nodes longer : List MarkedNode) (whole : Result (List MarkedNode) EvalCode) →
    i < count → i < length items → item ≡ get_or items i item → f item ≡ Ok node →
    longer ≡ nodes ++ node ∷ [] →
    whole ≡ behind nodes (values (take (count - i) (map f (drop i items)))) →
    whole ≡ behind longer (values (take (count - (i + 1)) (map f (drop (i + 1) items))))
unfolding values
values_go_on f items i count item node nodes longer whole early within is ok grown walked =
    walked ∙ (ap (behind nodes) (values_front f items i count item early within is)
    ∙ (rw ok refl ∙
    (behind_one nodes node (values (take (count - (i + 1)) (map f (drop (i + 1) items))))
    ∙ ap (λ all. behind all (values (take (count - (i + 1)) (map f (drop (i + 1) items)))))
    (sym grown))))

pub values_pass :
    (f : Expr → Meaning) (items : List Expr) (i count : ℕ) (nodes kept : List MarkedNode)
    (whole : Result (List MarkedNode) EvalCode) →
    count ≤ i → kept ≡ nodes →
    whole ≡ behind nodes (values (take (count - i) (map f (drop i items)))) →
    whole ≡ behind kept (values (take (count - (i + 1)) (map f (drop (i + 1) items))))
values_pass f items i count nodes kept whole late same walked =
    let none : count - i ≡ 0 = omega arith in
    let next : 0 ≡ count - (i + 1) = omega arith in
    walked ∙ (ap (λ n. behind nodes (values (take n (map f (drop i items))))) none
    ∙ (ap (λ n. behind nodes (values (take n (map f (drop (i + 1) items))))) next ∙
    ap (λ all. behind all (values (take (count - (i + 1)) (map f (drop (i + 1) items)))))
    (sym same)))

pub values_stop :
    (f : Expr → Meaning) (items : List Expr) (i count : ℕ) (item : Expr) (nodes : List MarkedNode)
    (whole : Result (List MarkedNode) EvalCode) (code : EvalCode) →
    i < count → i < length items → item ≡ get_or items i item →
    whole ≡ behind nodes (values (take (count - i) (map f (drop i items)))) → f item ≡ Err code →
    whole ≡ Err code
unfolding values
values_stop f items i count item nodes whole code early within is walked fault =
    walked ∙ (ap (behind nodes) (values_front f items i count item early within is) ∙ rw fault refl)

pub values_over :
    (f : Expr → Meaning) (items : List Expr) (i count : ℕ) (nodes : List MarkedNode)
    (whole : Result (List MarkedNode) EvalCode) →
    length items ≤ i → whole ≡ behind nodes (values (take (count - i) (map f (drop i items)))) →
    whole ≡ Ok nodes
unfolding values
values_over f items i count nodes whole ended walked =
    walked ∙ (ap (behind nodes) (over (λ ms. values (take (count - i) ms)) f items i ended ∙
    ap values (take_none (count - i) [] refl)) ∙ ap (λ all. Ok all) (append-nil nodes))

-- ---- the whole list and the list that a loop goes through

pub moved :
    {R : Type 0} (walk : List Expr → R) (arguments items : List Expr) (r : R) → items ≡ arguments →
    walk items ≡ r → walk arguments ≡ r
moved walk arguments items r same walked = ap walk (sym same) ∙ walked

pub among_whole :
    (f : Expr → Meaning) (here : Origin) (arguments items : List Expr) (first : MarkedNode)
    (r : Result Bool EvalCode) →
    items ≡ arguments → argument here (map f arguments) 0 ≡ Ok first →
    is_among first.value (drop 1 (map f items)) ≡ r → first_is_among here (map f arguments) ≡ r
among_whole f here arguments items first r same there walked =
    ap (λ (m : Meaning). m >>= λ node. is_among node.value (drop 1 (map f arguments))) there
    ∙ moved (λ xs. is_among first.value (drop 1 (map f xs))) arguments items r same walked

-- ---- one argument

pub argument_there :
    (f : Expr → Meaning) (here : Origin) (arguments : List Expr) (at : ℕ) (expr : Expr) →
    Some expr ≡ slice_get arguments at → argument here (map f arguments) at ≡ f expr
argument_there f here arguments at expr there =
    ap (λ (m : Option Meaning). unwrap_or m (Ok (null here))) (slice_get-map f arguments at)
    ∙ ap (λ (x : Option Expr). unwrap_or (option_map f x) (Ok (null here))) (sym there)

pub argument_missing :
    (f : Expr → Meaning) (here : Origin) (arguments : List Expr) (at : ℕ) →
    None ≡ slice_get arguments at → argument here (map f arguments) at ≡ Ok (null here)
argument_missing f here arguments at missing =
    ap (λ (m : Option Meaning). unwrap_or m (Ok (null here))) (slice_get-map f arguments at)
    ∙ ap (λ (x : Option Expr). unwrap_or (option_map f x) (Ok (null here))) (sym missing)

-- ---- contrary tests

pub not_then : (b r : Bool) → r ≡ not b → r ≡ true → b ≡ false
not_then true r is holds = sym (sym is ∙ holds)
not_then false r is holds = refl

pub not_else : (b r : Bool) → r ≡ not b → r ≡ false → b ≡ true
not_else true r is fails = refl
not_else false r is fails = sym (sym is ∙ fails)
