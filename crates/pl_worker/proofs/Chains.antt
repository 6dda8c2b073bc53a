-- How links that were served follow one another.
use Rattle.std.proofs.Common.{◌≡◌, ℕ, Bool, true, false, List, [], ◌∷◌, ◌++◌, Option, Some, None}
use Rattle.std.proofs.Common.{refl, sym, ◌∙◌, ap, subst, append_assoc, map}
use Rattle.pl_base.specs.Counts.{one_more}
use Rattle.pl_listener.specs.Handles.{Handle, Passed, gave, with_link}
use Rattle.pl_sessions.specs.Session.{Session}
use Rattle.pl_sessions.specs.Told.{Told}
use Rattle.pl_sessions.specs.declared.answer.Answer.{Answer}
use Rattle.pl_sessions.specs.declared.served.Served.{Served}
use Rattle.pl_wire.specs.declared.message.Message.{Message}
use Rattle.pl_worker.specs.Chain.{Visit, Chain, Stopping, is_stopped, with_visits}
use Rattle.pl_worker.specs.Chain.{passed_of, counted}
use Rattle.pl_worker.specs.Works.{Stand, stand, ServesOne, ServesAll, shut_if}

nothing_behind : (links : List Passed) → links ++ [] ≡ links
nothing_behind [] = refl
nothing_behind (link ∷ links) = ap (λ more. link ∷ more) (nothing_behind links)

map_then : (visits more : List Visit)
    → map passed_of visits ++ map passed_of more ≡ map passed_of (visits ++ more)
map_then [] more = refl
map_then (first ∷ visits) more = ap (λ links. passed_of first ∷ links) (map_then visits more)

passed_none : (passed : Option (List Passed)) → passed ≡ with_visits passed []
passed_none None = refl
passed_none (Some links) = ap Some (sym (nothing_behind links))

passed_one : (passed : Option (List Passed)) (visit : Visit)
    → with_link passed (Some visit.given) visit.left ≡ with_visits passed (visit ∷ [])
passed_one None visit = refl
passed_one (Some links) visit = refl

passed_then : (passed : Option (List Passed)) (visits more : List Visit)
    → with_visits (with_visits passed visits) more ≡ with_visits passed (visits ++ more)
passed_then None visits more = refl
passed_then (Some links) visits more =
    ap Some (append_assoc links (map passed_of visits) (map passed_of more)
    ∙ ap (λ behind. links ++ behind) (map_then visits more))

counted_then : (count : ℕ) (visits more : List Visit)
    → counted (counted count visits) more ≡ counted count (visits ++ more)
counted_then count [] more = refl
counted_then count (first ∷ visits) more = counted_then (one_more count) visits more

stopping_then : (stopped : Bool) (visits more : List Visit) → Stopping false visits
    → Stopping stopped more → Stopping stopped (visits ++ more)
stopping_then stopped [] more none behind = behind
stopping_then stopped (first ∷ []) [] none behind =
    subst (λ (last : Bool). Stopping last (first ∷ [])) (sym behind) none
stopping_then stopped (first ∷ []) (next ∷ more) none behind = (none, behind)
stopping_then stopped (first ∷ next ∷ visits) more none behind =
    (none.0, stopping_then stopped (next ∷ visits) more none.1 behind)

chain_then : {D : Type 0} (act : D → ℕ → Message → Answer → D → Type 0) (old : D)
    (coming : Option (ℕ → ℕ)) (visits more : List Visit) (mid : D) (next : Option (ℕ → ℕ))
    (new : D) (later : Option (ℕ → ℕ))
    → Chain act old coming visits mid next → Chain act mid next more new later
    → Chain act old coming (visits ++ more) new later
chain_then act old coming [] more mid next new later c d =
    subst (λ at. Chain act at coming more new later) c.0
    (subst (λ at. Chain act mid at more new later) c.1 d)
chain_then act old coming (first ∷ visits) more mid next new later c d = (
  c.0,
  c.1,
  c.2,
  chain_then act c.0 c.1 visits more mid next new later c.3 d,
)

-- before the first link
pub serves_none : {D : Type 0} (act : D → ℕ → Message → Answer → D → Type 0) (old : Stand D)
    → old.handle.out ≡ None → ServesAll act old false old
serves_none act old out = record {
  visits = [];
  chain = (refl, refl);
  stops = refl;
  passed = passed_none old.handle.passed;
  accepted = refl;
  out = out;
}

-- links and others behind them
pub serves_then : {D : Type 0} (act : D → ℕ → Message → Answer → D → Type 0)
    (old mid new : Stand D) (stopped : Bool) → ServesAll act old false mid
    → ServesAll act mid stopped new → ServesAll act old stopped new
serves_then act old mid new stopped all more = record {
  visits = all.visits ++ more.visits;
  chain = chain_then act old.desk old.coming all.visits more.visits mid.desk mid.coming new.desk
      new.coming all.chain more.chain;
  stops = stopping_then stopped all.visits more.visits all.stops more.stops;
  passed =
      more.passed
      ∙ (ap (λ links. with_visits links more.visits) all.passed
      ∙ passed_then old.handle.passed all.visits more.visits);
  accepted =
      more.accepted
      ∙ (ap (λ count. counted count more.visits) all.accepted
      ∙ counted_then old.handle.accepted all.visits more.visits);
  out = more.out;
}

-- what a handle tells otherwise, where it closed the door or not
pub shut_passed : (stopped : Bool) (h : Handle) → (shut_if stopped h).passed ≡ h.passed
shut_passed true h = refl
shut_passed false h = refl

pub shut_out : (stopped : Bool) (h : Handle) → (shut_if stopped h).out ≡ h.out
shut_out true h = refl
shut_out false h = refl

pub shut_accepted : (stopped : Bool) (h : Handle) → (shut_if stopped h).accepted ≡ h.accepted
shut_accepted true h = refl
shut_accepted false h = refl

pub shut_faults : (stopped : Bool) (h : Handle) → (shut_if stopped h).faults ≡ h.faults
shut_faults true h = refl
shut_faults false h = refl

pub shut_found : (stopped : Bool) (h : Handle) → (shut_if stopped h).found_closed ≡ h.found_closed
shut_found true h = refl
shut_found false h = refl

-- one link
serves_one : {D : Type 0} (act : D → ℕ → Message → Answer → D → Type 0) (old new : Stand D)
    (with_it : Handle) (given : Told) (ending : Served) (stopped : Bool)
    → with_it ≡ gave old.handle given
    → ServesOne act given (stand old.desk old.coming with_it) ending new
    → is_stopped ending ≡ stopped → ServesAll act old stopped new
serves_one act old new with_it given ending stopped is one last =
    let visit : Visit = record { given = given; left = one.left; ending = ending } in
    record {
      visits = visit ∷ [];
      chain = (new.desk, new.coming, one.session, (refl, refl));
      stops = last;
      passed =
          ap (λ h. h.passed) one.back
          ∙ (ap (λ passed. with_link passed (shut_if (is_stopped ending) with_it).out one.left)
          (shut_passed (is_stopped ending) with_it)
          ∙ (ap (λ out. with_link with_it.passed out one.left)
          (shut_out (is_stopped ending) with_it)
          ∙ (ap (λ h. with_link h.passed h.out one.left) is
          ∙ passed_one old.handle.passed visit)));
      accepted =
          ap (λ h. h.accepted) one.back
          ∙ (shut_accepted (is_stopped ending) with_it ∙ ap (λ h. h.accepted) is);
      out = ap (λ h. h.out) one.back;
    }

-- one link more
pub serves_more : {D : Type 0} (act : D → ℕ → Message → Answer → D → Type 0)
    (old mid new : Stand D) (with_it : Handle) (given : Told) (ending : Served) (stopped : Bool)
    → ServesAll act old false mid → with_it ≡ gave mid.handle given
    → ServesOne act given (stand mid.desk mid.coming with_it) ending new
    → is_stopped ending ≡ stopped → ServesAll act old stopped new
serves_more act old mid new with_it given ending stopped all is one last =
    serves_then act old mid new stopped all
    (serves_one act mid new with_it given ending stopped is one last)
