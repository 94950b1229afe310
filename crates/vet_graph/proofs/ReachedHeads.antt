-- What was reached is marked by its heads, which are the first steps to each version.
use Rattle.std.proofs.Common.{◌≡◌, ◌≢◌, ℕ, ◌+◌, ◌<◌, Bool, true, false, List, [], ◌∷◌, ◌++◌, Option}
use Rattle.std.proofs.Common.{Some, None, length, take, get_or, refl, sym, ◌∙◌, ap, inl, inr, ◌↔◌, arith}
use Rattle.std.proofs.Common.{replicate, set, Vec, Global}
use Rattle.std.specs.List.{All, Contains}
use Rattle.std.proofs.lemmas.List.Elements.{All-nil, All-push, All-weaker}
use Rattle.std.proofs.lemmas.List.Elements.{All-contains, All-more, Contains-append_left, Contains-push}
use Rattle.std.proofs.lemmas.List.Elements.{Contains-push_cases, Contains-get_or}
use Rattle.std.proofs.lemmas.List.{length-map, get_or-map, get_or_default}
use Rattle.std.proofs.lemmas.List.{get_or-set_same, get_or-set_other, get_or-replicate, length-replicate, length-set}
use Rattle.std.proofs.lemmas.Bool.{cases_lt, false≢true}
use Rattle.vet_base.specs.Version.{VersionValue}
use Rattle.vet_graph.specs.declared.guarded.GuardedStep.{GuardedStep}
use Rattle.vet_graph.specs.declared.search.Terms.{Terms}
use Rattle.vet_demand.proofs.Lists.{Contains-kept}
use Rattle.vet_graph.specs.ListLaws.{Contains-map}
use Rattle.vet_graph.specs.declared.links.Links.{Links}
use Rattle.vet_graph.specs.Links.{AreFrom, IsLinked, lists_in, origin_at}
use Rattle.vet_graph.specs.Reaching.{IsDone, IsReaching, LeadsFrom, LeadsOn, Stands, StandsBefore}
use Rattle.vet_graph.specs.Search.{is_open, no_step, versions_at, version_at}
use Rattle.vet_graph.proofs.Reach.{Contains-unmapped, IsSound-nil, IsSound-push, Stands-kept, leads_there}
use Rattle.vet_graph.proofs.Reach.{versions-kept, versions-push}

-- a version that was reached is so by its head
head_reached : (steps : List GuardedStep) (links : Links) (terms : Terms) (reached : List ℕ) (seen : List Bool)
    (place : ℕ) → IsLinked steps links → place < length steps → IsReaching steps links terms reached seen
    → Contains (versions_at steps reached) (version_at steps place) → Contains reached
    (get_or links.heads.items place 0)
head_reached steps links terms reached seen place k l h w =
    let r = Contains-unmapped (version_at steps) reached (version_at steps place) w in
    let within : r.0 < length steps = All-contains (λ p. p < length steps) reached r.0 h.within r.1 in
    let own : get_or links.heads.items r.0 0
    ≡ r.0 = All-contains (λ p. get_or links.heads.items p 0 ≡ p) reached r.0 h.are_heads r.1 in
    let same : r.0 ≡ get_or links.heads.items place 0 = sym own ∙ k.same r.0 place within l r.2 in
    rw (← same) r.1

-- a step whose head is reached leads on
pub LeadsOn-seen : (steps : List GuardedStep) (links : Links) (terms : Terms) (reached : List ℕ) (seen : List Bool)
    (place : ℕ) → IsLinked steps links → place < length steps → IsReaching steps links terms reached seen
    → get_or seen (get_or links.heads.items place 0) false ≡ true → LeadsOn steps terms reached place
LeadsOn-seen steps links terms reached seen place k l h e o =
    leads_there steps reached (version_at steps place) (get_or links.heads.items place 0)
    ((h.marked (get_or links.heads.items place 0) (k.within place l)).0 e) (k.leads place l)

-- a step whose head was just reached leads on
pub LeadsOn-push : (steps : List GuardedStep) (links : Links) (terms : Terms) (reached : List ℕ) (place : ℕ)
    → IsLinked steps links → place < length steps → LeadsOn steps terms
    (reached ++ get_or links.heads.items place 0 ∷ []) place
LeadsOn-push steps links terms reached place k l o =
    let head = get_or links.heads.items place 0 in
    leads_there steps (reached ++ head ∷ []) (version_at steps place) head (Contains-push reached head)
    (k.leads place l)

-- a mark more
marked-more : (reached : List ℕ) (seen : List Bool) (head p : ℕ) → head < length seen
    → (get_or seen p false ≡ true) ↔ Contains reached p → (get_or (set seen head true) p false ≡ true) ↔ Contains
    (reached ++ head ∷ []) p
marked-more reached seen head p l h =
    let other : p ≢ head → (get_or (set seen head true) p false ≡ true) ↔ Contains (reached ++ head ∷ []) p =
    λ n. (
      λ e. Contains-append_left reached (head ∷ []) p (h.0 (sym (get_or-set_other seen head p true false n) ∙ e)),
      λ w. elim
          (Contains-push_cases reached head p w) [
            | inl old ↦ get_or-set_other seen head p true false n
                ∙ h.1 old
            | inr same ↦ absurd (n (sym same))
          ],
    ) in
    elim (cases_lt p head) [
      | inl low ↦ other (λ q. omega (arith, low, q))
      | inr high ↦ elim (cases_lt head p) [
        | inl above ↦ other (λ q. omega (arith, above, q))
        | inr below ↦
            (let same : p
            ≡ head = omega arith in rw same
            (λ e. Contains-push reached head, λ w. get_or-set_same seen head true false l))
      ]
    ]

-- the head of an open step that starts here is one head more
pub IsReaching-push : (steps : List GuardedStep) (links : Links) (terms : Terms) (reached : List ℕ) (seen : List Bool)
    (place : ℕ) → IsLinked steps links → place < length steps → StandsBefore steps reached place
    → is_open terms (get_or steps place no_step) ≡ true → get_or seen (get_or links.heads.items place 0) false ≡ false
    → IsReaching steps links terms reached seen
    → IsReaching steps links terms (reached ++ get_or links.heads.items place 0 ∷ [])
    (set seen (get_or links.heads.items place 0) true)
IsReaching-push steps links terms reached seen place k l st o fresh h =
    let head = get_or links.heads.items place 0 in
    let within : head < length steps = k.within place l in
    let there : version_at steps head ≡ version_at steps place = k.leads place l in
    let new : Contains (versions_at steps reached) (version_at steps place) → ⊥ =
    λ w. false≢true (sym fresh ∙ (h.marked head within).1 (head_reached steps links terms reached seen place k l h w))
    in
    record {
      within = All-push (λ p. p < length steps) reached head h.within within;
      are_heads = All-push (λ p. get_or links.heads.items p 0 ≡ p) reached head h.are_heads
          (k.same head place within l there);
      count = length-set seen head true ∙ h.count;
      marked = λ p m. marked-more reached seen head p (rw h.count within) (h.marked p m);
      sound = rw (versions-push steps reached head, there)
          (IsSound-push steps (is_open terms) (versions_at steps reached) (origin_at steps place)
          (get_or steps place no_step) h.sound (Contains-get_or steps place no_step l) o refl st new);
    }

-- nothing is reached yet
pub IsReaching-nil : (steps : List GuardedStep) (links : Links) (terms : Terms) (seen : List Bool)
    → seen ≡ replicate (length steps) false → IsReaching steps links terms [] seen
IsReaching-nil steps links terms seen e = record {
  within = All-nil _;
  are_heads = All-nil _;
  count = ap length e ∙ length-replicate (length steps) false;
  marked = λ p l. (
    λ t. absurd
        (false≢true
        (sym (ap (λ (s : List Bool). get_or s p false) e ∙ get_or-replicate {A = Bool} (length steps) p false false l)
        ∙ t)),
    λ w. absurd (omega (arith, w.1)),
  );
  sound = IsSound-nil steps (is_open terms);
}

-- ---- steps that start here

pub StandsBefore-kept : (steps : List GuardedStep) (old new : List ℕ) (place : ℕ) → take (length old) new ≡ old
    → StandsBefore steps old place → StandsBefore steps new place
StandsBefore-kept steps old new place kept h = Stands-kept (versions_at steps old) (versions_at steps new)
    (origin_at steps place) (versions-kept steps old new kept) h

-- each place so far leads on, and so does one more
pub LeadsOn-more : (steps : List GuardedStep) (terms : Terms) (old new places : List ℕ) (i : ℕ) → i < length places
    → take (length old) new ≡ old → All (LeadsOn steps terms old) (take i places)
    → LeadsOn steps terms new (get_or places i 0) → All (LeadsOn steps terms new) (take (i + 1) places)
LeadsOn-more steps terms old new places i l kept below here =
    All-more (LeadsOn steps terms new) places i 0 l
    (All-weaker (LeadsOn steps terms old) (LeadsOn steps terms new)
    (λ p q o. Contains-kept (versions_at steps old) (versions_at steps new) (version_at steps p)
    (versions-kept steps old new kept) (q o)) (take i places) below) here

-- where the steps that start here lead on, each step that starts here leads into what was reached
pub LeadsFrom-filed : (steps : List GuardedStep) (terms : Terms) (reached places : List ℕ) (from : Option VersionValue)
    → AreFrom steps from (length steps) places → All (LeadsOn steps terms reached) places
    → All (LeadsFrom (is_open terms) (versions_at steps reached) from) steps
LeadsFrom-filed steps terms reached places from f h k d l =
    let same : get_or steps k d ≡ get_or steps k no_step = get_or_default steps k d no_step l in
    rw same (λ e o. All-contains (LeadsOn steps terms reached) places k h (f.each k l o) e)

-- they stand before what was reached, where this is nothing, or was reached
pub filed-within : (steps : List GuardedStep) (from : Option VersionValue) (places : List ℕ)
    → AreFrom steps from (length steps) places → All (λ p. p < length steps) places
filed-within steps from places f = All-weaker (λ p. (p < length steps) × (origin_at steps p ≡ from))
    (λ p. p < length steps) (λ p q. q.0) places f.only

pub filed-stands : (steps : List GuardedStep) (reached : List ℕ) (from : Option VersionValue) (places : List ℕ)
    → AreFrom steps from (length steps) places → Stands (versions_at steps reached) from
    → All (StandsBefore steps reached) places
filed-stands steps reached from places f st = All-weaker (λ p. (p < length steps) × (origin_at steps p ≡ from))
    (StandsBefore steps reached) (λ p q. rw q.1 st) places f.only

-- nothing but the steps from nothing is done with
pub IsDone-start : (steps : List GuardedStep) (open_step : GuardedStep → Bool) (reached : List VersionValue)
    → All (LeadsFrom open_step reached None) steps → IsDone steps open_step reached 0
IsDone-start steps open_step reached h = record { start = h; below = λ k d l. absurd (omega arith) }

-- ---- as the code reads heads and marks

head_read : (steps : List GuardedStep) (links : Links) (place head : ℕ) → IsLinked steps links → place < length steps
    → head ≡ get_or links.heads.items place head → head ≡ get_or links.heads.items place 0
head_read steps links place head k l is = is ∙ get_or_default links.heads.items place head 0 (rw k.count l)

mark_read : (steps : List GuardedStep) (links : Links) (terms : Terms) (reached : List ℕ) (seen : List Bool)
    (place head : ℕ) (mark told : Bool) → IsLinked steps links → place < length steps
    → IsReaching steps links terms reached seen
    → head ≡ get_or links.heads.items place head → mark ≡ get_or seen head mark → mark ≡ told
    → get_or seen (get_or links.heads.items place 0) false ≡ told
mark_read steps links terms reached seen place head mark told k l h is at e =
    let own : head ≡ get_or links.heads.items place 0 = head_read steps links place head k l is in
    let low : head < length seen = rw (own, h.count) (k.within place l) in
    rw (← own) (sym (get_or_default seen head mark false low) ∙ sym at ∙ e)

pub LeadsOn-found : (steps : List GuardedStep) (links : Links) (terms : Terms) (reached : List ℕ) (seen : List Bool)
    (place head : ℕ) (mark : Bool) → IsLinked steps links → place < length steps
    → IsReaching steps links terms reached seen
    → head ≡ get_or links.heads.items place head → mark ≡ get_or seen head mark → mark ≡ true
    → LeadsOn steps terms reached place
LeadsOn-found steps links terms reached seen place head mark k l h is at e =
    LeadsOn-seen steps links terms reached seen place k l h
    (mark_read steps links terms reached seen place head mark true k l h is at e)

pub LeadsOn-next : (steps : List GuardedStep) (links : Links) (terms : Terms) (reached : List ℕ) (place head : ℕ)
    → IsLinked steps links → place < length steps → head ≡ get_or links.heads.items place head
    → LeadsOn steps terms (reached ++ head ∷ []) place
LeadsOn-next steps links terms reached place head k l is = rw (head_read steps links place head k l is)
    (LeadsOn-push steps links terms reached place k l)

pub IsReaching-next : (steps : List GuardedStep) (links : Links) (terms : Terms) (reached : List ℕ) (seen : List Bool)
    (place head : ℕ) (mark : Bool) (s : GuardedStep) → IsLinked steps links → place < length steps
    → StandsBefore steps reached place
    → s ≡ get_or steps place s → is_open terms s ≡ true → IsReaching steps links terms reached seen
    → head ≡ get_or links.heads.items place head → mark ≡ get_or seen head mark → mark ≡ false
    → IsReaching steps links terms (reached ++ head ∷ []) (set seen head true)
IsReaching-next steps links terms reached seen place head mark s k l st here o h is at e =
    rw (head_read steps links place head k l is)
    (IsReaching-push steps links terms reached seen place k l st
    (ap (is_open terms) (sym (here ∙ get_or_default steps place s no_step l)) ∙ o)
    (mark_read steps links terms reached seen place head mark false k l h is at e) h)

-- the steps that start at a version that was reached
pub filed_at : (steps : List GuardedStep) (links : Links) (terms : Terms) (reached : List ℕ) (seen : List Bool)
    (next from : ℕ) (list : Vec ℕ Global) (places : List ℕ) → IsLinked steps links
    → IsReaching steps links terms reached seen
    → next < length reached → from ≡ get_or reached next from → list ≡ get_or links.after.items from list
    → places ≡ list.items → AreFrom steps (Some (version_at steps from)) (length steps) places
filed_at steps links terms reached seen next from list places k h l at is e =
    let among : Contains reached from = (next, l, sym at) in
    let within : from < length steps = All-contains (λ p. p < length steps) reached from h.within among in
    let own : get_or links.heads.items from 0
    ≡ from = All-contains (λ p. get_or links.heads.items p 0 ≡ p) reached from h.are_heads among in
    let low : from < length links.after.items = (let low' = rw (← k.filed.count, length-map) at within in low') in
    let same : get_or (lists_in links.after.items) from [] ≡ places = get_or-map
    (λ (x : Vec ℕ Global). x.items) links.after.items from list [] low ∙ ap (λ (x : Vec ℕ Global). x.items) (sym is)
    ∙ sym e in
    rw (← same) (k.filed.from_heads from within own)

-- it stands at a version that was reached
pub stands_at : (steps : List GuardedStep) (reached : List ℕ) (next from : ℕ) → next < length reached
    → from ≡ get_or reached next from → Stands (versions_at steps reached) (Some (version_at steps from))
stands_at steps reached next from l at = Contains-map (version_at steps) reached from (next, l, sym at)
