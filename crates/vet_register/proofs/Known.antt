-- The criteria that own entries name, and those to which the maps of peers lead, are known after each command too.
use Rattle.std.proofs.Common.{◌≡◌, ℕ, Bool, true, false, ◌||◌, not, cond, is_some, List, [], get_or, Option, Some, None}
use Rattle.std.proofs.Common.{option_map, Ok, refl, sym, subst, ◌∙◌}
use Rattle.std.specs.List.{All, list_any}
use Rattle.std.specs.Ordering.{nat_cmp, eq_by_cmp}
use Rattle.std.specs.Cmp.{eq_by_cmp_equiv}
use Rattle.std.specs.Cmp.Lexicographic.{slice_cmp, nat_list_cmp_total}
use Rattle.std.specs.FinMap as table
use Rattle.std.proofs.lemmas.Bool.{false≢true}
use Rattle.std.proofs.lemmas.List.Elements.{All-nil, All-cons, All-append, All-weaker, All-filter}
use Rattle.vet_base.specs.declared.criterion.Criterion.{Criterion}
use Rattle.vet_base.specs.declared.refusal.Refusal.TheVariants.{CriterionInUse, NotYours, ReviewClosed, WrongTarget}
use Rattle.vet_base.specs.Criteria.{Criteria, least_unknown}
use Rattle.vet_base.specs.CriteriaChanges.{remove_rules}
use Rattle.vet_base.specs.Day.{DayValue}
use Rattle.vet_base.specs.Gives.{refuse_if, ◌>>=◌}
use Rattle.vet_base.specs.VersionOrder.{version_eq}
use Rattle.vet_base.specs.NamesLaws.{any-members}
use Rattle.vet_base.specs.Names.{NameSet, members}
use Rattle.std.specs.FinSet as set
use Rattle.vet_base.proofs.KeyedParts.{All-with_item, All-without_item, item_found}
use Rattle.vet_base.proofs.Rising.{R}
use Rattle.vet_base.proofs.Telling.{all_known, not_refused, then_told}
use Rattle.vet_demand.specs.PolicyNames.{policy_names}
use Rattle.vet_desk.specs.declared.command.DeskCommand.{DeskCommand}
use Rattle.vet_desk.specs.declared.command.DeskCommand.TheVariants.{AddMember, OpenReview, AssignReview, FinishReview}
use Rattle.vet_desk.specs.declared.command.DeskCommand.TheVariants.{WithdrawReview}
use Rattle.vet_desk.specs.declared.review.Review.{Review}
use Rattle.vet_desk.specs.Desk.{entry_by, entry_of}
use Rattle.vet_desk.specs.DeskVerdict.{asked_of, desk_rules, finish_rules, still_open, target_of}
use Rattle.vet_desk.specs.Review.{are_open_for, is_assigned_to, is_closed, review_number, review_of}
use Rattle.vet_desk.specs.SoundDesk.{AreKnownTo, IsKnownTo}
use Rattle.vet_entries.specs.declared.entry.Entry.{Entry}
use Rattle.vet_entries.specs.declared.held_peer.HeldPeer.{HeldPeer}
use Rattle.vet_entries.specs.Entry.{own}
use Rattle.vet_entries.specs.Facts.{Facts, is_named, is_named_by, is_target_of}
use Rattle.vet_entries.specs.HeldPeer.{holding_or_none, imported, peer_name, peer_of, with_content_of}
use Rattle.vet_entries.specs.Holding.{HoldingValue}
use Rattle.vet_entries.specs.Numbered.{has_number, number_of}
use Rattle.vet_entries.specs.PeerWords.{targets}
use Rattle.vet_entries.specs.Step.{AreKnown, HasKnownCriteria, HasKnownTargets}
use Rattle.vet_register.specs.declared.command.Action.{Action}
use Rattle.vet_register.specs.declared.command.Action.TheVariants.{SetCriterion, RemoveCriterion, AddEntry, DropEntry}
use Rattle.vet_register.specs.declared.command.Action.TheVariants.{SetPeer, DropPeer, ImportPeer, SetPublishers}
use Rattle.vet_register.specs.declared.command.Action.TheVariants.{SetPolicy, DropPolicy, LoadProject, DropProject}
use Rattle.vet_register.specs.declared.command.Action.TheVariants.{ReplaceFiles, Desk, ClosePeriod, SetDay}
use Rattle.vet_register.specs.AtDesk.{added_by, if_new, unless_held}
use Rattle.vet_register.specs.Machine.{facts_after, held_of, with_entry}
use Rattle.vet_register.specs.State.{State, demanded}
use Rattle.vet_register.specs.Verdict.{is_used, limits_after_rules, references, rules}
use Rattle.vet_register.proofs.FilesPassed.{files_know, files_known, what_stays}
use Rattle.vet_register.proofs.Lists.{find-none, find-none_among, none_pass}

-- what a table has, it has after one more criterion
has_more : (t : Criteria) (n : List ℕ) (c : Criterion) (x : List ℕ) → not (table.contains_key t x) ≡ false
    → not (table.contains_key (table.insert t n c) x) ≡ false
has_more t n c x h = rw (table.get-insert nat_list_cmp_total t n c x) (tied (eq_by_cmp (slice_cmp nat_cmp) x n))
  where
    tied : (b : Bool) → not (is_some (cond b (Some c) (table.get t x))) ≡ false
    tied true = refl
    tied false = h

-- what a table has beside a name, it has without it
has_beside : (t : Criteria) (n x : List ℕ) → eq_by_cmp (slice_cmp nat_cmp) n x ≡ false → not (table.contains_key t x)
    ≡ false
    → not (table.contains_key (table.remove t n) x) ≡ false
has_beside t n x other h =
    rw (table.get-remove nat_list_cmp_total t n x, (eq_by_cmp_equiv nat_list_cmp_total).symm x n, other) h

pub stays_known : (t : Criteria) (c : Criterion) (names : NameSet) → least_unknown t names ≡ None → least_unknown
    (table.insert t c.name c) names ≡ None
stays_known t c names k = find-none (λ x. not (table.contains_key t x))
    (λ x. not (table.contains_key (table.insert t c.name c) x)) (has_more t c.name c) (members names) k

pub known_without : (t : Criteria) (n : List ℕ) (names : NameSet) → set.contains names n ≡ false → least_unknown t
    names ≡ None → least_unknown (table.remove t n) names ≡ None
known_without t n names unnamed k =
    find-none_among (eq_by_cmp (slice_cmp nat_cmp) n) (λ x. not (table.contains_key t x))
    (λ x. not (table.contains_key (table.remove t n) x))
    (has_beside t n) (members names) (any-members names n ∙ unnamed) k

both_fail : {X : Type 0} (P Q S : X → Type 0) → ((x : X) → P x → Q x → S x) → (xs : List X) → All P xs → All Q xs →
    All S xs
both_fail P Q S f xs p q k d l = f (get_or xs k d) (p k d l) (q k d l)

neither : (a b : Bool) → (a || b) ≡ false → (a ≡ false) × (b ≡ false)
neither true b h = absurd (false≢true (sym h))
neither false b h = (refl, h)

-- nothing uses a criterion that is removed
pub record Unused (s : State) (n : List ℕ) : Type 0 where
  pub facts : is_named s.held.facts n ≡ false
  pub policies : list_any (policy_names n) s.held.policies ≡ false
  pub reviews : are_open_for s.desk.reviews n ≡ false

pub unused : (s : State) (day : DayValue) (n : List ℕ) → rules s day (RemoveCriterion n) ≡ Ok tt → Unused s n
unused s day n h =
    let r = then_told (remove_rules s.held.facts.criteria n) (λ _. refuse_if (is_used s n) CriterionInUse) tt h in
    let facts = neither (is_named s.held.facts n)
    (list_any (policy_names n) s.held.policies || are_open_for s.desk.reviews n)
    (not_refused (is_used s n) CriterionInUse r.1) in
    let rest = neither (list_any (policy_names n) s.held.policies) (are_open_for s.desk.reviews n) facts.1 in
    record { facts = facts.0; policies = rest.0; reviews = rest.1 }

removed : (s : State) (day : DayValue) (n : List ℕ) → rules s day (RemoveCriterion n) ≡ Ok tt
    → (list_any (is_named_by n) s.held.facts.entries ≡ false) × (list_any (is_target_of n) s.held.facts.peers ≡ false)
removed s day n h = neither (list_any (is_named_by n) s.held.facts.entries)
    (list_any (is_target_of n) s.held.facts.peers) (unused s day n h).facts

-- the settings of a peer stay where its content does not
imported_known : (t : Criteria) (peers : List HeldPeer) (name : List ℕ) (content : HoldingValue) → All
    (HasKnownTargets t) peers
    → (o : Option HeldPeer) → peer_of peers name ≡ o → All (HasKnownTargets t) (with_content_of o content peers)
imported_known t peers name content k None e = k
imported_known t peers name content k (Some x) e =
    All-with_item R peer_name (HasKnownTargets t) peers (record x { content = content }) k
    (item_found R peer_name (HasKnownTargets t) peers name x k e).1

-- the entry that finishes a review names criteria that are known, as the review isn't closed before
entry_known : (s : State) (command : DeskCommand) → AreKnownTo s.held.facts.criteria s.desk.reviews → desk_rules
    (demanded s) s.desk command ≡ Ok tt
    → (e : Entry) → entry_of s.desk command ≡ Some e → least_unknown s.held.facts.criteria e.criteria ≡ None
entry_known s (AddMember name) known rules e is = cc is
entry_known s (OpenReview name version criteria) known rules e is = cc is
entry_known s (AssignReview n member) known rules e is = cc is
entry_known s (FinishReview n member reviewed) known rules e is = by (review_of s.desk.reviews n) refl rules is
  where
    by : (o : Option Review) → review_of s.desk.reviews n ≡ o → asked_of (finish_rules member reviewed) o ≡ Ok tt →
        option_map (entry_by member reviewed) o ≡ Some e
        → least_unknown s.held.facts.criteria e.criteria ≡ None
    by None found rules is = cc is
    by (Some r) found rules is =
        let right = λ (u : Unit {0}). refuse_if (not (is_assigned_to member r.state)) NotYours >>= λ _. refuse_if
        (not (version_eq (target_of reviewed) r.version)) WrongTarget in
        let unclosed = not_refused (is_closed r.state) ReviewClosed (then_told (still_open r) right tt rules).0 in
        let made : entry_by member reviewed r ≡ e = cc is in
        subst (λ (x : Entry). least_unknown s.held.facts.criteria x.criteria ≡ None) made
        ((item_found nat_cmp review_number (IsKnownTo s.held.facts.criteria) s.desk.reviews n r known found).1 unclosed)
entry_known s (WithdrawReview n member) known rules e is = cc is

-- what is new of what is made is what was made
of_new : (facts : Facts) (o : Option Entry) (e : Entry) → if_new facts o ≡ Some e → o ≡ Some e
of_new facts None e h = h
of_new facts (Some x) e h = by (number_of facts.entries x) h
  where
    by : (n : Option ℕ) → unless_held n x ≡ Some e → Some x ≡ Some e
    by None h = h
    by (Some n) h = cc h

with_known : (facts : Facts) (n : ℕ) (o : Option Entry) →
    ((e : Entry) → o ≡ Some e → least_unknown facts.criteria e.criteria ≡ None) → AreKnown facts → AreKnown
    (with_entry n o facts)
with_known facts n None new k = k
with_known facts n (Some e) new k = record {
  own = All-append (HasKnownCriteria facts.criteria) facts.entries _ k.own
      (All-cons (HasKnownCriteria facts.criteria) (record { number = n; entry = own e }) [] (new e refl) (All-nil _));
  targets = k.targets;
}

-- what is named is known after the command too
pub known_after : (s : State) (day : DayValue) (a : Action) → AreKnown s.held.facts → AreKnownTo s.held.facts.criteria
    s.desk.reviews → references s a ≡ Ok tt → rules s day a ≡ Ok tt
    → AreKnown (facts_after s day a)
known_after s day (SetCriterion c) k at r u = record {
  own = All-weaker (HasKnownCriteria s.held.facts.criteria) _
      (λ h. stays_known s.held.facts.criteria c h.entry.criteria) s.held.facts.entries k.own;
  targets = All-weaker (HasKnownTargets s.held.facts.criteria) _
      (λ p. stays_known s.held.facts.criteria c (targets p.settings.map)) s.held.facts.peers k.targets;
}
known_after s day (RemoveCriterion n) k at r u =
    let unnamed = removed s day n u in
    record {
      own = both_fail _ _ _ (λ h. known_without s.held.facts.criteria n h.entry.criteria) s.held.facts.entries
          (none_pass (is_named_by n) s.held.facts.entries unnamed.0) k.own;
      targets = both_fail _ _ _ (λ p. known_without s.held.facts.criteria n (targets p.settings.map))
          s.held.facts.peers (none_pass (is_target_of n) s.held.facts.peers unnamed.1) k.targets;
    }
known_after s day (AddEntry e) k at r u =
    let known = all_known (least_unknown s.held.facts.criteria e.criteria) r in
    with_known s.held.facts s.next_entry (Some e)
    (λ x same. (let is : e ≡ x = cc same in subst
    (λ (y : Entry). least_unknown s.held.facts.criteria y.criteria ≡ None) is known)) k
known_after s day (DropEntry n) k at r u = record {
  own = All-filter (λ h. not (has_number n h)) (HasKnownCriteria s.held.facts.criteria) s.held.facts.entries k.own;
  targets = k.targets;
}
known_after s day (SetPeer settings) k at r u = record {
  own = k.own;
  targets = All-with_item R peer_name (HasKnownTargets s.held.facts.criteria) s.held.facts.peers
      (record { settings = settings; content = holding_or_none (peer_of s.held.facts.peers settings.name) }) k.targets
      (all_known (least_unknown s.held.facts.criteria (targets settings.map)) r);
}
known_after s day (DropPeer name) k at r u = record {
  own = k.own;
  targets = All-without_item R peer_name (HasKnownTargets s.held.facts.criteria) s.held.facts.peers name k.targets;
}
known_after s day (ImportPeer name content) k at r u = record {
  own = k.own;
  targets = imported_known s.held.facts.criteria s.held.facts.peers name
      (imported name s.next_entry content (held_of s.held.facts name)) k.targets (peer_of s.held.facts.peers name) refl;
}
known_after s day (SetPublishers n records) k at r u = record { own = k.own; targets = k.targets }
known_after s day (SetPolicy policy) k at r u = record { own = k.own; targets = k.targets }
known_after s day (DropPolicy key) k at r u = record { own = k.own; targets = k.targets }
known_after s day (LoadProject project) k at r u = record { own = k.own; targets = k.targets }
known_after s day (DropProject name) k at r u = record { own = k.own; targets = k.targets }
known_after s day (ReplaceFiles f) k at r u =
    files_known f (files_know f r) s.next_entry s.held.facts (what_stays s day f u).1
known_after s day (Desk command) k at r u =
    let rules = then_told (desk_rules (demanded s) s.desk command) (λ _. limits_after_rules s command) tt u in
    with_known s.held.facts s.next_entry (added_by s command)
    (λ e new. entry_known s command at rules.0 e (of_new s.held.facts (entry_of s.desk command) e new)) k
known_after s day ClosePeriod k at r u = k
known_after s day SetDay k at r u = record { own = k.own; targets = k.targets }
