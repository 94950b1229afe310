-- What a command does not touch stays.
use Rattle.std.proofs.Common.{◌≡◌, ◌∙◌, ℕ, Bool, true, false, cond, not, List, [], ◌∷◌, ◌++◌, map, filter, Option, Some}
use Rattle.std.proofs.Common.{None, refl, sym, ap, subst}
use Rattle.std.specs.Cmp.Lexicographic.{bytes_decides, nat_list_cmp_total}
use Rattle.std.specs.FinSet as set
use Rattle.std.specs.List.{All, flat_map}
use Rattle.std.proofs.lemmas.Bool.{false≢true}
use Rattle.std.proofs.lemmas.List.Elements.{All-head}
use Rattle.vet_base.specs.Keyed.{with_item, without_item}
use Rattle.vet_base.proofs.ItemLemmas.{all_in, in_all, in_back, in_front, in_map, map_in}
use Rattle.vet_base.proofs.ListLemmas.{filter_drops}
use Rattle.vet_base.proofs.Rising.{R, only_equal}
use Rattle.vet_demand.specs.declared.pair.Pair.{Pair}
use Rattle.vet_entries.specs.declared.entry.Entry.{Entry}
use Rattle.vet_entries.specs.declared.entry.Source.TheVariants.{Peer}
use Rattle.vet_entries.specs.declared.facts.HeldEntry.{HeldEntry}
use Rattle.vet_entries.specs.declared.held_peer.HeldPeer.{HeldPeer}
use Rattle.vet_entries.specs.ByPackage as by_package
use Rattle.vet_entries.specs.Entry.{of_source, own}
use Rattle.vet_entries.specs.Facts.{Facts}
use Rattle.vet_entries.specs.HeldPeer.{holding_or_none, imported, peer_name, peer_of, with_content_of}
use Rattle.vet_entries.specs.Holding.{HoldingValue}
use Rattle.vet_entries.specs.Numbered.{has_number}
use Rattle.vet_entries.specs.PeerContent.{PeerContentValue}
use Rattle.vet_entries.specs.PublisherRecords.{records_of}
use Rattle.vet_entries.specs.Step.{SourcedEntry, entries_of, sourced, taken_from}
use Rattle.vet_entries.proofs.ImportLaws.{holds_its_content}
use Rattle.vet_entries.proofs.PeerLaws.{AreByName, found_name}
use Rattle.vet_entries.proofs.PublisherLaws.{records_of-other}
use Rattle.vet_graph.specs.declared.touched.Touched.{Touched}
use Rattle.vet_graph.specs.declared.touched.Touched.TheVariants as touched
use Rattle.vet_graph.specs.StandingOf.{class_by, class_of_pair}
use Rattle.vet_graph.specs.Touched.{SameOutside, pairs_at}
use Rattle.vet_register.specs.declared.command.Action.TheVariants.{SetCriterion, RemoveCriterion, AddEntry, DropEntry}
use Rattle.vet_register.specs.declared.command.Action.TheVariants.{SetPeer, DropPeer, ImportPeer, SetPublishers}
use Rattle.vet_register.specs.declared.command.Action.TheVariants.{SetPolicy, DropPolicy, LoadProject, DropProject}
use Rattle.vet_register.specs.declared.command.Action.TheVariants.{ReplaceFiles, Desk, ClosePeriod, SetDay}
use Rattle.vet_register.specs.AtDesk.{added_by}
use Rattle.vet_register.specs.Held.{HeldValue, demand_in}
use Rattle.vet_register.specs.Machine.{held_after, touched_by, with_entry}
use Rattle.vet_register.specs.State.{demanded}
use Rattle.vet_register.specs.Touches.{entry_package, held_package, only_at, package_added, packages_between}
use Rattle.vet_register.specs.Touches.{packages_of_peer}
use Rattle.vet_register.specs.Untouched.{IsUntouched, UntouchedClassesStay, UntouchedStays}
use Rattle.vet_register.proofs.DayTouches.{day_touches}
use Rattle.vet_register.proofs.Untouched.{Other, SameSources, apart, give-with, give-without, same_condemned}
use Rattle.vet_register.proofs.Untouched.{same_pairs, same_steps, with_other, without_others}

-- all on which the classes of a package depend is the same
record Same (old new : HeldValue) (name : List ℕ) : Type 0 where
  pub sources : SameSources old.facts new.facts name
  pub pairs : pairs_at name (demand_in old) ≡ pairs_at name (demand_in new)

-- where that holds of each package that is not named, these names are all that is touched
outside : (names : List (List ℕ)) (old new : HeldValue) → old.facts.criteria ≡ new.facts.criteria
    → ((name : List ℕ) → All (Other name) names → Same old new name)
    → SameOutside (only_at names) old.facts (demand_in old) new.facts (demand_in new)
outside names old new criteria same = record {
  criteria = criteria;
  packages = λ name out. (let h = same name (apart names name out) in record {
    steps = same_steps old.facts new.facts name h.sources;
    condemned = same_condemned old.facts new.facts name h.sources;
    pairs = h.pairs;
  });
}

-- ---- own entries

abbrev own_entries : List HeldEntry → List SourcedEntry
own_entries entries = map (λ (h : HeldEntry). record { peer = None; held = h }) entries

-- the entries of a package where own ones alone are changed
same_entries : (facts : Facts) (entries : List HeldEntry) (name : List ℕ)
    → filter (by_package.is_of name) facts.entries ≡ filter (by_package.is_of name) entries
    → entries_of facts name ≡ entries_of (record facts { entries = entries }) name
same_entries facts entries name same = ap (λ es. own_entries es ++ flat_map (taken_from name) facts.peers) same

module _ (held : HeldValue) (next : ℕ) where
  -- an entry that is added touches its package
  added : (o : Option Entry) → SameOutside (only_at (package_added o)) held.facts (demand_in held)
      (with_entry next o held.facts) (demand_in (record held { facts = with_entry next o held.facts }))
  added None = outside [] held held refl (λ name others. record
      { sources = record { criteria = refl; entries = refl; records = refl; today = refl }; pairs = refl })
  added (Some e) =
      let new : HeldEntry = record { number = next; entry = own e } in
      let entries = held.facts.entries ++ new ∷ [] in
      outside (package_added (Some e)) held (record held { facts = record held.facts { entries = entries } }) refl
      (λ name others. record {
        sources = record {
          criteria = refl;
          entries = same_entries held.facts entries name
              (with_other name held.facts.entries new (All-head (Other name) (entry_package e) [] others));
          records = refl;
          today = refl;
        };
        pairs = refl;
      })

-- ---- peers

-- a peer gives nothing to a package of which it has no entry
takes_none : (name : List ℕ) (p : HeldPeer) → All (Other name) (map held_package p.content.entries)
    → taken_from name p ≡ []
takes_none name p others = by (set.contains p.settings.exclude name)
  where
    of_entries : (entries : List HeldEntry) → All (Other name) (map held_package entries)
        → All (λ h. by_package.is_of name h ≡ false) entries
    of_entries entries h = all_in (λ x. by_package.is_of name x ≡ false) entries
        (λ x i. in_all (Other name) (map held_package entries) h (held_package x) (map_in held_package entries x i))

    none : sourced (Some p) name p.content.entries ≡ []
    none = ap (λ (es : List HeldEntry). map (λ (h : HeldEntry). record { peer = Some p; held = h }) es)
        (filter_drops (by_package.is_of name) p.content.entries (of_entries p.content.entries others))

    by : (b : Bool) → cond b [] (sourced (Some p) name p.content.entries) ≡ []
    by true = refl
    by false = none

-- of a peer that is held, if any is
holds_none : (name : List ℕ) (peers : List HeldPeer) (of : List ℕ)
    → All (Other name) (map held_package (holding_or_none (peer_of peers of)).entries) → (x : HeldPeer)
    → peer_of peers of ≡ Some x → taken_from name x ≡ []
holds_none name peers of others x found =
    takes_none name x (subst (λ (o : Option HeldPeer). All (Other name) (map held_package (holding_or_none o).entries))
    found others)

-- the packages of what is held after an import are those of the content
imported_others : (name of : List ℕ) (next : ℕ) (content : PeerContentValue) (held : HoldingValue)
    → All (Other name) (map entry_package content.entries)
    → All (Other name) (map held_package (imported of next content held).entries)
imported_others name of next content held others =
    let after = (imported of next content held).entries in
    all_in (Other name) (map held_package after) (λ other i. (
    let h = in_map held_package after other i in
    let among = (holds_its_content of next held content).0.1 h.0.entry
    (map_in (λ (x : HeldEntry). x.entry) after h.0 h.1.0) in
    let e = in_map (of_source (Peer of)) content.entries h.0.entry among in
    let is : other ≡ entry_package e.0 = h.1.1 ∙ ap entry_package e.1.1 in
    subst (Other name) (sym is)
    (in_all (Other name) (map entry_package content.entries) others (entry_package e.0)
    (map_in entry_package content.entries e.0 e.1.0))))

front : (xs ys : List (List ℕ)) (name : List ℕ) → All (Other name) (xs ++ ys)
    → All (Other name) xs × All (Other name) ys
front xs ys name h = (
  all_in (Other name) xs (λ x i. in_all (Other name) (xs ++ ys) h x (in_front xs ys x i)),
  all_in (Other name) ys (λ y i. in_all (Other name) (xs ++ ys) h y (in_back xs ys y i)),
)

module _ (held : HeldValue) (up : AreByName held.facts.peers) where
  abbrev facts : Facts
  facts = held.facts

  -- the entries of a package where peers alone are changed
  of_peers : (peers : List HeldPeer) (name : List ℕ)
      → flat_map (taken_from name) facts.peers ≡ flat_map (taken_from name) peers
      → Same held (record held { facts = record facts { peers = peers } }) name
  of_peers peers name same = record {
    sources = record {
      criteria = refl;
      entries = ap (λ es. sourced None name facts.entries ++ es) same;
      records = refl;
      today = refl;
    };
    pairs = refl;
  }

  set_in : (new : HeldPeer) (name : List ℕ) → taken_from name new ≡ []
      → All (Other name) (packages_of_peer facts new.settings.name)
      → Same held (record held { facts = record facts { peers = with_item R peer_name facts.peers new } }) name
  set_in new name own others =
      of_peers (with_item R peer_name facts.peers new) name
      (give-with R nat_list_cmp_total only_equal peer_name (taken_from name) facts.peers new up own
      (holds_none name facts.peers new.settings.name others))

  taken_out : (of name : List ℕ) → All (Other name) (packages_of_peer facts of)
      → Same held (record held { facts = record facts { peers = without_item R peer_name facts.peers of } }) name
  taken_out of name others =
      of_peers (without_item R peer_name facts.peers of) name
      (give-without R nat_list_cmp_total only_equal peer_name (taken_from name) facts.peers of up
      (holds_none name facts.peers of others))

  imported_in : (of : List ℕ) (next : ℕ) (content : PeerContentValue) (o : Option HeldPeer)
      → peer_of facts.peers of ≡ o → (name : List ℕ)
      → All (Other name) (packages_of_peer facts of ++ map entry_package content.entries)
      → Same held (record held {
        facts = record facts {
          peers = with_content_of o (imported of next content (holding_or_none (peer_of facts.peers of))) facts.peers;
        };
      }) name
  imported_in of next content None found name others =
      record { sources = record { criteria = refl; entries = refl; records = refl; today = refl }; pairs = refl }
  imported_in of next content (Some x) found name others =
      let after = imported of next content (holding_or_none (peer_of facts.peers of)) in
      let parts = front (packages_of_peer facts of) (map entry_package content.entries) name others in
      set_in (record x { content = after }) name
      (takes_none name (record x { content = after })
      (imported_others name of next content (holding_or_none (peer_of facts.peers of)) parts.1))
      (subst (λ (n : List ℕ). All (Other name) (packages_of_peer facts n)) (sym (found_name facts.peers of x found))
      parts.0)

-- ---- policies and projects

by_demand : (old new : HeldValue) → old.facts ≡ new.facts
    → SameOutside (only_at (packages_between (demand_in old) (demand_in new))) old.facts (demand_in old) new.facts
    (demand_in new)
by_demand old new same =
    outside (packages_between (demand_in old) (demand_in new)) old new (ap (λ (f : Facts). f.criteria) same)
    (λ name others. record {
      sources = record {
        criteria = ap (λ (f : Facts). f.criteria) same;
        entries = ap (λ (f : Facts). entries_of f name) same;
        records = ap (λ (f : Facts). records_of f.publishers name) same;
        today = ap (λ (f : Facts). f.today) same;
      };
      pairs = same_pairs name (demand_in old) (demand_in new) others;
    })

-- ---- all commands

pub untouched_stays : UntouchedStays
untouched_stays s day (SetCriterion c) sound = tt
untouched_stays s day (RemoveCriterion n) sound = tt
untouched_stays s day (AddEntry e) sound = added s.held s.next_entry (Some e)
untouched_stays s day (DropEntry n) sound =
    let entries = filter (λ h. not (has_number n h)) s.held.facts.entries in
    outside (map held_package (filter (has_number n) s.held.facts.entries)) s.held
    (held_after s day (DropEntry n)) refl (λ name others. record {
      sources = record {
        criteria = refl;
        entries = same_entries s.held.facts entries name (without_others name n s.held.facts.entries others);
        records = refl;
        today = refl;
      };
      pairs = refl;
    })
untouched_stays s day (SetPeer settings) sound =
    let new : HeldPeer = record
    { settings = settings; content = holding_or_none (peer_of s.held.facts.peers settings.name) } in
    outside (packages_of_peer s.held.facts settings.name) s.held (held_after s day (SetPeer settings)) refl
    (λ name others. set_in s.held sound.held.facts.peers.by_name new name (takes_none name new others) others)
untouched_stays s day (DropPeer of) sound =
    outside (packages_of_peer s.held.facts of) s.held (held_after s day (DropPeer of)) refl
    (taken_out s.held sound.held.facts.peers.by_name of)
untouched_stays s day (ImportPeer of content) sound =
    outside (packages_of_peer s.held.facts of ++ map entry_package content.entries) s.held
    (held_after s day (ImportPeer of content)) refl
    (imported_in s.held sound.held.facts.peers.by_name of s.next_entry content (peer_of s.held.facts.peers of) refl)
untouched_stays s day (SetPublishers of records) sound =
    outside (of ∷ []) s.held (held_after s day (SetPublishers of records)) refl (λ name others. record {
      sources = record {
        criteria = refl;
        entries = refl;
        records = sym (records_of-other of name records s.held.facts.publishers
            (λ same. false≢true (sym (All-head (Other name) of [] others) ∙ (bytes_decides of name).1 (sym same))));
        today = refl;
      };
      pairs = refl;
    })
untouched_stays s day (SetPolicy policy) sound = by_demand s.held (held_after s day (SetPolicy policy)) refl
untouched_stays s day (DropPolicy key) sound = by_demand s.held (held_after s day (DropPolicy key)) refl
untouched_stays s day (LoadProject project) sound = by_demand s.held (held_after s day (LoadProject project)) refl
untouched_stays s day (DropProject n) sound = by_demand s.held (held_after s day (DropProject n)) refl
untouched_stays s day (ReplaceFiles f) sound = tt
untouched_stays s day (Desk command) sound = added s.held s.next_entry (added_by s command)
untouched_stays s day ClosePeriod sound = added s.held s.next_entry None
untouched_stays s day SetDay sound = day_touches s day sound

-- a pair that is not touched has the same class by both
same_class : (t : Touched) (old new : Facts) (before after : List Pair) → SameOutside t old before new after
    → (p : Pair) → IsUntouched t p.«package» → class_of_pair old p ≡ class_of_pair new p
same_class touched.All old new before after same p out = absurd out
same_class (touched.Packages names) old new before after same p out =
    let at = same.packages p.«package» out in
    λ i. class_by (same.criteria i) (at.steps i) (λ c v. at.condemned c v i) p

pub untouched_classes_stay : UntouchedClassesStay
untouched_classes_stay s day a sound p out =
    let held = held_after s day a in
    same_class (touched_by s day a) s.held.facts held.facts (demanded s) (demand_in held)
    (untouched_stays s day a sound) p out
