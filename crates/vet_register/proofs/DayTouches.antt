-- SetDay leaves a package as it is if none of its own entries has lapsed on only one of the two days.
use Rattle.std.proofs.Common.{◌≡◌, ◌∙◌, ℕ, Bool, true, false, cond, not, List, [], ◌∷◌, filter, Option, Some, None}
use Rattle.std.proofs.Common.{refl, sym, subst, inl, inr}
use Rattle.std.specs.Bool.{beq}
use Rattle.std.specs.FinSet as set
use Rattle.std.specs.List.{All, flat_map}
use Rattle.std.proofs.lemmas.Bool.{cases_Bool, false≢true}
use Rattle.std.proofs.lemmas.List.Elements.{All-append, All-head, All-nil, All-tail}
use Rattle.vet_base.specs.Day.{DayValue}
use Rattle.vet_base.specs.Items.{IsIn}
use Rattle.vet_base.proofs.ItemLemmas.{all_in, filter_in, in_all, in_filter, in_map, map_in}
use Rattle.vet_entries.specs.declared.facts.HeldEntry.{HeldEntry}
use Rattle.vet_entries.specs.declared.held_peer.HeldPeer.{HeldPeer}
use Rattle.vet_entries.specs.declared.kind.Kind.{Kind}
use Rattle.vet_entries.specs.declared.kind.Kind.TheVariants.{Full, Delta, Violation, Wildcard, Trusted, Exemption}
use Rattle.vet_entries.specs.ByPackage as by_package
use Rattle.vet_entries.specs.Entry.{own}
use Rattle.vet_entries.specs.Facts.{Facts}
use Rattle.vet_entries.specs.Kind.{has_lapsed}
use Rattle.vet_entries.specs.PeerContent.{is_peer_entry, is_peer_kind}
use Rattle.vet_entries.specs.SameOfLaws.{LapsesAlike}
use Rattle.vet_entries.specs.Step.{SourcedEntry, sourced, taken_from}
use Rattle.vet_entries.proofs.AnotherDay.{day_condemns_the_same, day_keeps_steps}
use Rattle.vet_graph.specs.Touched.{SameOutside}
use Rattle.vet_register.specs.declared.command.Action.TheVariants.{SetDay}
use Rattle.vet_register.specs.Held.{demand_in}
use Rattle.vet_register.specs.HeldFiles.{spoken}
use Rattle.vet_register.specs.Machine.{held_after}
use Rattle.vet_register.specs.Sound.{IsSound, IsSoundPeer}
use Rattle.vet_register.specs.State.{State, demanded}
use Rattle.vet_register.specs.Touches.{held_package, lapses_between, only_at, packages_lapsing}
use Rattle.vet_register.proofs.Readable.{readable}
use Rattle.vet_register.proofs.Untouched.{Other, apart}

same_flag : (a b : Bool) → not (beq a b) ≡ false → a ≡ b
same_flag true true h = refl
same_flag true false h = absurd (false≢true (sym h))
same_flag false true h = absurd (false≢true (sym h))
same_flag false false h = refl

-- a held entry, as one of a peer or as one's own
abbrev of_peer : Option HeldPeer → HeldEntry → SourcedEntry
of_peer peer h = record { peer = peer; held = h }

module _ (before after : Option DayValue) (name : List ℕ) where
  -- a held entry has lapsed on both days, or on neither
  abbrev Alike : HeldEntry → Type 0
  Alike h = has_lapsed h.entry.kind before ≡ has_lapsed h.entry.kind after

  -- if each held entry of a package has, so have its entries of a source
  sourced_alike : (peer : Option HeldPeer) (entries : List HeldEntry)
      → ((h : HeldEntry) → IsIn h entries → by_package.is_of name h ≡ true → Alike h)
      → All (LapsesAlike before after) (sourced peer name entries)
  sourced_alike peer entries each =
      all_in (LapsesAlike before after) (sourced peer name entries) (λ e i.
      (let h = in_map (of_peer peer) (filter (by_package.is_of name) entries) e i in
      let among = in_filter (by_package.is_of name) entries h.0 h.1.0 in
      subst (LapsesAlike before after) (sym h.1.1) (each h.0 among.0 among.1)))

  -- ---- entries of peers, which never lapse

  kind_alike : (k : Kind) → is_peer_kind k ≡ true → has_lapsed k before ≡ has_lapsed k after
  kind_alike (Full v a) h = refl
  kind_alike (Delta d a) h = refl
  kind_alike (Violation r a) h = refl
  kind_alike (Wildcard w g) h = refl
  kind_alike (Trusted w) h = refl
  kind_alike (Exemption v s l) h = absurd (false≢true h)

  peer_alike : (next : ℕ) (p : HeldPeer) → IsSoundPeer next p → All (LapsesAlike before after) (taken_from name p)
  peer_alike next p sound = by (set.contains p.settings.exclude name)
    where
      each : (h : HeldEntry) → IsIn h p.content.entries → by_package.is_of name h ≡ true → Alike h
      each h i of =
          kind_alike h.entry.kind
          (in_all (λ e. is_peer_entry e ≡ true) (spoken p.content.entries) (readable next p sound).kinds (own h.entry)
          (map_in (λ (g : HeldEntry). own g.entry) p.content.entries h i))

      by : (b : Bool) → All (LapsesAlike before after) (cond b [] (sourced (Some p) name p.content.entries))
      by true = All-nil (LapsesAlike before after)
      by false = sourced_alike (Some p) p.content.entries each

  peers_alike : (next : ℕ) (peers : List HeldPeer) → All (IsSoundPeer next) peers
      → All (LapsesAlike before after) (flat_map (taken_from name) peers)
  peers_alike next [] sound = All-nil (LapsesAlike before after)
  peers_alike next (p ∷ peers) sound =
      All-append (LapsesAlike before after) (taken_from name p) (flat_map (taken_from name) peers)
      (peer_alike next p (All-head (IsSoundPeer next) p peers sound))
      (peers_alike next peers (All-tail (IsSoundPeer next) p peers sound))

-- ---- own entries

-- an own entry of a package that isn't touched
own_alike : (facts : Facts) (day : DayValue) (name : List ℕ) → All (Other name) (packages_lapsing facts day)
    → (h : HeldEntry) → IsIn h facts.entries → by_package.is_of name h ≡ true
    → has_lapsed h.entry.kind facts.today ≡ has_lapsed h.entry.kind (Some day)
own_alike facts day name others h i of =
    let lapses : HeldEntry → Bool = lapses_between facts.today (Some day) in
    elim (cases_Bool (lapses h)) [
      | inl goes ↦
          absurd (false≢true (sym (in_all (Other name) (packages_lapsing facts day) others (held_package h)
          (map_in held_package (filter lapses facts.entries) h (filter_in lapses facts.entries h i goes))) ∙ of))
      | inr stays ↦ same_flag (has_lapsed h.entry.kind facts.today) (has_lapsed h.entry.kind (Some day)) stays
    ]

-- ---- SetDay

pub day_touches : (s : State) (day : DayValue) → IsSound s
    → SameOutside (only_at (packages_lapsing s.held.facts day)) s.held.facts (demanded s)
    (held_after s day SetDay).facts (demand_in (held_after s day SetDay))
day_touches s day sound =
    let facts = s.held.facts in
    record {
      criteria = refl;
      packages = λ name out. (let others = apart (packages_lapsing facts day) name out in record {
        steps = day_keeps_steps facts (Some day) name
            (All-append (LapsesAlike facts.today (Some day)) (sourced None name facts.entries)
            (flat_map (taken_from name) facts.peers)
            (sourced_alike facts.today (Some day) name None facts.entries (own_alike facts day name others))
            (peers_alike facts.today (Some day) name s.next_entry facts.peers sound.held.facts.peers.sound));
        condemned = day_condemns_the_same facts (Some day) name;
        pairs = refl;
      });
    }
