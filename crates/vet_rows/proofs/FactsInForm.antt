-- Sound facts are in form.
use Rattle.std.proofs.lemmas.List.Elements.{All-weaker}
use Rattle.vet_base.proofs.ItemLemmas.{all_in, in_all, map_in}
use Rattle.vet_entries.specs.Entry.{own}
use Rattle.vet_entries.specs.Facts.{Facts}
use Rattle.vet_entries.specs.Kind.{last_day_of}
use Rattle.vet_entries.specs.PeerContent.{is_peer_entry, is_peer_kind}
use Rattle.vet_entries.specs.declared.facts.HeldEntry.{HeldEntry}
use Rattle.vet_entries.specs.declared.held_peer.HeldPeer.{HeldPeer}
use Rattle.vet_entries.specs.declared.kind.Kind.{Kind}
use Rattle.vet_entries.specs.declared.kind.Kind.TheVariants.{Full, Delta, Violation, Wildcard, Trusted, Exemption}
use Rattle.std.proofs.Common.{◌≡◌, ℕ, true, None, refl}
use Rattle.std.proofs.lemmas.Bool.{false≢true}
use Rattle.vet_item_rows.specs.DayRows.{IsPlain}
use Rattle.vet_item_rows.specs.ReadHeld.{AreInForm, HasItsEntries, HasNoLastDays}
use Rattle.vet_item_rows.specs.ReadPeers.{IsHeldPeer}
use Rattle.vet_register.proofs.Readable.{readable}
use Rattle.vet_register.specs.HeldFiles.{spoken}
use Rattle.vet_register.specs.Sound.{AreSound, IsSoundPeer}

held_peer : (next : ℕ) (p : HeldPeer) → IsSoundPeer next p → IsHeldPeer p
held_peer next p sound = record {
  table = (
    sound.content.0.criteria,
    record {
      once = sound.content.1.readable.named_once;
      free = sound.content.1.readable.further;
      few = sound.content.1.readable.few;
      made = sound.content.1.criteria;
    },
  );
  by_number = sound.entries.numbers_rise;
}

-- no kind of a peer's entry has a last day
plain_kind : (k : Kind) → is_peer_kind k ≡ true → last_day_of k ≡ None
plain_kind (Full v a) of = refl
plain_kind (Delta d a) of = refl
plain_kind (Violation r a) of = refl
plain_kind (Wildcard w g) of = refl
plain_kind (Trusted w) of = refl
plain_kind (Exemption v s l) of = absurd (false≢true of)

plain_peer : (next : ℕ) (p : HeldPeer) → IsSoundPeer next p → HasNoLastDays p
plain_peer next p sound =
    all_in IsPlain p.content.entries
    (λ h i. plain_kind h.entry.kind
    (in_all (λ e. is_peer_entry e ≡ true) (spoken p.content.entries) (readable next p sound).kinds (own h.entry)
    (map_in (λ (g : HeldEntry). own g.entry) p.content.entries h i)))

pub in_form : (facts : Facts) (next : ℕ) → AreSound facts next → AreInForm facts
in_form facts next sound = record {
  criteria = sound.criteria;
  by_number = sound.entries.numbers_rise;
  own = sound.entries.from;
  by_name = sound.peers.by_name;
  peers = All-weaker (IsSoundPeer next) IsHeldPeer (held_peer next) facts.peers sound.peers.sound;
  theirs = All-weaker (IsSoundPeer next) HasItsEntries (λ p s. s.entries.from) facts.peers sound.peers.sound;
  plain = All-weaker (IsSoundPeer next) HasNoLastDays (plain_peer next) facts.peers sound.peers.sound;
  packages = sound.publishers.by_name;
  in_order = sound.publishers.in_order;
  few = sound.publishers.few;
}
