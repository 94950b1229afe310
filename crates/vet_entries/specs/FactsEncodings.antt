-- The encodings of facts and comparisons (ours). They are apart from `Encodings`, on which the types that they hold
-- depend.
use Rattle.std.specs.Prelude.{ℕ, Bool, List, Option}
use Rattle.std.specs.Coded.{Coded, code_by, coded×, coded_list, coded_option, coded_ℕ, coded_bool}
use Rattle.std.specs.FinMap as map
use Rattle.std.proofs.Common.{refl}
use Rattle.vet_base.specs.Criteria.{Criteria}
use Rattle.vet_base.specs.Day.{DayValue}
use Rattle.vet_base.specs.Encodings.{criterion_code, day_code}
use Rattle.vet_entries.specs.declared.facts.HeldEntry.{HeldEntry}
use Rattle.vet_entries.specs.declared.held_peer.HeldPeer.{HeldPeer}
use Rattle.vet_entries.specs.declared.publisher_records.PackagePublishers.{PackagePublishers}
use Rattle.vet_entries.specs.Facts.{FactsRoom}
use Rattle.vet_entries.specs.Import.{ComparisonValue}

-- facts are stored as the tuple of the table, the entries, the peers, the records, the day and the room for each
abbrev pub facts_room_code : Coded HeldEntry → Coded HeldPeer → Coded PackagePublishers → Coded FactsRoom
facts_room_code held_code peer_code publishers_code =
    code_by (Criteria × (List HeldEntry × (List HeldPeer × (List PackagePublishers
    × (Option DayValue × (ℕ × (ℕ × ℕ)))))))
    (coded× (map.code (coded_list coded_ℕ) criterion_code) (coded× (coded_list held_code) (coded× (coded_list peer_code)
    (coded× (coded_list publishers_code)
    (coded× (coded_option day_code) (coded× coded_ℕ (coded× coded_ℕ coded_ℕ)))))))
    (λ f. (
      f.content.criteria,
      (
        f.content.entries,
        (
          f.content.peers,
          (
            f.content.publishers,
            (f.content.today, (f.room.entries, (f.room.peers, f.room.packages))),
          ),
        ),
      ),
    ))
    (λ p. record {
      content = record {
        criteria = p.0;
        entries = p.1.0;
        peers = p.1.1.0;
        publishers = p.1.1.1.0;
        today = p.1.1.1.1.0;
      };
      room = record { entries = p.1.1.1.1.1.0; peers = p.1.1.1.1.1.1.0; packages = p.1.1.1.1.1.1.1 };
    })
    (λ _. refl)

-- a comparison is stored as the tuple of its parts
abbrev pub comparison_code : Coded ComparisonValue
comparison_code =
    code_by (List Bool × (List Bool × (ℕ × Bool)))
    (coded× (coded_list coded_bool) (coded× (coded_list coded_bool) (coded× coded_ℕ coded_bool)))
    (λ c. (c.again, (c.fresh, (c.new_count, c.is_same))))
    (λ p. record { again = p.0; fresh = p.1.0; new_count = p.1.1.0; is_same = p.1.1.1 })
    (λ _. refl)
