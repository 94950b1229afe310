-- Where the machine begins is sound.
use Rattle.std.proofs.Common.{◌≡◌, ℕ, ◌+◌, ◌<◌, ◌≤◌, List, [], length, refl, sym, ap, ◌∙◌, arith}
use Rattle.std.proofs.lemmas.List.{length-map}
use Rattle.std.proofs.lemmas.List.Elements.{All-nil}
use Rattle.vet_base.specs.declared.limits.TheConstants.{MOST_MOVES}
use Rattle.vet_base.specs.Criteria.{IsTable, built_in_criteria}
use Rattle.vet_demand.specs.declared.pair.Pair.{Pair}
use Rattle.vet_demand.specs.DemandOf.{NothingIsDemanded}
use Rattle.vet_entries.specs.Facts.{Facts, no_facts}
use Rattle.vet_graph.specs.declared.class.Class.{Class}
use Rattle.vet_graph.specs.declared.class.Class.TheVariants.{Conflicting, Full, Partial, Exempted, Unvetted}
use Rattle.vet_graph.specs.Standing.{ClassesAddUp, count_in, count_of, counts_of, total_of}
use Rattle.vet_graph.specs.StandingOf.{class_of_pair, standing_of}
use Rattle.vet_register.specs.Held.{nothing_held, standing_in}
use Rattle.vet_register.specs.Sound.{IsSound, ShareNone}
use Rattle.vet_register.specs.State.{no_counts, start}
use Rattle.vet_register.proofs.Lists.{AllPairs-single}

no_count : (class : Class) → count_in class no_counts ≡ 0
no_count Conflicting = refl
no_count Full = refl
no_count Partial = refl
no_count Exempted = refl
no_count Unvetted = refl

-- nothing stands where nothing is held
pub nothing_stands : NothingIsDemanded → standing_in nothing_held ≡ []
nothing_stands law = ap (standing_of no_facts) (law [] built_in_criteria)

-- the five counts of a standing add up to the demand
pub all_counted : ClassesAddUp → (facts : Facts) (demand : List Pair) → total_of
    (counts_of (standing_of facts demand)) ≡ length demand
all_counted law facts demand = law (standing_of facts demand) ∙ length-map demand
    (λ p. record { pair = p; class = class_of_pair facts p })

-- where the machine begins is sound
pub start_is_sound : NothingIsDemanded → (limit : ℕ) → IsTable built_in_criteria → (0 < limit) × (limit ≤ MOST_MOVES)
    → IsSound (start limit)
start_is_sound law limit t l = record {
  held = record {
    facts = record {
      criteria = t;
      known = record { own = All-nil _; targets = All-nil _ };
      entries = record {
        from = All-nil _;
        different = λ i j x a b. absurd (omega arith);
        numbers_rise = λ i j x a b. absurd (omega arith);
        numbers_given = All-nil _;
      };
      peers = record { by_name = λ i j x a b. absurd (omega arith); sound = All-nil _; few = omega arith };
      apart = AllPairs-single ShareNone [];
      few = omega arith;
      publishers = record {
        by_name = record { rising = λ i j x a b. absurd (omega arith); filled = All-nil _ };
        in_order = All-nil _;
        few = omega arith;
      };
    };
    policies = record { by_key = λ i j x a b. absurd (omega arith); known = All-nil _; few = omega arith };
    projects = record { by_name = λ i j x a b. absurd (omega arith); few = omega arith };
  };
  desk = record {
    desk = record {
      members = record { by_name = λ i j x a b. absurd (omega arith); few = omega arith };
      reviews = record {
        numbers_rise = λ i j x a b. absurd (omega arith);
        numbers_given = All-nil _;
        by_members =
            All-nil _;
        few = omega arith;
      };
      next_number = omega arith;
    };
    known = All-nil _;
    entries_given = All-nil _;
  };
  next_number = omega arith;
  last_step = omega arith;
  limit = l;
  moves = record { in_order = λ i j x a b. absurd (omega arith); steps = All-nil _; few = omega arith };
  balance = λ class. ap (λ n. n + 0) (no_count class ∙ sym (ap (count_of class) (nothing_stands law)));
}
