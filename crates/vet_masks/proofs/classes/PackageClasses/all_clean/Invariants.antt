-- What the searches so far reached.
use Rattle.std.proofs.Common.{◌≡◌, ◌<◌, ◌≤◌, ◌+◌, ◌*◌, ℕ, length, take}
use Rattle.vet_base.specs.declared.limits.TheConstants.{MOST_CRITERIA as most}
use Rattle.vet_graph.specs.Chain.{Condemned}
use Rattle.vet_masks.specs.Classes.{AreReached, held_by, held_by_all}
use Rattle.vet_masks.specs.Growing.{IsShared, is_taken_now, spent_first, spent_now}
use Rattle.vet_masks.specs.Rules.{rule_of}
use Rattle.vet_masks.proofs.classes.PackageClasses.all_clean.Given as goal

abbrev pub invariant-searches : goal.invariant-searches
invariant-searches l = record {
  long : length l.all.items ≡ l.place;
  clean : (condemned : Condemned) → IsShared l.fn.looks.steps condemned l.self l.shared → (i : ℕ)
      → i < length l.all.items
      → AreReached l.fn.looks.steps l.shared.index.now condemned (is_taken_now l.shared (rule_of i))
      (held_by l.all.items i);
  steps : l.looks.steps ≡ l.fn.looks.steps;
  least : l.fn.looks.count ≤ l.looks.count;
  count : l.looks.count + spent_first l.shared (held_by_all (take l.place l.self.clean.items))
      ≤ l.fn.looks.count + spent_now l.shared (held_by_all l.all.items);
  bound : l.looks.count ≤ l.fn.looks.count + l.place * ((most + 1) * length l.fn.looks.steps);
}
