use Rattle.std.proofs.Common.{rules, ℕ, refl, sym, ap, subst, ◌∙◌}
use Rattle.std.specs.List.{All, flat_map}
use Rattle.std.proofs.lemmas.Fn.{always_returns_same}
use Rattle.std.proofs.lemmas.List.Sorted.{All-permutation}
use Rattle.vet_entries.specs.declared.package_entries.Taken.{Taken}
use Rattle.vet_entries.specs.Step.{SourcedEntry, by_number, entries_of, entry_steps}
use Rattle.vet_entries.specs.Taken.{HasPeer, all_sourced, sourced_entry}
use Rattle.vet_entries.proofs.ByNumber.{map-by_number, sorted_by_number}
use Rattle.vet_entries.proofs.package_entries.PackageEntries.into_steps.Goals as goal

pub all_steps-requires-clause-peers : goal.all_steps-requires-clause-peers
all_steps-requires-clause-peers c =
    let P = HasPeer c.args.facts.now.content.peers in
    subst (All P) (sym c.as_slice.ensures.value)
    (All-permutation P _ _ c.sort_by_key.ensures.permutation c.requires.entries.peers)

pub returns-clause-ok : goal.returns-clause-ok
returns-clause-ok c =
    let content = c.args.facts.now.content in
    let taken = c.args.self.taken.items in
    let number : Taken → ℕ = λ t. t.held.now.number in
    let of_source : SourcedEntry → ℕ = λ e. e.held.number in
    let same = always_returns_same _ _ _ (λ a r f k. search rules) in
    let sorted = sorted_by_number number taken c.sort_by_key.new.self.items
    (c.in_ok-sort_by_key.ensures.sorted number same) (c.sort_by_key.ensures.stable number same) in
    c.in_ok-all_steps.ensures.steps
    ∙ ap (λ ts. flat_map (entry_steps content.today content.criteria c.records_of-records.result.now)
    (all_sourced content.peers ts))
    (c.as_slice.ensures.value ∙ sorted)
    ∙ ap (flat_map (entry_steps content.today content.criteria c.records_of-records.result.now))
    (map-by_number (sourced_entry content.peers) number of_source (λ t. refl) taken
    ∙ ap (by_number of_source) c.requires.entries.entries)
    ∙ ap (λ rs. flat_map (entry_steps content.today content.criteria rs)
    (by_number of_source (entries_of content c.args.self.«package».now))) c.records_of-records.ensures.value
