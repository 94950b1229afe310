use Rattle.std.proofs.Common.{◌≡◌, ◌+◌, ◌-◌, [], length, set, sym, ap, ◌∙◌, arith}
use Rattle.std.specs.List.{remove}
use Rattle.std.proofs.lemmas.List.Sums.{sum_by-remove, sum_by-set}
use Rattle.vet_base.specs.Keyed.{edited}
use Rattle.vet_entries.specs.declared.publisher_records.PackagePublishers.{PackagePublishers}
use Rattle.vet_entries.specs.PublisherRecords.{records_total}
use Rattle.vet_entries.proofs.publisher_records.PublisherRecords.total_after.Goals as goal

pub returns-in-Take : goal.returns-in-Take
returns-in-Take c =
    let items = c.args.self.now.items in
    let place = c.in-Take.place in
    let within = rw c.in-Take.is at c.requires.place in
    let nothing : PackagePublishers = record { «package» = []; publishers = [] } in
    let left = sum_by-remove (λ (held : PackagePublishers). length held.publishers) items place nothing within in
    let total : c.self.inside.total ≡ records_total items = c.self.invariant.1
    ∙ ap (λ k. records_total k.items) c.self.view_is in
    let is : c.self.inside.total - c.count_at.result ≡ records_total (remove items place) =
    omega (arith, left, total, c.count_at.ensures.value nothing) in
    is ∙ ap (λ e. records_total (edited e items)) (sym c.in-Take.is)

-- the total after is that of the packages after
swapped : (c : goal.After-len-in-Swap) → c.self.inside.total - c.count_at-in-Swap.result + c.len-in-Swap.result
    ≡ records_total (edited c.args.edit.now c.args.self.now.items)
swapped c =
    let items = c.args.self.now.items in
    let place = c.in-Swap.place in
    let within = (rw c.in-Swap.is at c.requires.place).0 in
    let held = c.in-Swap.held in
    let left = sum_by-set (λ (held : PackagePublishers). length held.publishers) items place held held within in
    let total : c.self.inside.total ≡ records_total items = c.self.invariant.1
    ∙ ap (λ k. records_total k.items) c.self.view_is in
    let is : c.self.inside.total - c.count_at-in-Swap.result + c.len-in-Swap.result
    ≡ records_total (set items place held) =
    omega (
      arith,
      left,
      total,
      c.count_at-in-Swap.ensures.value held,
      c.count_at-in-Swap.ensures.part,
      c.len-in-Swap.ensures,
    ) in
    is ∙ ap (λ e. records_total (edited e items)) (sym c.in-Swap.is)

pub overflow_add-result-in-Swap : goal.overflow_add-result-in-Swap
overflow_add-result-in-Swap c = omega (arith, swapped c, c.requires.counted)

pub returns-in-Swap : goal.returns-in-Swap
returns-in-Swap c = swapped c
