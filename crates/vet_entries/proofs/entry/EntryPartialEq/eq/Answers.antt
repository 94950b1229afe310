use Rattle.std.proofs.Common.{◌≡◌, ◌&&◌, ◌∙◌, sym, ap}
use Rattle.vet_entries.specs.Entry.{entry_eq, says_same}
use Rattle.vet_entries.specs.EntryLaws.{entry_eq-Decides}
use Rattle.vet_entries.proofs.entry.EntryPartialEq.eq.Goals as goal

pub returns-then-eq-clause-same : goal.returns-then-eq-clause-same
returns-then-eq-clause-same c =
    let a = c.args.self.now in
    let b = c.args.other.now in
    let value : c.says_same.result ≡ entry_eq a b = c.says_same.ensures
    ∙ ap (λ s. s && says_same a b) (sym (sym c.eq.ensures ∙ c.if-eq.true)) in
    let decides = entry_eq-Decides a b in
    (λ yes. decides.0 (sym value ∙ yes), λ same. value ∙ decides.1 same)
