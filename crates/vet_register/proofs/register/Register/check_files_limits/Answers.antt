use Rattle.std.proofs.Common.{◌∙◌, ◌+◌, sym, ap, arith}
use Rattle.std.specs.Prelude.{nat_lt}
use Rattle.std.proofs.lemmas.Bool.{ltb-false}
use Rattle.vet_base.specs.declared.limits.TheConstants.{MOST_ENTRIES}
use Rattle.vet_register.specs.Replacing.{entries_in_files, entries_of_files}
use Rattle.vet_register.proofs.FilesAccepted.{files_new, no_more_new}
use Rattle.vet_register.proofs.register.Register.check_files_limits.Goals as goal

pub new_count-requires : goal.new_count-requires
new_count-requires g c =
    let state = c.args.self.now.state in
    let files = c.args.files.now in
    let few = ltb-false MOST_ENTRIES (entries_of_files state.held.facts files)
    (ap (λ n. nat_lt MOST_ENTRIES (n + entries_in_files files)) (sym c.dated_count.ensures.value)
    ∙ sym c.has_more_entries.ensures ∙ c.if-has_more_entries.false) in
    omega (arith, few, no_more_new state.held.facts files, files_new state files c.args.comparison.now c.requires)
