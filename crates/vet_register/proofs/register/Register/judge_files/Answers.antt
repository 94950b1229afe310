use Rattle.std.proofs.Common.{◌∙◌, ap, subst, sym}
use Rattle.std.specs.List.{All}
use Rattle.std.proofs.lemmas.Result.{err_from_is_err_and}
use Rattle.vet_entries.specs.declared.entry.Source.TheVariants.{Peer}
use Rattle.vet_register.specs.Already.{has_files}
use Rattle.vet_register.specs.RegisterView.{RegisterView}
use Rattle.vet_register.specs.Replacing.{held_of_peer}
use Rattle.vet_register.specs.Sound.{IsFrom}
use Rattle.vet_register.proofs.FilesAccepted.{refused_files}
use Rattle.vet_register.proofs.FilesEffects.{peer_before}
use Rattle.vet_register.proofs.register.Register.judge_files.Goals as goal

pub compare_files-requires-clause-peers : goal.compare_files-requires-clause-peers
compare_files-requires-clause-peers g c p =
    subst (λ (r : RegisterView _). All (IsFrom (Peer p.name)) (held_of_peer r.state.held.facts.peers p).entries)
    (sym c.self.view_is)
    (peer_before c.args.self.now.state.held.facts.peers c.args.self.now.state.next_entry
    c.state_is_sound.ensures.held.facts.peers p).0

pub returns-in_err-check_files : goal.returns-in_err-check_files
returns-in_err-check_files g c day =
    let state = c.args.self.now.state in
    let files = c.args.files.now in
    let passed = err_from_is_err_and c.from_residual-in_err-check_files.result
    c.from_residual-in_err-check_files.ensures.1 in
    let none = ap (λ (r : RegisterView _). has_files r.state.held files) (sym c.self.view_is) ∙ sym
    c.has_files.ensures ∙ c.if-has_files.false in
    let refused = rw c.in_err-check_files.was at (c.check_files.ensures day) in
    rw (passed.1, passed.2) (refused_files state day files _ none refused)
