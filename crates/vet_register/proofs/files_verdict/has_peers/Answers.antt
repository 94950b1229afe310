use Rattle.std.proofs.Common.{◌≡◌, ◌∙◌, ◌==◌, ◌&&◌, true, length, map, ap, sym, arith}
use Rattle.std.specs.List.{list_all}
use Rattle.std.proofs.lemmas.Bool.{eq-eqb}
use Rattle.vet_entries.specs.Import.{ComparisonValue}
use Rattle.vet_files.specs.FilesContent.{each_is_set}
use Rattle.vet_register.specs.Already.{has_peer, has_settings}
use Rattle.vet_register.specs.Replacing.{compared_peer}
use Rattle.vet_register.proofs.FilesAccepted.{each_held, second_fails}
use Rattle.vet_register.proofs.files_verdict.has_peers.Goals as goal

pub returns-then-not-have_settings : goal.returns-then-not-have_settings
returns-then-not-have_settings c =
    let peers = c.args.facts.now.content.peers in
    let f = c.args.files.now in
    let settings = ap (list_all (has_settings peers)) (sym c.settings-2.ensures) ∙ sym c.have_settings.ensures ∙
    c.if-not-have_settings.true in
    let held = sym (each_held peers f.contents f.settings) ∙ ap
    (λ b. b && list_all (λ (x : ComparisonValue). x.is_same) (map (compared_peer peers f.contents) f.settings))
    settings in
    sym (second_fails (length f.settings == length peers)
    (list_all (has_peer peers f.contents) f.settings && each_is_set f) (ap (λ b. b && each_is_set f) held))

pub returns-then-not-are_same : goal.returns-then-not-are_same
returns-then-not-are_same c =
    let peers = c.args.facts.now.content.peers in
    let f = c.args.files.now in
    let same = ap (list_all (λ (x : ComparisonValue). x.is_same)) (sym c.requires) ∙ sym c.are_same.ensures ∙
    c.if-not-are_same.true in
    let held = sym (each_held peers f.contents f.settings) ∙ second_fails (list_all (has_settings peers) f.settings)
    (list_all (λ (x : ComparisonValue). x.is_same) (map (compared_peer peers f.contents) f.settings)) same in
    sym (second_fails (length f.settings == length peers)
    (list_all (has_peer peers f.contents) f.settings && each_is_set f) (ap (λ b. b && each_is_set f) held))

pub returns : goal.returns
returns c =
    let peers = c.args.facts.now.content.peers in
    let f = c.args.files.now in
    let settings = ap (list_all (has_settings peers)) (sym c.settings-2.ensures) ∙ sym c.have_settings.ensures ∙
    c.if-not-have_settings.false in
    let same = ap (list_all (λ (x : ComparisonValue). x.is_same)) (sym c.requires) ∙ sym c.are_same.ensures ∙
    c.if-not-are_same.false in
    let held : list_all (has_peer peers f.contents) f.settings ≡ true = sym (each_held peers f.contents f.settings) ∙
    (λ i. settings i && same i) in
    let counted = eq-eqb (length f.settings) (length peers)
    (omega (arith, c.if-settings-peers.false, ap length c.settings.ensures, ap length c.peers.ensures.value)) in
    c.each_is_set.ensures ∙ sym (λ i. counted i && (held i && each_is_set f))
