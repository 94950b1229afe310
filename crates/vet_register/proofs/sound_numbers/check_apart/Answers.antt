use Rattle.vet_register.proofs.Checked.{no_register, refuted}
use Rattle.vet_register.proofs.SoundNumbers.{gathered_told}
use Rattle.vet_register.proofs.sound_numbers.check_apart.Goals as goal

pub returns-then-not-branch : goal.returns-then-not-branch
returns-then-not-branch c =
    let told = gathered_told c.args.facts.now.content c.args.next _ _ _ _ _ _ c.new-numbers.ensures.items
    c.entries.ensures.value c.peers.ensures.value c.in_ok-add_numbers.ensures c.in_ok-add_peers.ensures
    c.as_slice.ensures.value c.entries.ensures.by_number c.requires in
    no_register (λ apart. refuted c.in_ok-stand_once.ensures c.if-not-branch.true (told.1 apart))

pub returns : goal.returns
returns c =
    (gathered_told c.args.facts.now.content c.args.next _ _ _ _ _ _ c.new-numbers.ensures.items
    c.entries.ensures.value c.peers.ensures.value c.in_ok-add_numbers.ensures c.in_ok-add_peers.ensures
    c.as_slice.ensures.value c.entries.ensures.by_number c.requires).0
    (c.in_ok-stand_once.ensures.0 c.if-not-branch.false)
