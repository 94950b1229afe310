use Rattle.std.proofs.Common.{◌≡◌, nat_eq, length, map, sym, ap, ◌∙◌}
use Rattle.std.specs.BTreeSet.{btree_set_len}
use Rattle.std.proofs.lemmas.List.{length-map}
use Rattle.vet_entries.specs.declared.facts.HeldEntry.{HeldEntry}
use Rattle.vet_entries.specs.Entry.{own}
use Rattle.vet_entries.proofs.SaidOnce.{said_once}
use Rattle.vet_entries.proofs.distinct.are_distinct.Goals as goal

pub returns : goal.returns
returns c =
    let held = c.args.held.now in
    let what = map (λ (h : HeldEntry). own h.entry) held in
    let said = c.in_ok-said.said in
    let once = said_once what said c.in_ok-said.ensures in
    let same : nat_eq c.len.result (length held) ≡ nat_eq (btree_set_len said) (length what) =
    ap (λ n. nat_eq n (length held)) c.len.ensures.len
    ∙ ap (nat_eq (btree_set_len said)) (sym (length-map held (λ (h : HeldEntry). own h.entry))) in
    (λ t. once.0 (sym same ∙ t), λ p. same ∙ once.1 p)
