use Rattle.std.proofs.Common.{◌≡◌, Bool, Global, Vec, true, false, get_or, length, replicate, set as setn}
use Rattle.std.proofs.Common.{sym, ap, ◌∙◌, arith}
use Rattle.std.proofs.lemmas.List.{length-replicate, length-set}
use Rattle.vet_masks.proofs.Flags.{flag-none, flag-put}
use Rattle.vet_masks.proofs.Indexing.{numbers_in}
use Rattle.vet_masks.proofs.search.flag_at.Goals as goal
use Rattle.vet_masks.proofs.search.flag_at.Goals.{in-Some, in_default}

pub returns-clause-count : goal.returns-clause-count
returns-clause-count c =
    let m = c.len.result in
    let all = c.in_ok-flags.ensures.ok in
    let long : length (replicate m false) ≡ length c.args.index.now.after.items = omega (
      arith,
      length-replicate m false,
      c.len.ensures,
      c.args.index.now.after.ok,
    ) in
    elim c.match-copied.branch [
      | in-Some w ↦ ap (λ (x : Vec Bool Global). length x.items) w.flags-is
          ∙ length-set c.in_ok-flags.flags.items w.in-Some.number true ∙ ap length all ∙ long
      | in_default w ↦ ap (λ (x : Vec Bool Global). length x.items) w.flags-is ∙ ap length all ∙ long
    ]

pub returns-clause-flags : goal.returns-clause-flags
returns-clause-flags c v n e =
    let numbers = numbers_in c.args.index.now in
    let count = length c.args.index.now.after.items in
    let m : c.len.result ≡ count = omega (arith, c.len.ensures, c.args.index.now.after.ok) in
    let all = c.in_ok-flags.ensures.ok ∙ ap (λ k. replicate k false) m in
    let looked = sym c.get.ensures.value ∙ sym c.copied.ensures in
    elim c.match-copied.branch [
      | in-Some w ↦ ap (λ (x : Vec Bool Global). get_or x.items n false) w.flags-is
          ∙ ap (λ xs. get_or (setn xs w.in-Some.number true) n false) all
          ∙ flag-put numbers count c.requires c.args.version.now w.in-Some.number (looked ∙ w.in-Some.is) v n e
      | in_default w ↦ ap (λ (x : Vec Bool Global). get_or x.items n false) w.flags-is
          ∙ ap (λ xs. get_or xs n false) all
          ∙ flag-none numbers count c.requires c.args.version.now (looked ∙ w.in_default.is) v n e
    ]
