use Rattle.std.proofs.Common.{◌≡◌, Some, subst, sym}
use Rattle.vet_demand.specs.PolicyKey.{key_text, read_key}
use Rattle.vet_demand.specs.declared.policies.KeyedPolicy.{KeyedPolicy}
use Rattle.vet_register.specs.Held.{edited}
use Rattle.vet_rows.specs.KeyTexts.{KeysAreRead}
use Rattle.vet_rows.proofs.TextsAfter.{of_edited}
use Rattle.vet_rows.proofs.row_changes.key_texts.keys_after_are_read.Goals as goal

pub returns-in-Policies : goal.returns-in-Policies
returns-in-Policies g c =
    let held = c.args.register.now.state.held in
    subst (λ e. KeysAreRead (edited e held).policies) (sym c.in-Policies.is)
    (of_edited (λ (p : KeyedPolicy). read_key (key_text p.key) ≡ Some p.key) c.in-Policies.change held.policies
    (subst KeysAreRead c.policies.ensures c.keys_are_read.ensures) c.key_added_is_read.ensures)
