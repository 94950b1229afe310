use Rattle.vet_base.specs.declared.limits.TheConstants.{MOST_CRITERIA as most}
use Rattle.std.proofs.Common.{◌≡◌, ◌↔◌, ◌==◌, ℕ, not, true, sym, ◌∙◌}
use lib.Bits.{bit_and}
use Rattle.std.specs.FinSet as set
use Rattle.std.specs.Int.{bit_at}
use Rattle.std.proofs.lemmas.Bool.{and_parts, and_from}
use Rattle.vet_base.proofs.Bits.{tells, and_bits, fits, some_bit, has_bit}
use Rattle.vet_base.proofs.Meeting.{meet-is}
use Rattle.vet_base.proofs.criteria_set.CriteriaSet.meets.Goals as goal

pub returns : goal.returns
returns c = record { value = meet-is _ c.args.self.now c.args.other.now both; both = both }
  where
    a : ℕ
    a = c.self.inside.word

    b : ℕ
    b = c.other.inside.word

    own : (q : ℕ) → set.contains c.args.self.now q ≡ (bit_at a q == 1)
    own q = tells most a c.args.self.now c.self.invariant c.self.view_is q

    others : (q : ℕ) → set.contains c.args.other.now q ≡ (bit_at b q == 1)
    others q = tells most b c.args.other.now c.other.invariant c.other.view_is q

    both : (not (bit_and a b == 0) ≡ true) ↔ ((p : ℕ)
        × (set.contains c.args.self.now p ≡ true) × (set.contains c.args.other.now p ≡ true))
    both = (
      λ t. (let at = some_bit (bit_and a b) (fits a b c.self.invariant) t in
          let parts = and_parts (bit_at a at.0 == 1) (bit_at b at.0 == 1) (sym (and_bits a b at.0) ∙ at.2) in
          (at.0, own at.0 ∙ parts.0, others at.0 ∙ parts.1)),
      λ h. has_bit (bit_and a b) h.0 (and_bits a b h.0
          ∙ and_from (bit_at a h.0 == 1) (bit_at b h.0 == 1) (sym (own h.0) ∙ h.1) (sym (others h.0) ∙ h.2)),
    )
