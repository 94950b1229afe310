-- Reviews and a desk, of parts that are read.
use Rattle.std.proofs.Common.{◌≡◌, ◌∙◌, ◌↔◌, ℕ, List, Option, Result, Some, None, refl, sym, subst}
use Rattle.std.specs.Option.{IfSome, IsSome}
use Rattle.std.specs.Prelude.{pos}
use Rattle.std.proofs.lemmas.Bool.{false≢true}
use Rattle.vet_desk.specs.Desk.{DeskState}
use Rattle.vet_desk.specs.DeskView.{DeskView}
use Rattle.vet_desk.specs.SoundDesk.{IsSoundDesk}
use Rattle.vet_desk.specs.declared.review.Review.{Review}
use Rattle.vet_desk.specs.declared.review.ReviewState.{ReviewState}
use Rattle.vet_desk.specs.declared.review.ReviewState.TheVariants.{Waiting, Assigned, Finished, Withdrawn}
use Rattle.vet_item_rows.specs.DeskRows.{assigned_member, finishing_entry, state_number}
use Rattle.vet_item_rows.specs.HeldValues.{IsReviewState}
use Rattle.vet_item_rows.specs.ReadBack.{ReadsAs, found_or_no_register}
use Rattle.vet_item_rows.specs.Values.{IsName}
use Rattle.vet_item_rows.specs.declared.read.read_error.ReadError.{ReadError}
use Rattle.vet_item_rows.proofs.KindsRead.{no_other}

-- ---- how far a review has come

abbrev pub state_code : ReviewState → ℕ
state_code Waiting = 0
state_code (Assigned member) = 1
state_code (Finished entry) = 2
state_code Withdrawn = 3

pub coded : (s : ReviewState) → state_number s ≡ pos (state_code s)
coded Waiting = refl
coded (Assigned member) = refl
coded (Finished entry) = refl
coded Withdrawn = refl

pub code_is : (s : ReviewState) (n : ℕ) → state_number s ≡ pos n → state_code s ≡ n
code_is s n e = (let both : pos (state_code s) ≡ pos n = sym (coded s) ∙ e in cc both)

pub waiting : (s : ReviewState) → state_code s ≡ 0 → Waiting ≡ s
waiting Waiting e = refl
waiting (Assigned member) e = absurd (no_other 1 0 tt e)
waiting (Finished entry) e = absurd (no_other 2 0 tt e)
waiting Withdrawn e = absurd (no_other 3 0 tt e)

pub assigned : (s : ReviewState) → state_code s ≡ 1 → IsReviewState s
    → IsName (assigned_member s) × (Assigned (assigned_member s) ≡ s)
assigned Waiting e can = absurd (no_other 0 1 tt e)
assigned (Assigned member) e can = (can, refl)
assigned (Finished entry) e can = absurd (no_other 2 1 tt e)
assigned Withdrawn e can = absurd (no_other 3 1 tt e)

pub finished : (s : ReviewState) → state_code s ≡ 2 → (n : ℕ) × ((finishing_entry s ≡ pos n) × (Finished n ≡ s))
finished Waiting e = absurd (no_other 0 2 tt e)
finished (Assigned member) e = absurd (no_other 1 2 tt e)
finished (Finished entry) e = (entry, (refl, refl))
finished Withdrawn e = absurd (no_other 3 2 tt e)

pub withdrawn : (s : ReviewState) → state_code s ≡ 3 → Withdrawn ≡ s
withdrawn Waiting e = absurd (no_other 0 3 tt e)
withdrawn (Assigned member) e = absurd (no_other 1 3 tt e)
withdrawn (Finished entry) e = absurd (no_other 2 3 tt e)
withdrawn Withdrawn e = refl

pub no_state : (s : ReviewState) (n : ℕ) → n ≡ state_code s → (n ≡ 0 → ⊥) → (n ≡ 1 → ⊥) → (n ≡ 2 → ⊥)
    → (n ≡ 3 → ⊥) → ⊥
no_state Waiting n e a b c d = a e
no_state (Assigned member) n e a b c d = b e
no_state (Finished entry) n e a b c d = c e
no_state Withdrawn n e a b c d = d e

-- ---- a desk

desk_is : (d : DeskState) (members : List (List ℕ)) (reviews : List Review) (next : ℕ) → members ≡ d.members
    → reviews ≡ d.reviews → next ≡ d.next_review
    → (let e : DeskState = record { members = members; reviews = reviews; next_review = next } in e) ≡ d
desk_is d members reviews next m r n = λ i. record { members = m i; reviews = r i; next_review = n i }

sound_is : (state d : DeskState) → state ≡ d → IsSoundDesk d → (found : Option DeskView)
    → (IsSome found ↔ IsSoundDesk state) → IfSome found (λ v. v.content ≡ state)
    → (result : Result DeskView ReadError) → result ≡ found_or_no_register found → ReadsAs (λ v. v.content) result d
sound_is state d e sound None is value result found =
    absurd (false≢true (is.1 (subst IsSoundDesk (sym e) sound)))
sound_is state d e sound (Some v) is value result found = rw found (value ∙ e)

pub desk_read : (d : DeskState) (members : List (List ℕ)) (reviews : List Review) (next : ℕ) → members ≡ d.members
    → reviews ≡ d.reviews → next ≡ d.next_review → IsSoundDesk d → (found : Option DeskView)
    → (IsSome found ↔ IsSoundDesk (record { members = members; reviews = reviews; next_review = next }))
    → IfSome found (λ v. v.content ≡ record { members = members; reviews = reviews; next_review = next })
    → (result : Result DeskView ReadError) → result ≡ found_or_no_register found → ReadsAs (λ v. v.content) result d
desk_read d members reviews next m r n sound found is value =
    sound_is (record { members = members; reviews = reviews; next_review = next }) d
    (desk_is d members reviews next m r n) sound found is value
