-- Where the review of a number stands, and what the reviews are when it comes into another state.
use Rattle.std.proofs.Common.{◌≡◌, ℕ, List, [], ◌∷◌, Option, Some, None, length, get_or, slice_get, Ok, Err, Result}
use Rattle.std.proofs.Common.{refl, sym, ap, ◌∙◌, arith}
use Rattle.std.specs.Ordering.{nat_cmp}
use Rattle.std.specs.FinMap.{nat_cmp-IsAntisymmetric}
use Rattle.std.specs.List.Sorted.{IsBinarySearchResult, IsSearchInRange}
use Rattle.std.proofs.lemmas.Cmp.{nat_cmp_total}
use Rattle.std.proofs.lemmas.Option.{get_or_from_slice_get, slice_get-get_or}
use Rattle.vet_base.specs.Keyed.{IsByKey, IsPlace}
use Rattle.vet_base.proofs.KeyedLemmas.{item_at, no_item, place_found, set_at}
use Rattle.vet_desk.specs.declared.review.Review.{Review}
use Rattle.vet_desk.specs.declared.review.ReviewState.{ReviewState}
use Rattle.vet_desk.specs.DeskView.{with_state_at, with_state_there}
use Rattle.vet_desk.specs.Review.{in_state, review_number, review_of, with_state, with_state_of}

-- numbers of reviews rise
abbrev pub Rise : List Review → Type 0
Rise reviews = IsByKey nat_cmp review_number reviews

-- the review of a number stands at a place
abbrev pub StandsAt : List Review → ℕ → ℕ → Type 0
StandsAt reviews n place = IsPlace nat_cmp review_number reviews n (Ok place)

-- what a binary search tells
pub searched : (reviews : List Review) (n : ℕ) (r : Result ℕ ℕ) → Rise reviews → IsSearchInRange r (length reviews)
    → IsBinarySearchResult (λ (review : Review). nat_cmp review.number n) reviews r
    → IsPlace nat_cmp review_number reviews n r
searched reviews n r up within at =
    place_found nat_cmp nat_cmp_total nat_cmp-IsAntisymmetric review_number reviews n r up within at

-- a review that is held at its place, and found by its number
pub record IsFound (reviews : List Review) (n place : ℕ) (r : Review) : Type 0 where
  pub there : slice_get reviews place ≡ Some r
  pub held : review_of reviews n ≡ Some r
  pub number : r.number ≡ n

pub found_as : (reviews : List Review) (n place : ℕ) (r : Review) → Rise reviews → StandsAt reviews n place
    → get_or reviews place r ≡ r
    → review_of reviews n ≡ Some r
found_as reviews n place r up stands at =
    item_at nat_cmp nat_cmp_total nat_cmp-IsAntisymmetric review_number reviews n place r up stands at

pub none_found : (reviews : List Review) (n place : ℕ) → IsPlace nat_cmp review_number reviews n (Err place)
    → review_of reviews n ≡ None
none_found reviews n place h = no_item nat_cmp nat_cmp_total nat_cmp-IsAntisymmetric review_number reviews n place h

pub found : (reviews : List Review) (n place : ℕ) → Rise reviews → StandsAt reviews n place
    → (r : Review) × IsFound reviews n place r
found reviews n place up stands = by (slice_get reviews place) refl
  where
    by : (o : Option Review) → slice_get reviews place ≡ o → (r : Review) × IsFound reviews n place r
    by None none = absurd (lacks reviews none stands)
      where
        lacks : (rs : List Review) → slice_get rs place ≡ None → StandsAt rs n place → ⊥
        lacks [] e s = absurd (omega (arith, s.0))
        lacks (x ∷ rest) e s = cc (sym e ∙ slice_get-get_or (x ∷ rest) place x s.0)
    by (Some r) some =
        let at = get_or_from_slice_get reviews place r r some in (
          r,
          record {
            there = some;
            held = found_as reviews n place r up stands at;
            number = ap review_number (sym at)
                ∙ stands.1 r;
          },
        )

-- the review at the place is the one of the number: brought into a state, they are the reviews with that state of it
pub turned_is : (reviews : List Review) (n place : ℕ) (state : ReviewState) → Rise reviews → StandsAt reviews n place
    → with_state_at place state reviews ≡ with_state n state reviews
turned_is reviews n place state up stands =
    let f = found reviews n place up stands in
    let r = f.0 in
    ap (λ o. with_state_there o place state reviews) f.1.there
    ∙ set_at nat_cmp nat_cmp_total nat_cmp-IsAntisymmetric review_number reviews (in_state state r) place up
    (stands.0, λ d. stands.1 d ∙ sym f.1.number)
    ∙ sym (ap (λ o. with_state_of o state reviews) f.1.held)
