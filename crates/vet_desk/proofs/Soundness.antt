-- A desk is sound after each command that is accepted.
use Rattle.std.proofs.Common.{◌≡◌, ℕ, suc, ◌+◌, ◌<◌, ◌≤◌, Bool, true, false, cond, is_some, Some, List, [], ◌∷◌, ◌++◌}
use Rattle.std.proofs.Common.{filter, length, refl, sym, ap, subst, ◌∙◌, arith, Ordering, Less, Equal, Greater}
use Rattle.std.specs.List.{All, AllPairs, sum_by}
use Rattle.std.specs.Ordering.{is_gt, is_lt, nat_cmp}
use Rattle.std.specs.Cmp.{nat_cmp_is}
use Rattle.std.specs.FinMap.{nat_cmp-IsAntisymmetric}
use Rattle.std.proofs.lemmas.Cmp.{nat_cmp_total, nat_list_cmp_total}
use Rattle.std.proofs.lemmas.List.{length-append}
use Rattle.std.proofs.lemmas.List.Elements.{All-append, All-cons, All-head, All-nil, All-tail, All-weaker}
use Rattle.std.proofs.lemmas.List.Kept.{AllPairs-cons}
use Rattle.std.proofs.lemmas.List.Sums.{sum_by-cons}
use Rattle.vet_base.specs.declared.limits.TheConstants.{LAST_NUMBER, MOST_MEMBERS, MOST_REVIEWS}
use Rattle.vet_base.specs.Day.{DayValue}
use Rattle.vet_base.specs.Keyed.{IsByKey, is_before, is_behind, is_of, item_of}
use Rattle.vet_base.specs.Names.{NameSet}
use Rattle.vet_base.specs.Version.{VersionValue}
use Rattle.vet_base.proofs.KeyedLemmas.{IsByKey-with_item, item_of-after}
use Rattle.vet_base.proofs.Comparisons.{equal}
use Rattle.vet_base.proofs.KeyedParts.{All-with_item, held_sum, item_found, sum_with}
use Rattle.vet_base.proofs.Rising.{R, only_equal}
use Rattle.vet_desk.specs.declared.review.Review.{Review}
use Rattle.vet_desk.specs.declared.review.ReviewState.{ReviewState}
use Rattle.vet_desk.specs.declared.review.ReviewState.TheVariants.{Waiting, Assigned, Finished, Withdrawn}
use Rattle.vet_desk.specs.Desk.{DeskState, is_member, new_review, own_name, with_member}
use Rattle.vet_desk.specs.Review.{in_state, review_number, review_of, with_review, with_state, with_state_of}
use Rattle.vet_desk.specs.SoundDesk.{AreReviews, HasMember, IsByMember, IsNumberGiven, IsSoundDesk}

-- ---- a member more

-- at most all names stand before and behind one
few_beside : (name : List ℕ) (members : List (List ℕ))
    → length (filter (is_before R own_name name) members) + length (filter (is_behind R own_name name) members)
    ≤ length members
few_beside name [] = omega arith
few_beside name (x ∷ rest) = by (R x name) (few_beside name rest)
  where
    front : List (List ℕ)
    front = filter (is_before R own_name name) rest

    back : List (List ℕ)
    back = filter (is_behind R own_name name) rest

    by : (r : Ordering) → length front + length back ≤ length rest
        → length (cond (is_lt r) (x ∷ front) front) + length (cond (is_gt r) (x ∷ back) back) ≤ suc (length rest)
    by Less h = omega (arith, h)
    by Equal h = omega (arith, h)
    by Greater h = omega (arith, h)

one_more : (name : List ℕ) (members : List (List ℕ)) → length (with_member name members) ≤ length members + 1
one_more name members =
    let front = filter (is_before R own_name name) members in
    let back = filter (is_behind R own_name name) members in
    omega (arith, length-append front (name ∷ back), few_beside name members)

-- who is a member stays one
still_member : (members : List (List ℕ)) (name other : List ℕ) → is_member members other ≡ true
    → is_member (with_member name members) other ≡ true
still_member members name other h = by (is_of R own_name other name) refl
  where
    by : (b : Bool) → is_of R own_name other name ≡ b → is_member (with_member name members) other ≡ true
    by true e = ap is_some (item_of-after R nat_list_cmp_total only_equal own_name members name other true e)
    by false e = ap is_some (item_of-after R nat_list_cmp_total only_equal own_name members name other false e) ∙ h

stays_by_member : (members : List (List ℕ)) (name : List ℕ) (state : ReviewState) → IsByMember members state
    → IsByMember (with_member name members) state
stays_by_member members name Waiting h = tt
stays_by_member members name (Assigned member) h = still_member members name member h
stays_by_member members name (Finished entry) h = tt
stays_by_member members name Withdrawn h = tt

pub sound_joined : (d : DeskState) (name : List ℕ) → IsSoundDesk d → length d.members < MOST_MEMBERS
    → IsSoundDesk (record d { members = with_member name d.members })
sound_joined d name h few = record {
  members = record {
    by_name = IsByKey-with_item R nat_list_cmp_total only_equal own_name d.members name h.members.by_name;
    few = omega (arith, one_more name d.members, few);
  };
  reviews = record {
    numbers_rise = h.reviews.numbers_rise;
    numbers_given = h.reviews.numbers_given;
    by_members = All-weaker (HasMember d.members) (HasMember (with_member name d.members))
        (λ (r : Review). stays_by_member d.members name r.state) d.reviews h.reviews.by_members;
    few = h.reviews.few;
  };
  next_number = h.next_number;
}

-- ---- a review more

abbrev Rises : Review → Review → Type 0
Rises a b = nat_cmp a.number b.number ≡ Less

-- one behind all
rise_with : (reviews : List Review) (last : Review) → AllPairs Rises reviews → All (λ r. Rises r last) reviews
    → AllPairs Rises (reviews ++ last ∷ [])
rise_with [] last up below = λ i j d l m. absurd (omega (arith, l, m))
rise_with (x ∷ rest) last up below =
    AllPairs-cons Rises x (rest ++ last ∷ [])
    (All-append (Rises x) rest (last ∷ []) (λ k d l. up 0 (suc k) d (omega arith) (omega (arith, l)))
    (All-cons (Rises x) last [] (All-head (λ r. Rises r last) x rest below) (All-nil (Rises x))))
    (rise_with rest last (λ i j d l m. up (suc i) (suc j) d (omega (arith, l)) (omega (arith, m)))
    (All-tail (λ r. Rises r last) x rest below))

pub sound_opened : (d : DeskState) (day : DayValue) (name : List ℕ) (version : VersionValue) (criteria : NameSet)
    → IsSoundDesk d
    → length d.reviews < MOST_REVIEWS → d.next_review ≤ LAST_NUMBER
    → IsSoundDesk (record d {
      reviews = d.reviews ++ new_review d.next_review day name version criteria ∷ [];
      next_review = d.next_review + 1;
    })
sound_opened d day name version criteria h few number =
    let review = new_review d.next_review day name version criteria in
    record {
      members = h.members;
      reviews = record {
        numbers_rise = rise_with d.reviews review h.reviews.numbers_rise
            (All-weaker (IsNumberGiven d.next_review) (λ r. Rises r review)
            (λ (r : Review) l. sym (nat_cmp_is r.number d.next_review Less l)) d.reviews h.reviews.numbers_given);
        numbers_given = All-append (IsNumberGiven (d.next_review + 1)) d.reviews (review ∷ [])
            (All-weaker (IsNumberGiven d.next_review) (IsNumberGiven (d.next_review + 1))
            (λ (r : Review) l. omega (arith, l)) d.reviews h.reviews.numbers_given)
            (All-cons (IsNumberGiven (d.next_review + 1)) review [] (omega arith)
            (All-nil (IsNumberGiven (d.next_review + 1))));
        by_members = All-append (HasMember d.members) d.reviews (review ∷ []) h.reviews.by_members
            (All-cons (HasMember d.members) review [] tt (All-nil (HasMember d.members)));
        few = omega (arith, length-append d.reviews (review ∷ []), few);
      };
      next_number = omega (arith, number);
    }

-- ---- a review in another state

abbrev one : Review → ℕ
one r = 1

counted : (reviews : List Review) → sum_by one reviews ≡ length reviews
counted [] = refl
counted (r ∷ rest) = sum_by-cons one r rest ∙ omega (arith, counted rest)

-- there are as many after as before
as_many : (reviews : List Review) (n : ℕ) (state : ReviewState) (r : Review) → IsByKey nat_cmp review_number reviews
    → review_of reviews n ≡ Some r
    → length (with_review (in_state state r) reviews) ≡ length reviews
as_many reviews n state r up e =
    let after = with_review (in_state state r) reviews in
    let number = nat_cmp-IsAntisymmetric r.number n
    (equal (nat_cmp r.number n) (item_found nat_cmp review_number (λ _. Unit {0}) reviews n r (λ k d l. tt) e).0) in
    let held : held_sum one (item_of nat_cmp review_number reviews r.number) ≡ 1 =
    ap (held_sum one) (ap (review_of reviews) number ∙ e) in
    omega (
      arith,
      sum_with nat_cmp nat_cmp_total nat_cmp-IsAntisymmetric review_number one reviews
          (in_state state r) up,
      held,
      counted reviews,
      counted after,
    )

pub sound_turned : (d : DeskState) (n : ℕ) (state : ReviewState) (r : Review) → IsSoundDesk d
    → review_of d.reviews n ≡ Some r → IsByMember d.members state
    → IsSoundDesk (record d { reviews = with_state n state d.reviews })
sound_turned d n state r h held by =
    let after = with_review (in_state state r) d.reviews in
    let is = ap (λ o. with_state_of o state d.reviews) held in
    let sound : AreReviews d.members after d.next_review = record {
      numbers_rise = IsByKey-with_item nat_cmp nat_cmp_total nat_cmp-IsAntisymmetric review_number d.reviews
          (in_state state r) h.reviews.numbers_rise;
      numbers_given = All-with_item nat_cmp review_number (IsNumberGiven d.next_review) d.reviews (in_state state r)
          h.reviews.numbers_given
          (item_found nat_cmp review_number (IsNumberGiven d.next_review) d.reviews n r h.reviews.numbers_given held).1;
      by_members = All-with_item nat_cmp review_number (HasMember d.members) d.reviews (in_state state r)
          h.reviews.by_members by;
      few = omega (arith, as_many d.reviews n state r h.reviews.numbers_rise held, h.reviews.few);
    } in
    record {
      members = h.members;
      reviews = subst (λ reviews. AreReviews d.members reviews d.next_review) (sym is) sound;
      next_number = h.next_number;
    }
