-- What a command changes at the desk, who may do what, and what stays so.
use Rattle.std.proofs.Common.{◌≡◌, ◌⊎◌, ℕ, ◌+◌, ◌<◌, ◌≤◌, Bool, true, false, ◌&&◌, not, is_some, is_none, length}
use Rattle.std.proofs.Common.{get_or, List, [], ◌∷◌, IfSome, Option, Some, None, Ok, inl, inr, refl, sym, ap, subst}
use Rattle.std.proofs.Common.{◌∙◌, arith}
use Rattle.std.specs.FinSet as set
use Rattle.std.specs.FinMap.{nat_cmp-IsAntisymmetric}
use Rattle.std.specs.List.{All, list_any}
use Rattle.std.specs.Ordering.{nat_cmp}
use Rattle.std.specs.Str.{bytes_eq}
use Rattle.std.specs.Cmp.Lexicographic.{bytes_decides}
use Rattle.std.proofs.lemmas.Bool.{cases_Bool, ltb-false}
use Rattle.std.proofs.lemmas.Cmp.{nat_cmp_total, nat_list_cmp_total}
use Rattle.std.proofs.lemmas.List.Elements.{All-append, All-cons, All-head, All-nil, All-tail, All-weaker}
use Rattle.vet_base.specs.declared.limits.TheConstants.{LAST_NUMBER, MOST_MEMBERS, MOST_REVIEWS}
use Rattle.vet_base.specs.declared.refusal.Limit.TheVariants as limit
use Rattle.vet_base.specs.declared.refusal.Refusal.TheVariants.{NotYours, ReviewClosed, TooLarge, UnknownMember}
use Rattle.vet_base.specs.declared.refusal.Refusal.TheVariants.{UnknownReview, WrongTarget}
use Rattle.vet_base.specs.Criteria.{Criteria, least_unknown}
use Rattle.vet_base.specs.Gives.{refuse_if, ◌>>=◌}
use Rattle.vet_base.specs.VersionOrder.{version_eq}
use Rattle.vet_base.specs.VersionOrderLaws.{version_eq-Decides}
use Rattle.vet_base.proofs.KeyedLemmas.{item_of-other, item_of-own}
use Rattle.vet_base.proofs.Comparisons.{equal}
use Rattle.vet_base.proofs.KeyedParts.{All-with_item, item_found}
use Rattle.vet_base.proofs.Rising.{R, only_equal}
use Rattle.vet_base.proofs.Telling.{all_known, not_refused, then_told}
use Rattle.vet_demand.specs.declared.pair.Pair.{Pair}
use Rattle.vet_desk.specs.declared.command.DeskCommand.{DeskCommand}
use Rattle.vet_desk.specs.declared.command.DeskCommand.TheVariants.{AddMember, OpenReview, AssignReview, FinishReview}
use Rattle.vet_desk.specs.declared.command.DeskCommand.TheVariants.{WithdrawReview}
use Rattle.vet_desk.specs.declared.review.Review.{Review}
use Rattle.vet_desk.specs.declared.review.ReviewState.{ReviewState}
use Rattle.vet_desk.specs.declared.review.ReviewState.TheVariants.{Waiting, Assigned, Finished, Withdrawn}
use Rattle.vet_desk.specs.Desk.{DeskState, desk_after, is_member, new_review, own_name}
use Rattle.vet_desk.specs.DeskLaws.{DeskStaysSound, FinishedEntriesStayGiven, KnownIsNotBeyond, MemberIsAdded}
use Rattle.vet_desk.specs.DeskLaws.{MembersStay, OnlyItsMemberFinishes, OpenCriteriaStayKnown, OpenWaitsOrIsAssigned}
use Rattle.vet_desk.specs.DeskLaws.{OtherReviewsStay, ReviewChangesItsState, UnnamedCriterionMayGo}
use Rattle.vet_desk.specs.DeskLaws.{WaitingOrOwnIsWithdrawn}
use Rattle.vet_desk.specs.DeskVerdict.{asked_of, both_held, desk_checked, desk_limits, desk_number, desk_references}
use Rattle.vet_desk.specs.DeskVerdict.{desk_rules, finish_rules, still_open, target_of}
use Rattle.vet_desk.specs.Review.{in_state, is_anothers, is_assigned_to, is_closed, is_open_beyond, is_open_for}
use Rattle.vet_desk.specs.Review.{review_number, review_of, with_review, with_state, with_state_of}
use Rattle.vet_desk.specs.SoundDesk.{HasEntryGiven, HaveEntriesGiven, IsEntryGiven, IsKnownTo}
use Rattle.vet_desk.proofs.Soundness.{sound_joined, sound_opened, sound_turned}

-- ---- what changes

pub member_is_added : MemberIsAdded
member_is_added name members = ap is_some (item_of-own R nat_list_cmp_total only_equal own_name members name)

pub members_stay : MembersStay
members_stay name other members differ =
    ap is_some (item_of-other R nat_list_cmp_total only_equal own_name members name other differ)

-- the review that is found has the number
pub of_number : (reviews : List Review) (n : ℕ) (r : Review) → review_of reviews n ≡ Some r → r.number ≡ n
of_number reviews n r e =
    nat_cmp-IsAntisymmetric r.number n
    (equal (nat_cmp r.number n) (item_found nat_cmp review_number (λ _. Unit {0}) reviews n r (λ k d l. tt) e).0)

pub review_changes : ReviewChangesItsState
review_changes n state reviews r e =
    ap (λ o. review_of (with_state_of o state reviews) n) e
    ∙ ap (review_of (with_review (in_state state r) reviews)) (sym (of_number reviews n r e))
    ∙ item_of-own nat_cmp nat_cmp_total nat_cmp-IsAntisymmetric review_number reviews (in_state state r)

pub other_reviews_stay : OtherReviewsStay
other_reviews_stay n m state reviews differ = by (review_of reviews n) refl
  where
    by : (o : Option Review) → review_of reviews n ≡ o
        → review_of (with_state_of o state reviews) m ≡ review_of reviews m
    by None e = refl
    by (Some r) e = item_of-other nat_cmp nat_cmp_total nat_cmp-IsAntisymmetric review_number reviews
        (in_state state r) m (λ same. differ (same ∙ of_number reviews n r e))

-- ---- who may do what

pub open_waits : OpenWaitsOrIsAssigned
open_waits r = (
  λ h. opens r.state (not_refused (is_closed r.state) ReviewClosed h),
  λ h. ap (λ b. refuse_if b ReviewClosed) (shuts r.state h),
)
  where
    opens : (s : ReviewState) → is_closed s ≡ false → (s ≡ Waiting) ⊎ ((member : List ℕ) × (s ≡ Assigned member))
    opens Waiting e = inl refl
    opens (Assigned member) e = inr (member, refl)
    opens (Finished entry) e = cc e
    opens Withdrawn e = cc e

    shuts : (s : ReviewState) → (s ≡ Waiting) ⊎ ((member : List ℕ) × (s ≡ Assigned member)) → is_closed s ≡ false
    shuts s (inl e) = ap is_closed e
    shuts s (inr h) = ap is_closed h.1

not_true : (b : Bool) → not b ≡ false → b ≡ true
not_true true e = refl
not_true false e = cc e

assigned : (member : List ℕ) (s : ReviewState) → is_assigned_to member s ≡ true → s ≡ Assigned member
assigned member Waiting e = cc e
assigned member (Assigned name) e = ap Assigned ((bytes_decides name member).0 e)
assigned member (Finished entry) e = cc e
assigned member Withdrawn e = cc e

pub only_its_member : OnlyItsMemberFinishes
only_its_member member reviewed r = (finishes, may_finish)
  where
    finishes : finish_rules member reviewed r ≡ Ok tt → (r.state ≡ Assigned member) × (target_of reviewed ≡ r.version)
    finishes h =
        let right = refuse_if (not (version_eq (target_of reviewed) r.version)) WrongTarget in
        let first = then_told (still_open r) (λ _. refuse_if (not (is_assigned_to member r.state)) NotYours
        >>= λ _. right) tt h in
        let second = then_told (refuse_if (not (is_assigned_to member r.state)) NotYours) (λ _. right) tt first.1 in (
          assigned member r.state (not_true _ (not_refused (not (is_assigned_to member r.state)) NotYours second.0)),
          (version_eq-Decides (target_of reviewed) r.version).0
              (not_true _ (not_refused (not (version_eq (target_of reviewed) r.version)) WrongTarget second.1)),
        )

    may_finish : (r.state ≡ Assigned member) × (target_of reviewed ≡ r.version) → finish_rules member reviewed r ≡ Ok tt
    may_finish h =
        rw (h.0, (bytes_decides member member).1 refl, (version_eq-Decides (target_of reviewed) r.version).1 h.1) refl

pub waiting_or_own : WaitingOrOwnIsWithdrawn
waiting_or_own member r = (λ h. withdraws r.state h, λ h. may_withdraw r.state h)
  where
    withdraws : (s : ReviewState)
        → (refuse_if (is_closed s) ReviewClosed >>= λ _. refuse_if (is_anothers member s) NotYours) ≡ Ok tt
        → (s ≡ Waiting) ⊎ (s ≡ Assigned member)
    withdraws Waiting h = inl refl
    withdraws (Assigned name) h =
        inr (ap Assigned ((bytes_decides name member).0
        (not_true _ (not_refused (not (bytes_eq name member)) NotYours h))))
    withdraws (Finished entry) h = cc h
    withdraws Withdrawn h = cc h

    may_withdraw : (s : ReviewState) → (s ≡ Waiting) ⊎ (s ≡ Assigned member)
        → (refuse_if (is_closed s) ReviewClosed >>= λ _. refuse_if (is_anothers member s) NotYours) ≡ Ok tt
    may_withdraw s (inl e) = rw e refl
    may_withdraw s (inr e) = rw (e, (bytes_decides member member).1 refl) refl

-- ---- what stays so

-- what is asked of a command that is accepted
pub record ArePassed (criteria : Criteria) (demand : List Pair) (d : DeskState) (command : DeskCommand) : Type 0 where
  pub limits : desk_limits d command ≡ Ok tt
  pub number : desk_number d command ≡ Ok tt
  pub references : desk_references criteria d command ≡ Ok tt
  pub rules : desk_rules demand d command ≡ Ok tt

pub passed : (criteria : Criteria) (demand : List Pair) (d : DeskState) (command : DeskCommand)
    → desk_checked criteria demand d command ≡ Ok tt
    → ArePassed criteria demand d command
passed criteria demand d command h =
    let rules = desk_rules demand d command in
    let references = desk_references criteria d command in
    let limited = then_told (desk_limits d command) (λ _. desk_number d command >>= λ _. references >>= λ _. rules)
    tt h in
    let numbered = then_told (desk_number d command) (λ _. references >>= λ _. rules) tt limited.1 in
    let known = then_told references (λ _. rules) tt numbered.1 in
    record { limits = limited.0; number = numbered.0; references = known.0; rules = known.1 }

some_of : {X : Type 0} (o : Option X) → is_none o ≡ false → (x : X) × (o ≡ Some x)
some_of None e = cc e
some_of (Some x) e = (x, refl)

-- a member and a review that are referred to are held
pub both : (d : DeskState) (n : ℕ) (member : List ℕ) → both_held d n member ≡ Ok tt
    → (is_member d.members member ≡ true) × ((r : Review) × (review_of d.reviews n ≡ Some r))
both d n member h =
    let two = then_told (refuse_if (not (is_member d.members member)) UnknownMember)
    (λ _. refuse_if (is_none (review_of d.reviews n)) UnknownReview) tt h in (
      not_true _ (not_refused (not (is_member d.members member)) UnknownMember two.0),
      some_of (review_of d.reviews n) (not_refused (is_none (review_of d.reviews n)) UnknownReview two.1),
    )

pub stays_sound : DeskStaysSound
stays_sound criteria demand d day entry (AddMember name) h sound =
    let p = passed criteria demand d (AddMember name) h in
    sound_joined d name sound (let few =
    ltb-false MOST_MEMBERS (length d.members + 1) (not_refused _ (TooLarge limit.Members) p.limits) in
    omega (arith, few))
stays_sound criteria demand d day entry (OpenReview name version wanted) h sound =
    let p = passed criteria demand d (OpenReview name version wanted) h in
    let few = ltb-false MOST_REVIEWS (length d.reviews + 1) (not_refused _ (TooLarge limit.Reviews) p.limits) in
    let number = ltb-false LAST_NUMBER d.next_review (not_refused _ (TooLarge limit.Number) p.number) in
    sound_opened d day name version wanted sound (omega (arith, few)) (omega (arith, number))
stays_sound criteria demand d day entry (AssignReview n member) h sound =
    let held = both d n member (passed criteria demand d (AssignReview n member) h).references in
    sound_turned d n (Assigned member) held.1.0 sound held.1.1 held.0
stays_sound criteria demand d day None (FinishReview n member reviewed) h sound = sound
stays_sound criteria demand d day (Some entry) (FinishReview n member reviewed) h sound =
    let held = both d n member (passed criteria demand d (FinishReview n member reviewed) h).references in
    sound_turned d n (Finished entry) held.1.0 sound held.1.1 tt
stays_sound criteria demand d day entry (WithdrawReview n member) h sound =
    let held = both d n member (passed criteria demand d (WithdrawReview n member) h).references in
    sound_turned d n Withdrawn held.1.0 sound held.1.1 tt

-- ---- what open reviews name

-- where the review of a number comes into a state, what holds of each and of it in that state holds after
kept_by : (P : Review → Type 0) (reviews : List Review) (n : ℕ) (state : ReviewState) → All P reviews
    → ((r : Review) → review_of reviews n ≡ Some r → P r → P (in_state state r)) → All P (with_state n state reviews)
kept_by P reviews n state each one = by (review_of reviews n) refl
  where
    by : (o : Option Review) → review_of reviews n ≡ o → All P (with_state_of o state reviews)
    by None e = each
    by (Some r) e = All-with_item nat_cmp review_number P reviews (in_state state r) each
        (one r e (item_found nat_cmp review_number P reviews n r each e).1)

known_assigned : (criteria : Criteria) (demand : List Pair) (d : DeskState) (n : ℕ) (member : List ℕ)
    → desk_rules demand d (AssignReview n member) ≡ Ok tt
    → (r : Review) → review_of d.reviews n ≡ Some r → IsKnownTo criteria r
    → IsKnownTo criteria (in_state (Assigned member) r)
known_assigned criteria demand d n member rules r e known unclosed =
    known (not_refused (is_closed r.state) ReviewClosed (subst (λ o. asked_of still_open o ≡ Ok tt) e rules))

pub stay_known : OpenCriteriaStayKnown
stay_known criteria demand d day entry (AddMember name) h known = known
stay_known criteria demand d day entry (OpenReview name version wanted) h known =
    let p = passed criteria demand d (OpenReview name version wanted) h in
    let review = new_review d.next_review day name version wanted in
    All-append (IsKnownTo criteria) d.reviews (review ∷ []) known
    (All-cons (IsKnownTo criteria) review [] (λ unclosed. all_known (least_unknown criteria wanted) p.references)
    (All-nil (IsKnownTo criteria)))
stay_known criteria demand d day entry (AssignReview n member) h known =
    let p = passed criteria demand d (AssignReview n member) h in
    kept_by (IsKnownTo criteria) d.reviews n (Assigned member) known (known_assigned criteria demand d n member p.rules)
stay_known criteria demand d day None (FinishReview n member reviewed) h known = known
stay_known criteria demand d day (Some entry) (FinishReview n member reviewed) h known =
    kept_by (IsKnownTo criteria) d.reviews n (Finished entry) known (λ r e k unclosed. cc unclosed)
stay_known criteria demand d day entry (WithdrawReview n member) h known =
    kept_by (IsKnownTo criteria) d.reviews n Withdrawn known (λ r e k unclosed. cc unclosed)

-- none of some passes a test
none_pass : {X : Type 0} (p : X → Bool) (xs : List X) → list_any p xs ≡ false → All (λ x. p x ≡ false) xs
none_pass p [] e = All-nil _
none_pass p (x ∷ xs) e = elim (cases_Bool (p x)) [
  | inl passes ↦ (let e' = rw passes at e in cc e')
  | inr fails ↦ All-cons (λ z. p z ≡ false) x xs fails (none_pass p xs (rw fails at e))
]

all_fail : {X : Type 0} (p : X → Bool) (xs : List X) → All (λ x. p x ≡ false) xs → list_any p xs ≡ false
all_fail p [] h = refl
all_fail p (x ∷ xs) h = rw (All-head (λ z. p z ≡ false) x xs h) (all_fail p xs (All-tail (λ z. p z ≡ false) x xs h))

second : (a b : Bool) → (not a && b) ≡ false → a ≡ false → b ≡ false
second true b h e = cc e
second false b h e = h

pub unnamed_may_go : UnnamedCriterionMayGo
unnamed_may_go criteria other name reviews keeps unnamed known k d l unclosed =
    keeps _ (second (is_closed _) (set.contains _ name) (none_pass (is_open_for name) reviews unnamed k d l)
    unclosed) (known k d l unclosed)

none_of : {X : Type 0} (o : Option X) → is_some o ≡ false → o ≡ None
none_of None e = refl
none_of (Some x) e = cc e

pub known_is_not_beyond : KnownIsNotBeyond
known_is_not_beyond criteria reviews = (
  λ h k d l unclosed. none_of _
      (second (is_closed _) (is_some _) (none_pass (is_open_beyond criteria) reviews h k d l) unclosed),
  λ known. all_fail (is_open_beyond criteria) reviews (λ k d l. within (get_or reviews k d) (known k d l)),
)
  where
    both_false : (a : Bool) (o : Option (List ℕ)) → (a ≡ false → o ≡ None) → (not a && is_some o) ≡ false
    both_false true o h = refl
    both_false false o h = ap is_some (h refl)

    within : (r : Review) → IsKnownTo criteria r → is_open_beyond criteria r ≡ false
    within r h = both_false (is_closed r.state) (least_unknown criteria r.criteria) h

-- ---- entries of finished reviews

given_later : (next later : ℕ) → next ≤ later → (s : ReviewState) → IsEntryGiven next s → IsEntryGiven later s
given_later next later le Waiting h = tt
given_later next later le (Assigned member) h = tt
given_later next later le (Finished entry) h = omega (arith, le, h)
given_later next later le Withdrawn h = tt

pub stay_given : FinishedEntriesStayGiven
stay_given next later d day entry command le new given = by command entry new
  where
    still : HaveEntriesGiven later d.reviews
    still = All-weaker (HasEntryGiven next) (HasEntryGiven later)
        (λ (r : Review). given_later next later le r.state) d.reviews given

    by : (c : DeskCommand) (e : Option ℕ) → IfSome e (λ n. n < later)
        → HaveEntriesGiven later (desk_after day e c d).reviews
    by (AddMember name) e new = still
    by (OpenReview name version wanted) e new =
        let review = new_review d.next_review day name version wanted in
        All-append (HasEntryGiven later) d.reviews (review ∷ []) still
        (All-cons (HasEntryGiven later) review [] tt (All-nil (HasEntryGiven later)))
    by (AssignReview n member) e new = kept_by (HasEntryGiven later) d.reviews n (Assigned member) still
        (λ r found h. tt)
    by (FinishReview n member reviewed) None new = still
    by (FinishReview n member reviewed) (Some entry) new =
        kept_by (HasEntryGiven later) d.reviews n (Finished entry) still (λ r found h. new)
    by (WithdrawReview n member) e new = kept_by (HasEntryGiven later) d.reviews n Withdrawn still (λ r found h. tt)
