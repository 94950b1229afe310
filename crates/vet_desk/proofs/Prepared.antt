-- What is prepared for a command.
use Rattle.std.proofs.Common.{◌≡◌, ℕ, ◌+◌, ◌<◌, ◌≤◌, true, length, get_or, List, [], ◌∷◌, ◌++◌, Option, Some, None}
use Rattle.std.proofs.Common.{option_map, refl, sym, ap, subst, ◌∙◌, arith}
use Rattle.std.proofs.lemmas.Option.{get_or_from_slice_get}
use Rattle.vet_base.specs.declared.keyed.KeyedEdit.{KeyedEdit}
use Rattle.vet_base.specs.declared.keyed.KeyedEdit.TheVariants as edit
use Rattle.vet_base.specs.declared.limits.TheConstants.{LAST_NUMBER, MOST_MEMBERS, MOST_REVIEWS}
use Rattle.vet_base.specs.Day.{DayValue}
use Rattle.vet_base.specs.Keyed as keyed
use Rattle.vet_base.specs.Names.{NameSet}
use Rattle.vet_base.specs.Version.{VersionValue}
use Rattle.vet_base.proofs.Rising.{R}
use Rattle.vet_entries.specs.declared.entry.Entry.{Entry}
use Rattle.vet_desk.specs.declared.change.DeskChange.{DeskChange}
use Rattle.vet_desk.specs.declared.change.DeskChange.TheVariants.{Join, Open, Turn, Finish}
use Rattle.vet_desk.specs.declared.command.DeskCommand.{DeskCommand}
use Rattle.vet_desk.specs.declared.command.DeskCommand.TheVariants.{AddMember, OpenReview, AssignReview, FinishReview}
use Rattle.vet_desk.specs.declared.command.DeskCommand.TheVariants.{WithdrawReview}
use Rattle.vet_desk.specs.declared.command.Reviewed.{Reviewed}
use Rattle.vet_desk.specs.declared.review.Review.{Review}
use Rattle.vet_desk.specs.declared.review.ReviewState.{ReviewState}
use Rattle.vet_desk.specs.declared.review.ReviewState.TheVariants.{Assigned, Finished, Withdrawn}
use Rattle.vet_desk.specs.Desk.{DeskState, desk_after, entry_by, is_member, new_review, own_name, with_member}
use Rattle.vet_desk.specs.DeskView.{DeskView, FitsDesk, HoldsDeskRoom, IsDeskChange, IsDeskStep, KeepsDeskChanges}
use Rattle.vet_desk.specs.DeskView.{desk_changed, members_room, with_state_at}
use Rattle.vet_desk.specs.Review.{with_state}
use Rattle.vet_desk.specs.SoundDesk.{IsSoundDesk}
use Rattle.vet_desk.proofs.Reviews.{IsFound, StandsAt, found, turned_is}
use Rattle.vet_desk.proofs.Soundness.{sound_joined, sound_opened, sound_turned}

-- what stays prepared where the content is the same and no room is lost
module _ (old new : DeskView) (same : new.content ≡ old.content) (room : HoldsDeskRoom old.room new.room) where
  edit_still : (e : KeyedEdit (List ℕ)) → keyed.Fits R own_name e (members_room old)
      → keyed.Fits R own_name e (record { items = old.content.members; room = new.room.members })
  edit_still (edit.Put place name) h = (h.0, omega (arith, h.1, room.0))
  edit_still (edit.Take place) h = h
  edit_still (edit.Swap place name) h = h

  fits_there : (change : DeskChange) → FitsDesk change old
      → FitsDesk change (record { content = old.content; room = new.room })
  fits_there (Join e) h = edit_still e h
  fits_there (Open review) h = omega (arith, h, room.1)
  fits_there (Turn place state) h = h
  fits_there (Finish place entry) h = h

  pub changes_stay : KeepsDeskChanges old new
  changes_stay day command change h = record {
    step = subst (λ (d : DeskState). IsDeskStep d day command change) (sym same) h.step;
    fits = subst (λ (d : DeskState). FitsDesk change (record { content = d; room = new.room })) (sym same)
        (fits_there change h.fits);
  }

-- what a change of a desk makes is sound
pub sound_after : (d : DeskView) (day : DayValue) (command : DeskCommand) (change : DeskChange) (entry : Option ℕ)
    → IsDeskChange d day command change
    → IsSoundDesk (desk_changed change entry d.content)
sound_after d day command change entry h = subst IsSoundDesk (sym (h.step.becomes entry)) (h.step.sound entry)

-- ---- one change a command

module _ (d : DeskView) (sound : IsSoundDesk d.content) where
  pub joined : (day : DayValue) (name : List ℕ) (e : KeyedEdit (List ℕ)) → length d.content.members < MOST_MEMBERS
      → keyed.edited e d.content.members ≡ with_member name d.content.members → keyed.Fits R own_name e (members_room d)
      → IsDeskChange d day (AddMember name) (Join e)
  joined day name e few is fits = record {
    step = record {
      becomes = λ entry. λ i. record d.content { members = is i };
      sound = λ entry. sound_joined d.content name sound few;
      entry = refl;
    };
    fits = fits;
  }

  pub opening : (day : DayValue) (name : List ℕ) (version : VersionValue) (criteria : NameSet) (review : Review)
      → length d.content.reviews < MOST_REVIEWS
      → d.content.next_review ≤ LAST_NUMBER → review ≡ new_review d.content.next_review day name version criteria
      → 0 < d.room.reviews
      → IsDeskChange d day (OpenReview name version criteria) (Open review)
  opening day name version criteria review few number is room = record {
    step = record {
      becomes = λ entry. λ i. record d.content {
        reviews = d.content.reviews ++ is i ∷ [];
        next_review =
            d.content.next_review + 1;
      };
      sound = λ entry. sound_opened d.content day name version criteria sound few number;
      entry = refl;
    };
    fits = room;
  }

  module _ (n place : ℕ) (stands : StandsAt d.content.reviews n place) where
    there : (r : Review) × IsFound d.content.reviews n place r
    there = found d.content.reviews n place sound.reviews.numbers_rise stands

    turns : (state : ReviewState) → with_state_at place state d.content.reviews ≡ with_state n state d.content.reviews
    turns state = turned_is d.content.reviews n place state sound.reviews.numbers_rise stands

    pub assigning : (day : DayValue) (member : List ℕ) → is_member d.content.members member ≡ true
        → IsDeskChange d day (AssignReview n member) (Turn place (Assigned member))
    assigning day member held = record {
      step = record {
        becomes = λ entry. λ i. record d.content { reviews = turns (Assigned member) i };
        sound = λ entry. sound_turned d.content n (Assigned member) there.0 sound there.1.held held;
        entry = refl;
      };
      fits = stands.0;
    }

    pub withdrawing : (day : DayValue) (member : List ℕ)
        → IsDeskChange d day (WithdrawReview n member) (Turn place Withdrawn)
    withdrawing day member = record {
      step = record {
        becomes = λ entry. λ i. record d.content { reviews = turns Withdrawn i };
        sound = λ entry. sound_turned d.content n Withdrawn there.0 sound there.1.held tt;
        entry = refl;
      };
      fits = stands.0;
    }

    finish_becomes : (member : List ℕ) (reviewed : Reviewed) (made : Entry) (day : DayValue) (entry : Option ℕ)
        → desk_changed (Finish place made) entry d.content ≡ desk_after day entry (FinishReview n member reviewed)
        d.content
    finish_becomes member reviewed made day None = refl
    finish_becomes member reviewed made day (Some entry) = λ i. record d.content { reviews = turns (Finished entry) i }

    finish_sound : (member : List ℕ) (reviewed : Reviewed) (day : DayValue) (entry : Option ℕ)
        → IsSoundDesk (desk_after day entry (FinishReview n member reviewed) d.content)
    finish_sound member reviewed day None = sound
    finish_sound member reviewed day (Some entry) =
        sound_turned d.content n (Finished entry) there.0 sound there.1.held tt

    pub finishing : (day : DayValue) (member : List ℕ) (reviewed : Reviewed) (made : Entry)
        → ((r : Review) → get_or d.content.reviews place r ≡ r → made ≡ entry_by member reviewed r)
        → IsDeskChange d day (FinishReview n member reviewed) (Finish place made)
    finishing day member reviewed made is =
        record {
          step = record {
            becomes = finish_becomes member reviewed made day;
            sound = finish_sound member reviewed day;
            entry = ap (λ e. Some e) (is there.0
                (get_or_from_slice_get d.content.reviews place there.0 there.0 there.1.there))
                ∙ sym (ap (option_map (entry_by member reviewed)) there.1.held);
          };
          fits = stands.0;
        }
