-- The rows of the review desk that an edit of it removes and adds (ours).
use Rattle.std.specs.Prelude.{ℕ, List, [], ◌∷◌, Option, Some, None, option_map}
use Rattle.std.specs.List.{slice_get}
use Rattle.vet_base.specs.Words.{Name}
use Rattle.vet_desk.specs.declared.change.DeskChange.{DeskChange}
use Rattle.vet_desk.specs.declared.change.DeskChange.TheVariants.{Join, Open, Turn, Finish}
use Rattle.vet_desk.specs.declared.review.Review.{Review}
use Rattle.vet_desk.specs.declared.review.ReviewState.{ReviewState}
use Rattle.vet_desk.specs.declared.review.ReviewState.TheVariants.{Finished}
use Rattle.vet_desk.specs.Desk.{DeskState}
use Rattle.vet_desk.specs.Review.{in_state}
use Rattle.vet_item_rows.specs.DeskRows.{member_row, review_row}
use Rattle.vet_register.specs.declared.change.DeskEdit.{DeskEdit}
use Rattle.vet_rows.specs.KeyedItems.{one_row, rows_if}
use Rattle.vet_rows.specs.RowExchanges.{exchange_of, item_exchange}
use Rattle.vet_rows.specs.declared.row_changes.exchange.Exchange.{Exchange}
use Rattle.vet_tables.specs.Cells.{Row}
use Rattle.vet_tables.specs.declared.table_name.DeskTable.TheVariants.{Members, Reviews}
use Rattle.vet_tables.specs.declared.table_name.TableName.TheVariants as table

-- of a member, and of a review
abbrev pub the_member : Name → List Row
the_member = one_row member_row

abbrev pub the_review : Review → List Row
the_review = one_row review_row

-- the row of a review, if there is one, for its row in another state
abbrev pub turned_exchange : ReviewState → Option Review → Exchange
turned_exchange state review =
    exchange_of (table.Desk Reviews) (rows_if the_review review)
    (rows_if the_review (option_map (in_state state) review))

-- a review that is finished gets the entry of this number, if one is given
abbrev pub desk_change_exchanges : DeskChange → Option ℕ → DeskState → List Exchange
desk_change_exchanges (Join edit) entry d = item_exchange (table.Desk Members) the_member edit d.members ∷ []
desk_change_exchanges (Open review) entry d = exchange_of (table.Desk Reviews) [] (the_review review) ∷ []
desk_change_exchanges (Turn place state) entry d = turned_exchange state (slice_get d.reviews place) ∷ []
desk_change_exchanges (Finish place made) None d = []
desk_change_exchanges (Finish place made) (Some number) d =
    turned_exchange (Finished number) (slice_get d.reviews place) ∷ []

-- of an edit of the desk, if there is one
abbrev pub desk_exchanges : Option DeskEdit → DeskState → List Exchange
desk_exchanges None d = []
desk_exchanges (Some e) d = desk_change_exchanges e.change e.entry d
