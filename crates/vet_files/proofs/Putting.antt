-- A key put into a `BTreeMap`, beside the members that it stands for.
use Rattle.std.proofs.Common.{◌≡◌, List, [], ◌∷◌, length, Some, String, Global, Less, Equal, Greater, string_bytes}
use Rattle.std.proofs.Common.{refl, ap}
use Rattle.std.specs.BTreeMap.{insert_entry}
use Rattle.std.specs.Ordering.{match_ordering}
use Rattle.std.specs.FinMap.Entries.{by_order}
use Rattle.std.specs.String.{string_cmp}
use Rattle.toml.proofs.Views.{Entry}
use Rattle.toml.specs.Data.{member, table}
use Rattle.toml.specs.View.{members_view, view}
use Rattle.toml.specs.declared.value.Value.{Value}
use Rattle.vet_files.specs.Tables.{put_member, unless_empty}

pub inserted : (es : List Entry) (k : String Global) (v : Value) → members_view (insert_entry string_cmp es k v)
    ≡ put_member (string_bytes k) (view v) (members_view es)
inserted [] k v = refl
inserted (e ∷ es) k v =
    elim (string_cmp k e.0)
    as (λ o. members_view (match_ordering o ((k, v) ∷ e ∷ es) ((e.0, v) ∷ es) (e ∷ insert_entry string_cmp es k v))
    ≡ by_order o (member (string_bytes k) (view v) (members_view (e ∷ es)))
    (member (string_bytes e.0) (view v) (members_view es))
    (member (string_bytes e.0) (view e.1) (put_member (string_bytes k) (view v) (members_view es)))) [
      | Less ↦ refl
      | Equal ↦ refl
      | Greater ↦ ap (member (string_bytes e.0) (view e.1)) (inserted es k v)
    ]

-- a table in which something stands is kept
pub kept : (es : List Entry) → (length es ≡ 0 → ⊥) → Some (table (members_view es)) ≡ unless_empty (members_view es)
kept [] some = absurd (some refl)
kept (e ∷ es) some = refl
