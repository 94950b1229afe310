-- Tables whose keys rise, at every level.
use Rattle.std.proofs.Common.{Option, Some, None, option_map, option_and_then}
use Rattle.std.specs.Prelude.{IfSome}
use Rattle.toml.specs.Data.{Data, array, table, Items, no_items, item, push_item, Members, no_members, member}
use Rattle.vet_files.specs.Walk.{IsBelow, KeysRise}

-- each key comes before those after it, here and in what stands at the keys
abbrev mutual
  pub Rises : Data → Type 0
  Rises (array ds) = AllRise ds
  Rises (table ms) = Rising ms
  Rises _ = Unit {0}

  pub AllRise : Items → Type 0
  AllRise no_items = Unit {0}
  AllRise (item d ds) = Rises d × AllRise ds

  pub Rising : Members → Type 0
  Rising no_members = Unit {0}
  Rising (member k d ms) = IsBelow k ms × (Rises d × Rising ms)

-- the keys of the one level alone
pub rising-keys : (ms : Members) → Rising ms → KeysRise ms
rising-keys no_members h = tt
rising-keys (member k d ms) h = (h.0, rising-keys ms h.1.1)

pub push-rises : (ds : Items) (d : Data) → AllRise ds → Rises d → AllRise (push_item ds d)
push-rises no_items d h one = (one, tt)
push-rises (item x ds) d h one = (h.0, push-rises ds d h.1 one)

-- ---- options

-- what is made of a value that is there
pub map-if : {A B : Type 0} (P : A → Type 0) (Q : B → Type 0) (f : A → B) (o : Option A) → IfSome o P
    → ((a : A) → P a → Q (f a)) → IfSome (option_map f o) Q
map-if P Q f None first second = tt
map-if P Q f (Some a) first second = second a first

pub then-if : {A B : Type 0} (P : A → Type 0) (Q : B → Type 0) (o : Option A) (f : A → Option B) → IfSome o P
    → ((a : A) → P a → IfSome (f a) Q)
    → IfSome (option_and_then f o) Q
then-if P Q None f first second = tt
then-if P Q (Some a) f first second = second a first

-- the same, where the first value tells nothing
pub map-any : {A B : Type 0} (Q : B → Type 0) (f : A → B) (o : Option A) → ((a : A) → Q (f a))
    → IfSome (option_map f o) Q
map-any Q f None each = tt
map-any Q f (Some a) each = each a

pub then-any : {A B : Type 0} (Q : B → Type 0) (o : Option A) (f : A → Option B) → ((a : A) → IfSome (f a) Q)
    → IfSome (option_and_then f o) Q
then-any Q None f each = tt
then-any Q (Some a) f each = each a
