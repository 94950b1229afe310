-- What walks keep.
use Rattle.std.proofs.Common.{◌≡◌, ◌⊎◌, ℕ, ◌+◌, List, IfOk, refl, sym, ap, ◌∙◌, inl, inr}
use Rattle.std.specs.Prelude.{Ok, Err}
use Rattle.toml.specs.Data.{Data, Items, no_items, item, Members, no_members, member}
use Rattle.vet_base.specs.Gives.{Told, ◌>>=◌}
use Rattle.vet_base.specs.declared.refusal.Refusal.{Refusal}
use Rattle.vet_base.specs.declared.refusal.Refusal.TheVariants.{NoMemory}
use Rattle.vet_files.specs.Walk.{each_item, each_member}

-- what the second step makes of each value that the first tells
pub bind-keeps : {A B : Type 0} (P : A → Type 0) (Q : B → Type 0) (r : Told A) (f : A → Told B) → IfOk r P
    → ((a : A) → P a → IfOk (f a) Q) → IfOk (r >>= f) Q
bind-keeps P Q (Ok a) f first second = second a first
bind-keeps P Q (Err refusal) f first second = tt

-- the same, where the first value tells nothing
pub bind-gives : {A B : Type 0} (Q : B → Type 0) (r : Told A) (f : A → Told B) → ((a : A) → IfOk (f a) Q)
    → IfOk (r >>= f) Q
bind-gives Q (Ok a) f each = each a
bind-gives Q (Err refusal) f each = tt

-- what each step keeps holds at the end of a table
pub each_member-keeps : {S : Type 0} (P : S → Type 0) (read : S → List ℕ → Data → Told S)
    → ((found : S) (key : List ℕ) (d : Data) → P found → IfOk (read found key d) P)
    → (found : S) (ms : Members) → P found → IfOk (each_member read found ms) P
each_member-keeps P read step found no_members h = h
each_member-keeps P read step found (member key d rest) h =
    bind-keeps P P (read found key d) (λ more. each_member read more rest) (step found key d h)
    (λ more held. each_member-keeps P read step more rest held)

-- and at the end of a list
pub each_item-keeps : {S : Type 0} (P : S → Type 0) (read : S → ℕ → Data → Told S)
    → ((found : S) (place : ℕ) (d : Data) → P found → IfOk (read found place d) P)
    → (found : S) (place : ℕ) (ds : Items) → P found → IfOk (each_item read found place ds) P
each_item-keeps P read step found place no_items h = h
each_item-keeps P read step found place (item d rest) h =
    bind-keeps P P (read found place d) (λ more. each_item read more (place + 1) rest) (step found place d h)
    (λ more held. each_item-keeps P read step more (place + 1) rest held)

-- ---- what is told, as it is seen

-- the value that is told, as it is seen
abbrev pub seen : {S T : Type 0} → (S → T) → Told S → Told T
seen see told = told >>= λ x. Ok (see x)

pub seen-bind : {A S T : Type 0} (see : S → T) (r : Told A) (f : A → Told S)
    → seen see (r >>= f) ≡ (r >>= λ a. seen see (f a))
seen-bind see (Ok a) f = refl
seen-bind see (Err refusal) f = refl

-- what is seen of a value that was told, and of a refusal in its place
pub given-seen : {S T : Type 0} (see : S → T) (told : Told S) (next : Told T) (x : S) (y : T) → seen see told ≡ next
    → told ≡ Ok x → y ≡ see x → next ≡ Ok y
given-seen see told next x y is given same = sym is ∙ ap (seen see) given ∙ ap Ok (sym same)

pub refused-seen : {S T : Type 0} (see : S → T) (told : Told S) (next : Told T) (e : Refusal) → seen see told ≡ next
    → (e ≡ NoMemory) ⊎ (told ≡ Err e) → (e ≡ NoMemory) ⊎ (next ≡ Err e)
refused-seen see told next e is (inl memory) = inl memory
refused-seen see told next e is (inr refused) = inr (sym is ∙ ap (seen see) refused)

-- where each step is seen as a step from what was found, as it is seen, all that is told of a list is seen so
pub each_item-seen : {S T : Type 0} (see : S → T) (read : S → ℕ → Data → Told S) (next : T → ℕ → Data → Told T)
    → ((found : S) (place : ℕ) (d : Data) → seen see (read found place d) ≡ next (see found) place d)
    → (found : S) (place : ℕ) (ds : Items) → seen see (each_item read found place ds) ≡ each_item next (see found) place
    ds
each_item-seen see read next step found place no_items = refl
each_item-seen {S} {T} see read next step found place (item d rest) =
    go (λ more. each_item-seen see read next step more (place + 1) rest) (read found place d) (step found place d)
  where
    go : ((more : S) → seen see (each_item read more (place + 1) rest) ≡ each_item next (see more) (place + 1) rest)
        → (r : Told S) → seen see r ≡ next (see found) place d
        → seen see (r >>= λ more. each_item read more (place + 1) rest)
        ≡ (next (see found) place d >>= λ more. each_item next more (place + 1) rest)
    go later (Ok more) is = later more ∙ ap (λ r. r >>= λ more. each_item next more (place + 1) rest) is
    go later (Err refusal) is = ap (λ r. r >>= λ more. each_item next more (place + 1) rest) is

-- and all that is told of a table
pub each_member-seen : {S T : Type 0} (see : S → T) (read : S → List ℕ → Data → Told S) (next : T → List ℕ → Data
    → Told T)
    → ((found : S) (key : List ℕ) (d : Data) → seen see (read found key d) ≡ next (see found) key d)
    → (found : S) (ms : Members) → seen see (each_member read found ms) ≡ each_member next (see found) ms
each_member-seen see read next step found no_members = refl
each_member-seen {S} {T} see read next step found (member key d rest) =
    go (λ more. each_member-seen see read next step more rest) (read found key d) (step found key d)
  where
    go : ((more : S) → seen see (each_member read more rest) ≡ each_member next (see more) rest)
        → (r : Told S) → seen see r ≡ next (see found) key d
        → seen see (r >>= λ more. each_member read more rest)
        ≡ (next (see found) key d >>= λ more. each_member next more rest)
    go later (Ok more) is = later more ∙ ap (λ r. r >>= λ more. each_member next more rest) is
    go later (Err refusal) is = ap (λ r. r >>= λ more. each_member next more rest) is
