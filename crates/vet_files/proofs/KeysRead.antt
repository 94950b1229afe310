-- What stands at a key is read again.
use Rattle.std.proofs.Common.{◌≡◌, ℕ, List, [], ◌∷◌, Option, Some, None, Ok, option_map, refl, sym, ap, ◌∙◌}
use Rattle.std.proofs.lemmas.Cmp.{nat_list_cmp_total}
use Rattle.std.specs.Cmp.Lexicographic.{slice_cmp}
use Rattle.std.specs.FinMap.{nat_cmp-IsAntisymmetric, slice_cmp-IsAntisymmetric}
use Rattle.std.specs.FinSet as set
use Rattle.std.specs.List.{list_any}
use Rattle.std.specs.Option.{IfSome}
use Rattle.std.specs.Ordering.{nat_cmp, eq_by_cmp}
use Rattle.toml.specs.Data.{Data, Members, get_member}
use Rattle.vet_base.specs.Gives.{Told, ◌>>=◌, found_or}
use Rattle.vet_base.specs.NamesLaws.{any-members}
use Rattle.vet_base.specs.Names.{NameSet, members}
use Rattle.vet_files.specs.Audits.{or_none}
use Rattle.vet_files.specs.Field.{fault, optional, required, told_if_some}
use Rattle.vet_files.specs.ReadAgain.{IsReadAs}
use Rattle.vet_files.specs.Tables.{unless_none}

-- what need not be there
pub optional_read : {A : Type 0} (read : List ℕ → List ℕ → Data → Told A) (written : A → Data) (path key : List ℕ)
    (ms : Members) (o : Option A)
    → get_member key ms ≡ option_map written o → IfSome o (λ x. IsReadAs read (written x) x)
    → optional read path key ms ≡ Ok o
optional_read read written path key ms None at reads = ap (told_if_some (read path key)) at
optional_read read written path key ms (Some x) at reads = ap (told_if_some (read path key)) at
    ∙ ap (λ told. told >>= λ y. Ok (Some y)) (reads path key)

-- what must
pub required_read : {A : Type 0} (read : List ℕ → List ℕ → Data → Told A) (written : A → Data) (path key : List ℕ)
    (ms : Members) (x : A)
    → get_member key ms ≡ Some (written x) → IsReadAs read (written x) x → required read path key ms ≡ Ok x
required_read read written path key ms x at reads = ap (λ o. found_or (fault path key) o >>= read path key) at
    ∙ reads path key

-- a set without members is the empty one
pub none_is_empty : (s : NameSet) → members s ≡ [] → s ≡ set.empty
none_is_empty s e =
    set.same_set nat_list_cmp_total (slice_cmp-IsAntisymmetric nat_cmp-IsAntisymmetric) s set.empty
    (λ n. sym (any-members s n) ∙ ap (list_any (eq_by_cmp (slice_cmp nat_cmp) n)) e
    ∙ sym (set.contains-empty (slice_cmp nat_cmp) n))

-- a set, which is left out where it is empty
pub optional_set_read : (read : List ℕ → List ℕ → Data → Told NameSet) (written : NameSet → Data) (path key : List ℕ)
    (ms : Members) (s : NameSet)
    → get_member key ms ≡ unless_none (members s) (written s) → IsReadAs read (written s) s
    → (o : Option NameSet) × ((optional read path key ms ≡ Ok o) × (or_none o ≡ s))
optional_set_read read written path key ms s at reads = by (members s) refl at
  where
    by : (names : List (List ℕ)) → members s ≡ names → get_member key ms ≡ unless_none names (written s)
        → (o : Option NameSet) × ((optional read path key ms ≡ Ok o) × (or_none o ≡ s))
    by [] none at = (None, (ap (told_if_some (read path key)) at, sym (none_is_empty s none)))
    by (n ∷ rest) some at =
        (Some s, (ap (told_if_some (read path key)) at ∙ ap (λ told. told >>= λ y. Ok (Some y)) (reads path key), refl))
