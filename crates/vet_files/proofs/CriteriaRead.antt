-- A criterion's table is read again as the criterion.
use Rattle.std.proofs.Common.{◌≡◌, true, [], ◌∷◌, codes, refl}
use Rattle.std.specs.Option.{IfSome}
use Rattle.toml.specs.Data.{string}
use Rattle.vet_base.specs.Name.{is_name}
use Rattle.vet_base.specs.declared.criterion.Criterion.{Criterion}
use Rattle.vet_files.specs.EntryTables.{some_text}
use Rattle.vet_files.specs.Field.{a_text, names}
use Rattle.vet_files.specs.ReadAgain.{IsReadAs, ReadsCriterion}
use Rattle.vet_files.specs.Tables.{fields, set_data, some_set}
use Rattle.vet_files.specs.declared.keys.TableKind.TheVariants as kind
use Rattle.vet_files.proofs.Fields.{Fields, get_field, none_unknown}
use Rattle.vet_files.proofs.KeysRead.{optional_read, optional_set_read}

abbrev criterion_fields : Criterion → Fields
criterion_fields c = (codes "description", some_text c.description) ∷ (codes "description-url", some_text c.url) ∷
    (codes "implies", some_set c.implies) ∷ []

pub criterion_read : (c : Criterion) → is_name c.name ≡ true → IfSome c.description (λ t. IsReadAs a_text (string t) t)
    → IfSome c.url (λ t. IsReadAs a_text (string t) t) → IsReadAs names (set_data c.implies) c.implies
    → ReadsCriterion c
criterion_read c named description url implies = record {
  named = named;
  read = λ path. (
      let fs = criterion_fields c in
      let ms = fields fs in
      let (o, (told, is)) = optional_set_read names set_data path (codes "implies") ms c.implies
      (get_field (codes "implies") fs) implies in
      rw (
        optional_read a_text string path (codes "description") ms c.description (get_field (codes "description") fs)
            description,
        optional_read a_text string path (codes "description-url") ms c.url (get_field (codes "description-url") fs)
            url,
        told,
        is,
        none_unknown kind.Criterion fs refl,
      )
      refl);
}
