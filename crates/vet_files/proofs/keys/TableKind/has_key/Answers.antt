-- A key is among the names that are lent where it is among what they spell.
use Rattle.std.proofs.Common.{rules}
use Rattle.std.specs.Str.{bytes_eq}
use Rattle.vet_files.proofs.KeyLists.{list_any-map}
use Rattle.vet_files.proofs.keys.TableKind.has_key.Goals as goal

pub returns : goal.returns
returns c =
    let spelled = list_any-map (λ name. bytes_eq name c.args.key.now) (λ name. name.now) c.keys.result.now in
    search rules
