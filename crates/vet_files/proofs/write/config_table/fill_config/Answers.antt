use Rattle.std.proofs.Common.{refl}
use Rattle.vet_files.specs.ConfigTable.{config_fields}
use Rattle.vet_files.proofs.Fields.{fields_built}
use Rattle.vet_files.proofs.write.config_table.fill_config.Goals as goal

pub returns-clause-table : goal.returns-clause-table
returns-clause-table c = rw (
  c.in_ok-put_unless_empty-3.ensures,
  c.in_ok-put_unless_empty-2.ensures,
  c.in_ok-put_unless_empty.ensures,
  c.in_ok-put_some.ensures.put,
  c.in_ok-put_version.ensures.put,
  c.requires,
  c.in_ok-policies.ensures.table,
  c.in_ok-peers.ensures.table,
  c.in_ok-exemptions.ensures.table,
  c.as_slice.ensures,
  c.as_slice-2.ensures,
  c.as_slice-3.ensures.value,
  c.as_ref.ensures.value,
) (fields_built (config_fields c.args.content.now) refl)
