use Rattle.std.proofs.Common.{◌≡◌, subst, sym}
use Rattle.vet_files.specs.FilesContent.{FilesValue, IsFiles, files_of}
use Rattle.vet_files.proofs.FilesStand.{files-stand}
use Rattle.vet_files.proofs.files_content.FilesContent.of.Goals as goal

pub invariant_of-result : goal.invariant_of-result
invariant_of-result c =
    let lists = c.in_ok-lists.lists in
    let held = c.in_ok-lists.ensures in
    let made : FilesValue = record {
      criteria = c.into_vec.result.items;
      entries = lists.entries.items;
      settings = lists.settings.items;
      contents = lists.contents.items;
      publishers = lists.publishers.items;
      policies = c.args.config.policies;
      vet_version = c.args.config.vet_version;
      default_criteria = c.args.config.default_criteria;
    } in
    let is : made ≡ files_of c.args.audits c.args.config c.args.imports = λ i. record {
      criteria = c.into_vec.ensures i;
      entries = held.entries i;
      settings = held.settings i;
      contents = held.contents i;
      publishers = held.publishers i;
      policies = c.args.config.policies;
      vet_version = c.args.config.vet_version;
      default_criteria = c.args.config.default_criteria;
    } in
    subst IsFiles (sym is) (files-stand c.args.audits c.args.config c.args.imports c.requires.audits c.requires.config
    c.requires.undated c.requires.imports)
