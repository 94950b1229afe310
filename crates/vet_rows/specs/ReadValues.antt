-- What the row of `meta` is read as (ours).
use Rattle.vet_rows.specs.HeldValues.{AreSettings}
use Rattle.vet_rows.specs.declared.meta.Meta.{Meta}

-- its settings can be held
abbrev pub IsMeta : Meta → Type 0
IsMeta m = AreSettings m.settings
