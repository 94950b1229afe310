-- Counts of what a reader ignored (ours).
use Rattle.std.specs.Prelude.{ℕ, ◌+◌}
use Rattle.vet_files.specs.declared.notices.Notices.{Notices}

-- nothing, one unknown key, one skipped entry
abbrev pub no_notices : Notices
no_notices = record { keys = 0; skipped = 0; doubles = 0 }

abbrev pub one_key : Notices
one_key = record { keys = 1; skipped = 0; doubles = 0 }

abbrev pub one_skipped : Notices
one_skipped = record { keys = 0; skipped = 1; doubles = 0 }

-- this many unknown keys, this many doubles
abbrev pub only_keys : ℕ → Notices
only_keys n = record { keys = n; skipped = 0; doubles = 0 }

abbrev pub only_doubles : ℕ → Notices
only_doubles n = record { keys = 0; skipped = 0; doubles = n }

-- the sum of both
abbrev pub sum_of_notices : Notices → Notices → Notices
sum_of_notices a b = record { keys = a.keys + b.keys; skipped = a.skipped + b.skipped; doubles = a.doubles + b.doubles }
