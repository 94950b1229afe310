-- The line of a config file, from what its reader tells.
use Rattle.std.proofs.Common.{◌≡◌, ◌∙◌, ap, List, ℕ, Ok, string_bytes, sym}
use Rattle.vetd_words.specs.Counts.{counts_line, counts_of_config}
use Rattle.vetd_words.specs.declared.counts.FileCounts.{FileCounts}
use Rattle.vetd_words.proofs.read_line.config_line.Goals as goal

pub returns : goal.returns
returns c =
    let found = c.in_ok-found.found in
    let line : counts_line (counts_of_config found.content) found.notices ≡ string_bytes c.in_ok-line.field-0 =
    ap (λ (counts : FileCounts). counts_line counts found.notices) (sym c.of_config-counts.ensures)
    ∙ sym c.in_ok-line.ensures in
    rw c.in_ok-found.ensures.told (ap (λ (text : List ℕ). Ok text) line)
