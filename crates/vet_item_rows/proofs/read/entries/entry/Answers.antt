use Rattle.std.proofs.Common.{refl}
use Rattle.vet_item_rows.specs.Columns.{packed_names, peer_of_source}
use Rattle.vet_item_rows.specs.Packed.{packed_option}
use Rattle.vet_item_rows.proofs.CellsRead.{place}
use Rattle.vet_item_rows.proofs.Reading.{passed_on}
use Rattle.vet_item_rows.proofs.read.entries.entry.Goals as goal

pub returns-in_err-text_at : goal.returns-in_err-text_at
returns-in_err-text_at c held (can, is) =
    absurd (c.in_err-text_at.ensures (peer_of_source held.entry.source) (place 1 is))

pub returns-in_err-source : goal.returns-in_err-source
returns-in_err-source c held (can, is) =
    let text1 = c.in_ok-text_at.ensures (peer_of_source held.entry.source) (place 1 is) in
    rw (passed_on c.from_residual-in_err-source.result c.in_err-source.field-0.0 c.from_residual-in_err-source.ensures.1
    (c.in_err-source.ensures held.entry.source (can.0.source, text1))) refl

pub returns-in_err-text_at-2 : goal.returns-in_err-text_at-2
returns-in_err-text_at-2 c held (can, is) =
    absurd (c.in_err-text_at-2.ensures held.entry.«package» (place 2 is))

pub returns-in_err-package_name : goal.returns-in_err-package_name
returns-in_err-package_name c held (can, is) =
    let text2 = c.in_ok-text_at-2.ensures held.entry.«package» (place 2 is) in
    rw (passed_on c.from_residual-in_err-package_name.result c.in_err-package_name.field-0.0
    c.from_residual-in_err-package_name.ensures.1 (c.in_err-package_name.ensures held.entry.«package» (
      can.0.of_package,
      text2,
    ))) refl

pub returns-in_err-kind : goal.returns-in_err-kind
returns-in_err-kind c held (can, is) =
    rw (passed_on c.from_residual-in_err-kind.result c.in_err-kind.field-0.0 c.from_residual-in_err-kind.ensures.1
    (c.in_err-kind.ensures held (can, is))) refl

pub returns-in_err-blob_at : goal.returns-in_err-blob_at
returns-in_err-blob_at c held (can, is) =
    absurd (c.in_err-blob_at.ensures (packed_names held.entry.criteria) (place 9 is))

pub returns-in_err-names : goal.returns-in_err-names
returns-in_err-names c held (can, is) =
    let blob9 = c.in_ok-blob_at.ensures (packed_names held.entry.criteria) (place 9 is) in
    rw (passed_on c.from_residual-in_err-names.result c.in_err-names.field-0.0 c.from_residual-in_err-names.ensures.1
    (c.in_err-names.ensures held.entry.criteria (can.0.criteria, blob9))) refl

pub returns-in_err-blob_at-2 : goal.returns-in_err-blob_at-2
returns-in_err-blob_at-2 c held (can, is) =
    absurd (c.in_err-blob_at-2.ensures (packed_option held.entry.notes) (place 11 is))

pub returns-in_err-optional_text : goal.returns-in_err-optional_text
returns-in_err-optional_text c held (can, is) =
    let blob11 = c.in_ok-blob_at-2.ensures (packed_option held.entry.notes) (place 11 is) in
    rw (passed_on c.from_residual-in_err-optional_text.result c.in_err-optional_text.field-0.0
    c.from_residual-in_err-optional_text.ensures.1 (c.in_err-optional_text.ensures held.entry.notes (
      can.0.notes,
      blob11,
    ))) refl

pub returns : goal.returns
returns c held (can, is) =
    let text1 = c.in_ok-text_at.ensures (peer_of_source held.entry.source) (place 1 is) in
    let source = c.in_ok-source.ensures held.entry.source (can.0.source, text1) in
    let text2 = c.in_ok-text_at-2.ensures held.entry.«package» (place 2 is) in
    let «package» = c.in_ok-package_name.ensures held.entry.«package» (can.0.of_package, text2) in
    let kind = c.in_ok-kind.ensures held (can, is) in
    let blob9 = c.in_ok-blob_at.ensures (packed_names held.entry.criteria) (place 9 is) in
    let criteria = c.in_ok-names.ensures held.entry.criteria (can.0.criteria, blob9) in
    let blob11 = c.in_ok-blob_at-2.ensures (packed_option held.entry.notes) (place 11 is) in
    let notes = c.in_ok-optional_text.ensures held.entry.notes (can.0.notes, blob11) in
    λ i. record { source = source i; «package» = «package» i; kind = kind i; criteria = criteria i; notes = notes i }
