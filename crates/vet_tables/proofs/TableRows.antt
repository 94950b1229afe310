-- The rows of tables after a row is put in, or rows are taken out.
use Rattle.std.proofs.Common.{◌≡◌, [], ◌∷◌, cond, filter, not, ap, ◌∙◌}
use Rattle.vet_tables.proofs.Effects.{apart_is, here_is}
use Rattle.vet_tables.specs.Cells.{Row, RowsValue, added, cleared, dropped, put, same_key}
use Rattle.vet_tables.specs.Forms.{code, form_of}
use Rattle.vet_tables.specs.declared.table_name.TableName.{TableName}

pub added_here : (n : TableName) (row : Row) (rows : RowsValue) → added n row rows n ≡ row ∷ rows n
added_here n row rows = ap (λ b. cond b (row ∷ rows n) (rows n)) (here_is n)

pub added_elsewhere : (m n : TableName) (row : Row) (rows : RowsValue) → (code m ≡ code n → ⊥)
    → added n row rows m ≡ rows m
added_elsewhere m n row rows apart = ap (λ b. cond b (row ∷ rows m) (rows m)) (apart_is m n apart)

pub dropped_here : (n : TableName) (row : Row) (rows : RowsValue)
    → dropped n row rows n ≡ filter (λ other. not (same_key (form_of n) row other)) (rows n)
dropped_here n row rows =
    ap (λ b. cond b (filter (λ other. not (same_key (form_of n) row other)) (rows n)) (rows n)) (here_is n)

pub dropped_elsewhere : (m n : TableName) (row : Row) (rows : RowsValue) → (code m ≡ code n → ⊥)
    → dropped n row rows m ≡ rows m
dropped_elsewhere m n row rows apart =
    ap (λ b. cond b (filter (λ other. not (same_key (form_of n) row other)) (rows m)) (rows m)) (apart_is m n apart)

pub cleared_here : (n : TableName) (rows : RowsValue) → cleared n rows n ≡ []
cleared_here n rows = ap (λ b. cond b [] (rows n)) (here_is n)

pub cleared_elsewhere : (m n : TableName) (rows : RowsValue) → (code m ≡ code n → ⊥) → cleared n rows m ≡ rows m
cleared_elsewhere m n rows apart = ap (λ b. cond b [] (rows m)) (apart_is m n apart)

pub put_here : (n : TableName) (row : Row) (rows : RowsValue)
    → put n row rows n ≡ row ∷ filter (λ other. not (same_key (form_of n) row other)) (rows n)
put_here n row rows = added_here n row (dropped n row rows) ∙ ap (λ rest. row ∷ rest) (dropped_here n row rows)

pub put_elsewhere : (m n : TableName) (row : Row) (rows : RowsValue) → (code m ≡ code n → ⊥)
    → put n row rows m ≡ rows m
put_elsewhere m n row rows apart =
    added_elsewhere m n row (dropped n row rows) apart ∙ dropped_elsewhere m n row rows apart
