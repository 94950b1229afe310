-- The value of a store (ours).
use Rattle.std.specs.Prelude.{Bool}
use Rattle.std.specs.Coded.{Coded, code_by, coded×, coded_bool}
use Rattle.std.proofs.Common.{refl}
use Rattle.sqlite.specs.Held.{Held}
use Rattle.vet_register.specs.RegisterView.{RegisterView}

-- a connection, the register whose rows are in its tables, and whether it is shut
pub record StoreView (S K : Type 0) : Type 0 where
  pub conn : Held S
  pub register : RegisterView K
  pub shut : Bool

-- a store is stored as the tuple of its parts
abbrev pub store_code : {S K : Type 0} → Coded (Held S) → Coded (RegisterView K) → Coded (StoreView S K)
store_code {S} {K} conn_code register_code =
    code_by (Held S × (RegisterView K × Bool))
    (coded× conn_code (coded× register_code coded_bool))
    (λ s. (s.conn, (s.register, s.shut)))
    (λ p. record { conn = p.0; register = p.1.0; shut = p.1.1 })
    (λ _. refl)
