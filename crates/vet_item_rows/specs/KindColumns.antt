-- What the kind of an entry says, column by column (ours).
use Rattle.std.specs.Prelude.{ℤ}
use Rattle.vet_base.specs.Words.{Bytes, Text}

pub record KindColumns : Type 0 where
  pub kind : ℤ
  pub a : Text
  pub b : Text
  pub user : ℤ
  pub day1 : ℤ
  pub day2 : ℤ
  pub who : Bytes
  pub suggest : ℤ
  pub renew : ℤ
  pub importable : ℤ
