-- Which recorded moves and settings can be held (ours): each name, version, day and text in them can be.
use Rattle.vet_item_rows.specs.HeldValues.{IsPair}
use Rattle.vet_item_rows.specs.Values.{AreNames, IsDay, IsText, MayBe}
use Rattle.vet_register.specs.declared.moves.RecordedMove.{RecordedMove}
use Rattle.vet_register.specs.declared.tool_settings.ToolSettings.{ToolSettings}

-- ---- moves

pub record IsRecordedMove (m : RecordedMove) : Type 0 where
  pub day : IsDay m.day
  pub pair : IsPair m.change.pair

-- ---- settings

pub record AreSettings (s : ToolSettings) : Type 0 where
  pub vet_version : MayBe IsText s.vet_version
  pub default_criteria : MayBe AreNames s.default_criteria
