-- Which values can be held (ours): each is read back from its own text, or is within its limits.
use Rattle.std.specs.Prelude.{◌≡◌, ◌≤◌, ℕ, true, Option, Some, None}
use Rattle.std.specs.List.{All}
use Rattle.vet_base.specs.Day.{DayValue, is_day}
use Rattle.vet_base.specs.Name as name
use Rattle.vet_base.specs.Names.{NameSet, members}
use Rattle.vet_base.specs.Req.{IsReq}
use Rattle.vet_base.specs.Text.{read_text}
use Rattle.vet_base.specs.Version.{IsVersion}
use Rattle.vet_base.specs.Words.{Name, Text}
use Rattle.vet_base.specs.declared.criterion.Criterion.{Criterion}
use Rattle.vet_entries.specs.declared.entry.Entry.{Entry}
use Rattle.vet_entries.specs.declared.entry.Source.{Source}
use Rattle.vet_entries.specs.declared.entry.Source.TheVariants.{Own, Peer}
use Rattle.vet_entries.specs.declared.facts.HeldEntry.{HeldEntry}
use Rattle.vet_entries.specs.declared.kind.Kind.{Kind}
use Rattle.vet_entries.specs.declared.kind.Kind.TheVariants.{Full, Delta, Violation, Wildcard, Trusted, Exemption}
use Rattle.vet_entries.specs.declared.kind.Window.{Window}
use Rattle.vet_entries.specs.declared.publisher.Publisher.{Publisher}
use Rattle.vet_entries.specs.declared.user.TheConstants.{LAST_USER}
use Rattle.vet_item_rows.specs.PackedItems.{as_text}

-- ---- texts and names

abbrev pub IsText : Text → Type 0
IsText text = as_text read_text text ≡ Some text

abbrev pub IsName : Name → Type 0
IsName n = as_text name.read_name n ≡ Some n

abbrev pub IsPackage : Name → Type 0
IsPackage n = as_text name.read_package_name n ≡ Some n

abbrev pub AreTexts : NameSet → Type 0
AreTexts texts = All IsText (members texts)

abbrev pub AreNames : NameSet → Type 0
AreNames names = All IsName (members names)

abbrev pub ArePackages : NameSet → Type 0
ArePackages names = All IsPackage (members names)

-- if there is one, it can be held
abbrev pub MayBe : {X : Type 0} → (X → Type 0) → Option X → Type 0
MayBe CanBeHeld None = Unit {0}
MayBe CanBeHeld (Some x) = CanBeHeld x

-- ---- numbers

abbrev pub IsDay : DayValue → Type 0
IsDay day = is_day day ≡ true

abbrev pub IsUser : ℕ → Type 0
IsUser user = user ≤ LAST_USER

-- ---- criteria

pub record IsCriterion (c : Criterion) : Type 0 where
  pub name : IsName c.name
  pub description : MayBe IsText c.description
  pub url : MayBe IsText c.url
  pub implies : AreNames c.implies

-- ---- entries

abbrev pub IsSource : Source → Type 0
IsSource Own = Unit {0}
IsSource (Peer n) = IsName n

pub record IsWindow (w : Window) : Type 0 where
  pub user : IsUser w.user
  pub first : IsDay w.first
  pub last : IsDay w.last

abbrev pub IsKind : Kind → Type 0
IsKind (Full v a) = IsVersion v × AreTexts a.who
IsKind (Delta d a) = (IsVersion d.from × IsVersion d.to) × AreTexts a.who
IsKind (Violation r a) = IsReq r × AreTexts a.who
IsKind (Wildcard w g) = IsWindow w × AreTexts g.who
IsKind (Trusted w) = IsWindow w
IsKind (Exemption v s last) = IsVersion v × MayBe IsDay last

pub record IsEntry (e : Entry) : Type 0 where
  pub source : IsSource e.source
  pub of_package : IsPackage e.«package»
  pub kind : IsKind e.kind
  pub criteria : AreNames e.criteria
  pub notes : MayBe IsText e.notes

abbrev pub IsHeldEntry : HeldEntry → Type 0
IsHeldEntry held = IsEntry held.entry

-- ---- publisher records

pub record IsPublisher (p : Publisher) : Type 0 where
  pub version : IsVersion p.version
  pub user : IsUser p.user
  pub day : IsDay p.day
  pub login : MayBe IsText p.login
  pub name : MayBe IsText p.name
