-- What was found of a package's versions (ours).
use Rattle.std.specs.Prelude.{◌≡◌, ◌<◌, ◌≤◌, ◌+◌, ◌&&◌, ◌||◌, ℕ, Bool, true, false, not, List, [], ◌∷◌, Option}
use Rattle.std.specs.Prelude.{Some, None, map}
use Rattle.std.specs.Prelude.{◌++◌, MatchOption, Vec, get_or, length}
use Rattle.std.specs.Option.{option_map_or}
use Rattle.std.specs.BTreeMap.{get}
use Rattle.std.specs.FinSet as set
use Rattle.std.specs.List.{All}
use Rattle.std.specs.declared.alloc.Global.{Global}
use Rattle.vet_base.specs.CriteriaSet.{Places, has}
use Rattle.vet_base.specs.declared.criteria_set.CriteriaSet.{CriteriaSet}
use Rattle.vet_base.specs.Version.{VersionValue}
use Rattle.vet_base.specs.VersionOrder.{version_cmp}
use Rattle.vet_base.specs.declared.limits.TheConstants.{MOST_CRITERIA as most}
use Rattle.vet_entries.specs.declared.step.Step.{Step}
use Rattle.vet_graph.specs.Chain.{Condemned}
use Rattle.vet_masks.specs.declared.classes.PackageClasses.{PackageClasses}
use Rattle.vet_masks.specs.declared.index.Ends.{Ends}
use Rattle.vet_masks.specs.declared.index.Index.{Index}
use Rattle.vet_masks.specs.declared.rule.Rule.{Rule}
use Rattle.vet_masks.specs.Exempt.{AreExemptNumbers}
use Rattle.vet_masks.specs.Index.{IsIndex, number_of}
use Rattle.vet_masks.specs.Masks.{IsReaching, is_open, numbered_by, size, spent}
use Rattle.vet_masks.specs.Rules.{AreEnough, rule_of, skips}

-- the number of a version among those that have an exempt step
abbrev pub exempt_number : Index → List (Option ℕ) → VersionValue → Option ℕ
exempt_number index exempt v = get_or exempt (number_of (get version_cmp index.numbers) v) None

-- whether a search takes a step
abbrev pub is_taken_by : (VersionValue → Option ℕ) → Rule → Step → Bool
is_taken_by number rule s = not (s.exempt && skips rule (number s.target))

-- an exempt step starts from nothing
abbrev pub StartsExempt : Step → Type 0
StartsExempt s = s.exempt ≡ true → s.origin ≡ None

-- by their numbers, the criteria for which versions are condemned
pub record AreJudged (index : Index) (condemned : Condemned) (sets : List Places) : Type 0 where
  pub count : length sets ≡ length index.after.items
  pub judged : (v : VersionValue) (n c : ℕ) → get version_cmp index.numbers v ≡ Some n
      → has c (get_or sets n set.empty) ≡ condemned c v

-- by their numbers, the criteria for which chains of steps that are taken lead to versions, through no barred one
pub record AreReached (steps : List Step) (index : Index) (bar : Condemned) (taken : Step → Bool)
    (held : List Places) : Type 0 where
  pub count : length held ≡ length index.after.items
  pub reaches : IsReaching (numbered_by index steps) (is_open bar taken) (length steps) held

-- what the search at a place reached
abbrev pub held_by : List (Vec CriteriaSet Global) → ℕ → List Places
held_by searches i = get_or (map (λ l. l.items) searches) i []

-- and what it reached at a version
abbrev pub held_at : List (Vec CriteriaSet Global) → ℕ → ℕ → Places
held_at searches i n = get_or (held_by searches i) n set.empty

-- nothing is barred, and no step skipped
abbrev pub bars_nothing : Condemned
bars_nothing c v = false

abbrev pub takes_each : Step → Bool
takes_each s = true

-- no step leads to a condemned version
abbrev pub LeadToNone : Condemned → List Step → Type 0
LeadToNone condemned steps = All (λ s. (c : ℕ) → condemned c s.target ≡ false) steps

-- whether the chains that a search takes are such as are asked for
abbrev pub is_wanted : Bool → Rule → Option ℕ → Bool
is_wanted ends_reviewed rule exempt = not ends_reviewed || skips rule exempt

-- what searches passed on, all together
unfoldable pub spent_by : ℕ → List (List Places) → List Ends → ℕ
spent_by u [] ends = 0
spent_by u (held ∷ rest) ends = spent u held ends + spent_by u rest ends

-- what each search through no condemned version reached
abbrev pub held_by_all : List (Vec CriteriaSet Global) → List (List Places)
held_by_all searches = map (λ l. l.items) searches

-- what the search through any version reached, if there is one
abbrev pub held_if_any : Option (Vec CriteriaSet Global) → List (List Places)
held_if_any any = option_map_or (λ l. l.items ∷ []) any []

-- what each search reached
abbrev pub all_held : PackageClasses → List (List Places)
all_held p = held_if_any p.any ++ held_by_all p.clean.items

-- where there is a search through any version, this is what it reached; where there is none, none is wanted
abbrev pub IsAny : List Step → Condemned → Index → Option (Vec CriteriaSet Global) → Type 0
IsAny steps condemned index any = MatchOption any (LeadToNone condemned steps)
    (λ l. AreReached steps index bars_nothing takes_each l.items)

-- this was found of a package with these steps and condemned versions, by so many looks at most
pub record IsFound (steps : List Step) (condemned : Condemned) (p : PackageClasses) : Type 0 where
  pub seen : p.looks.steps ≡ steps
  pub starts : All StartsExempt steps
  pub index : IsIndex steps p.index
  pub judged : AreJudged p.index condemned p.condemned.items
  pub exempt : AreExemptNumbers p.index.ends.items p.exempt
  pub versions : length p.exempt.numbers.items ≡ length p.index.after.items
  pub few : length p.clean.items ≤ p.exempt.count + 2
  pub below : length p.clean.items < 130
  pub clean : (i : ℕ) → i < length p.clean.items → AreReached steps p.index condemned
      (is_taken_by (exempt_number p.index p.exempt.numbers.items) (rule_of i)) (held_by p.clean.items i)
  pub any : IsAny steps condemned p.index p.any
  pub looks : p.looks.count ≤ length steps + spent_by (size most p.index.used) (all_held p) p.index.ends.items

-- and it is enough for the class of each version
pub record AreClasses (steps : List Step) (condemned : Condemned) (p : PackageClasses) : Type 0 where
  pub found : IsFound steps condemned p
  pub enough : AreEnough p.exempt.count (length p.clean.items)
