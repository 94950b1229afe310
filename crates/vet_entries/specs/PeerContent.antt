-- The content of a peer's audits file (The Cargo Vet Book, Audit Entries).
use Rattle.std.specs.Prelude.{◌≡◌, ◌≤◌, ◌&&◌, Bool, true, false, List, Option, Some, None, length}
use Rattle.std.specs.List.{All}
use Rattle.vet_base.specs.declared.criterion.Criterion.{Criterion}
use Rattle.vet_base.specs.declared.limits.TheConstants.{MOST_PEER_CRITERIA}
use Rattle.vet_base.specs.CriteriaChanges.{is_built_in}
use Rattle.vet_base.specs.Items.{NamedOnce}
use Rattle.vet_entries.specs.Distinct.{distinct}
use Rattle.vet_entries.specs.declared.entry.Entry.{Entry}
use Rattle.vet_entries.specs.declared.entry.Source.{Source}
use Rattle.vet_entries.specs.declared.entry.Source.TheVariants.{Own, Peer}
use Rattle.vet_entries.specs.declared.kind.Kind.{Kind}
use Rattle.vet_entries.specs.declared.kind.Kind.TheVariants.{Full, Delta, Violation, Wildcard, Trusted, Exemption}

-- the criteria that a peer defines, and its entries, in the peer's own words
pub record PeerContentValue : Type 0 where
  pub criteria : List Criterion
  pub entries : List Entry

-- whether others may import, which they may if nothing is said
abbrev pub may_import : Option Bool → Bool
may_import (Some importable) = importable
may_import None = true

-- an own entry, as each author's entries are in its own file
abbrev pub is_own : Source → Bool
is_own Own = true
is_own (Peer name) = false

-- a kind that a peer's file can give: no trusted publisher, no exemption, and no audit that others may not import
abbrev pub is_peer_kind : Kind → Bool
is_peer_kind (Full v a) = may_import a.importable
is_peer_kind (Delta d a) = may_import a.importable
is_peer_kind (Violation r a) = may_import a.importable
is_peer_kind (Wildcard w g) = true
is_peer_kind (Trusted w) = false
is_peer_kind (Exemption v s l) = false

-- whether an entry is one that a peer's file can give
abbrev pub is_peer_entry : Entry → Bool
is_peer_entry e = is_own e.source && is_peer_kind e.kind

-- no criterion has the name of a built-in one or of another, there are not too many, and each entry is one that a
-- peer's file can give, and occurs once
pub record IsPeerContent (criteria : List Criterion) (entries : List Entry) : Type 0 where
  pub further : All (λ c. is_built_in c.name ≡ false) criteria
  pub named_once : NamedOnce (λ (c : Criterion). c.name) criteria
  pub few : length criteria ≤ MOST_PEER_CRITERIA
  pub kinds : All (λ e. is_peer_entry e ≡ true) entries
  pub once : distinct entries ≡ entries
