-- The router finds the route of the table for each target.
use Rattle.std.proofs.Common.{◌≡◌, ◌∙◌, ◌<◌, ◌∷◌, [], ◌⊎◌, inl, inr, List, ℕ, true, false, Option, Some, None}
use Rattle.std.proofs.Common.{ap, arith, codes, if◌then◌else◌, refl, subst, sym}
use Rattle.std.proofs.lemmas.Bool.Decides.{nat_tests}
use Rattle.std.proofs.lemmas.List.Elements.{All-tail}
use Rattle.std.specs.Option.{option_map}
use Rattle.matchit.proofs.OnLiterals.{matchit_on_literals}
use Rattle.matchit.specs.Router.{RouteOf}
use Rattle.matchit.specs.Seek.{first}
use Rattle.vet_reports.specs.declared.report.Report.TheVariants as report
use Rattle.vet_requests.specs.Parameter.{is_slash}
use Rattle.vet_requests.specs.Path.{Part, Path, fit, parameter, paths, route_among, route_at, word}
use Rattle.vet_requests.specs.RouteTable.{routed_at, table}
use Rattle.vet_requests.specs.declared.route.Route.{Route}
use Rattle.vet_requests.specs.declared.route.Route.TheVariants.{Class, Commands, File, Peer, Project, Report}
use Rattle.vet_requests.specs.declared.route.Route.TheVariants.{StandingOf}
use Rattle.vet_requests.proofs.PartsFit.{cut, fitting, has_words, tokens}
use Rattle.vet_requests.proofs.RoutesFound.{by_one, by_three, by_word, class, files, peers, projects, standing}
use Rattle.vet_requests.proofs.RowsFound.{IsRow, Matches, seek_found}
use Rattle.vet_requests.proofs.TextsFit.{AreBytes}

-- a path among others
abbrev IsAmong : List Part → Route → List Path → Type 0
IsAmong parts r [] = ⊥
IsAmong parts r (row ∷ rows) = ((row.0 ≡ parts) × (row.1 ≡ r)) ⊎ IsAmong parts r rows

record Fits (rows : List Path) (texts : List (List ℕ)) (r : Route) : Type 0 where
  parts : List Part
  row : IsAmong parts r rows
  does : fit parts texts ≡ true

found_among : (rows : List Path) (texts : List (List ℕ)) (r : Route) → route_among rows texts ≡ Some r
    → Fits rows texts r
found_among [] texts r h = absurd cc
found_among (row ∷ rows) texts r h =
    elim (fit row.0 texts)
    as (λ v. fit row.0 texts ≡ v → (if v then Some row.1 else route_among rows texts) ≡ Some r
    → Fits (row ∷ rows) texts r) [
      | true ↦ λ does is. record { parts = row.0; row = inl (refl, cc); does = does }
      | false ↦ λ _ is. (let it = found_among rows texts r is in
          record { parts = it.parts; row = inr it.row; does = it.does })
    ]
    refl h

-- texts that fit a path among these have a route
never_none : (rows : List Path) (texts : List (List ℕ)) (parts : List Part) (r : Route) → IsAmong parts r rows
    → fit parts texts ≡ true → route_among rows texts ≡ None → ⊥
never_none [] texts parts r at does none = at
never_none (row ∷ rows) texts parts r at does none =
    elim (fit row.0 texts)
    as (λ v. fit row.0 texts ≡ v → (if v then Some row.1 else route_among rows texts) ≡ None → ⊥) [
      | true ↦ λ _ wrong. cc
      | false ↦ λ lacks rest. (elim at [
        | inl it ↦
            (let wrong : true ≡ false = sym does ∙ ap (λ ps. fit ps texts) (sym it.0) ∙ lacks in absurd cc)
        | inr later ↦ never_none rows texts parts r later does rest
      ])
    ]
    refl none

module _ (path : List ℕ) (r : Route) (bytes : AreBytes path) where
  -- a row of the table that the path fits
  abbrev IsFor : List Part → Route → List Part → Type 0
  IsFor own q parts = (own ≡ parts) × (q ≡ r)

  fits_own : (own parts : List Part) (q : Route) → IsFor own q parts → fit parts (cut path) ≡ true
      → fit own (cut path) ≡ true
  fits_own own parts q is does = ap (λ ps. fit ps (cut path)) is.0 ∙ does

  plain : (w : List ℕ) (q : Route) → routed_at (47 ∷ w) ≡ Some q → (parts : List Part)
      → IsFor (word w ∷ []) q parts → fit parts (cut path) ≡ true → routed_at (47 ∷ path) ≡ Some r
  plain w q found parts is does = by_word w q found path (fits_own (word w ∷ []) parts q is does) ∙ ap Some is.1

  counts_found : routed_at (47 ∷ codes "counts") ≡ Some (Report report.Counts)
  unfolding matchit_on_literals table
  counts_found = refl

  standing_found : routed_at (47 ∷ codes "standing") ≡ Some (Report report.Standing)
  unfolding matchit_on_literals table
  standing_found = refl

  csv_found : routed_at (47 ∷ codes "standing.csv") ≡ Some (Report report.StandingCsv)
  unfolding matchit_on_literals table
  csv_found = refl

  moves_found : routed_at (47 ∷ codes "moves") ≡ Some (Report report.Moves)
  unfolding matchit_on_literals table
  moves_found = refl

  desk_found : routed_at (47 ∷ codes "desk") ≡ Some (Report report.Desk)
  unfolding matchit_on_literals table
  desk_found = refl

  lapses_found : routed_at (47 ∷ codes "lapses") ≡ Some (Report report.Lapses)
  unfolding matchit_on_literals table
  lapses_found = refl

  commands_found : routed_at (47 ∷ codes "commands") ≡ Some Commands
  unfolding matchit_on_literals table
  commands_found = refl

  by_row : (parts : List Part) → IsAmong parts r paths → fit parts (cut path) ≡ true → routed_at (47 ∷ path) ≡ Some r
  by_row parts at does = (elim at [
    | inl it ↦ plain (codes "counts") (Report report.Counts) counts_found parts it does
    | inr at ↦
        (elim at [
          | inl it ↦ plain (codes "standing") (Report report.Standing) standing_found parts it does
          | inr at ↦
              (elim at [
                | inl it ↦ by_one (codes "standing") StandingOf standing path bytes
                    (fits_own (word (codes "standing") ∷ parameter ∷ []) parts StandingOf it does) ∙ ap Some it.1
                | inr at ↦
                    (elim at [
                      | inl it ↦ plain (codes "standing.csv") (Report report.StandingCsv) csv_found parts it does
                      | inr at ↦
                          (elim at [
                            | inl it ↦ plain (codes "moves") (Report report.Moves) moves_found parts it does
                            | inr at ↦
                                (elim at [
                                  | inl it ↦ plain (codes "desk") (Report report.Desk) desk_found parts it does
                                  | inr at ↦
                                      (elim at [
                                        | inl it ↦ plain (codes "lapses") (Report report.Lapses)
                                            lapses_found parts it does
                                        | inr at ↦
                                            (elim at [
                                              | inl it ↦ by_three (codes "class") Class class path bytes
                                                  (fits_own
                                                  (word (codes "class") ∷ parameter ∷ parameter ∷ parameter ∷ [])
                                                  parts Class it does) ∙ ap Some it.1
                                              | inr at ↦
                                                  (elim at [
                                                    | inl it ↦ by_one (codes "files") File files path bytes
                                                        (fits_own (word (codes "files") ∷ parameter ∷ []) parts File it
                                                        does) ∙ ap Some it.1
                                                    | inr at ↦
                                                        (elim at [
                                                          | inl it ↦ by_one (codes "projects") Project projects
                                                              path bytes
                                                              (fits_own (word (codes "projects") ∷ parameter ∷ []) parts
                                                              Project it does) ∙ ap Some it.1
                                                          | inr at ↦
                                                              (elim at [
                                                                | inl it ↦ by_one (codes "peers") Peer peers path bytes
                                                                    (fits_own (word (codes "peers") ∷ parameter ∷ [])
                                                                    parts Peer it does) ∙ ap Some it.1
                                                                | inr at ↦
                                                                    (elim at [
                                                                      | inl it ↦ plain (codes "commands") Commands
                                                                          commands_found parts it does
                                                                      | inr at ↦ absurd at
                                                                    ])
                                                              ])
                                                        ])
                                                  ])
                                            ])
                                      ])
                                ])
                          ])
                    ])
              ])
        ])
  ])

  -- what the table of paths says, the router finds
  pub router_finds : route_among paths (cut path) ≡ Some r → routed_at (47 ∷ path) ≡ Some r
  router_finds h = let it = found_among paths (cut path) r h in by_row it.parts it.row it.does

module _ (target : List ℕ) where
  -- a target of a path's pattern has a route
  has_route : (p : Part) (ps : List Part) (r : Route) → has_words (p ∷ ps) ≡ true → IsAmong (p ∷ ps) r paths
      → (pattern : List ℕ) → tokens (p ∷ ps) ≡ pattern → Matches pattern target → route_at target ≡ None → ⊥
  has_route p ps r words at pattern is matched none = (elim (subst (λ (s : List ℕ). Matches s target) (sym is)
      matched) [
        | inl slash ↦ never_none paths (cut slash.rest) (p ∷ ps) r at (fitting p ps slash.rest words slash.more)
            (sym (ap route_at slash.whole) ∙ none)
        | inr other ↦ (elim other
            [ inl it ↦ absurd (omega (arith, it.0)) | inr all ↦ absurd (omega (arith, all)) ])
      ])

  row_has_route : (pattern : List ℕ) (k : RouteOf Route) → IsRow pattern k table → Matches pattern target
      → route_at target ≡ None → ⊥
  unfolding table
  row_has_route pattern k at m none =
      (elim at [
        | inl it ↦ has_route (word (codes "class")) (parameter ∷ parameter ∷ parameter ∷ []) Class refl
            (inr (inr (inr (inr (inr (inr (inr (inl (refl, refl))))))))) pattern it.0 m none
        | inr at ↦
            (elim at [
              | inl it ↦ has_route (word (codes "commands")) [] Commands refl
                  (inr (inr (inr (inr (inr (inr (inr (inr (inr (inr (inr (inl (refl, refl))))))))))))) pattern it.0
                  m none
              | inr at ↦
                  (elim at [
                    | inl it ↦ has_route (word (codes "counts")) [] (Report report.Counts) refl
                        (inl (refl, refl)) pattern it.0 m none
                    | inr at ↦
                        (elim at [
                          | inl it ↦ has_route (word (codes "desk")) [] (Report report.Desk) refl
                              (inr (inr (inr (inr (inr (inl (refl, refl))))))) pattern it.0 m none
                          | inr at ↦
                              (elim at [
                                | inl it ↦ has_route (word (codes "files")) (parameter ∷ []) File refl
                                    (inr (inr (inr (inr (inr (inr (inr (inr (inl (refl, refl)))))))))) pattern it.0
                                    m none
                                | inr at ↦
                                    (elim at [
                                      | inl it ↦ has_route (word (codes "lapses")) [] (Report report.Lapses) refl
                                          (inr (inr (inr (inr (inr (inr (inl (refl, refl)))))))) pattern it.0 m none
                                      | inr at ↦
                                          (elim at [
                                            | inl it ↦ has_route (word (codes "moves")) [] (Report report.Moves) refl
                                                (inr (inr (inr (inr (inl (refl, refl)))))) pattern it.0 m none
                                            | inr at ↦
                                                (elim at [
                                                  | inl it ↦ has_route (word (codes "peers")) (parameter ∷ []) Peer refl
                                                      (inr (inr (inr (inr (inr (inr
                                                      (inr (inr (inr (inr (inl (refl, refl)))))))))))) pattern it.0
                                                      m none
                                                  | inr at ↦
                                                      (elim at [
                                                        | inl it ↦ has_route (word (codes "projects")) (parameter ∷ [])
                                                            Project refl
                                                            (inr (inr (inr (inr (inr (inr
                                                            (inr (inr (inr (inl (refl, refl))))))))))) pattern it.0
                                                            m none
                                                        | inr at ↦
                                                            (elim at [
                                                              | inl it ↦ has_route (word (codes "standing.csv")) []
                                                                  (Report report.StandingCsv) refl
                                                                  (inr (inr (inr (inl (refl, refl))))) pattern it.0
                                                                  m none
                                                              | inr at ↦
                                                                  (elim at [
                                                                    | inl it ↦ has_route (word (codes "standing"))
                                                                        (parameter ∷ []) StandingOf refl
                                                                        (inr (inr (inl (refl, refl)))) pattern it.0
                                                                        m none
                                                                    | inr at ↦
                                                                        (elim at [
                                                                          | inl it ↦ has_route (word (codes "standing"))
                                                                              [] (Report report.Standing) refl
                                                                              (inr (inl (refl, refl))) pattern it.0
                                                                              m none
                                                                          | inr at ↦ absurd at
                                                                        ])
                                                                  ])
                                                            ])
                                                      ])
                                                ])
                                          ])
                                    ])
                              ])
                        ])
                  ])
            ])
      ])

  map_some : (o : Option (RouteOf Route)) (r : Route) → option_map (λ (e : RouteOf Route). e.value) o ≡ Some r
      → (k : RouteOf Route) × (o ≡ Some k)
  map_some None r h = absurd cc
  map_some (Some k) r h = (k, refl)

  -- what the router finds has a route
  never_missed : (r : Route) → routed_at target ≡ Some r → route_at target ≡ None → ⊥
  never_missed r found none =
      let k = map_some (first table target) r found in
      let at = seek_found target 0 table k.0 k.1 in
      row_has_route at.pattern k.0 at.row at.matched none

-- what has a route is found
always_found : (target : List ℕ) (r : Route) → AreBytes target → route_at target ≡ Some r → routed_at target ≡ Some r
always_found [] r bytes h = absurd cc
always_found (b ∷ path) r bytes h =
    elim (is_slash b)
    as (λ v. is_slash b ≡ v → (if v then route_among paths (cut path) else None) ≡ Some r
    → routed_at (b ∷ path) ≡ Some r) [
      | true ↦ λ same h. (let is : b ≡ 47 = grind (arith, nat_tests, same) in
          ap (λ c. routed_at (c ∷ path)) is
          ∙ router_finds path r (All-tail (λ x. x < 256) b path bytes) h)
      | false ↦ λ _ none. absurd cc
    ]
    refl h

pub routed : (target : List ℕ) → AreBytes target → routed_at target ≡ route_at target
routed target bytes =
    elim (route_at target)
    as (λ o. route_at target ≡ o → routed_at target ≡ o) [
      | Some r ↦ always_found target r bytes
      | None ↦ λ none.
          (elim (routed_at target)
          as (λ o. routed_at target ≡ o → o ≡ None)
          [ Some r ↦ λ found. absurd (never_missed target r found none) | None ↦ λ _. refl ]
          refl)
    ]
    refl
