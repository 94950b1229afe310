-- One more pair of a standing.
use Rattle.std.proofs.Common.{◌≡◌, ℕ, ◌+◌, ◌<◌, ◌++◌, ◌∷◌, ◌∙◌, List, [], get_or, length, map, take}
use Rattle.std.proofs.Common.{ap, filter, sym}
use Rattle.std.specs.Borrow.{Bor}
use Rattle.std.specs.List.{flat_map}
use Rattle.std.proofs.lemmas.List.{append_assoc, map-append, take_more}
use Rattle.std.proofs.lemmas.List.Concat.{flat_map-append}
use Rattle.std.proofs.lemmas.List.Elements.{filter-append}
use Rattle.vet_base.specs.Words.{Text}
use Rattle.vet_graph.specs.declared.standing.Stand.{Stand}
use Rattle.vet_reports.specs.StandingText.{is_shown, stand_line, stands_text}
use Rattle.vet_reports.specs.declared.standing_text.Filter.{Filter}

module _ (text_of : List Stand → Text)
    (joins : (xs ys : List Stand) → text_of (xs ++ ys) ≡ text_of xs ++ text_of ys) where
  -- the text of the one at a place comes behind that of those before it
  pub next_written : (stands : List (Bor Stand)) (i : ℕ) (s : Bor Stand) (old text new : Text) → i < length stands
      → s ≡ get_or stands i s → text ≡ old ++ text_of (map (λ t. t.now) (take i stands))
      → new ≡ text ++ text_of (s.now ∷ []) → new ≡ old ++ text_of (map (λ t. t.now) (take (i + 1) stands))
  next_written stands i s old text new within is was now =
      let before = map (λ (t : Bor Stand). t.now) (take i stands) in
      now
      ∙ ap (λ t. t ++ text_of (s.now ∷ [])) was
      ∙ append_assoc old (text_of before) (text_of (s.now ∷ []))
      ∙ ap (λ t. old ++ t) (sym (joins before (s.now ∷ []))
      ∙ ap text_of (sym (ap (map (λ (t : Bor Stand). t.now)) (take_more stands i s within
      ∙ ap (λ t. take i stands ++ t ∷ []) (sym is)) ∙ map-append (λ (t : Bor Stand). t.now) (take i stands) (s ∷ []))))

-- lines of those that are asked for stand one after another
pub stands_text-append : (asked : Filter) (xs ys : List Stand)
    → stands_text asked (xs ++ ys) ≡ stands_text asked xs ++ stands_text asked ys
stands_text-append asked xs ys =
    ap (flat_map stand_line) (filter-append (is_shown asked) xs ys)
    ∙ flat_map-append stand_line (filter (is_shown asked) xs) (filter (is_shown asked) ys)
