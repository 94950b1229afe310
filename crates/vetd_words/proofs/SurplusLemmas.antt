-- The word too many, of words that have texts.
use Rattle.std.proofs.Common.{◌≡◌, ◌∙◌, ◌<◌, ◌≤◌, ℕ, Bool, List, [], ◌∷◌, Some, None, map, ap, false, length, refl}
use Rattle.std.proofs.Common.{option_map}
use Rattle.std.proofs.lemmas.Option.{slice_get-map, slice_get_past, slice_get_read}
use Rattle.std.specs.Prelude.{◌||◌, get_or}
use Rattle.std.specs.List.{list_any, slice_get}
use Rattle.clap.specs.Walk.{Text}
use Rattle.vetd_words.specs.Surplus.{is_flag, surplus_of, words_taken}

pub any_of_map : {X Y : Type 0} (p : Y → Bool) (f : X → Y) (xs : List X)
    → list_any p (map f xs) ≡ list_any (λ x. p (f x)) xs
any_of_map p f [] = refl
any_of_map p f (x ∷ xs) = ap (λ b. p (f x) || b) (any_of_map p f xs)

module _ {X : Type 0} (text : X → Text) (words : List X) where
  pub text_at : (i : ℕ) (x : X) → i < length words → x ≡ get_or words i x
      → slice_get (map text words) i ≡ Some (text x)
  text_at i x within is =
      slice_get-map text words i ∙ ap (option_map text) (slice_get_read words (length words) i x refl within is)

  pub none_past : (i : ℕ) → length words ≤ i → slice_get (map text words) i ≡ None
  none_past i past = slice_get-map text words i ∙ ap (option_map text) (slice_get_past words i past)

  -- where none looks like a flag, it is the word at the place behind those that the command takes
  pub surplus_at : (name : Text) (taken : ℕ) → list_any is_flag (map text words) ≡ false
      → slice_get (map text words) 0 ≡ Some name → words_taken name ≡ Some taken
      → surplus_of (map text words) ≡ slice_get (map text words) taken
  surplus_at name taken none first takes = rw none (rw first (rw takes refl))
