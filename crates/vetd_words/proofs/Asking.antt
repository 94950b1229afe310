-- Where words are no serve command.
use Rattle.std.proofs.Common.{◌≡◌, ◌∙◌, ℕ, List, Option, Some, IfSome, codes, subst, sym}
use Rattle.clap.specs.Walk.{Row, Text}
use Rattle.vetd_words.specs.ServeAsked.{AsksServe, IsServeAskedBy, ServeAsked}
use Rattle.vetd_words.specs.ServeWords.{IsNumberUpTo}
use Rattle.vetd_words.specs.Words.{rows_given}

-- a word that is no number gives none
pub no_number : (most : ℕ) (word : Text) (found : Option Text) → Some word ≡ found
    → ((number : ℕ) → IsNumberUpTo most word number → ⊥)
    → (number : ℕ) → ((text : Text) × (found ≡ Some text) × IsNumberUpTo most text number) → ⊥
no_number most word found is none number (text, told, number_is) =
    let same : text ≡ word = let two : Some word ≡ Some text = is ∙ told in cc in
    none number (subst (λ (t : Text). IsNumberUpTo most t number) same number_is)

-- what no matches give no words ask for
pub not_asked : (words : List Text) (found : Option (List Row)) → rows_given (codes "serve") words ≡ found
    → IfSome found (λ rows. (asked : ServeAsked) → IsServeAskedBy rows asked → ⊥)
    → (asked : ServeAsked) → AsksServe words asked → ⊥
not_asked words found same none asked asks =
    subst (λ (o : Option (List Row)). IfSome o (λ rows. (a : ServeAsked) → IsServeAskedBy rows a → ⊥))
    (sym same ∙ asks.given) none asked asks.asks
