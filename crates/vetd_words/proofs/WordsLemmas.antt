-- What the words give, by clap's answer.
use Rattle.std.proofs.Common.{◌≡◌, ◌≢◌, ◌⊎◌, inl, inr, List, [], ◌∷◌, Option, None, Result, Ok, Err, IfOk, IfErr, true}
use Rattle.std.proofs.Common.{refl, ap, sym, subst, ◌∙◌}
use Rattle.clap.specs.Walk.{Row, Text}
use Rattle.clap.specs.Kinds.{FailsBy, HasKind, IsAmong, Kinds}
use Rattle.clap.specs.Faults.{fault_of, is_simple_and_free}
use Rattle.clap.specs.Simple.{App, HasMatchesOf, is_simple, subcommand_of, subcommand_rows_of}
use Rattle.clap.specs.Words.{kind_of}
use Rattle.clap.specs.declared.error.Error.{Error}
use Rattle.clap.specs.declared.error.kind.ErrorKind.{ErrorKind}
use Rattle.clap.specs.declared.error.kind.ErrorKind.TheVariants.{OutOfMemory}
use Rattle.clap.specs.declared.parser.matches.ArgMatches.{ArgMatches}
use Rattle.clap.proofs.OnLiterals.{clap_on_literals}
use Rattle.vetd_words.specs.Words.{IsErrorOf, faults_of, rows_given, rows_if_named, top_app, unless_fault}
use Rattle.vetd_words.proofs.HelpLemmas.{among_one}

simple : is_simple top_app ≡ true
unfolding clap_on_literals
simple = refl

simple_and_free : is_simple_and_free top_app ≡ true
unfolding clap_on_literals
simple_and_free = refl

given_ok : (name : Text) (words : List Text) → fault_of top_app words ≡ []
    → rows_given name words ≡ rows_if_named name (subcommand_of top_app words)
unfolding rows_given
given_ok name words none = ap (λ (ks : Kinds). unless_fault ks (rows_if_named name (subcommand_of top_app words))) none

none_of : (k : ErrorKind) (ks : Kinds) (rows : Option (List Row)) → IsAmong k ks → unless_fault ks rows ≡ None
none_of k [] rows among = absurd among
none_of k (y ∷ ys) rows among = refl

given_err : (name : Text) (words : List Text) (k : ErrorKind) → (k ≡ OutOfMemory) ⊎ IsAmong k (fault_of top_app words)
    → k ≢ OutOfMemory
    → rows_given name words ≡ None
unfolding rows_given
given_err name words k (inl memory) other = absurd (other memory)
given_err name words k (inr among) other =
    none_of k (fault_of top_app words) (rows_if_named name (subcommand_of top_app words)) among

-- what clap's matches give is what the words give
given_found : {R : Type 0} (name : Text) (app : App) (words : List Text) (subcommand : Option (Text × List Row))
    → app ≡ top_app
    → (is_simple app ≡ true → R × (subcommand ≡ subcommand_of app words))
    → (is_simple_and_free app ≡ true → fault_of app words ≡ [])
    → rows_given name words ≡ rows_if_named name subcommand
given_found name app words subcommand app_is met none =
    let same : subcommand ≡ subcommand_of top_app words =
    (met (ap is_simple app_is ∙ simple)).1 ∙ ap (λ (a : App). subcommand_of a words) app_is in
    let clean : fault_of top_app words ≡ [] =
    ap (λ (a : App). fault_of a words) (sym app_is) ∙ none (ap is_simple_and_free app_is ∙ simple_and_free) in
    given_ok name words clean ∙ ap (rows_if_named name) (sym same)

-- where clap refuses the words, they give nothing
given_refused : (name : Text) (app : App) (words : List Text) (error : Error) → app ≡ top_app
    → (is_simple_and_free app ≡ true → HasKind (fault_of app words) error) → kind_of error ≢ OutOfMemory
    → rows_given name words ≡ None
given_refused name app words error app_is fails other =
    let kind : HasKind (fault_of top_app words) error =
    subst (λ (a : App). HasKind (fault_of a words) error) app_is
    (fails (ap is_simple_and_free app_is ∙ simple_and_free)) in
    given_err name words (kind_of error) kind other

-- the same of a parse, for each subcommand
pub all_found : (app : App) (words : List Text) (r : Result ArgMatches Error) → app ≡ top_app
    → IfOk r (HasMatchesOf app words)
    → (is_simple_and_free app ≡ true → FailsBy (fault_of app words) r)
    → IfOk r (λ matches. (name : Text) → rows_given name words ≡ rows_if_named name (subcommand_rows_of matches))
all_found app words (Err error) app_is met fails = tt
all_found app words (Ok matches) app_is met fails =
    λ name. given_found name app words (subcommand_rows_of matches) app_is met fails

pub all_refused : (app : App) (words : List Text) (r : Result ArgMatches Error) → app ≡ top_app
    → (is_simple_and_free app ≡ true → FailsBy (fault_of app words) r)
    → IfErr r (λ error. kind_of error ≢ OutOfMemory → (name : Text) → rows_given name words ≡ None)
all_refused app words (Ok matches) app_is fails = tt
all_refused app words (Err error) app_is fails = λ other name. given_refused name app words error app_is fails other

-- where clap takes the words, its error has no kind
pub all_clean : (app : App) (words : List Text) (r : Result ArgMatches Error) → app ≡ top_app
    → (is_simple_and_free app ≡ true → FailsBy (fault_of app words) r)
    → IfOk r (λ matches. faults_of words ≡ [])
unfolding faults_of
all_clean app words (Err error) app_is fails = tt
all_clean app words (Ok matches) app_is fails =
    ap (λ (a : App). fault_of a words) (sym app_is) ∙ fails (ap is_simple_and_free app_is ∙ simple_and_free)

-- and where it refuses them, one of these
pub all_kinds : (app : App) (words : List Text) (r : Result ArgMatches Error) → app ≡ top_app
    → (is_simple_and_free app ≡ true → FailsBy (fault_of app words) r)
    → IfErr r (λ error. IsErrorOf words (kind_of error))
unfolding faults_of
all_kinds app words (Ok matches) app_is fails = tt
all_kinds app words (Err error) app_is fails =
    let kind : HasKind (fault_of top_app words) error =
    subst (λ (a : App). HasKind (fault_of a words) error) app_is
    (fails (ap is_simple_and_free app_is ∙ simple_and_free)) in
    elim kind [
      | inl want ↦ inl want
      | inr among ↦ inr (among_one (kind_of error) (fault_of top_app words) among)
    ]
