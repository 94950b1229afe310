-- The routes that `matchit` finds of paths that fit the parts of the table.
use Rattle.std.proofs.Common.{◌≡◌, ◌∙◌, ◌∷◌, [], ◌++◌, ◌<◌, List, ℕ, Some, ap, codes, false, true, refl, sym}
use Rattle.std.specs.Option.{option_map}
use Rattle.matchit.specs.Router.{RouteOf}
use Rattle.matchit.specs.Seek.{has_slash}
use Rattle.vet_requests.specs.Path.{fit, parameter, word}
use Rattle.vet_requests.specs.RouteTable.{routed_at, table}
use Rattle.vet_requests.specs.declared.route.Route.{Route}
use Rattle.vet_requests.specs.declared.route.Route.TheVariants.{Class, File, Peer, Project, StandingOf}
use Rattle.vet_requests.proofs.PartsFit.{cut}
use Rattle.vet_requests.proofs.RoutePaths.{seek_param, seek_to_slash, seek_word}
use Rattle.vet_requests.proofs.TextsFit.{AreBytes, bytes_as, bytes_behind, first_byte, more_fit, one_fits}
use Rattle.vet_requests.proofs.TextsFit.{parameter_is, word_is}

pub standing : (b : ℕ) (rest : List ℕ) → b < 256 → has_slash (b ∷ rest) ≡ false
    → routed_at (codes "/standing/" ++ b ∷ rest) ≡ Some StandingOf
unfolding table
standing b rest small plain =
    ap (option_map (λ (r : RouteOf Route). r.value))
    (seek_word (codes "/standing/") table (b ∷ rest) refl ∙ seek_param _ b rest small plain)

pub files : (b : ℕ) (rest : List ℕ) → b < 256 → has_slash (b ∷ rest) ≡ false
    → routed_at (codes "/files/" ++ b ∷ rest) ≡ Some File
unfolding table
files b rest small plain =
    ap (option_map (λ (r : RouteOf Route). r.value))
    (seek_word (codes "/files/") table (b ∷ rest) refl ∙ seek_param _ b rest small plain)

pub projects : (b : ℕ) (rest : List ℕ) → b < 256 → has_slash (b ∷ rest) ≡ false
    → routed_at (codes "/projects/" ++ b ∷ rest) ≡ Some Project
unfolding table
projects b rest small plain =
    ap (option_map (λ (r : RouteOf Route). r.value))
    (seek_word (codes "/projects/") table (b ∷ rest) refl ∙ seek_param _ b rest small plain)

pub peers : (b : ℕ) (rest : List ℕ) → b < 256 → has_slash (b ∷ rest) ≡ false
    → routed_at (codes "/peers/" ++ b ∷ rest) ≡ Some Peer
unfolding table
peers b rest small plain =
    ap (option_map (λ (r : RouteOf Route). r.value))
    (seek_word (codes "/peers/") table (b ∷ rest) refl ∙ seek_param _ b rest small plain)

pub class : (a : ℕ) (name : List ℕ) (b : ℕ) (version : List ℕ) (d : ℕ) (criterion : List ℕ)
    → a < 256 → b < 256 → d < 256
    → has_slash (a ∷ name) ≡ false → has_slash (b ∷ version) ≡ false → has_slash (d ∷ criterion) ≡ false
    → routed_at (codes "/class/" ++ ((a ∷ name) ++ 47 ∷ ((b ∷ version) ++ 47 ∷ (d ∷ criterion)))) ≡ Some Class
unfolding table
class a name b version d criterion i j k p q r =
    let last = d ∷ criterion in
    let later = (b ∷ version) ++ 47 ∷ last in
    ap (option_map (λ (found : RouteOf Route). found.value))
    (seek_word (codes "/class/") table ((a ∷ name) ++ 47 ∷ later) refl
    ∙ seek_to_slash _ _ a name later i p
    ∙ seek_to_slash _ _ b version last j q
    ∙ seek_param _ d criterion k r)

-- a path of one word
pub by_word : (w : List ℕ) (r : Route) → routed_at (47 ∷ w) ≡ Some r → (path : List ℕ)
    → fit (word w ∷ []) (cut path) ≡ true → routed_at (47 ∷ path) ≡ Some r
by_word w r found path h =
    ap (λ (s : List ℕ). routed_at (47 ∷ s)) (word_is w path (one_fits (word w) path h).1) ∙ found

-- what a cut leaves, by what its two sides are
cut_is : (path front behind first rest : List ℕ) → path ≡ front ++ 47 ∷ behind → front ≡ first → behind ≡ rest
    → path ≡ first ++ 47 ∷ rest
cut_is path front behind first rest whole one two =
    whole ∙ ap (λ (s : List ℕ). s ++ 47 ∷ behind) one ∙ ap (λ (s : List ℕ). first ++ 47 ∷ s) two

routed_as : (path text : List ℕ) (r : Route) → path ≡ text → routed_at (47 ∷ text) ≡ Some r
    → routed_at (47 ∷ path) ≡ Some r
routed_as path text r same found = ap (λ (s : List ℕ). routed_at (47 ∷ s)) same ∙ found

-- a path of a word and a parameter
pub by_one : (w : List ℕ) (r : Route)
    → ((b : ℕ) (rest : List ℕ) → b < 256 → has_slash (b ∷ rest) ≡ false
    → routed_at (47 ∷ (w ++ 47 ∷ (b ∷ rest))) ≡ Some r)
    → (path : List ℕ) → AreBytes path → fit (word w ∷ parameter ∷ []) (cut path) ≡ true
    → routed_at (47 ∷ path) ≡ Some r
by_one w r found path bytes h =
    let first = more_fit (word w) parameter [] path h in
    let last = one_fits parameter first.at.behind first.more in
    let it = parameter_is first.at.behind last.1 in
    let text : List ℕ = it.first ∷ it.others in
    let whole =
    cut_is path first.at.front first.at.behind w text first.at.whole (word_is w first.at.front first.does) it.whole in
    let slash = bytes_behind w (47 ∷ text) (bytes_as path (w ++ 47 ∷ text) whole bytes) in
    let behind = bytes_behind (47 ∷ []) text slash in
    routed_as path (w ++ 47 ∷ text) r whole
    (found it.first it.others (first_byte it.first it.others behind) (sym (ap has_slash it.whole) ∙ last.0))

-- a path of a word and three parameters
pub by_three : (w : List ℕ) (r : Route)
    → ((a : ℕ) (x : List ℕ) (b : ℕ) (y : List ℕ) (c : ℕ) (z : List ℕ) → a < 256 → b < 256 → c < 256
    → has_slash (a ∷ x) ≡ false → has_slash (b ∷ y) ≡ false → has_slash (c ∷ z) ≡ false
    → routed_at (47 ∷ (w ++ 47 ∷ ((a ∷ x) ++ 47 ∷ ((b ∷ y) ++ 47 ∷ (c ∷ z))))) ≡ Some r)
    → (path : List ℕ) → AreBytes path
    → fit (word w ∷ parameter ∷ parameter ∷ parameter ∷ []) (cut path) ≡ true
    → routed_at (47 ∷ path) ≡ Some r
by_three w r found path bytes h =
    let one = more_fit (word w) parameter (parameter ∷ parameter ∷ []) path h in
    let two = more_fit parameter parameter (parameter ∷ []) one.at.behind one.more in
    let three = more_fit parameter parameter [] two.at.behind two.more in
    let four = one_fits parameter three.at.behind three.more in
    let a = parameter_is two.at.front two.does in
    let b = parameter_is three.at.front three.does in
    let c = parameter_is three.at.behind four.1 in
    let front : List ℕ = a.first ∷ a.others in
    let middle : List ℕ = b.first ∷ b.others in
    let last : List ℕ = c.first ∷ c.others in
    let later : List ℕ = middle ++ 47 ∷ last in
    let whole_three =
    cut_is two.at.behind three.at.front three.at.behind middle last three.at.whole b.whole c.whole in
    let whole_two = cut_is one.at.behind two.at.front two.at.behind front later two.at.whole a.whole whole_three in
    let whole = cut_is path one.at.front one.at.behind w (front ++ 47 ∷ later) one.at.whole
    (word_is w one.at.front one.does) whole_two in
    let bytes_two = bytes_behind (47 ∷ []) (front ++ 47 ∷ later) (bytes_behind w (47 ∷ (front ++ 47 ∷ later))
    (bytes_as path (w ++ 47 ∷ (front ++ 47 ∷ later)) whole bytes)) in
    let bytes_three = bytes_behind (47 ∷ []) later (bytes_behind front (47 ∷ later) bytes_two) in
    let bytes_four = bytes_behind (47 ∷ []) last (bytes_behind middle (47 ∷ last) bytes_three) in
    routed_as path (w ++ 47 ∷ (front ++ 47 ∷ later)) r whole
    (found a.first a.others b.first b.others c.first c.others
    (first_byte a.first (a.others ++ 47 ∷ later) bytes_two) (first_byte b.first (b.others ++ 47 ∷ last) bytes_three)
    (first_byte c.first c.others bytes_four)
    (sym (ap has_slash a.whole) ∙ two.at.plain) (sym (ap has_slash b.whole) ∙ three.at.plain)
    (sym (ap has_slash c.whole) ∙ four.0))
