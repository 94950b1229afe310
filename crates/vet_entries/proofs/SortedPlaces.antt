-- Places that were sorted by the packages of their entries.
use Rattle.std.proofs.Common.{◌≡◌, ℕ, zero, suc, ◌<◌, ◌≤◌, ◌++◌, ◌+◌, List, [], ◌∷◌, length, get_or, sym, ap, ◌∙◌}
use Rattle.std.proofs.Common.{arith, refl}
use Rattle.std.specs.List.{All, filter, range_with_len}
use Rattle.std.specs.List.Sorted.{IsPermutation, IsSortedBy, IsStableBy}
use Rattle.std.specs.Ordering.{is_eq, is_lt, ordering_index}
use Rattle.std.proofs.lemmas.Cmp.{nat_list_cmp_total}
use Rattle.std.proofs.lemmas.List.FromFn.{length-range_with_len}
use Rattle.std.proofs.lemmas.List.Sorted.{All-permutation, length_permutation, searchable_from_sorted}
use Rattle.vet_base.proofs.KeyedLemmas.{kept}
use Rattle.vet_base.proofs.Rising.{only_equal}
use Rattle.vet_entries.specs.declared.facts.HeldEntry.{HeldEntry}
use Rattle.vet_entries.specs.ByPackage.{IsByPackage, is_at, package_at, stand}
use Rattle.vet_entries.proofs.Places.{filter_same, in_range, range-append}
use Rattle.vet_entries.proofs.Standing.{R}

-- one more place behind those below it
pub one_more : (n : ℕ) → range_with_len 0 (n + 1) ≡ range_with_len 0 n ++ n ∷ []
one_more n = range-append 0 n 1 ∙ ap (λ b. range_with_len 0 n ++ b ∷ []) (let e : 0 + n ≡ n = omega arith in e)

-- how an entry stands is how its package does
stands : (entries : List HeldEntry) (name : List ℕ) (place : ℕ) → place < length entries
    → stand entries name place ≡ R (package_at entries place) name
stands [] name place l = absurd (omega (arith, l))
stands (x ∷ entries) name zero l = refl
stands (x ∷ entries) name (suc place) l = stands entries name place (omega (arith, l))

pub package_is : (entries : List HeldEntry) (place : ℕ) (held : HeldEntry) → place < length entries
    → held ≡ get_or entries place held → held.entry.«package» ≡ package_at entries place
package_is [] place held l is = absurd (omega (arith, l))
package_is (x ∷ entries) zero held l is = ap (λ (h : HeldEntry). h.entry.«package») is
package_is (x ∷ entries) (suc place) held l is = package_is entries place held (omega (arith, l)) is

pub package_past : (entries : List HeldEntry) (place : ℕ) → length entries ≤ place → [] ≡ package_at entries place
package_past [] place l = refl
package_past (x ∷ entries) zero l = absurd (omega (arith, l))
package_past (x ∷ entries) (suc place) l = package_past entries place (omega (arith, l))

pub by_package : (entries : List HeldEntry) (order : List ℕ) → IsPermutation (range_with_len 0 (length entries)) order
    → IsSortedBy (λ a b. is_lt (R (package_at entries a) (package_at entries b))) order
    → IsStableBy (λ a b. is_lt (R (package_at entries a) (package_at entries b))) (range_with_len 0 (length entries))
    order → IsByPackage entries order
by_package entries order moved sorted stable =
    let places = range_with_len 0 (length entries) in
    let Within : List ℕ → Type 0 = All (λ place. place < length entries) in
    let here : Within places = λ k d l. omega (arith, (in_range 0 (length entries) k d l).1) in
    let within : Within order = All-permutation (λ place. place < length entries) places order moved here in
    let alike : (name : List ℕ) (ps : List ℕ) → Within ps
    → filter (is_at entries name) ps ≡ filter (λ place. is_eq (R (package_at entries place) name)) ps =
    λ name ps inside. filter_same (is_at entries name) (λ place. is_eq (R (package_at entries place) name)) ps
    (λ k d l. ap is_eq (stands entries name (get_or ps k d) (inside k d l))) in
    record {
      rising = λ name i j d le l.
          (let up = searchable_from_sorted nat_list_cmp_total (package_at entries) order name sorted i j d le l in
          omega (
            arith,
            up,
            ap ordering_index
                (stands entries name (get_or order i d) (within i d (omega (arith, le, l)))),
            ap ordering_index (stands entries name (get_or order j d) (within j d l)),
          ));
      same = λ name. alike name order within ∙ kept R nat_list_cmp_total only_equal (package_at entries) places order
          stable name ∙ sym (alike name places here);
      within = within;
      long = length_permutation places order moved ∙ length-range_with_len 0 (length entries);
    }
