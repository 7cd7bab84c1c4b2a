-- What it means by document 01 that a job finds the catalogue ending before its regions.
use Prim.Native.Nat.{ℕ, suc, ◌+◌}
use mathlib.Core.Path.{◌≡◌, refl}
use mathlib.Core.Bool.{Bool, true, false, not, ◌&&◌, true≢false}
use mathlib.Core.List.{List}
use mathlib.Core.Logic.{⊎_elim}
use native.Mathlib.Omega.{arith}
use borrow.Author.Tests.{not-true}
use lib.Dec.{leb}
use lib.ListN.{length}
use Rattle.paper.specs.Numbers.{rec}
use Rattle.paper.specs.Regions.{words_in_range, regions_hold, record_regions_hold, all_regions_hold}
use Rattle.paper.specs.declared.Source.{Source}
use Rattle.paper.specs.declared.Source.TheVariants.{Own, Catalogue}
use Rattle.paper.specs.declared.Record.{Record}
use Rattle.paper.proofs.Tests.{every_fails}
use Rattle.paper.proofs.Extremes.{lowest_none, lowest_either}
use Rattle.first_jobs.specs.Firsts.{in_source, inside, first_outside}

-- a job that is named for lying outside the catalogue breaks the rules of regions: refusal 11 would be given for it alone
outside_breaks : (s : Source) (r : Record) (own catalogue : List ℕ) → r.source ≡ s → in_source s (leb (r.first + r.count) (length catalogue)) ≡ false
    → record_regions_hold own catalogue r ≡ false
unfolding regions_hold
outside_breaks Own r own catalogue q e = absurd (true≢false e)
outside_breaks Catalogue r own catalogue q e = rw (q, e) (go (leb 1 r.count) (leb r.first 127) (leb r.count 127))
  where
    go : (a b c : Bool) → (a && (b && (c && false))) ≡ false
    go true true true = refl
    go true true false = refl
    go true false c = refl
    go false b c = refl

pub outside_refused : (rs : List Record) (n : ℕ) (own catalogue : List ℕ) (k : ℕ) → first_outside rs n (length catalogue) ≡ suc k
    → all_regions_hold rs n own catalogue ≡ false
unfolding all_regions_hold
outside_refused rs n own catalogue k e =
    ⊎_elim
    (λ none. absurd (omega (arith, lowest_none (λ j. not (inside (rec rs j) (length catalogue))) n none)))
    (λ r.
    let b = not-true (inside (rec rs r.0) (length catalogue)) r.2 in
    let f = every_fails n (λ j. record_regions_hold own catalogue (rec rs j)) r.0 r.1 (outside_breaks (rec rs r.0).source (rec rs r.0) own catalogue refl b) in
    rw f (and-false (words_in_range own 0 (length own))))
    (lowest_either (λ j. not (inside (rec rs j) (length catalogue))) n)
  where
    and-false : (b : Bool) → (b && false) ≡ false
    and-false true = refl
    and-false false = refl
