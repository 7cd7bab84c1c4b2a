-- The checks look at no record past n: tables whose first n records are the same pass the same checks.
use mathlib.Core.Path.{◌≡◌, ap}
use mathlib.Core.Bool.{◌&&◌}
use mathlib.Core.List.{List}
use Prim.Native.Nat.{ℕ, ◌<◌}
use lib.Dec.{eqb}
use Rattle.paper.specs.Numbers.{rec, record_in_range, records_in_range, assigned, unassigned, assignment_holds}
use Rattle.paper.specs.Regions.{record_regions_hold, all_regions_hold}
use Rattle.paper.specs.declared.Record.{Record}
use Rattle.laws.proofs.Every.{every_same}
use Rattle.laws.proofs.Agree.{each_once_same, thresholds_same}

module _ (n : ℕ) (rs qs : List Record) (same : (k : ℕ) → k < n → rec rs k ≡ rec qs k) where
  pub ranges_alike : records_in_range rs n ≡ records_in_range qs n
  ranges_alike = every_same n _ _ (λ k l. ap (λ (r : Record). record_in_range r) (same k l))

  unassigned_alike : unassigned rs n ≡ unassigned qs n
  unassigned_alike = every_same n _ _ (λ k l. ap (λ (r : Record). eqb r.priority 0 && eqb r.threshold 0) (same k l))

  pub assignment_alike : assignment_holds rs n ≡ assignment_holds qs n
  assignment_alike =
      let p : (k : ℕ) → k < n → (rec rs k).priority ≡ (rec qs k).priority = λ k l. ap (λ (r : Record). r.priority) (same k l) in
      let h : (k : ℕ) → k < n → (rec rs k).threshold ≡ (rec qs k).threshold = λ k l. ap (λ (r : Record). r.threshold) (same k l) in
      rw (unassigned_alike, each_once_same n (assigned rs).p (assigned qs).p p, thresholds_same n (assigned rs) (assigned qs) p h)

  pub regions_alike : (own catalogue : List ℕ) → all_regions_hold rs n own catalogue ≡ all_regions_hold qs n own catalogue
  unfolding all_regions_hold
  regions_alike own catalogue =
      rw (every_same n (λ k. record_regions_hold own catalogue (rec rs k)) (λ k. record_regions_hold own catalogue (rec qs k))
      (λ k l. ap (λ (r : Record). record_regions_hold own catalogue r) (same k l)))
