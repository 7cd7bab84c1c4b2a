-- Each number of a table that the writer takes fits its field, in the edition e that it is written as.
use Prim.{tt}
use mathlib.Core.Path.{◌≡◌, refl}
use mathlib.Core.Logic.{◌⊎◌, inl, inr, ⊎_elim}
use mathlib.Core.Bool.{Bool, true, false, cond, ◌&&◌, ◌||◌}
use mathlib.Core.List.{List, [], ◌∷◌}
use Prim.Native.Nat.{ℕ, ◌+◌, ◌^◌, ◌≤◌, ◌<◌}
use native.Mathlib.Nat.{zero-add}
use native.Mathlib.Omega.{arith}
use borrow.Author.Tests.{eqb-true, leb-true}
use lib.Dec.{leb, eqb}
use lib.ListN.{length, get_or}
use Rattle.paper.specs.Numbers.{most_tasks, most_name, most_ticks, rec, ticks_in_range, record_in_range, each_once, thresholds_hold, assigned, unassigned, assignment_holds}
use Rattle.paper.specs.Regions.{list_of, words_in_range, words_sum, regions_hold, record_regions_hold, all_regions_hold}
use Rattle.paper.specs.File.{is_edition, record_widths, record_values, source_bit}
use Rattle.paper.specs.declared.Source.{Source}
use Rattle.paper.specs.declared.Source.TheVariants.{Own, Catalogue}
use Rattle.paper.specs.declared.Record.{Record}
use Rattle.paper.specs.declared.Table.{Table}
use Rattle.paper.proofs.Tests.{both, ◌and◌, within, every_says}
use Rattle.bits.specs.Fields.{AllFit}
use Rattle.paper.proofs.Formed.{each_once_range, threshold_range}
use Rattle.paper.proofs.Writing.{Taken}
use Rattle.paper.proofs.Editions.{edition_says}
use Rattle.paper.proofs.Jitters.{jitter_says}
use Rattle.trips.proofs.Made.{Fits}

ticks_fit : (x : ℕ) → ticks_in_range x ≡ true → x < 2 ^ 20
ticks_fit x e = omega (arith, within 1 most_ticks x e)

source_fits : (q : Source) → source_bit q < 2 ^ 1
source_fits Own = omega arith
source_fits Catalogue = omega arith

record Levels (r : Record) : Type 0 where
  pub priority : r.priority < 2 ^ 4
  pub threshold : r.threshold < 2 ^ 4

levels_fit : (rs : List Record) (n : ℕ) → n ≤ most_tasks → assignment_holds rs n ≡ true → (k : ℕ) → k < n → Levels (rec rs k)
levels_fit rs n h e k l =
    ⊎_elim
    (λ (u : unassigned rs n ≡ true).
    let b = both _ _ (every_says n (λ j. eqb (rec rs j).priority 0 && eqb (rec rs j).threshold 0) u k l) in
    let x : (rec rs k).priority ≡ 0 = eqb-true _ _ b.0 in
    let y : (rec rs k).threshold ≡ 0 = eqb-true _ _ b.1 in
    record { priority = omega arith; threshold = omega arith })
    (λ (a : (each_once n (assigned rs).p && thresholds_hold n (assigned rs)) ≡ true).
    let b = both _ _ a in
    let x = each_once_range n (assigned rs).p b.0 k l in
    let y = threshold_range n (assigned rs) b.1 k l in
    record { priority = omega arith; threshold = omega arith })
    (either _ _ e)
  where
    either : (a b : Bool) → (a || b) ≡ true → (a ≡ true) ⊎ (b ≡ true)
    either true b e = inl refl
    either false b e = inr e

record Named (r : Record) : Type 0 where
  pub first : r.first < 2 ^ 7
  pub count : r.count < 2 ^ 7

named_fit : (own catalogue : List ℕ) (r : Record) → record_regions_hold own catalogue r ≡ true → Named r
unfolding regions_hold
named_fit own catalogue r e =
    let list = list_of r.source own catalogue in
    let d = leb (r.first + r.count) (length list) && (words_in_range list r.first r.count && eqb (words_sum list r.first r.count) r.cost) in
    let a = both (leb r.first 127) (leb r.count 127 && d) (both (leb 1 r.count) _ e).1 in
    let b = both (leb r.count 127) d a.1 in
    let x : r.first ≤ 127 = leb-true _ _ a.0 in
    let y : r.count ≤ 127 = leb-true _ _ b.0 in
    record { first = omega arith; count = omega arith }

record Held (n : ℕ) (rs : List Record) (own catalogue : List ℕ) : Type 0 where
  pub words : (k : ℕ) → k < length own → ticks_in_range (get_or own k 0) ≡ true
  pub each : (k : ℕ) → k < n → record_regions_hold own catalogue (rec rs k) ≡ true

regions_say : (n : ℕ) (rs : List Record) (own catalogue : List ℕ) → all_regions_hold rs n own catalogue ≡ true → Held n rs own catalogue
unfolding all_regions_hold
regions_say n rs own catalogue e =
    let b = both _ _ e in
    record {
      words = λ k l. rw zero-add at (every_says (length own) (λ i. ticks_in_range (get_or own (0 + i) 0)) b.0 k l);
      each = every_says n (λ k. record_regions_hold own catalogue (rec rs k)) b.1;
    }

record-fits : (e : ℕ) (r : Record) → record_in_range r ≡ true → Levels r → Named r → AllFit (record_widths e) (record_values e r)
record-fits e r h v d =
    let a = both _ _ h in
    let b = both _ _ a.1 in
    let c = both _ _ b.1 in
    let x : r.name ≤ most_name = leb-true _ _ (both _ _ c.1).0 in
    let period-fits = ticks_fit r.period b.0 in
    ticks_fit _ a.0
    and period-fits
    and ticks_fit _ c.0
    and v.priority
    and v.threshold
    and source_fits r.source
    and d.first
    and d.count
    and omega arith
    and last_fits (eqb e 2) (omega (arith, jitter_says r h, period-fits))
  where
    -- spare, or J and spare
    last_fits : (two : Bool) → r.jitter < 2 ^ 20 → AllFit (cond two (20 ∷ 10 ∷ []) (6 ∷ [])) (cond two (r.jitter ∷ 0 ∷ []) (0 ∷ []))
    last_fits true j = j and omega arith and tt
    last_fits false j = omega arith and tt

edition_fit : (e : ℕ) → is_edition e ≡ true → e < 2 ^ 4
edition_fit e h = ⊎_elim (λ (i : e ≡ 1). omega arith) (λ (i : e ≡ 2). omega arith) (edition_says e h)

pub taken_fits : (e : ℕ) (t : Table) (cabinet line : ℕ) (own catalogue : List ℕ) (room : ℕ) → Taken e t cabinet line own catalogue room → line < 2 ^ 16
    → Fits e t cabinet line own
taken_fits e t cabinet line own catalogue room w l =
    let h = regions_say t.n t.records own catalogue w.regions in
    record {
      edition_fits = edition_fit e w.edition;
      tasks = w.few_tasks;
      many = w.few_words;
      cabinet_fits = omega (arith, w.cabinets);
      line_fits = l;
      records_fit = λ k i.
          record-fits e (rec t.records k) (every_says t.n (λ j. record_in_range (rec t.records j)) w.ranges k i)
          (levels_fit t.records t.n w.few_tasks w.assignment k i) (named_fit own catalogue (rec t.records k) (h.each k i));
      words_fit = λ k i. ticks_fit (get_or own k 0) (h.words k i) and tt;
    }
