-- Fixed preemption points (document 02, item 2): what the last region is, and what it is to pass. Records are counted from 0 here: i is record i + 1.
use Rattle.std.specs.Prelude.{Ok}
use Prim.Native.Nat.{ℕ, ◌+◌, ◌-◌, ◌*◌, ◌≤◌, ◌<◌}
use mathlib.Core.Path.{◌≡◌, refl, ap, ◌∙◌}
use mathlib.Core.Bool.{Bool, true, false, ◌&&◌, ◌||◌, or-true, cond}
use mathlib.Core.List.{List, [], ◌∷◌}
use mathlib.Core.Logic.{◌↔◌, ◌⊎◌, inl, inr, ⊎_elim}
use native.Mathlib.Omega.{arith}
use borrow.Author.Tests.{leb-true, le-leb, eqb-true, eq-eqb}
use lib.Dec.{leb, ltb, eqb}
use lib.ListN.{length, get_or, take, drop, length-take, length-drop}
use lib.Seq.{drop-cons, get_or-take, get_or-drop}
use Rattle.paper.specs.Vocabulary.{sum_to, ceil_div}
use Rattle.paper.specs.Numbers.{most_ticks, rec, ticks_in_range, counts_in_range, Assignment}
use Rattle.paper.specs.Regions.{list_of, words_in_range, words_sum, regions_hold, record_regions_hold, all_regions_hold}
use Rattle.paper.specs.Analysis.{Tasks, before, load}
use Rattle.paper.specs.Points.{last_region, Chunks, alpha, before_last, has_time, points_pass}
use Rattle.paper.specs.Answers.{regions_outcome, regions_words, last_words}
use Rattle.paper.specs.declared.Record.{Record}
use Rattle.paper.specs.declared.Table.{Table}
use Rattle.paper.proofs.Tests.{both, within, every_says, some_says, some_there}
use Rattle.paper.proofs.Asks.{met}

-- What refusal 11 makes sure of.
pub record Held (list : List ℕ) (first count c : ℕ) : Type 0 where
  pub there : 1 ≤ count
  pub inside : first + count ≤ length list
  pub words : (i : ℕ) → i < count → (1 ≤ get_or list (first + i) 0) × (get_or list (first + i) 0 ≤ most_ticks)
  pub cost : words_sum list first count ≡ c

pub regions_say : (list : List ℕ) (first count c : ℕ) → regions_hold list first count c ≡ true → Held list first count c
unfolding regions_hold
regions_say list first count c e =
    let sum = eqb (words_sum list first count) c in
    let words = words_in_range list first count && sum in
    let inside = leb (first + count) (length list) in
    let p = both (leb 1 count) (leb first 127 && (leb count 127 && (inside && words))) e in
    let q = both (leb first 127) (leb count 127 && (inside && words)) p.1 in
    let r = both (leb count 127) (inside && words) q.1 in
    let s = both inside words r.1 in
    let w = both (words_in_range list first count) sum s.1 in
    record {
      there = leb-true _ _ p.0;
      inside = leb-true _ _ s.0;
      words = λ i l. within 1 most_ticks _ (every_says count (λ i. ticks_in_range (get_or list (first + i) 0)) w.0 i l);
      cost = eqb-true _ _ w.1;
    }

pub all_regions_say : (rs : List Record) (n : ℕ) (own catalogue : List ℕ) → all_regions_hold rs n own catalogue ≡ true → (k : ℕ) → k < n
    → let r = rec rs k in Held (list_of r.source own catalogue) r.first r.count r.cost
unfolding all_regions_hold
all_regions_say rs n own catalogue e k l =
    regions_say _ _ _ _ (every_says n (λ k. record_regions_hold own catalogue (rec rs k)) (both (words_in_range own 0 (length own)) _ e).1 k l)

-- The last region is the last word of the task's regions, and it is what the test takes for q.
module _ (t : Table) (own catalogue : List ℕ) (number : ℕ) (e : regions_outcome t own catalogue number ≡ Ok tt) where
  pub held : let r = rec t.records (number - 1) in Held (list_of r.source own catalogue) r.first r.count r.cost
  held =
      let c = met (counts_in_range t.n (length own)) _ _ e in
      let n = met (leb 1 number && leb number t.n) _ _ c.1 in
      regions_say _ _ _ _ (met (record_regions_hold own catalogue (rec t.records (number - 1))) _ _ n.1).0

  -- there are as many words as the record says
  pub words_counted : length (regions_words t own catalogue number) ≡ (rec t.records (number - 1)).count
  words_counted =
      let r = rec t.records (number - 1) in
      let l = list_of r.source own catalogue in
      rw e (length-take r.count (drop r.first l) ∙ rw (length-drop r.first l) (omega (arith, held.inside)))

  pub last_taken : last_words t own catalogue number ≡ last_region own catalogue (rec t.records (number - 1)) ∷ []
  last_taken =
      let r = rec t.records (number - 1) in
      let l = list_of r.source own catalogue in
      rw e (ap (take 1) (drop-cons l (r.first + r.count - 1) 0 (omega (arith, held.there, held.inside))))

  pub last_is_last : let words = regions_words t own catalogue number in
      last_words t own catalogue number ≡ get_or words (length words - 1) 0 ∷ []
  last_is_last =
      let r = rec t.records (number - 1) in
      let l = list_of r.source own catalogue in
      let place : r.first + (r.count - 1) ≡ r.first + r.count - 1 = omega (arith, held.there) in
      last_taken
      ∙ rw (words_counted, e, get_or-take r.count (drop r.first l) (r.count - 1) 0 (omega (arith, held.there)), get_or-drop r.first l (r.count - 1) 0, place)

-- A t that lets a task pass: from 1 to D(i) − J(i) − q, with (C(i) − q) + sum over p(j) < p(i) of ceil((t + J(j))/T(j))·C(j) + alpha ≤ t.
pub record Point (y : Tasks) (a : Assignment) (i q longest t : ℕ) : Type 0 where
  pub low : 1 ≤ t
  pub high : t ≤ y.d i - y.j i - q
  pub fits : (y.c i - q) + sum_to y.n (λ j. cond (ltb (a.p j) (a.p i)) (ceil_div (t + y.j j) (y.t j) * y.c j) 0) + longest ≤ t

-- A task passes exactly where alpha is 0 or there is such a t.
module _ (y : Tasks) (a : Assignment) (g : Chunks) (i : ℕ) where
  starts : (has_time y a i (g.last i) (alpha y a g i) ≡ true) ↔ ((t : ℕ) × Point y a i (g.last i) (alpha y a g i) t)
  unfolding has_time before_last load before
  starts = (
    λ e. let r = some_says _ _ e in (r.0, record { low = r.1; high = r.2; fits = leb-true _ _ r.3 }),
    λ w. some_there _ _ w.0 w.1.low w.1.high (le-leb _ _ w.1.fits),
  )

  pub passes_means : (points_pass y a g i ≡ true) ↔ ((alpha y a g i ≡ 0) ⊎ ((t : ℕ) × Point y a i (g.last i) (alpha y a g i) t))
  unfolding points_pass
  passes_means = (
    λ e. either (eqb (alpha y a g i) 0) refl e,
    λ w. ⊎_elim (λ z. rw (eq-eqb (alpha y a g i) 0 z)) (λ p. rw (starts.1 p) (or-true (eqb (alpha y a g i) 0))) w,
  )
    where
      either : (b : Bool) → eqb (alpha y a g i) 0 ≡ b → (b || has_time y a i (g.last i) (alpha y a g i)) ≡ true
          → (alpha y a g i ≡ 0) ⊎ ((t : ℕ) × Point y a i (g.last i) (alpha y a g i) t)
      either true z e = inl (eqb-true _ _ z)
      either false z e = inr (starts.0 e)
