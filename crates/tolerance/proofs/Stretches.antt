-- A stretch is found by asking one task after the other; a walk goes from stretch to stretch up to the last t.
use Prim.Native.Nat.{ℕ, ◌+◌, ◌-◌, ◌*◌, ◌/◌, ◌≤◌, ◌<◌, min}
use mathlib.Core.Path.{◌≡◌, sym, ap₂, ◌∙◌}
use mathlib.Core.Bool.{Bool, true, false, cond}
use native.Mathlib.Omega.{arith}
use native.Mathlib.Nat.{mul-le-mul, div-le_self}
use borrow.Author.Count.{below_more}
use borrow.Author.Tests.{ltb-true, ltb-false}
use lib.Dec.{leb, ltb}
use lib.Signed.{◌≤ℤ◌}
use Rattle.paper.specs.Numbers.{most_ticks, Assignment}
use Rattle.paper.specs.Analysis.{Tasks, before, by, load}
use Rattle.paper.specs.Lengths.{larger, slack, tolerance}
use Rattle.paper.proofs.Signed.{sub_order}
use Rattle.paper.proofs.Extremes.{by_test}
use Rattle.laws.proofs.Every.{sum_more}
use Rattle.laws.proofs.Sums.{sum_none}
use Rattle.laws.proofs.Steps.{step_after, before_stays, load_stays, slack_rises, largest_first, largest_step}
use Rattle.columns.specs.Columns.{Ranged}
use Rattle.tolerance.specs.Bounds.{most_part}
use Rattle.tolerance.specs.Walk.{jobs_by, value_of, larger_of, last_instant, Stretch, Walked}
use Rattle.tolerance.specs.declared.slack.Slack.{Slack}

-- What one task adds to a need: m jobs, which are 1 in the code, and one more for each t in x. For any m, so that a wrong number of jobs is refused for what it counts, and not as too large.
pub part_bound : (m x t c : ℕ) → m + x ≤ 3 * most_ticks → c ≤ most_ticks → (m + x / t) * c ≤ most_part
part_bound m x t c h k = mul-le-mul {n₂ = 3 * most_ticks} {m₂ = most_ticks} (omega (arith, div-le_self x t)) k

-- the first j of the tasks
abbrev pub up_to : Tasks → ℕ → Tasks
up_to y j = record { n = j; c = y.c; t = y.t; d = y.d; j = y.j }

module _ (y : Tasks) (set : ℕ → Bool) (f : ℕ → ℕ) where
  load_none : load (up_to y 0) set f ≡ 0
  unfolding load
  load_none = sum_none (λ j. cond (set j) (f j * y.c j) 0)

  load_more : (j : ℕ) → load (up_to y (j + 1)) set f ≡ load (up_to y j) set f + cond (set j) (f j * y.c j) 0
  unfolding load
  load_more j = sum_more j (λ j. cond (set j) (f j * y.c j) 0)

-- the pair's comparison is that of the signed numbers
pub larger_value : (a b : Slack) → value_of (larger_of a b) ≡ larger (value_of a) (value_of b)
unfolding larger_of larger
larger_value a b =
    rw (sub_order a.at a.need b.at b.need)
    (by_test (λ r. value_of r ≡ cond (leb (a.at + b.need) (b.at + a.need)) (value_of b) (value_of a)) (leb (a.at + b.need) (b.at + a.need)) (λ e. rw e) (λ e. rw e))

-- how far a walk goes
pub last_near : {y : Tasks} → Ranged y → {i : ℕ} → i < y.n → {d j last : ℕ} → d ≡ y.d i → j ≡ y.j i → last ≡ last_instant d j
    → (last ≡ last_instant (y.d i) (y.j i)) × (0 < last) × (last ≤ most_ticks)
last_near r {i} l d j e =
    let q = r.deadlines i l in
    let last = rw (d, j) at e in
    (last, omega (arith, last), omega (arith, last, q.0, q.1))

module _ {y : Tasks} {a : Assignment} (ranged : Ranged y) {i : ℕ} (inside : i < y.n) {last : ℕ} (near : last ≤ most_ticks) where
  -- a stretch of the first j tasks, and of one more
  pub stretch_none : {x : ℕ} {s : Slack} → s.at ≡ last → s.need ≡ y.c i → x < last → Stretch (up_to y 0) a i last x s
  stretch_none {x} {s} d c h =
      record {
        after = omega arith;
        within = omega arith;
        ends = λ j l m. absurd (omega arith);
        need = omega (arith, load_none y (λ j. ltb (a.p j) (a.p i)) (by (up_to y 0) x));
        small = omega (arith, (ranged.costs i inside).1);
      }

  -- where that one is above i, it ends the stretch and adds to the need
  pub stretch_more : {x j c t late : ℕ} {s r : Slack} → x < last → j < y.n → Stretch (up_to y j) a i last x s → ltb (a.p j) (a.p i) ≡ true
      → c ≡ y.c j → t ≡ y.t j → late ≡ y.j j → r.at ≡ min s.at (jobs_by t late x * t - late) → r.need ≡ s.need + jobs_by t late x * c
      → Stretch (up_to y (j + 1)) a i last x r
  unfolding by
  stretch_more {x} {j} {s = s} {r = r} h l w e c t late at need =
      let f : r.at ≡ min s.at (jobs_by (y.t j) (y.j j) x * y.t j - y.j j) = rw (← t, ← late) at in
      let g : r.need ≡ s.need + jobs_by (y.t j) (y.j j) x * y.c j = rw (← c, ← t, ← late) need in
      let more = load_more y (λ j. ltb (a.p j) (a.p i)) (by (up_to y (j + 1)) x) j in
      let part = part_bound 1 (x + y.j j) (y.t j) (y.c j) (omega (arith, (ranged.periods j l).1, ranged.jitters j l)) (ranged.costs j l).1 in
      let step = step_after (y.t j) (x + y.j j) (ranged.periods j l).0 in
      record {
        after = rw f (omega (arith, w.after, step));
        within = rw f (omega (arith, w.within));
        ends = rw f (below_more (λ k. a.p k < a.p i → min s.at (by y x j * y.t j - y.j j) + y.j k ≤ by y x k * y.t k) j
            (λ k b m. omega (arith, w.ends k b m)) (λ m. omega (arith, step)));
        need = rw (g, more, e) (omega (arith, w.need));
        small = rw g (omega (arith, w.small, part));
      }

  -- and else it changes nothing
  pub stretch_same : {x j : ℕ} {s : Slack} → Stretch (up_to y j) a i last x s → ltb (a.p j) (a.p i) ≡ false → Stretch (up_to y (j + 1)) a i last x s
  unfolding by
  stretch_same {x} {j} {s} w e =
      let more = load_more y (λ j. ltb (a.p j) (a.p i)) (by (up_to y (j + 1)) x) j in
      record {
        after = w.after;
        within = w.within;
        ends = below_more (λ k. a.p k < a.p i → s.at + y.j k ≤ by y x k * y.t k) j w.ends
            (λ m. absurd (omega (arith, ltb-false (a.p j) (a.p i) e)));
        need = rw (more, e) (omega (arith, w.need));
        small = omega (arith, w.small);
      }

  module _ {x : ℕ} {s : Slack} (w : Stretch y a i last x s) where
    -- in a stretch the jobs asked for are those asked for by its start
    counts : (u j : ℕ) → x < u → u ≤ s.at → j < y.n → a.p j < a.p i → before y u j ≡ by y x j
    counts u j h k l m = before_stays y x u j (ranged.periods j l).0 h (omega (arith, w.ends j l m))

    stretch_value : slack y a i s.at ≡ value_of s
    unfolding slack
    stretch_value =
        let e = load_stays y (λ j. ltb (a.p j) (a.p i)) (before y s.at) (by y x) (λ j l t. counts s.at j w.after (omega arith) l (ltb-true _ _ t)) in
        rw (e, w.need)

    stretch_rises : (u : ℕ) → x < u → u ≤ s.at → slack y a i u ≤ℤ slack y a i s.at
    stretch_rises u h k = slack_rises y a i u s.at k (λ j l m. counts u j h k l m ∙ sym (counts s.at j w.after (omega arith) l m))

  pub walk_start : {s : Slack} → Stretch y a i last 0 s → Walked y a i last s.at s
  walk_start {s} w =
      record {
        low = omega (arith, w.after);
        high = w.within;
        value = sym (largest_first (slack y a i) s.at (omega (arith, w.after)) (stretch_rises w) ∙ stretch_value w);
      }

  pub walk_more : {here : ℕ} {best s : Slack} → Walked y a i last here best → Stretch y a i last here s → Walked y a i last s.at (larger_of best s)
  walk_more {here} {best} {s} v w =
      record {
        low = omega (arith, w.after);
        high = w.within;
        value =
            larger_value best s
            ∙ ap₂ larger v.value (sym (stretch_value w))
            ∙ sym (largest_step (slack y a i) here s.at v.low w.after (stretch_rises w));
      }

  pub walk_done : {here : ℕ} {best : Slack} → last ≡ last_instant (y.d i) (y.j i) → Walked y a i last here best → last ≤ here → value_of best ≡ tolerance y a i
  unfolding tolerance
  walk_done {here} e v h =
      let q : here - 1 ≡ y.d i - y.j i - 1 = omega (arith, v.high) in
      rw (← q) v.value
