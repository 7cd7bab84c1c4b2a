-- `regions_hold` by its bounds: false where one is broken, and else what the words say.
use Prim.Native.Nat.{ℕ, ◌+◌, ◌≤◌, ◌<◌}
use mathlib.Core.Path.{◌≡◌}
use mathlib.Core.Bool.{false, ◌&&◌, and-false}
use mathlib.Core.List.{List}
use borrow.Author.Tests.{le-leb, lt-leb}
use lib.Dec.{leb, eqb}
use lib.ListN.{length}
use Rattle.std.specs.List.{list_all, sum}
use lib.ListN.{take, drop}
use Rattle.paper.specs.Numbers.{ticks_in_range}
use Rattle.paper.specs.Regions.{words_in_range, regions_hold}
use Rattle.laws.proofs.Chains.{all_part, all_whole, sum_part}
use Rattle.laws.proofs.Every.{every_more}

module _ (list : List ℕ) (first count c : ℕ) where
  pub first_large : 127 < first → regions_hold list first count c ≡ false
  unfolding regions_hold
  first_large h = rw (lt-leb first 127 h) (and-false (leb 1 count))

  pub count_large : 127 < count → regions_hold list first count c ≡ false
  unfolding regions_hold
  count_large h = rw (lt-leb count 127 h, and-false (leb first 127)) (and-false (leb 1 count))

  pub list_short : length list < first + count → regions_hold list first count c ≡ false
  unfolding regions_hold
  list_short h =
      rw (lt-leb (first + count) (length list) h, and-false (leb count 127), and-false (leb first 127)) (and-false (leb 1 count))

  -- what stands within them is a part of the list, which is looked at word by word
  pub bounds_hold : first ≤ 127 → count ≤ 127 → first + count ≤ length list
      → regions_hold list first count c ≡ (leb 1 count && (list_all ticks_in_range (take count (drop first list)) && eqb (sum (take count (drop first list))) c))
  unfolding regions_hold
  bounds_hold f n e =
      rw (le-leb first 127 f, le-leb count 127 n, le-leb (first + count) (length list) e, all_part ticks_in_range 0 list first count e, sum_part (λ x. x) 0 list first count e)

pub words_whole : (own : List ℕ) → list_all ticks_in_range own ≡ words_in_range own 0 (length own)
words_whole own = all_whole ticks_in_range 0 own

pub ruleset whole = (words_whole, every_more)

pub ruleset bounds = (first_large, count_large, list_short, bounds_hold)
