-- What the loop over the bytes asks.
use mathlib.Core.Path.{◌≡◌}
use mathlib.Core.List.{List}
use Prim.Native.Nat.{ℕ, ◌+◌, ◌≤◌, ◌<◌}
use native.Mathlib.Numerals.{add-one}
use lib.ListN.{length, get_or, drop, drop_of_length-le}
use lib.Seq.{drop-cons}
use Rattle.paper.specs.Seal.{seal_byte, seal_from}

pub from_step : (c : ℕ) (s : List ℕ) (i : ℕ) → i < length s → seal_from (seal_byte c (get_or s i 0)) (drop (i + 1) s) ≡ seal_from c (drop i s)
unfolding seal_from
from_step c s i h = rw (add-one, drop-cons s i 0 h)

pub from_done : (c : ℕ) (s : List ℕ) (i : ℕ) → length s ≤ i → seal_from c (drop i s) ≡ c
unfolding seal_from
from_done c s i h = rw (drop_of_length-le s h)

pub ruleset steps = (from_step, from_done)
