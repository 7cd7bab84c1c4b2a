-- What the functions' loops ask.
use mathlib.Core.Path.{◌≡◌}
use mathlib.Core.List.{List, ◌++◌}
use Prim.Native.Nat.{ℕ, ◌+◌, ◌*◌}
use native.Mathlib.Nat.{add_assoc}
use native.Mathlib.Numerals.{add-one, add-two}
use native.Mathlib.Omega.{arith}
use lib.ListN.{get_or, take, drop}
use Rattle.paper.specs.Numbers.{rec}
use Rattle.paper.specs.Bits.{put_field, put_fields}
use Rattle.paper.specs.File.{used_widths, used_values, record_at, record_widths, record_values, word_at, put_records, put_words}
use Rattle.paper.specs.declared.Record.{Record}

-- one record more, two words more, and the word that makes no pair
pub records_more : (s : List ℕ) (e : ℕ) (rs : List Record) (i : ℕ)
    → put_records s e rs (i + 1) ≡ put_fields (put_records s e rs i) (record_at e i) (record_widths e) (record_values e (rec rs i))
unfolding put_records
records_more s e rs i = rw add-one

pub pairs_more : (s : List ℕ) (e n : ℕ) (ws : List ℕ) (i : ℕ)
    → put_words s e n ws (2 * (i + 1))
    ≡ put_field (put_field (put_words s e n ws (2 * i)) (record_at e n + 40 * i) 20 (get_or ws (2 * i) 0)) (record_at e n + 40 * i + 20) 20 (get_or ws (2 * i + 1) 0)
unfolding put_words
pairs_more s e n ws i =
    let twice : 2 * (i + 1) ≡ 2 * i + 2 = omega arith in
    let one : word_at e n (2 * i) ≡ record_at e n + 40 * i = omega arith in
    let two : word_at e n (2 * i + 1) ≡ record_at e n + 40 * i + 20 = omega arith in
    rw (twice, add-two, ← add-one (2 * i), one, two)

pub word_more : (s : List ℕ) (e n : ℕ) (ws : List ℕ) (i : ℕ) → put_words s e n ws (i + 1) ≡ put_field (put_words s e n ws i) (word_at e n i) 20 (get_or ws i 0)
unfolding put_words
word_more s e n ws i = rw add-one

pub ruleset record_turns = (records_more)

pub ruleset pair_turns = (pairs_more)

pub ruleset last_word = (word_more)

pub ruleset places = (add_assoc)

-- a record's fields: its numbers, what it says of regions and name, and what its edition has behind them, at any widths ws
pub record_parts : (s : List ℕ) (at : ℕ) (r : Record) (ws vs : List ℕ) →
    put_fields
    (put_fields
    (put_fields s at (take 5 used_widths) (take 5 (used_values r)))
    (at + 68) (drop 5 used_widths) (drop 5 (used_values r)))
    (at + 90) ws vs
    ≡ put_fields s at (used_widths ++ ws) (used_values r ++ vs)
unfolding put_fields
record_parts s at r ws vs = simp add_assoc
