-- The region words of a file, and the array that they come in.
use mathlib.Core.Path.{◌≡◌, refl}
use mathlib.Core.List.{List}
use Prim.Native.Nat.{ℕ, ◌+◌, ◌-◌, ◌<◌}
use lib.ListN.{length, set, take, replicate}
use lib.Seq.{take_at}
use Rattle.paper.specs.Vocabulary.{list_to}
use Rattle.paper.specs.Numbers.{most_words}
use Rattle.paper.specs.Bits.{field}
use Rattle.paper.specs.File.{word_at, region_words}
use Rattle.laws.proofs.Lists.{list_length, fill_turn}
use Rattle.unpack.specs.Unpack.{words_array}

pub words_length : (f : List ℕ) (e n m : ℕ) → length (region_words f e n m) ≡ m
unfolding region_words
words_length f e n m = list_length m (λ k. field f (word_at e n k) 20)

-- the turns of the loop that fills the array
pub array_none : (f : List ℕ) (e n : ℕ) → replicate most_words 0 ≡ words_array f e n 0
unfolding words_array region_words list_to
array_none f e n = refl

pub array_turn : (f : List ℕ) (e n k : ℕ) {ws : List ℕ} {w : ℕ} → k < most_words
    → ws ≡ words_array f e n k → w ≡ field f (word_at e n k) 20 → set ws k w ≡ words_array f e n (k + 1)
unfolding words_array region_words
array_turn f e n k h q g = fill_turn most_words k _ 0 h q g

-- the front of the array is the words
pub array_front : (f : List ℕ) (e n m : ℕ) {ws : List ℕ} → ws ≡ words_array f e n m → take m ws ≡ region_words f e n m
unfolding words_array
array_front f e n m q = rw q (take_at (region_words f e n m) (replicate (most_words - m) 0) m (words_length f e n m))
