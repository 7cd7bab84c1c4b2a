-- Blocks of one layout, one after the other: a file's records, and its region words. The widths ws are any; block k begins at `place k`,
-- and each begins where the one before it ends.
use mathlib.Core.Path.{◌≡◌, sym, ◌∙◌}
use mathlib.Core.Logic.{inl, by_cases}
use mathlib.Core.List.{List}
use Prim.Native.Nat.{ℕ, zero, suc, ◌+◌, ◌*◌, ◌≤◌, ◌<◌}
use native.Mathlib.Decide.{dec_lt}
use native.Mathlib.Omega.{arith}
use lib.ListN.{length}
use Rattle.paper.specs.Bits.{fields_at, put_fields}
use Rattle.bits.specs.Fields.{total, AllFit}
use Rattle.bits.proofs.Field.{SameBits}
use Rattle.bits.proofs.Putting.{Only, only_none, only_both}
use Rattle.bits.proofs.Fields.{fields_same, fields_bits, all_only, all_got}

-- s with the first n blocks, block k of the values vs k
unfoldable pub put_blocks : List ℕ → (ℕ → ℕ) → List ℕ → (ℕ → List ℕ) → ℕ → List ℕ
put_blocks s place ws vs zero = s
put_blocks s place ws vs (suc n) = put_fields (put_blocks s place ws vs n) (place n) ws (vs n)

-- s has them
abbrev pub HasBlocks : List ℕ → (ℕ → ℕ) → List ℕ → (ℕ → List ℕ) → ℕ → Type 0
HasBlocks s place ws vs n = (k : ℕ) → k < n → fields_at s (place k) ws ≡ vs k

module _ (place : ℕ → ℕ) (ws : List ℕ) (next : (n : ℕ) → place (suc n) ≡ place n + total ws) where
  -- a block ends where a later one begins, or before
  pub apart : (k n : ℕ) → k < n → place k + total ws ≤ place n
  apart k zero l = absurd (omega arith)
  apart k (suc n) l =
      let e = next n in
      by_cases (dec_lt k n)
      (λ (i : k < n). omega (arith, apart k n i))
      (λ i. let p : k ≡ n = omega arith in rw p (omega arith))

  -- and none begins before the first
  from_first : (n : ℕ) → place 0 ≤ place n
  from_first zero = omega arith
  from_first (suc n) = omega (arith, next n, from_first n)

  module _ (vs : ℕ → List ℕ) where
    pub blocks_only : (s : List ℕ) (n : ℕ) → Only s (put_blocks s place ws vs n) (place 0) (place n)
    unfolding put_blocks
    blocks_only s zero = only_none
    blocks_only s (suc n) =
        rw (next n) (only_both (omega (arith, from_first n)) (blocks_only s n) (all_only (put_blocks s place ws vs n) (place n) ws (vs n)))

    -- what was put is there
    pub blocks_got : (s : List ℕ) (n : ℕ) → place n ≤ length s * 8 → ((k : ℕ) → k < n → AllFit ws (vs k)) → HasBlocks (put_blocks s place ws vs n) place ws vs n
    unfolding put_blocks
    blocks_got s zero h f k l = absurd (omega arith)
    blocks_got s (suc n) h f k l =
        let x = put_blocks s place ws vs n in
        let e = (blocks_only s n).size in
        let g = next n in
        by_cases (dec_lt k n)
        (λ (i : k < n).
        fields_same (put_fields x (place n) ws (vs n)) x (place k) ws
        (λ q a b. (all_only x (place n) ws (vs n)).stays q (inl (omega (arith, apart k n i))))
        ∙ blocks_got s n (omega arith) (λ j m. f j (omega arith)) k i)
        (λ i. let p : k ≡ n = omega arith in rw p (all_got x (place n) ws (vs n) (omega arith) (f n (omega arith))))

    -- and it alone: what has the same blocks has the same bits there
    pub blocks_bits : (s t : List ℕ) (n : ℕ) → HasBlocks s place ws vs n → HasBlocks t place ws vs n → SameBits s t (place 0) (place n)
    blocks_bits s t zero a b q x y = absurd (omega arith)
    blocks_bits s t (suc n) a b q x y =
        let e = next n in
        by_cases (dec_lt q (place n))
        (λ (l : q < place n). blocks_bits s t n (λ k m. a k (omega arith)) (λ k m. b k (omega arith)) q x l)
        (λ l. fields_bits s t (place n) ws (a n (omega arith) ∙ sym (b n (omega arith))) q (omega arith) (omega arith))
