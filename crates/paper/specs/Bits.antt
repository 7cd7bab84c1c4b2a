-- Document 01, "The file, bit by bit": fields are packed most significant bit first with no gaps.
use Rattle.std.specs.Prelude.{ℕ, zero, suc, ◌+◌, ◌-◌, ◌*◌, ◌/◌, ◌%◌, ◌^◌, List, [], ◌∷◌, get_or, set}

-- bit p of the bytes s, counted from the first byte's most significant
unfoldable pub bit_at : List ℕ → ℕ → ℕ
bit_at s p = get_or s (p / 8) 0 / 2 ^ (7 - p % 8) % 2

-- the number that the w bits from bit `at` on make
unfoldable pub field : List ℕ → ℕ → ℕ → ℕ
field s at zero = 0
field s at (suc w) = field s at w * 2 + bit_at s (at + w)

-- the fields of the widths ws, one after the other from bit `at` on
abbrev pub fields_at : List ℕ → ℕ → List ℕ → List ℕ
fields_at s at [] = []
fields_at s at (w ∷ ws) = field s at w ∷ fields_at s (at + w) ws

-- x with b for its bit of weight 2 ^ k
unfoldable pub with_bit : ℕ → ℕ → ℕ → ℕ
with_bit x k b = (x / 2 ^ k / 2 * 2 + b) * 2 ^ k + x % 2 ^ k

-- s with b for its bit p
unfoldable pub put_bit : List ℕ → ℕ → ℕ → List ℕ
put_bit s p b = set s (p / 8) (with_bit (get_or s (p / 8) 0) (7 - p % 8) b)

-- s with v in its w bits from bit `at` on
unfoldable pub put_field : List ℕ → ℕ → ℕ → ℕ → List ℕ
put_field s at zero v = s
put_field s at (suc w) v = put_field (put_bit s (at + w) (v % 2)) at w (v / 2)

-- s with the values vs at the widths ws, one after the other from bit `at` on
unfoldable pub put_fields : List ℕ → ℕ → List ℕ → List ℕ → List ℕ
put_fields s at [] vs = s
put_fields s at (w ∷ ws) [] = s
put_fields s at (w ∷ ws) (v ∷ vs) = put_fields (put_field s at w v) (at + w) ws vs
