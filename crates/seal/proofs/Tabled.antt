-- The seal from a table. A byte is moved through by one look into the table, because the register's lower byte only moves up meanwhile: the generator is added where a one falls out, and in eight moves no bit of the lower byte falls out.
use mathlib.Core.Path.{◌≡◌, refl, sym, ap, ◌∙◌}
use mathlib.Core.Logic.{by_cases}
use mathlib.Core.Bool.{true}
use mathlib.Core.List.{List}
use Prim.Native.Nat.{ℕ, zero, suc, ◌+◌, ◌-◌, ◌*◌, ◌/◌, ◌%◌, ◌^◌, ◌<◌}
use native.Mathlib.Decide.{dec_lt}
use native.Mathlib.Nat.{add-zero, zero-add, mul-one, mul_assoc, div-add-mod', pow-suc}
use native.Mathlib.Omega.{arith}
use borrow.Author.Tests.{lt-ltb, le-ltb, eqb-true}
use lib.ListN.{get_or}
use lib.Bits.{bit_xor, xor_zero_r, xor_comm, xor_block, xor_shifted, xor_lt}
use Rattle.paper.proofs.Tests.{every_says}
use Rattle.paper.specs.Vocabulary.{every}
use Rattle.paper.specs.Seal.{generator, seal_bit, seal_bits, seal_byte}
use Rattle.seal.specs.declared.table.TheConstants.{TABLE}
use Rattle.seal.specs.Tabled.{entries, moved, tabled}
use Rattle.seal.proofs.Seal.{bits_lt}
use Rattle.seal.proofs.Xor.{xor_swap, xor_twice}

-- a table that passes the test holds the rule at each entry
pub entry : (t : List ℕ) → tabled t ≡ true → (k : ℕ) → k < entries → get_or t k 0 ≡ moved k
unfolding tabled
entry t e k h = eqb-true _ _ (every_says entries _ e k h)

-- the code's table passes it, which the checker computes
pub table_holds : tabled TABLE ≡ true
unfolding tabled every seal_bits seal_bit
table_holds = refl

pub entry_of : (k : ℕ) → k < entries → get_or TABLE k 0 ≡ moved k
entry_of k = entry TABLE table_holds k

-- what is added below bit 15 leaves it as it is
top_alone : (y l : ℕ) → y < 2 ^ 15 → l < 2 ^ 15 → bit_xor (0x8000 + y) l ≡ 0x8000 + bit_xor y l
top_alone y l hy hl = simp zero-add at (xor_block 15 1 0 y l hy hl)

-- one move: what is added below the highest bit moves up beside it
bit_adds : (x l : ℕ) → x < 2 ^ 16 → l < 2 ^ 15 → seal_bit (bit_xor x l) ≡ bit_xor (seal_bit x) (l * 2)
unfolding seal_bit
bit_adds x l hx hl = by_cases (dec_lt x 0x8000)
    (λ (h : x < 0x8000).
    let s : bit_xor x l < 2 ^ 15 = xor_lt 15 x l (omega arith) hl in
    rw (lt-ltb x 0x8000 h, lt-ltb (bit_xor x l) 0x8000 (omega arith)) (sym (xor_twice x l)))
    (λ h.
    let y = x - 0x8000 in
    let x-is : x ≡ 0x8000 + y = omega arith in
    let e : bit_xor x l ≡ 0x8000 + bit_xor y l = ap (λ (z : ℕ). bit_xor z l) x-is ∙ top_alone y l (omega arith) hl in
    let z : x * 2 - 0x10000 ≡ y * 2 = omega arith in
    let w : bit_xor x l * 2 - 0x10000 ≡ bit_xor y l * 2 = omega arith in
    rw (le-ltb x 0x8000 (omega arith), le-ltb (bit_xor x l) 0x8000 (omega arith), z, w)
    (ap (λ (v : ℕ). bit_xor v generator) (sym (xor_twice y l)) ∙ xor_swap (y * 2) (l * 2) generator))

-- k moves, as long as nothing of what is added falls out
pub bits_add : (k x l : ℕ) → x < 2 ^ 16 → l * 2 ^ k < 2 ^ 16 → seal_bits k (bit_xor x l) ≡ bit_xor (seal_bits k x) (l * 2 ^ k)
unfolding seal_bits
bits_add zero x l hx hl = ap (bit_xor x) (sym (mul-one l))
bits_add (suc k) x l hx hl =
    let e : l * 2 ^ suc k ≡ l * 2 ^ k * 2 = ap (λ (p : ℕ). l * p) (pow-suc 2 k) ∙ sym (mul_assoc l (2 ^ k) 2) in
    let m : l * 2 ^ k < 2 ^ 15 = omega arith in
    rw (e, bits_add k x l hx (omega arith)) (bit_adds (seal_bits k x) (l * 2 ^ k) (bits_lt k x hx) m)

-- what is added to the upper of two bytes leaves the lower one beside it
upper_adds : (h l b : ℕ) → l < 2 ^ 8 → bit_xor (h * 256 + l) (b * 256) ≡ bit_xor (bit_xor h b * 256) l
upper_adds h l b hl =
    simp (add-zero, xor_zero_r) at (xor_block 8 h b l 0 hl (omega arith)) ∙ sym (xor_shifted (bit_xor h b) 8 l hl)

-- a byte: with the register's upper byte it says what falls out, and the lower one moves up
pub byte_adds : (c b : ℕ) → c < 2 ^ 16 → b < 2 ^ 8 → bit_xor (c % 256 * 256) (moved (bit_xor (c / 256) b)) ≡ seal_byte c b
unfolding seal_byte
byte_adds c b hc hb =
    let k = bit_xor (c / 256) b in
    let l = c % 256 in
    let s : k < 2 ^ 8 = xor_lt 8 (c / 256) b (omega arith) hb in
    let e : bit_xor c (b * 256) ≡ bit_xor (k * 256) l = ap (λ (x : ℕ). bit_xor x (b * 256)) (sym (div-add-mod' c 256)) ∙ upper_adds (c / 256) l b (omega arith) in
    rw e (xor_comm (l * 256) (moved k) ∙ sym (bits_add 8 (k * 256) l (omega arith) (omega arith)))
