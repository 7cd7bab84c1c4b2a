-- The least fixed point of a function that never falls, by the bounded search of the definitions and by climbing to it.
use Rattle.std.specs.Prelude.{None, Option, Some}
use Prim.Native.Nat.{ℕ, zero, suc, ◌+◌, ◌-◌, ◌≤◌, ◌<◌}
use mathlib.Core.Path.{◌≡◌, refl, ap, ap₂, sym, ◌∙◌}
use mathlib.Core.Bool.{Bool, true, false}
use mathlib.Core.Logic.{⊎_elim}
use native.Mathlib.Decide.{dec_le, dec_lt}
use native.Mathlib.Omega.{arith}
use native.Mathlib.Nat.{le_refl, le_trans, eq-or-lt_of_le}
use lib.Dec.{leb, eqb}
use borrow.Author.Tests.{eq-eqb, ne_eqb, eqb-true, leb-true, le-leb}
use Rattle.paper.specs.Vocabulary.{some}
use Rattle.paper.specs.Numbers.{horizon}
use Rattle.paper.specs.Analysis.{least, within}
use Rattle.paper.proofs.Tests.{some_says, some_there}
use Rattle.paper.proofs.Searched.{searched}

-- the search

pub least_hit : (test : ℕ → Bool) (from n : ℕ) → test from ≡ true → least test from (suc n) ≡ Some from
unfolding least
least_hit test from n e = rw (e, least)

pub least_miss : (test : ℕ → Bool) (from n : ℕ) → test from ≡ false → least test from (suc n) ≡ least test (suc from) n
unfolding least
least_miss test from n e = rw (e, least)

-- nothing is left to search
pub least_none : (test : ℕ → Bool) (from n : ℕ) → n ≡ 0 → least test from n ≡ None
unfolding least
least_none test from n e = rw e

-- what fails need not be tried
pub least_skip : (test : ℕ → Bool) (from k n : ℕ) → ((y : ℕ) → from ≤ y → y < from + k → test y ≡ false) → least test from (k + n) ≡ least test (from + k) n
least_skip test from zero n h =
    let e : zero + n ≡ n = omega arith in
    let f : from + zero ≡ from = omega arith in
    rw (e, f)
least_skip test from (suc k) n h =
    let e : suc k + n ≡ suc (k + n) = omega arith in
    let f : from + suc k ≡ suc from + k = omega arith in
    rw (e, f)
    (least_miss test from (k + n) (h from (le_refl from) (omega arith)) ∙ least_skip test (suc from) k n (λ y a b. h y (omega arith) (omega arith)))

pub least_found : (test : ℕ → Bool) (from n x : ℕ) → from ≤ x → x < from + n → test x ≡ true → ((y : ℕ) → from ≤ y → y < x → test y ≡ false) → least test from n ≡ Some x
least_found test from zero x lo hi hit miss = absurd (omega arith)
least_found test from (suc n) x lo hi hit miss =
    ⊎_elim
    (λ e. least_hit test from n (rw e hit) ∙ ap Some e)
    (λ l.
    least_miss test from n (miss from (le_refl from) l)
    ∙ least_found test (suc from) n x l (omega arith) hit (λ y a b. miss y (omega arith) b))
    (eq-or-lt_of_le lo)

pub least_beyond : (test : ℕ → Bool) (from n : ℕ) → ((y : ℕ) → from ≤ y → y < from + n → test y ≡ false) → least test from n ≡ None
unfolding least
least_beyond test from zero miss = refl
least_beyond test from (suc n) miss =
    least_miss test from n (miss from (le_refl from) (omega arith))
    ∙ least_beyond test (suc from) n (λ y a b. miss y (omega arith) (omega arith))

-- tests that agree from `from` on give the same answer
pub least_same : (test other : ℕ → Bool) (from n : ℕ) → ((x : ℕ) → from ≤ x → test x ≡ other x) → least test from n ≡ least other from n
unfolding least
least_same test other from zero h = refl
least_same test other from (suc n) h =
    ap₂ (λ b t. elim b as (λ _. Option ℕ) [ true ↦ Some from | false ↦ t ])
    (h from (le_refl from))
    (least_same test other (suc from) n (λ x l. h x (omega arith)))

-- fixed points

abbrev pub Mono : (ℕ → ℕ) → Type 0
Mono f = (x y : ℕ) → x ≤ y → f x ≤ f y

abbrev pub fixed : (ℕ → ℕ) → ℕ → Bool
fixed f x = eqb x (f x)

-- every fixed point from `from` on is at least x
abbrev pub Under : (ℕ → ℕ) → ℕ → ℕ → Type 0
Under f from x = (y : ℕ) → from ≤ y → y ≡ f y → x ≤ y

under_step : (f : ℕ → ℕ) (from x : ℕ) → Mono f → Under f from x → Under f from (f x)
under_step f from x m u y l e = omega (arith, m x y (u y l e))

-- the search may start at x: from there it tries what is left
pub under_skip : (f : ℕ → ℕ) (from x n : ℕ) → Under f from x → from ≤ x → least (fixed f) from n ≡ least (fixed f) x (from + n - x)
under_skip f from x n u l = go (dec_le x (from + n))
  where
    low : (y : ℕ) → from ≤ y → y < x → fixed f y ≡ false
    low y a b = ne_eqb y (f y) (λ s. omega (arith, u y a s))

    go : Dec (x ≤ from + n) → least (fixed f) from n ≡ least (fixed f) x (from + n - x)
    go (yes h) =
        let p : n ≡ x - from + (from + n - x) = omega arith in
        let q : from + (x - from) ≡ x = omega arith in
        ap (least (fixed f) from) p
        ∙ least_skip (fixed f) from (x - from) (from + n - x) (λ y a b. low y a (omega arith))
        ∙ ap (λ z. least (fixed f) z (from + n - x)) q
    go (no h) =
        least_beyond (fixed f) from n (λ y a b. low y a (omega arith))
        ∙ sym (least_none (fixed f) x (from + n - x) (omega arith))

-- The loop x := f x from `from` up to the horizon: its invariant, and a law for each of its steps.
pub record Climb (f : ℕ → ℕ) (from x : ℕ) : Type 0 where
  pub low : from ≤ x
  pub high : x ≤ horizon
  pub rises : x ≤ f x
  pub under : Under f from x

module _ (f : ℕ → ℕ) (from : ℕ) where
  pub climb_start : from ≤ horizon → from ≤ f from → Climb f from from
  climb_start h r = record { low = le_refl from; high = h; rises = r; under = λ y l e. l }

  -- y is the next x; from here the search tries as many numbers as lead to the horizon
  module _ (x y : ℕ) (k : Climb f from x) (e : y ≡ f x) where
    pub climb_again : Mono f → y ≤ horizon → Climb f from y
    climb_again m h =
        record {
          low = omega arith;
          high = h;
          rises = omega (arith, m x y (omega arith));
          under = rw e (under_step f from x m k.under);
        }

    pub climb_less : (y ≡ x → ⊥) → y ≤ horizon → horizon - y < horizon - x
    climb_less d h = omega arith

    pub climb_found : (n : ℕ) → from + n ≡ horizon + 1 → y ≡ x → Some x ≡ least (fixed f) from n
    climb_found n c s =
        sym
        (least_found (fixed f) from n x k.low (omega arith) (eq-eqb x (f x) (omega arith)) (λ z a b.
        ne_eqb z (f z) (λ q. omega (arith, k.under z a q))))

    pub climb_beyond : (n : ℕ) → from + n ≡ horizon + 1 → Mono f → horizon < y → None ≡ least (fixed f) from n
    climb_beyond n c m h =
        sym (least_beyond (fixed f) from n (λ z a b. ne_eqb z (f z) (λ q. omega (arith, under_step f from x m k.under z a q))))

-- the least fixed point from `from` on is found, and is at most x
pub record Found (f : ℕ → ℕ) (from n x : ℕ) : Type 0 where
  pub z : ℕ
  pub is : least (fixed f) from n ≡ Some z
  pub low : from ≤ z
  pub high : z ≤ x
  pub fix : z ≡ f z

-- there is one up to x wherever f doesn't rise at x
pub found : (f : ℕ → ℕ) (from n x : ℕ) → Mono f → from ≤ f from → from ≤ x → x < from + n → f x ≤ x → Found f from n x
found f from zero x m r lo hi e = absurd (omega arith)
found f from (suc n) x m r lo hi e =
    ⊎_elim
    (λ q. record { z = from; is = least_hit _ from n (eq-eqb from (f from) q); low = le_refl from; high = lo; fix = q })
    (λ q. miss q (λ l. found f (suc from) n x m (le_trans q (m from (suc from) (omega arith))) l (omega arith) e))
    (eq-or-lt_of_le r)
  where
    miss : from < f from → (from < x → Found f (suc from) n x) → Found f from (suc n) x
    miss q go =
        let w = go (⊎_elim (λ s. absurd (omega (arith, ap f s))) (λ s. s) (eq-or-lt_of_le lo)) in
        record {
          z = w.z;
          is = least_miss _ from n (ne_eqb from (f from) (λ s. omega arith)) ∙ w.is;
          low = omega (arith, w.low);
          high = w.high;
          fix = w.fix;
        }

-- so the least is at most every x at which f doesn't rise
pub least_under : (f : ℕ → ℕ) (from n s : ℕ) → Mono f → from ≤ f from → least (fixed f) from n ≡ Some s → (x : ℕ) → from ≤ x → f x ≤ x → s ≤ x
least_under f from n s m r e x lo h = go (dec_lt x (from + n))
  where
    go : Dec (x < from + n) → s ≤ x
    go (yes l) = let w = found f from n x m r lo l h in let q : s ≡ w.z = cc w.is in omega (arith, w.high)
    go (no l) = omega (arith, (searched (fixed f) from n s e).high)

-- and rises with f: of a larger g every fixed point is at least what g makes of f's least
pub under_larger : (f g : ℕ → ℕ) (from n s : ℕ) → Mono f → Mono g → from ≤ f from → ((x : ℕ) → f x ≤ g x) → least (fixed f) from n ≡ Some s → Under g from (g s)
under_larger f g from n s mf mg r h e y l q =
    omega (arith, mg s y (least_under f from n s mf r e y l (omega (arith, h y))))

-- Some t from 1 to n has f t ≤ t exactly where the least fixed point from 1 on is at most n: the one is searched for, the other climbed to.
pub some_least : (f : ℕ → ℕ) (n : ℕ) → Mono f → 1 ≤ f 1 → n ≤ horizon → some n (λ t. leb (f t) t) ≡ within (least (fixed f) 1 horizon) n
unfolding within
some_least f n m r near = go (some n (λ t. leb (f t) t)) refl
  where
    missed : (z : Option ℕ) → least (fixed f) 1 horizon ≡ z → some n (λ t. leb (f t) t) ≡ false → false ≡ within z n
    missed (Some s) e none = ends (leb s n) refl
      where
        ends : (b : Bool) → leb s n ≡ b → false ≡ b
        ends true h =
            let w = searched (fixed f) 1 horizon s e in
            let at : s ≡ f s = eqb-true s (f s) w.hit in
            sym none ∙ some_there n (λ t. leb (f t) t) s w.low (leb-true s n h) (le-leb (f s) s (omega arith))
        ends false h = refl
    missed None e none = refl

    go : (b : Bool) → some n (λ t. leb (f t) t) ≡ b → b ≡ within (least (fixed f) 1 horizon) n
    go true e =
        let t = some_says n (λ t. leb (f t) t) e in
        let w = found f 1 horizon t.0 m r t.1 (omega (arith, t.2)) (leb-true (f t.0) t.0 t.3) in
        rw w.is (sym (le-leb w.z n (omega (arith, w.high, t.2))))
    go false e = missed (least (fixed f) 1 horizon) refl e
