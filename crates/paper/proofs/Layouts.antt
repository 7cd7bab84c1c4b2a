-- The rules for a record's fields, once over both layouts (e is the edition): its values make the record again, and say that its spare bits are clear;
-- and fields whose spare bits are clear are the values of the record that they make.
use mathlib.Core.Path.{◌≡◌, refl}
use mathlib.Core.Bool.{Bool, true, false, cond}
use mathlib.Core.List.{List, [], ◌∷◌, ◌++◌}
use Prim.Native.Nat.{ℕ, zero, suc, ◌<◌}
use native.Mathlib.Omega.{arith}
use lib.Dec.{eqb}
use lib.ListN.{get_or}
use Rattle.paper.specs.Bits.{fields_at}
use Rattle.paper.specs.File.{in_edition, used_widths, used_values, record_widths, record_values, record_from, spare_from, source_bit, source_of}
use Rattle.paper.specs.declared.Source.{Source}
use Rattle.paper.specs.declared.Source.TheVariants.{Own, Catalogue}
use Rattle.paper.specs.declared.Record.{Record}

source_back : (q : Source) → source_of (source_bit q) ≡ q
source_back Own = refl
source_back Catalogue = refl

source-bit : (b : ℕ) → b < 2 → source_bit (source_of b) ≡ b
source-bit zero h = refl
source-bit (suc zero) h = refl
source-bit (suc (suc b)) h = absurd (omega arith)

module _ (e : ℕ) (r : Record) where
  jitter_back : in_edition e 0 (get_or (record_values e r) 9 0) ≡ in_edition e 0 r.jitter
  jitter_back = go (eqb e 2)
    where
      go : (b : Bool) → cond b (get_or (used_values r ++ cond b (r.jitter ∷ 0 ∷ []) (0 ∷ [])) 9 0) 0 ≡ cond b r.jitter 0
      go true = refl
      go false = refl

  -- a J that the edition has a place for: any in edition 2, 0 in edition 1
  pub record_back : in_edition e 0 r.jitter ≡ r.jitter → record_from e (record_values e r) ≡ r
  record_back h = rw (jitter_back, h, source_back r.source)

  pub spare_back : spare_from e (record_values e r) ≡ 0
  spare_back = go (eqb e 2)
    where
      go : (b : Bool) → let vs = used_values r ++ cond b (r.jitter ∷ 0 ∷ []) (0 ∷ []) in cond b (get_or vs 10 0) (get_or vs 9 0) ≡ 0
      go true = refl
      go false = refl

pub values_back : (s : List ℕ) (at e : ℕ) → let vs = fields_at s at (record_widths e) in
    get_or vs 5 0 < 2 → spare_from e vs ≡ 0 → record_values e (record_from e vs) ≡ vs
values_back s at e l z = go (eqb e 2) z
  where
    go : (b : Bool) → let vs = fields_at s at (used_widths ++ cond b (20 ∷ 10 ∷ []) (6 ∷ [])) in
        cond b (get_or vs 10 0) (get_or vs 9 0) ≡ 0
        → used_values (record_from e vs) ++ cond b (cond b (get_or vs 9 0) 0 ∷ 0 ∷ []) (0 ∷ []) ≡ vs
    go true z = rw (source-bit _ l, z)
    go false z = rw (source-bit _ l, z)
