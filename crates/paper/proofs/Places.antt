-- The layouts place by place: the bit that each field of the head and of a record begins at, and its width.
use Prim.Native.Nat.{ℕ, ◌+◌}
use native.Mathlib.Nat.{add_assoc}
use mathlib.Core.Path.{◌≡◌, refl}
use mathlib.Core.Bool.{Bool, true, false, cond}
use mathlib.Core.List.{List, [], ◌∷◌, ◌++◌}
use lib.Dec.{eqb}
use lib.ListN.{get_or}
use Rattle.paper.specs.Bits.{field, fields_at}
use Rattle.paper.specs.File.{head_fields, edition_in, cabinet_in, line_in, tasks_in, words_in, in_edition, used_widths, record_widths, source_of, record_from, spare_from}

pub record Head (f : List ℕ) : Type 0 where
  pub edition : edition_in f ≡ field f 0 4
  pub spare : get_or (head_fields f) 1 0 ≡ field f 4 4
  pub cabinet : cabinet_in f ≡ field f 8 24
  pub line : line_in f ≡ field f 32 16
  pub tasks : tasks_in f ≡ field f 48 8
  pub words : words_in f ≡ field f 56 8

pub head_places : (f : List ℕ) → Head f
head_places f = record { edition = refl; spare = refl; cabinet = refl; line = refl; tasks = refl; words = refl }

-- A record that begins at bit `at`, in both editions (e is the edition): its fields, and the last, its spare bits
module _ (f : List ℕ) (e at : ℕ) where
  abbrev field_from : ℕ → ℕ → ℕ
  field_from from width = field f (at + from) width

  -- its fields where the test for edition 2 says b
  abbrev fields : Bool → List ℕ
  fields b = fields_at f at (used_widths ++ cond b (20 ∷ 10 ∷ []) (6 ∷ []))

  jitter_place : (b : Bool) → cond b (get_or (fields b) 9 0) 0 ≡ cond b (field_from 90 20) 0
  jitter_place true = simp add_assoc
  jitter_place false = refl

  pub record_places : record_from e (fields_at f at (record_widths e)) ≡ record {
    cost = field f at 20;
    period = field_from 20 20;
    deadline = field_from 40 20;
    priority = field_from 60 4;
    threshold = field_from 64 4;
    source = source_of (field_from 68 1);
    first = field_from 69 7;
    count = field_from 76 7;
    name = field_from 83 7;
    jitter = in_edition e 0 (field_from 90 20);
  }
  record_places = rw (← jitter_place (eqb e 2)) (simp add_assoc)

  pub spare_place : spare_from e (fields_at f at (record_widths e)) ≡ in_edition e (field_from 90 6) (field_from 110 10)
  spare_place = go (eqb e 2)
    where
      go : (b : Bool) → cond b (get_or (fields b) 10 0) (get_or (fields b) 9 0) ≡ cond b (field_from 110 10) (field_from 90 6)
      go true = simp add_assoc
      go false = simp add_assoc
