-- What a part handed back is: its contents, and where it lies in the caller's own memory. A copy, or a part of another list, is none, even where its contents are the same.
-- A reference is where it points (a block of memory and an offset in bytes), and what it refers to now.
use Rattle.std.specs.Prelude.{ℕ, ◌+◌, ◌*◌, ◌≡◌, cond, List}
use Rattle.std.specs.Borrow.{Bor}
use Rattle.paper.specs.Regions.{Part, part_of, in_cabinet_list}
use Rattle.paper.specs.Answers.{record_place, record_bytes, name_place, name_bytes, regions_source, regions_place, regions_words}
use Rattle.paper.specs.declared.Source.{Source}
use Rattle.paper.specs.declared.Source.TheVariants.{Own, Catalogue}
use Rattle.paper.specs.declared.Table.{Table}

-- r begins where the part p of the lent slice s begins; an element is `size` bytes wide
pub record LiesIn (s : Bor (List ℕ)) (size : ℕ) (p : Part) (r : Bor (List ℕ)) : Type 0 where
  pub block : r.ref_ptr.0 ≡ s.ref_ptr.0
  pub offset : r.ref_ptr.1 ≡ s.ref_ptr.1 + p.from * size

-- the part p of the lent slice s
pub record IsPart (s : Bor (List ℕ)) (size : ℕ) (p : Part) (r : Bor (List ℕ)) : Type 0 where
  pub contents : r.now ≡ part_of p s.now
  pub place : LiesIn s size p r

-- a name: in the cabinet's list or in the house list, by its number
pub record IsName (number : ℕ) (cabinet house r : Bor (List ℕ)) : Type 0 where
  pub bytes : r.now ≡ name_bytes number cabinet.now house.now
  pub place : LiesIn (cond (in_cabinet_list number) cabinet house) 1 (name_place number cabinet.now house.now) r

-- a task's regions: in the own words or in the catalogue, whichever the record names
abbrev pub slice_of : Source → Bor (List ℕ) → Bor (List ℕ) → Bor (List ℕ)
slice_of Own own catalogue = own
slice_of Catalogue own catalogue = catalogue

pub record AreRegions (t : Table) (own catalogue : Bor (List ℕ)) (number : ℕ) (r : Bor (List ℕ)) : Type 0 where
  pub words : r.now ≡ regions_words t own.now catalogue.now number
  pub place : LiesIn (slice_of (regions_source t own.now catalogue.now number) own catalogue) 4 (regions_place t own.now catalogue.now number) r

-- a record: in the caller's own file
pub record IsRecord (file : Bor (List ℕ)) (cabinet line : ℕ) (catalogue : List ℕ) (number : ℕ) (r : Bor (List ℕ)) : Type 0 where
  pub bytes : r.now ≡ record_bytes file.now cabinet line catalogue number
  pub place : LiesIn file 1 (record_place file.now cabinet line catalogue number) r
