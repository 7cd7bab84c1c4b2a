-- Document 01, "A task's regions" (in "The file, bit by bit") and "Parts handed back"; by document 02 the last region (item 2) and records of edition 2 (item 9).
use Rattle.std.specs.Prelude.{ℕ, zero, suc, ◌+◌, ◌-◌, ◌*◌, Bool, ◌&&◌, cond, List, leb, ltb, eqb, get_or, length, take, drop}
use Rattle.paper.specs.Vocabulary.{every, sum_to}
use Rattle.paper.specs.Numbers.{ticks_in_range, rec}
use Rattle.paper.specs.File.{record_size}
use Rattle.paper.specs.declared.Source.{Source}
use Rattle.paper.specs.declared.Source.TheVariants.{Own, Catalogue}
use Rattle.paper.specs.declared.Record.{Record}

-- A task's regions are `count` words from `first`, in the file's own region words or in a lent catalogue of region lengths
abbrev pub list_of : Source → List ℕ → List ℕ → List ℕ
list_of Own own catalogue = own
list_of Catalogue own catalogue = catalogue

-- each of `count` words from `first` is in range
abbrev pub words_in_range : List ℕ → ℕ → ℕ → Bool
words_in_range list first count = every count (λ i. ticks_in_range (get_or list (first + i) 0))

abbrev pub words_sum : List ℕ → ℕ → ℕ → ℕ
words_sum list first count = sum_to count (λ i. get_or list (first + i) 0)

-- Count is at least 1, first and count are at most 127, all words lie inside the list, each word is in range, and they add up to C
unfoldable pub regions_hold : List ℕ → ℕ → ℕ → ℕ → Bool
regions_hold list first count c =
    leb 1 count && (leb first 127 && (leb count 127 && (leb (first + count) (length list) &&
    (words_in_range list first count && eqb (words_sum list first count) c))))

abbrev pub record_regions_hold : List ℕ → List ℕ → Record → Bool
record_regions_hold own catalogue r = regions_hold (list_of r.source own catalogue) r.first r.count r.cost

-- Every own region word is in range, named by a record or not; catalogue words that no record names aren't looked at
unfoldable pub all_regions_hold : List Record → ℕ → List ℕ → List ℕ → Bool
all_regions_hold rs n own catalogue =
    words_in_range own 0 (length own) && every n (λ k. record_regions_hold own catalogue (rec rs k))

-- A part of a list: `count` elements from `from`. An empty part, as a refusal has it, stands at the list's start.
pub record Part : Type 0 where
  pub from : ℕ
  pub count : ℕ

module _ {A : Type 0} where
  abbrev pub part_of : Part → List A → List A
  part_of p list = take p.count (drop p.from list)

abbrev pub no_part : Part
no_part = record { from = 0; count = 0 }

-- The record asked for, number k counted from 1, comes back as the twelve bytes of the caller's own file, never a copy;
-- as fifteen bytes in edition 2 (document 02, item 9), where each stands behind others of that size
abbrev pub record_part : ℕ → ℕ → Part
record_part e k = record { from = 8 + record_size e * (k - 1); count = record_size e }

-- A task's regions come back as a part of the file's region words or of the catalogue, whichever the record names
abbrev pub regions_part : Record → Part
regions_part r = record { from = r.first; count = r.count }

-- The last region comes back as a one-word part of the list it came from (document 02, item 2). A task has a region at least, or 11 turns the call away
abbrev pub last_part : Record → Part
last_part r = record { from = r.first + r.count - 1; count = 1 }

-- Names are 16-byte entries: numbers below 64 stand in the cabinet's name list, the others (less 64) in the house list
abbrev pub name_width : ℕ
name_width = 16

abbrev pub in_cabinet_list : ℕ → Bool
in_cabinet_list number = ltb number 64

abbrev pub name_list : ℕ → List ℕ → List ℕ → List ℕ
name_list number cabinet house = cond (in_cabinet_list number) cabinet house

abbrev pub name_start : ℕ → ℕ
name_start number = name_width * cond (in_cabinet_list number) number (number - 64)

-- the name comes back without its trailing spaces: how many of the `width` bytes from `at` stay
unfoldable pub trimmed : List ℕ → ℕ → ℕ → ℕ
trimmed s at zero = 0
trimmed s at (suc width) = cond (eqb (get_or s (at + width) 0) 32) (trimmed s at width) (suc width)

abbrev pub name_part : ℕ → List ℕ → Part
name_part number list = record { from = name_start number; count = trimmed list (name_start number) name_width }
