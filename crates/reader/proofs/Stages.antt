-- What was unpacked by the shape of a file is the file's table and its own words.
use Rattle.std.proofs.Common.{◌≡◌, List, ℕ, ◌∙◌, ap₂, take}
use Rattle.paper.specs.File.{records_in, table_in, own_words}
use Rattle.paper.specs.declared.Table.{Table}
use Rattle.layout.specs.declared.shape.Shape.{Shape}
use Rattle.layout.specs.Editions.{edition_number}
use Rattle.unpack.specs.Unpack.{words_array}
use Rattle.unpack.proofs.Words.{array_front}
use Rattle.file_head.specs.Asks.{IsShape}

pub table_is : (f : List ℕ) (s : Shape) (t : Table) → IsShape f s → (t.n ≡ s.tasks) × (t.records ≡ records_in f (edition_number s.edition) s.tasks) → t ≡ table_in f
table_is f s t u h =
    let tasks : t.n ≡ (table_in f).n = h.0 ∙ u.tasks in
    let records : t.records ≡ (table_in f).records = h.1 ∙ ap₂ (records_in f) u.edition u.tasks in
    λ i. record { n = tasks i; records = records i }

pub own_is : (f : List ℕ) (s : Shape) (ws : List ℕ) → IsShape f s → ws ≡ words_array f (edition_number s.edition) s.tasks s.words → take s.words ws ≡ own_words f
own_is f s ws u h = array_front f (edition_number s.edition) s.tasks s.words h ∙ rw (u.edition, u.tasks, u.words)
