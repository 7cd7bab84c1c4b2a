-- A promise allows one part: what it holds, and where it lies. (A reference is no more than these.) And one answer: that part, or the same refusal.
use mathlib.Core.Path.{◌≡◌, sym, ◌∙◌}
use mathlib.Core.List.{List}
use Prim.Native.Nat.{ℕ}
use denote.Ref.{Bor}
use Rattle.std.specs.Prelude.{Result, Ok, Err, IfOk}
use Rattle.paper.specs.declared.Refusal.{Refusal}
use Rattle.paper.specs.declared.Table.{Table}
use Rattle.paper.specs.Regions.{Part}
use Rattle.paper.specs.Refusals.{Outcome}
use Rattle.paper.specs.Answers.{record_outcome, regions_outcome, name_outcome, outcome_of}
use Rattle.parts.specs.Parts.{LiesIn, IsName, AreRegions, IsRecord}

abbrev pub Same : Bor (List ℕ) → Bor (List ℕ) → Type 0
Same r t = (r.now ≡ t.now) × (r.ref_ptr ≡ t.ref_ptr)

module _ {r t : Bor (List ℕ)} where
  pub one_place : {s : Bor (List ℕ)} {size : ℕ} {p : Part} → LiesIn s size p r → LiesIn s size p t → r.ref_ptr ≡ t.ref_ptr
  one_place x y i = ((x.block ∙ sym y.block) i, (x.offset ∙ sym y.offset) i)

  pub one_name : {number : ℕ} {cabinet house : Bor (List ℕ)} → IsName number cabinet house r → IsName number cabinet house t → Same r t
  one_name x y = (x.bytes ∙ sym y.bytes, one_place x.place y.place)

  pub one_regions : {t' : Table} {own catalogue : Bor (List ℕ)} {number : ℕ} → AreRegions t' own catalogue number r → AreRegions t' own catalogue number t → Same r t
  one_regions x y = (x.words ∙ sym y.words, one_place x.place y.place)

  pub one_record : {file : Bor (List ℕ)} {cabinet line : ℕ} {catalogue : List ℕ} {number : ℕ}
      → IsRecord file cabinet line catalogue number r → IsRecord file cabinet line catalogue number t → Same r t
  one_record x y = (x.bytes ∙ sym y.bytes, one_place x.place y.place)

abbrev pub SameAnswer : Result (Bor (List ℕ)) Refusal → Result (Bor (List ℕ)) Refusal → Type 0
SameAnswer (Ok r) (Ok t) = Same r t
SameAnswer (Ok r) (Err f) = ⊥
SameAnswer (Err e) (Ok t) = ⊥
SameAnswer (Err e) (Err f) = e ≡ f

-- Where the promise P of a part allows one part, the two promises of a call, its outcome o and P, allow one answer.
pub one_answer : (o : Outcome) (P : Bor (List ℕ) → Type 0) → ((r t : Bor (List ℕ)) → P r → P t → Same r t) → (a b : Result (Bor (List ℕ)) Refusal)
    → outcome_of a ≡ o → outcome_of b ≡ o → IfOk a P → IfOk b P → SameAnswer a b
one_answer o P one (Ok r) (Ok t) p q x y = one r t x y
one_answer o P one (Ok r) (Err f) p q x y = cc
one_answer o P one (Err f) (Ok t) p q x y = cc
one_answer o P one (Err f) (Err g) p q x y = cc

module _ (a b : Result (Bor (List ℕ)) Refusal) where
  pub one_name_answer : (number : ℕ) (cabinet house : Bor (List ℕ))
      → outcome_of a ≡ name_outcome number cabinet.now house.now → outcome_of b ≡ name_outcome number cabinet.now house.now
      → IfOk a (IsName number cabinet house) → IfOk b (IsName number cabinet house) → SameAnswer a b
  one_name_answer number cabinet house =
      one_answer (name_outcome number cabinet.now house.now) (IsName number cabinet house) (λ r t x y. one_name x y) a b

  pub one_regions_answer : (t : Table) (own catalogue : Bor (List ℕ)) (number : ℕ)
      → outcome_of a ≡ regions_outcome t own.now catalogue.now number → outcome_of b ≡ regions_outcome t own.now catalogue.now number
      → IfOk a (AreRegions t own catalogue number) → IfOk b (AreRegions t own catalogue number) → SameAnswer a b
  one_regions_answer t own catalogue number =
      one_answer (regions_outcome t own.now catalogue.now number) (AreRegions t own catalogue number) (λ r s x y. one_regions x y) a b

  pub one_record_answer : (file : Bor (List ℕ)) (cabinet line : ℕ) (catalogue : List ℕ) (number : ℕ)
      → outcome_of a ≡ record_outcome file.now cabinet line catalogue number → outcome_of b ≡ record_outcome file.now cabinet line catalogue number
      → IfOk a (IsRecord file cabinet line catalogue number) → IfOk b (IsRecord file cabinet line catalogue number) → SameAnswer a b
  one_record_answer file cabinet line catalogue number =
      one_answer (record_outcome file.now cabinet line catalogue number) (IsRecord file cabinet line catalogue number) (λ r t x y. one_record x y) a b
