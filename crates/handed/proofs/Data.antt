-- Types of data that can be copied, with one machine value for each value: what is asked of a parameter's type, and of the type of a struct's first field.
--     Data R           `ty` is its MIR type, the machine value is a function of the value (val, tells), it is seen at exit as it was passed (still), and it is lawful and can be copied in every model
--     number, slice, declared      of an unsigned integer, of a `&[T]` (whose T has the laws of what is shared, `RowLaws`), and of a declared struct or enum, by what its own module says of it
--     part_ty          the MIR type of a `&[T]`
--     Fits τ v         v may be stored in a local of the type τ.        fits      the machine value of data may
-- The laws under a model assume `Logic`.
use mathlib.Core.Path.{◌≡◌, refl, subst}
use mathlib.Core.List.{List, [], ◌∷◌}
use seplogic.Ra.Ura.{Ura}
use lib.Dec.{T as Holds}
use lib.ListN.{length}
use mir.Syntax.{Width, Lifetime, imm, Ty, ty_int, ty_ref}
use mir.Val.{Val, vint, WT, has_ty}
use base.Fml.{Lft}
use types.Logic.{Logic}
use denote.Exit.{yes, unchanged, under}
use denote.RattleType.{RattleType, RowLaws}
use denote.Laws.{Is, Tells, Typed, Lawful, Copy}
use denote.Lowered.{Lowered}
use denote.Memory.{pointee}
use denote.Plain.{UInt, uint_Tells, uint_Lawful, uint_copy}
use denote.Slice.{ShrSlice, slice_ty, slice_val, shr_slice_Tells, shr_slice_Lawful, shr_slice_copy}
use denote.Struct.Field.{Field}
use denote.Struct.Laws.{FLaws, Copyable}
use denote.Struct.Recorded.{Recorded, recorded_lawful, recorded_copy}

abbrev pub Fits : Ty → Val → Type 0
Fits τ v = Holds (has_ty τ v) × WT v

pub record Data (R : RattleType) : Type 2 where
  pub ty : Ty
  pub one : R.mir ≡ ty ∷ []
  pub val : R.Denot → Val
  pub tells : Tells R (Is R) (λ x. val x ∷ [])
  pub still : R.exit yes ≡ unchanged
  pub lawful : {M : Type 1} {𝓤 : Ura M} (𝓛 : Logic 𝓤) → Lawful 𝓛 R
  pub copied : {M : Type 1} {𝓤 : Ura M} (𝓛 : Logic 𝓤) → Copy 𝓛 R

abbrev pub number : (w : Width) → Data (UInt w)
number w = record {
  ty = ty_int w;
  one = refl;
  val = vint w;
  tells = uint_Tells w;
  still = refl;
  lawful = λ 𝓛. uint_Lawful 𝓛 w;
  copied = λ 𝓛. uint_copy 𝓛 w;
}

abbrev pub part_ty : Lifetime → RattleType → Ty
part_ty ℓ Q = slice_ty (ty_ref ℓ imm (pointee Q.written))

abbrev pub slice : (ℓ : Lifetime) (κ : Lft) (Q : RattleType) → RowLaws Q → Data (ShrSlice ℓ κ Q)
slice ℓ κ Q L = record {
  ty = part_ty ℓ Q;
  one = refl;
  val = λ x. slice_val x.ref_ptr (length x.now);
  tells = shr_slice_Tells ℓ κ Q;
  still = refl;
  lawful = λ 𝓛. shr_slice_Lawful 𝓛 ℓ κ Q;
  copied = λ 𝓛. shr_slice_copy 𝓛 ℓ κ Q L;
}

-- a declared type by itself, where F is the type as a field
abbrev row : Field → RattleType
row F = Recorded F.row F.Value F.into F.into_one

abbrev pub declared : (F : Field) → FLaws F → Copyable F → Lowered (row F) → Data (row F)
declared F laws copy low = record {
  ty = low.mir;
  one = low.layout_is;
  val = low.lowered;
  tells = low.val_is;
  still = λ i. under F.into (copy.still yes i);
  lawful = λ 𝓛. recorded_lawful F.row F.Value F.into F.into_one 𝓛 (laws.lawful 𝓛);
  copied = λ {M} {𝓤 = 𝓤} 𝓛. recorded_copy F.row F.Value F.into F.into_one 𝓛 (copy.copies M 𝓤 𝓛);
}

-- the machine value of a `&[T]` may be stored, whatever is known of T
pub slice_fits : (ℓ : Lifetime) (κ : Lft) (Q : RattleType) {M : Type 1} {𝓤 : Ura M} (𝓛 : Logic 𝓤) → (x : (ShrSlice ℓ κ Q).Denot) (v : Val) → Is (ShrSlice ℓ κ Q) x (v ∷ []) → Fits (part_ty ℓ Q) v
slice_fits ℓ κ Q 𝓛 x v is = ((shr_slice_Lawful 𝓛 ℓ κ Q).typed x (v ∷ []) is).0

pub fits : {R : RattleType} (d : Data R) {M : Type 1} {𝓤 : Ura M} (𝓛 : Logic 𝓤) → (x : R.Denot) (v : Val) → Is R x (v ∷ []) → Fits d.ty v
fits d 𝓛 x v is = (subst (λ (τs : List Ty). Typed τs (v ∷ [])) d.one ((d.lawful 𝓛).typed x (v ∷ []) is)).0
