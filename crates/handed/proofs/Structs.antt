-- A struct of two fields, the second a `&[Q]`: what a function that hands a part back makes, and what its caller takes apart.
--     pair, two, two_fits      its MIR type, its machine value, and that the value is of the type
--     both O B o b w           what a struct w of o and b owns
--     Pair P O Q               P a is such a struct at the lifetime a, with O for its first field: how it is made, its fields, and that it owns what the two own
use mathlib.Core.Path.{◌≡◌}
use mathlib.Core.List.{List, [], ◌∷◌}
use mir.Facts.{yes_and}
use mir.Syntax.{Sym, Ty, ty_struct, tnil, tcons}
use mir.Val.{Val, vstruct, vnil, vcons, has_ty}
use base.Fml.{Fml}
use denote.RattleType.{RattleType, owns}
use denote.Ref.{NamedLft, Bor}
use denote.Signature.Struct.{in_struct}
use denote.Slice.{ShrSlice}
use Rattle.handed.proofs.Data.{Fits}

abbrev pub pair : Sym → Ty → Ty → Ty
pair ν σ τ = ty_struct ν (tcons σ (tcons τ tnil))

abbrev pub two : Val → Val → Val
two u v = vstruct (vcons u (vcons v vnil))

pub two_fits : (ν : Sym) (σ τ : Ty) (u v : Val) → Fits σ u → Fits τ v → Fits (pair ν σ τ) (two u v)
two_fits ν σ τ u v p q = (yes_and (has_ty σ u) _ p.0 (yes_and (has_ty τ v) _ q.0 tt), (p.1, (q.1, tt)))

abbrev pub both : (O B : RattleType) → O.Denot → B.Denot → Val → Fml
both O B o b w = in_struct (O ∷ B ∷ []) (w ∷ []) (owns (O ∷ B ∷ []) (o, (b, tt)))

pub record Pair (P : NamedLft → RattleType) (O Q : RattleType) : Type 2 where
  pub made : (a : NamedLft) → O.Denot → Bor (List Q.Denot) → (P a).Denot
  pub fst : (a : NamedLft) → (P a).Denot → O.Denot
  pub snd : (a : NamedLft) → (P a).Denot → Bor (List Q.Denot)
  pub makes : (a : NamedLft) (o : O.Denot) (b : Bor (List Q.Denot)) (w : Val) → (P a).own_val (made a o b) (w ∷ []) ≡ both O (ShrSlice a.mir a.lft Q) o b w
  pub takes : (a : NamedLft) (r : (P a).Denot) (w : Val) → (P a).own_val r (w ∷ []) ≡ both O (ShrSlice a.mir a.lft Q) (fst a r) (snd a r) w
