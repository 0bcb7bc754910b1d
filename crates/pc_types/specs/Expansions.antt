-- The type of heads that stands for the structure of a type.
use Rattle.std.specs.Prelude.{◌≡◌, ℕ, List, [], ◌∷◌}
use Rattle.pc_types.specs.Shapes.{Owner, Keyed, Placed}
use Rattle.pc_types.specs.Expanded.{Ty, IntTy, TruthTy, LetterTy, NamedTy, SubTy, ArrayTy, RecordTy, SetTy, PointerTy, NoTy, FieldTys, LastTy, FieldTy}
use Rattle.pc_heads.specs.declared.ty.Ty.{Ty as Head}
use Rattle.pc_heads.specs.declared.ty.Ty.TheVariants as head

-- a routine with a key is written by it; one that has none by the key of a routine around it
abbrev pub IsKeyOf : Owner → List (List ℕ) → Type 0
IsKeyOf (Keyed key) names = names ≡ key
IsKeyOf (Placed place) names = Unit {0}

-- the type of heads has this structure; nothing is said where there is none
abbrev mutual
  pub IsTy : Head → Ty → Type 0
  IsTy h IntTy = h ≡ head.Int
  IsTy h TruthTy = h ≡ head.Truth
  IsTy h LetterTy = h ≡ head.Letter
  IsTy h (NamedTy names) = h ≡ head.Named names
  IsTy h (SubTy host low high) = (u : Head) × (h ≡ head.Sub u low high) × IsTy u host
  IsTy h (ArrayTy packed index element) = (u : Head) × (v : Head) × (h ≡ head.Array packed u v) × IsTy u index × IsTy v element
  IsTy h (RecordTy packed fields) = (us : List (List ℕ × Head)) × (h ≡ head.Record packed us) × AreTys us fields
  IsTy h (SetTy packed base) = (u : Head) × (h ≡ head.Set packed u) × IsTy u base
  IsTy h (PointerTy owner name) = (key : List (List ℕ)) × (h ≡ head.Pointer key name) × IsKeyOf owner key
  IsTy h NoTy = Unit {0}

  pub AreTys : List (List ℕ × Head) → FieldTys → Type 0
  AreTys us LastTy = us ≡ []
  AreTys us (FieldTy name t fields) = (u : Head) × (rest : List (List ℕ × Head)) × (us ≡ (name, u) ∷ rest) × IsTy u t × AreTys rest fields
