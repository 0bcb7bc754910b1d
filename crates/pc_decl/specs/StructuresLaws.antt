-- The structure of a type by its outermost level, and that its text is the text of what it stands for.
use Rattle.std.proofs.Common.{◌≡◌, ℕ, ℤ, Bool, List, [], ◌∷◌, ◌++◌, map, refl, sym, ap, ◌∙◌}
use Rattle.std.specs.Prelude.{codes}
use Rattle.pc_types.specs.Shapes.{Keyed}
use Rattle.pc_types.specs.Expanded.{Ty, IntTy, TruthTy, LetterTy, NamedTy, SubTy, ArrayTy, RecordTy, SetTy, PointerTy, NoTy, FieldTys, LastTy, FieldTy}
use Rattle.pc_types.specs.Expansions.{IsTy, AreTys}
use Rattle.pc_heads.specs.declared.ty.Ty.{Ty as Head, fold-roll-Ty}
use Rattle.pc_heads.specs.declared.ty.Ty.TheOpen.{Ty-F}
use Rattle.pc_heads.specs.declared.ty.Ty.TheVariants as head
use Rattle.pc_decl.specs.TypeText.{constant_text, packed_text, type_text, fields_text}
use Rattle.pc_decl.specs.Structures.{fields_in, level_of, structure, field_structures, IsWhole, AreWhole}

pub structure-Int : structure head.Int ≡ IntTy
unfolding structure
structure-Int = ap structure (sym head.rolls-Int) ∙ fold-roll-Ty Ty level_of Ty-F.Int

pub structure-Truth : structure head.Truth ≡ TruthTy
unfolding structure
structure-Truth = ap structure (sym head.rolls-Truth) ∙ fold-roll-Ty Ty level_of Ty-F.Truth

pub structure-Letter : structure head.Letter ≡ LetterTy
unfolding structure
structure-Letter = ap structure (sym head.rolls-Letter) ∙ fold-roll-Ty Ty level_of Ty-F.Letter

pub structure-Named : (names : List (List ℕ)) → structure (head.Named names) ≡ NamedTy names
unfolding structure
structure-Named names = ap structure (sym (head.rolls-Named names)) ∙ fold-roll-Ty Ty level_of (Ty-F.Named names)

pub structure-Sub : (host : Head) (low high : ℤ) → structure (head.Sub host low high) ≡ SubTy (structure host) low high
unfolding structure
structure-Sub host low high = ap structure (sym (head.rolls-Sub host low high)) ∙ fold-roll-Ty Ty level_of (Ty-F.Sub host low high)

pub structure-Array : (packed : Bool) (index element : Head) → structure (head.Array packed index element) ≡ ArrayTy packed (structure index) (structure element)
unfolding structure
structure-Array packed index element = ap structure (sym (head.rolls-Array packed index element)) ∙ fold-roll-Ty Ty level_of (Ty-F.Array packed index element)

fields-structures : (fields : List (List ℕ × Head)) → fields_in (map (λ f. (f.0, structure f.1)) fields) ≡ field_structures fields
fields-structures [] = refl
fields-structures (f ∷ fs) = ap (FieldTy f.0 (structure f.1)) (fields-structures fs)

pub structure-Record : (packed : Bool) (fields : List (List ℕ × Head)) → structure (head.Record packed fields) ≡ RecordTy packed (field_structures fields)
unfolding structure
structure-Record packed fields =
    ap structure (sym (head.rolls-Record packed fields)) ∙ fold-roll-Ty Ty level_of (Ty-F.Record packed fields) ∙ ap (RecordTy packed) (fields-structures fields)

pub structure-Set : (packed : Bool) (base : Head) → structure (head.Set packed base) ≡ SetTy packed (structure base)
unfolding structure
structure-Set packed base = ap structure (sym (head.rolls-Set packed base)) ∙ fold-roll-Ty Ty level_of (Ty-F.Set packed base)

pub structure-Pointer : (key : List (List ℕ)) (name : List ℕ) → structure (head.Pointer key name) ≡ PointerTy (Keyed key) name
unfolding structure
structure-Pointer key name = ap structure (sym (head.rolls-Pointer key name)) ∙ fold-roll-Ty Ty level_of (Ty-F.Pointer key name)

-- constants of a type are written the same by its structure
constants-same : (h : Head) (t : Ty) (i : ℤ) → IsTy h t → IsWhole t → constant_text (structure h) i ≡ constant_text t i
constants-same h IntTy i e w = ap (λ (h : Head). constant_text (structure h) i) e ∙ ap (λ (t : Ty). constant_text t i) structure-Int
constants-same h TruthTy i e w = ap (λ (h : Head). constant_text (structure h) i) e ∙ ap (λ (t : Ty). constant_text t i) structure-Truth
constants-same h LetterTy i e w = ap (λ (h : Head). constant_text (structure h) i) e ∙ ap (λ (t : Ty). constant_text t i) structure-Letter
constants-same h (NamedTy ns) i e w = ap (λ (h : Head). constant_text (structure h) i) e ∙ ap (λ (t : Ty). constant_text t i) (structure-Named ns)
constants-same h (SubTy t a b) i (u, e, r) w = ap (λ (h : Head). constant_text (structure h) i) e ∙ ap (λ (t : Ty). constant_text t i) (structure-Sub u a b)
constants-same h (ArrayTy p x t) i (u, v, e, r, q) w = ap (λ (h : Head). constant_text (structure h) i) e ∙ ap (λ (t : Ty). constant_text t i) (structure-Array p u v)
constants-same h (RecordTy p fs) i (us, e, r) w = ap (λ (h : Head). constant_text (structure h) i) e ∙ ap (λ (t : Ty). constant_text t i) (structure-Record p us)
constants-same h (SetTy p t) i (u, e, r) w = ap (λ (h : Head). constant_text (structure h) i) e ∙ ap (λ (t : Ty). constant_text t i) (structure-Set p u)
constants-same h (PointerTy o n) i (key, e, r) w = ap (λ (h : Head). constant_text (structure h) i) e ∙ ap (λ (t : Ty). constant_text t i) (structure-Pointer key n)
constants-same h NoTy i e w = absurd w

-- the text of a type of heads is that of the structure for which it stands
mutual
  pub type_text-same : (h : Head) (t : Ty) → IsTy h t → IsWhole t → type_text (structure h) ≡ type_text t
  type_text-same h IntTy e w = ap (λ (h : Head). type_text (structure h)) e ∙ ap type_text structure-Int
  type_text-same h TruthTy e w = ap (λ (h : Head). type_text (structure h)) e ∙ ap type_text structure-Truth
  type_text-same h LetterTy e w = ap (λ (h : Head). type_text (structure h)) e ∙ ap type_text structure-Letter
  type_text-same h (NamedTy ns) e w = ap (λ (h : Head). type_text (structure h)) e ∙ ap type_text (structure-Named ns)
  type_text-same h (SubTy t a b) (u, e, r) w =
      ap (λ (h : Head). type_text (structure h)) e ∙ ap type_text (structure-Sub u a b)
      ∙ ap (λ (s : List ℕ). s ++ codes ".." ++ constant_text (structure u) b) (constants-same u t a r w)
      ∙ ap (λ (s : List ℕ). constant_text t a ++ codes ".." ++ s) (constants-same u t b r w)
  type_text-same h (ArrayTy p x t) (u, v, e, r, q) w =
      ap (λ (h : Head). type_text (structure h)) e ∙ ap type_text (structure-Array p u v)
      ∙ ap (λ (s : List ℕ). packed_text p ++ codes "array [" ++ s ++ codes "] of " ++ type_text (structure v)) (type_text-same u x r w.0)
      ∙ ap (λ (s : List ℕ). packed_text p ++ codes "array [" ++ type_text x ++ codes "] of " ++ s) (type_text-same v t q w.1)
  type_text-same h (RecordTy p fs) (us, e, r) w =
      ap (λ (h : Head). type_text (structure h)) e ∙ ap type_text (structure-Record p us)
      ∙ ap (λ (s : List ℕ). packed_text p ++ codes "record " ++ s ++ codes "end") (fields_text-same us fs r w)
  type_text-same h (SetTy p t) (u, e, r) w =
      ap (λ (h : Head). type_text (structure h)) e ∙ ap type_text (structure-Set p u)
      ∙ ap (λ (s : List ℕ). packed_text p ++ codes "set of " ++ s) (type_text-same u t r w)
  type_text-same h (PointerTy o n) (key, e, r) w = ap (λ (h : Head). type_text (structure h)) e ∙ ap type_text (structure-Pointer key n)
  type_text-same h NoTy e w = absurd w

  fields_text-same : (us : List (List ℕ × Head)) (fs : FieldTys) → AreTys us fs → AreWhole fs → fields_text (field_structures us) ≡ fields_text fs
  fields_text-same us LastTy e w = ap (λ (us : List (List ℕ × Head)). fields_text (field_structures us)) e
  fields_text-same us (FieldTy n t LastTy) (u, rest, e, r, q) w =
      ap (λ (us : List (List ℕ × Head)). fields_text (field_structures us)) (e ∙ ap (λ (v : List (List ℕ × Head)). (n, u) ∷ v) q)
      ∙ ap (λ (s : List ℕ). n ++ codes ": " ++ s ++ codes " ") (type_text-same u t r w.0)
  fields_text-same us (FieldTy n t (FieldTy m v fs)) (u, rest, e, r, q) w =
      ap (λ (us : List (List ℕ × Head)). fields_text (field_structures us)) (e ∙ ap (λ (z : List (List ℕ × Head)). (n, u) ∷ z) q.2)
      ∙ ap (λ (s : List ℕ). n ++ codes ": " ++ s ++ codes "; " ++ fields_text (field_structures ((m, q.0) ∷ q.1))) (type_text-same u t r w.0)
      ∙ ap (λ (z : List (List ℕ × Head)). n ++ codes ": " ++ type_text t ++ codes "; " ++ fields_text (field_structures z)) (sym q.2)
      ∙ ap (λ (s : List ℕ). n ++ codes ": " ++ type_text t ++ codes "; " ++ s) (fields_text-same rest (FieldTy m v fs) q w.1)
