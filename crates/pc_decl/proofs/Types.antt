-- The text of a type, piece by piece.
use Rattle.std.proofs.Common.{◌≡◌, ℕ, Bool, ◌+◌, ◌-◌, ◌<◌, ◌≤◌, List, [], ◌∷◌, ◌++◌, length, get_or, drop, inl, refl, sym, ap, ◌∙◌, append-nil, length-drop, arith, subst}
use Rattle.std.proofs.lemmas.List.{drop_more, drop_all}
use Rattle.std.specs.Prelude.{codes}
use Rattle.pc_types.specs.Expanded.{Ty, SetTy, ArrayTy, RecordTy, FieldTys}
use Rattle.pc_heads.specs.declared.ty.Ty.{Ty as Head}
use Rattle.pc_views.specs.Limit.{text_limit, Agrees}
use Rattle.pc_decl.specs.TypeText.{packed_text, type_text, fields_text}
use Rattle.pc_decl.specs.Structures.{structure, field_structures}
use Rattle.pc_decl.specs.Pieces.{behind_field}
use Rattle.pc_decl.specs.AgreesLaws.{agrees-stopped, agrees-trans, agrees-then}

-- the text of a type whose structure is known
pub type-of : (text text' : List ℕ) (h : Head) (t : Ty) → structure h ≡ t → Agrees text' (text ++ type_text t) → Agrees text' (text ++ type_text (structure h))
type-of text text' h t is there = subst (λ (u : Ty). Agrees text' (text ++ type_text u)) (sym is) there

pub array-of : (t0 t1 t2 t3 t4 : List ℕ) (p : Bool) (x e : Ty) → t1 ≡ t0 ++ (packed_text p ++ codes "array [") → Agrees t2 (t1 ++ type_text x) →
    t3 ≡ t2 ++ codes "] of " → Agrees t4 (t3 ++ type_text e) → Agrees t4 (t0 ++ type_text (ArrayTy p x e))
array-of t0 t1 t2 t3 t4 p x e a b c d =
    let first : Agrees t2 (t0 ++ (packed_text p ++ codes "array [" ++ type_text x)) = agrees-then t0 t1 t2 (packed_text p ++ codes "array [") (type_text x) (inl a) b in
    let second : Agrees t3 (t0 ++ (packed_text p ++ codes "array [" ++ type_text x ++ codes "] of ")) = agrees-then t0 t2 t3 (packed_text p ++ codes "array [" ++ type_text x) (codes "] of ") first (inl c) in
    agrees-then t0 t3 t4 (packed_text p ++ codes "array [" ++ type_text x ++ codes "] of ") (type_text e) second d

pub record-of : (t0 t1 t2 t3 : List ℕ) (p : Bool) (fs : FieldTys) → t1 ≡ t0 ++ (packed_text p ++ codes "record ") → Agrees t2 (t1 ++ fields_text fs) →
    t3 ≡ t2 ++ codes "end" → Agrees t3 (t0 ++ type_text (RecordTy p fs))
record-of t0 t1 t2 t3 p fs a b c =
    let first : Agrees t2 (t0 ++ (packed_text p ++ codes "record " ++ fields_text fs)) = agrees-then t0 t1 t2 (packed_text p ++ codes "record ") (fields_text fs) (inl a) b in
    agrees-then t0 t2 t3 (packed_text p ++ codes "record " ++ fields_text fs) (codes "end") first (inl c)

pub set-of : (t0 t1 t2 : List ℕ) (p : Bool) (b : Ty) → t1 ≡ t0 ++ (packed_text p ++ codes "set of ") → Agrees t2 (t1 ++ type_text b) → Agrees t2 (t0 ++ type_text (SetTy p b))
set-of t0 t1 t2 p b first second = agrees-then t0 t1 t2 (packed_text p ++ codes "set of ") (type_text b) (inl first) second

-- the text of fields
abbrev pub fields_of : List (List ℕ × Head) → List ℕ
fields_of fields = fields_text (field_structures fields)

-- the text of a field, where so many are left behind it
abbrev field_of : List ℕ × Head → ℕ → List ℕ
field_of f left = f.0 ++ codes ": " ++ type_text (structure f.1) ++ behind_field left

fields-cons : (f : List ℕ × Head) (fields : List (List ℕ × Head)) → fields_of (f ∷ fields) ≡ field_of f (length fields) ++ fields_of fields
fields-cons f [] = sym (append-nil (field_of f 0))
fields-cons f (g ∷ fields) = refl

-- with one more field there, those behind it are left
pub fields-more : (t0 t1 t2 t3 whole : List ℕ) (i left left' : ℕ) (fields : List (List ℕ × Head)) (f : List ℕ × Head) →
    i < length fields → f ≡ get_or fields i f → left + i ≡ length fields → left' ≡ left - 1 →
    Agrees (t0 ++ fields_of (drop i fields)) whole → t1 ≡ t0 ++ (f.0 ++ codes ": ") → Agrees t2 (t1 ++ type_text (structure f.1)) →
    t3 ≡ t2 ++ behind_field left' → Agrees (t3 ++ fields_of (drop (i + 1) fields)) whole
fields-more t0 t1 t2 t3 whole i left left' fields f below is count less before a b c =
    let rest : List (List ℕ × Head) = drop (i + 1) fields in
    let number : left' ≡ length rest = omega (arith, count, less, below, length-drop (i + 1) fields) in
    let first : drop i fields ≡ f ∷ rest = drop_more fields i f below ∙ ap (λ (g : List ℕ × Head). g ∷ rest) (sym is) in
    let same : t0 ++ fields_of (drop i fields) ≡ t0 ++ (field_of f left' ++ fields_of rest) =
    ap (λ (gs : List (List ℕ × Head)). t0 ++ fields_of gs) first
    ∙ ap (λ (bs : List ℕ). t0 ++ bs) (fields-cons f rest ∙ ap (λ (n : ℕ). field_of f n ++ fields_of rest) (sym number)) in
    let typed : Agrees t2 (t0 ++ (f.0 ++ codes ": " ++ type_text (structure f.1))) = agrees-then t0 t1 t2 (f.0 ++ codes ": ") (type_text (structure f.1)) (inl a) b in
    let ended : Agrees t3 (t0 ++ field_of f left') = agrees-then t0 t2 t3 (f.0 ++ codes ": " ++ type_text (structure f.1)) (behind_field left') typed (inl c) in
    let own : Agrees (t3 ++ fields_of rest) (t0 ++ (field_of f left' ++ fields_of rest)) = agrees-then t0 t3 (t3 ++ fields_of rest) (field_of f left') (fields_of rest) ended (inl refl) in
    agrees-trans (t3 ++ fields_of rest) (t0 ++ (field_of f left' ++ fields_of rest)) whole own (subst (λ (bs : List ℕ). Agrees bs whole) same before)

-- with no field left all is there
pub fields-end : (text whole : List ℕ) (i : ℕ) (fields : List (List ℕ × Head)) → length fields ≤ i → Agrees (text ++ fields_of (drop i fields)) whole → Agrees text whole
fields-end text whole i fields past before =
    subst (λ (bs : List ℕ). Agrees bs whole) (ap (λ (gs : List (List ℕ × Head)). text ++ fields_of gs) (drop_all i fields past) ∙ append-nil text) before

-- over the limit the fields that are left needn't be there
pub fields-stopped : (text whole : List ℕ) (i : ℕ) (fields : List (List ℕ × Head)) → text_limit < length text → Agrees (text ++ fields_of (drop i fields)) whole → Agrees text whole
fields-stopped text whole i fields over before = agrees-trans text (text ++ fields_of (drop i fields)) whole (agrees-stopped text (fields_of (drop i fields)) over) before
