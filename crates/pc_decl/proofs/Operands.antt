-- The text of a type by its form.
use Rattle.std.proofs.Common.{◌≡◌, ℕ, ℤ, ◌+◌, ◌-◌, ◌<◌, Some, None, List, [], ◌∷◌, ◌++◌, length, get_or, drop, zero, suc, inl, refl, sym, ap, ◌∙◌, append_assoc, append-nil, length-drop, pos, arith, subst}
use Rattle.std.proofs.lemmas.List.{drop_more}
use Rattle.std.specs.Prelude.{codes}
use Rattle.std.specs.Fmt.{signed_decimal}
use Rattle.pc_types.specs.Shapes.{Shape, NoMembers, TextType}
use Rattle.pc_types.specs.Expanded.{expanded, expanded_fields}
use Rattle.pc_types.specs.Table.{Table, numbered, shape_in, fields_from, FieldsThere, IsFormOf}
use Rattle.pc_types.specs.declared.form.TypeId.{TypeId}
use Rattle.pc_types.specs.declared.form.Definition.{Definition as Written}
use Rattle.pc_types.specs.declared.form.Form.{Form}
use Rattle.pc_types.specs.declared.form.Form.TheVariants as form
use Rattle.pc_views.specs.Limit.{Agrees}
use Rattle.pc_decl.specs.TypeText.{constant_text, type_text, fields_text}
use Rattle.pc_decl.specs.Pieces.{behind_field}
use Rattle.pc_decl.specs.FormText.{form_constant}
use Rattle.pc_decl.specs.AgreesLaws.{agrees-trans, agrees-then}

-- the constant of a type by its form
constant-formed : (table : Table) (d : Written) (f : Form) (n : ℤ) → form_constant f n ≡ constant_text (expanded (shape_in table d f)) n
constant-formed table d form.Integer n = refl
constant-formed table d form.Boolean n = refl
constant-formed table d form.Char n = refl
constant-formed table d form.Nil n = refl
constant-formed table d (form.Named names) n = refl
constant-formed table d (form.Subrange host low high) n = refl
constant-formed table d (form.Array packed index element) n = refl
constant-formed table d (form.Record packed fields) n = refl
constant-formed table d (form.Set packed base) n = refl
constant-formed table d (form.Members None) n = refl
constant-formed table d (form.Members (Some base)) n = refl
constant-formed table d (form.Text m) n = refl
constant-formed table d (form.Pointer domain) n = refl

pub constant-of_form : (table : Table) (i : TypeId) (f : Form) (n : ℤ) → IsFormOf table i f → form_constant f n ≡ constant_text (expanded (numbered table.shapes i)) n
constant-of_form table i f n h = constant-formed table h.definition f n ∙ ap (λ (s : Shape). constant_text (expanded s) n) (sym h.shape)

pub constant-past : (table : Table) (i : TypeId) (n : ℤ) → numbered table.shapes i ≡ NoMembers → signed_decimal n ≡ constant_text (expanded (numbered table.shapes i)) n
constant-past table i n h = ap (λ (s : Shape). constant_text (expanded s) n) (sym h)

pub ruleset constants = (constant-of_form, constant-past)

regroup : (t a b c d e f : List ℕ) → ((((t ++ a) ++ b) ++ c) ++ d) ++ (e ++ f) ≡ t ++ (((a ++ ((b ++ c) ++ d)) ++ e) ++ f)
regroup t a b c d e f = simp append_assoc

-- the type of a text
pub string-of : (t0 t1 t2 t3 t4 t5 : List ℕ) (n : ℕ) → t1 ≡ t0 ++ codes "packed array [" → t2 ≡ t1 ++ signed_decimal (pos 1) → t3 ≡ t2 ++ codes ".." →
    t4 ≡ t3 ++ signed_decimal (pos n) → t5 ≡ t4 ++ codes "] of char" → t5 ≡ t0 ++ type_text (expanded (TextType n))
string-of t0 t1 t2 t3 t4 t5 n a b c d e =
    e ∙ ap (λ (t : List ℕ). t ++ codes "] of char") (d ∙ ap (λ (t : List ℕ). t ++ signed_decimal (pos n))
    (c ∙ ap (λ (t : List ℕ). t ++ codes "..") (b ∙ ap (λ (t : List ℕ). t ++ signed_decimal (pos 1)) a)))
    ∙ regroup t0 (codes "packed array [") (signed_decimal (pos 1)) (codes "..") (signed_decimal (pos n)) (codes "] of ") (codes "char")

-- the type of a field stands before the number
pub field-there : (n i : ℕ) (fields : List (List ℕ × TypeId)) (f : List ℕ × TypeId) → FieldsThere n fields → i < length fields → f ≡ get_or fields i f → f.1.0 < n
field-there n i [] f there below is = absurd (omega (arith, below))
field-there n zero (g ∷ fields) f there below is = subst (λ (q : List ℕ × TypeId). q.1.0 < n) (sym is) there.0
field-there n (suc i) (g ∷ fields) f there below is = field-there n i fields f there.1 (omega (arith, below)) is

-- the text of fields by the numbers of their types
abbrev pub fields_of : List Shape → List (List ℕ × TypeId) → List ℕ
fields_of shapes fields = fields_text (expanded_fields (fields_from shapes fields))

-- the text of a field, where so many are left behind it
abbrev field_of : List Shape → List ℕ × TypeId → ℕ → List ℕ
field_of shapes f left = f.0 ++ codes ": " ++ type_text (expanded (numbered shapes f.1)) ++ behind_field left

fields-cons : (shapes : List Shape) (f : List ℕ × TypeId) (fields : List (List ℕ × TypeId)) → fields_of shapes (f ∷ fields) ≡ field_of shapes f (length fields) ++ fields_of shapes fields
fields-cons shapes f [] = sym (append-nil (field_of shapes f 0))
fields-cons shapes f (g ∷ fields) = refl

-- with one more field there, those behind it are left
pub fields-more : (shapes : List Shape) (t0 t1 t2 t3 whole : List ℕ) (i left left' : ℕ) (fields : List (List ℕ × TypeId)) (f : List ℕ × TypeId) →
    i < length fields → f ≡ get_or fields i f → left + i ≡ length fields → left' ≡ left - 1 →
    Agrees (t0 ++ fields_of shapes (drop i fields)) whole → t1 ≡ t0 ++ (f.0 ++ codes ": ") → Agrees t2 (t1 ++ type_text (expanded (numbered shapes f.1))) →
    t3 ≡ t2 ++ behind_field left' → Agrees (t3 ++ fields_of shapes (drop (i + 1) fields)) whole
fields-more shapes t0 t1 t2 t3 whole i left left' fields f below is count less before a b c =
    let rest : List (List ℕ × TypeId) = drop (i + 1) fields in
    let shown : List ℕ = type_text (expanded (numbered shapes f.1)) in
    let number : left' ≡ length rest = omega (arith, count, less, below, length-drop (i + 1) fields) in
    let first : drop i fields ≡ f ∷ rest = drop_more fields i f below ∙ ap (λ (g : List ℕ × TypeId). g ∷ rest) (sym is) in
    let same : t0 ++ fields_of shapes (drop i fields) ≡ t0 ++ (field_of shapes f left' ++ fields_of shapes rest) =
    ap (λ (gs : List (List ℕ × TypeId)). t0 ++ fields_of shapes gs) first
    ∙ ap (λ (bs : List ℕ). t0 ++ bs) (fields-cons shapes f rest ∙ ap (λ (n : ℕ). field_of shapes f n ++ fields_of shapes rest) (sym number)) in
    let typed : Agrees t2 (t0 ++ (f.0 ++ codes ": " ++ shown)) = agrees-then t0 t1 t2 (f.0 ++ codes ": ") shown (inl a) b in
    let ended : Agrees t3 (t0 ++ field_of shapes f left') = agrees-then t0 t2 t3 (f.0 ++ codes ": " ++ shown) (behind_field left') typed (inl c) in
    let own : Agrees (t3 ++ fields_of shapes rest) (t0 ++ (field_of shapes f left' ++ fields_of shapes rest)) =
    agrees-then t0 t3 (t3 ++ fields_of shapes rest) (field_of shapes f left') (fields_of shapes rest) ended (inl refl) in
    agrees-trans (t3 ++ fields_of shapes rest) (t0 ++ (field_of shapes f left' ++ fields_of shapes rest)) whole own (subst (λ (bs : List ℕ). Agrees bs whole) same before)
