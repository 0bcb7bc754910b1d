-- The same form of other parts.
use Rattle.std.specs.Prelude.{ℕ, List, map}
use Rattle.std.specs.Borrow.{Bor}
use Rattle.pc_syntax.specs.Plain.{Plain}
use Rattle.pc_forms.specs.declared.form.Form.{Form}
use Rattle.pc_forms.specs.declared.form.Form.TheVariants as form
use Rattle.pc_forms.specs.Form.{PlainForm}

-- the same form, each kid, list and word changed
abbrev pub map_form : {A B L M V W : Type 0} → (A → B) → (L → M) → (V → W) → Form A L V → Form B M W
map_form g l v (form.Program name heads block) = form.Program (g name) (g heads) (g block)
map_form g l v (form.Block consts types vars routines body) = form.Block (g consts) (g types) (g vars) (g routines) (g body)
map_form g l v (form.Forward word) = form.Forward (v word)
map_form g l v (form.Constdef name value) = form.Constdef (g name) (g value)
map_form g l v (form.Typedef name denoter) = form.Typedef (g name) (g denoter)
map_form g l v (form.Vardef names denoter) = form.Vardef (g names) (g denoter)
map_form g l v (form.Field names denoter) = form.Field (g names) (g denoter)
map_form g l v (form.Valparam names type_name) = form.Valparam (g names) (g type_name)
map_form g l v (form.Varparam names type_name) = form.Varparam (g names) (g type_name)
map_form g l v (form.Procedure name params block) = form.Procedure (g name) (g params) (g block)
map_form g l v (form.Function name params result_type block) = form.Function (g name) (g params) (g result_type) (g block)
map_form g l v (form.Funbody name block) = form.Funbody (g name) (g block)
map_form g l v (form.Tname name) = form.Tname (g name)
map_form g l v (form.Enum names) = form.Enum (g names)
map_form g l v (form.Subrange low high) = form.Subrange (g low) (g high)
map_form g l v (form.Array indexes element) = form.Array (g indexes) (g element)
map_form g l v (form.Record fields) = form.Record (g fields)
map_form g l v form.Record0 = form.Record0
map_form g l v (form.Setof base) = form.Setof (g base)
map_form g l v (form.Packed unpacked) = form.Packed (g unpacked)
map_form g l v (form.Pointer name) = form.Pointer (g name)
map_form g l v (form.Cnumber word) = form.Cnumber (v word)
map_form g l v (form.Cstring word) = form.Cstring (v word)
map_form g l v (form.Cname name) = form.Cname (g name)
map_form g l v (form.Csign sign constant) = form.Csign sign (g constant)
map_form g l v form.Empty = form.Empty
map_form g l v (form.Assign target value) = form.Assign (g target) (g value)
map_form g l v (form.Proc name args) = form.Proc (g name) (g args)
map_form g l v (form.Compound stmts) = form.Compound (g stmts)
map_form g l v (form.If condition body) = form.If (g condition) (g body)
map_form g l v (form.Ifelse condition body otherwise) = form.Ifelse (g condition) (g body) (g otherwise)
map_form g l v (form.Case selector arms) = form.Case (g selector) (g arms)
map_form g l v (form.Arm labels body) = form.Arm (g labels) (g body)
map_form g l v (form.Repeat stmts condition) = form.Repeat (g stmts) (g condition)
map_form g l v (form.While condition body) = form.While (g condition) (g body)
map_form g l v (form.For control first downwards last body) = form.For (g control) (g first) downwards (g last) (g body)
map_form g l v (form.With records body) = form.With (g records) (g body)
map_form g l v (form.Ref name) = form.Ref (g name)
map_form g l v (form.Index array indexes) = form.Index (g array) (g indexes)
map_form g l v (form.Select whole field) = form.Select (g whole) (g field)
map_form g l v (form.Deref pointer) = form.Deref (g pointer)
map_form g l v (form.Number word) = form.Number (v word)
map_form g l v (form.Text word) = form.Text (v word)
map_form g l v form.Nil = form.Nil
map_form g l v (form.Call name args) = form.Call (g name) (g args)
map_form g l v (form.Parens inner) = form.Parens (g inner)
map_form g l v (form.Not operand) = form.Not (g operand)
map_form g l v (form.Setcon members) = form.Setcon (g members)
map_form g l v (form.Mul left operator right) = form.Mul (g left) operator (g right)
map_form g l v (form.Add left operator right) = form.Add (g left) operator (g right)
map_form g l v (form.Sign sign operand) = form.Sign sign (g operand)
map_form g l v (form.Rel left operator right) = form.Rel (g left) operator (g right)
map_form g l v (form.Width value width) = form.Width (g value) (g width)
map_form g l v (form.Span low high) = form.Span (g low) (g high)
map_form g l v (form.Name word) = form.Name (v word)
map_form g l v (form.Heads ks) = form.Heads (l ks)
map_form g l v (form.Args ks) = form.Args (l ks)
map_form g l v (form.Params ks) = form.Params (l ks)
map_form g l v (form.Names ks) = form.Names (l ks)
map_form g l v (form.Labels ks) = form.Labels (l ks)
map_form g l v (form.Indexes ks) = form.Indexes (l ks)
map_form g l v (form.Exprs ks) = form.Exprs (l ks)
map_form g l v (form.Accesses ks) = form.Accesses (l ks)
map_form g l v (form.Members ks) = form.Members (l ks)
map_form g l v (form.Consts ks) = form.Consts (l ks)
map_form g l v (form.Types ks) = form.Types (l ks)
map_form g l v (form.Vars ks) = form.Vars (l ks)
map_form g l v (form.Routines ks) = form.Routines (l ks)
map_form g l v (form.Fields ks) = form.Fields (l ks)
map_form g l v (form.Stmts ks) = form.Stmts (l ks)
map_form g l v (form.Arms ks) = form.Arms (l ks)
map_form g l v (form.Hole s) = form.Hole s

-- what a form of code stands for
abbrev pub seen : Form (Bor Plain) (Bor (List Plain)) (Bor (List ℕ)) → PlainForm
seen f = map_form (λ t. t.now) (λ ts. ts.now) (λ w. w.now) f

-- a form of what a definition gives for each kid
abbrev pub FormOf : Type 0 → Type 0
FormOf A = Form A (List A) (List ℕ)

-- the same form, each kid changed
abbrev pub each : {A B : Type 0} → (A → B) → FormOf A → FormOf B
each g f = map_form g (map g) (λ w. w) f
