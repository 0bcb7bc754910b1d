-- Calls: lemmas.
use Rattle.std.specs.Prelude.{◌≡◌, ℕ, ◌<◌, Bool, true, false, not, ◌&&◌, ◌||◌, ◌==◌, if◌then◌else◌, List, [], ◌∷◌, ◌++◌, Option, Some, None, option_map, codes, length, get_or, suc, IfSome}
use Rattle.std.specs.Str.{bytes_eq}
use Rattle.std.specs.Option.{is_some, is_none, ForSome}
use Rattle.std.proofs.Common.{refl, ap, sym, ◌∙◌, append_assoc, append-nil, subst, arith, rules, tests}
use Rattle.pc_syntax.specs.Sorts.{is_hole}
use Rattle.pc_syntax.specs.declared.kind.Kind.{Kind}
use Rattle.pc_scope.specs.Spelled.{spelling}
use Rattle.pc_scope.specs.Required.{is_required_function, is_required_procedure}
use Rattle.pc_scope.specs.declared.builtin.Builtin.{Builtin}
use Rattle.pc_types.specs.Shapes.{Owner, Shape, Typed}
use Rattle.pc_types.specs.Table.{Table, shape_at, numbered, IsThere}
use Rattle.pc_types.specs.declared.operand.Operand.{Operand}
use Rattle.pc_types.specs.declared.operand.Operand.TheVariants.{Id}
use Rattle.pc_types.specs.declared.form.TypeId.{TypeId}
use Rattle.pc_rules.specs.Attributes.{Entry, Attributes, Node, kids_below, at_kid}
use Rattle.pc_rules.specs.Decorated.{with_kind}
use Rattle.pc_rules.specs.Denoters.{typed, some_typed}
use Rattle.pc_rules.specs.Entries.{note_if, wrong_number}
use Rattle.pc_rules.specs.HandedOn.{any_hole, kid_entries}
use Rattle.pc_rules.specs.Meanings as rules
use Rattle.pc_rules.specs.Arguments as rule
use Rattle.pc_rules.specs.Arguments.{formals_of, wrong_count, tail}
use Rattle.pc_rules.specs.RequiredFunctions.{function_result, apply_function, type_of_first, one_argument, end_test_entries, has_file}
use Rattle.pc_rules.specs.RequiredProcedures.{behind_file, is_without, number_behind_file}
use Rattle.pc_rules.specs.Variables.{result_of}
use Rattle.pc_facts.specs.Known.{Known}
use Rattle.pc_facts.specs.Shows.{ShowsNode, ShowsType, ShowsArgument, ShowsFormals, ShowsFound, AllShow, shape_of, value_of}
use Rattle.pc_facts.specs.declared.facts.Facts.{Facts}
use Rattle.pc_facts.specs.declared.facts.Argument.{Argument}
use Rattle.pc_facts.specs.declared.sighting.Formal.{Formal}
use Rattle.pc_facts.specs.declared.sighting.Signature.{Signature}
use Rattle.pc_facts.specs.declared.sighting.Sighting.{Sighting}
use Rattle.pc_facts.specs.declared.sighting.Sighting.TheVariants as sighting
use Rattle.pc_call_rules.specs.Parameters.{ShowsRoutine}
use Rattle.pc_call_rules.specs.Calls.{behind_name, formals_in, result_in, miscounts}

or-false : (a : Bool) → (a || false) ≡ a
or-false true = refl
or-false false = refl

pub call-hole : (n a : Node) (h b r : Bool) → h ≡ is_hole n.at.kind → n.at.hole ≡ is_hole n.at.kind → a.at.hole ≡ any_hole (kids_below a) → b ≡ any_hole (kids_below a) → r ≡ (h || b) → any_hole (n ∷ a ∷ []) ≡ r
call-hole n a h b r e1 e2 e3 e4 e5 = ap (λ x. n.at.hole || x) (or-false a.at.hole ∙ e3 ∙ sym e4) ∙ ap (λ x. x || b) (e2 ∙ sym e1) ∙ sym e5

pub some-same : {X : Type 0} {x y : X} → Some x ≡ Some y → x ≡ y
some-same e = cc

-- ---- signatures

pub routine-formals : (k : Known) (s : Option Signature) (r : Option rules.Signature) → ShowsRoutine k s r → ShowsFormals k (formals_in s) (formals_of r)
routine-formals k None None h = tt
routine-formals k (Some s) (Some r) h = h.formals
routine-formals k None (Some r) h = absurd h
routine-formals k (Some s) None h = absurd h

formals-length : (k : Known) (fs : List Formal) (gs : List rules.Formal) → ShowsFormals k fs gs → length fs ≡ length gs
formals-length k [] [] h = refl
formals-length k (f ∷ fs) (g ∷ gs) h = ap suc (formals-length k fs gs h.4)
formals-length k [] (g ∷ gs) h = absurd h
formals-length k (f ∷ fs) [] h = absurd h

turned : (b : Bool) (e : List Entry) → (if b then [] else e) ≡ (if not b then e else [])
turned true e = refl
turned false e = refl

pub miscounted : (k : Known) (s : Option Signature) (r : Option rules.Signature) (n : ℕ) (ns : List Node) → ShowsRoutine k s r → n ≡ length ns → note_if (miscounts s n) 12 (codes "wrong number of arguments") ≡ wrong_count r ns
miscounted k None None n ns h e = refl
miscounted k (Some s) (Some r) n ns h e =
    ap (λ x. note_if (not (x == n)) 12 (codes "wrong number of arguments")) (formals-length k s.formals.items r.formals h.formals)
    ∙ ap (λ x. note_if (not (length r.formals == x)) 12 (codes "wrong number of arguments")) e ∙ sym (turned (length r.formals == length ns) wrong_number)
miscounted k None (Some r) n ns h e = absurd h
miscounted k (Some s) None n ns h e = absurd h

id-shape : (t : Table) (o : Option TypeId) → option_map (shape_at t) (option_map Id o) ≡ option_map (numbered t.shapes) o
id-shape t None = refl
id-shape t (Some i) = refl

id-there : (t : Table) (o : Option TypeId) → ForSome o (λ i. i.0 < length t.shapes) → ForSome (option_map Id o) (IsThere t)
id-there t None h = λ x e. absurd cc
id-there t (Some i) h = λ x e. subst (λ (y : Operand). IsThere t y) (some-same e) (h i refl)

pub nothing-known : (t : Table) → ShowsType t None None
nothing-known t = record { shape = refl; there = λ x e. absurd cc }

pub routine-result : (k : Known) (s : Option Signature) (r : Option rules.Signature) → ShowsRoutine k s r → ShowsType k.table (result_in s) (result_of r)
routine-result k None None h = nothing-known k.table
routine-result k (Some s) (Some r) h = record { shape = id-shape k.table s.result ∙ h.result; there = id-there k.table s.result h.there }
routine-result k None (Some r) h = absurd h
routine-result k (Some s) None h = absurd h

pub type-if : (t : Table) (b c : Bool) (o : Option Operand) (ty : Option Typed) → b ≡ c → ShowsType t o ty → ShowsType t (if b then o else None) (if c then ty else None)
type-if t true true o ty e h = h
type-if t false false o ty e h = nothing-known t
type-if t true false o ty e h = absurd cc
type-if t false true o ty e h = absurd cc

pub called-entries : (none one es two three name : List Entry) (w : Bool) (xs ws : List Entry) → none ≡ [] → one ≡ none ++ at_kid 1 name → es ≡ xs → two ≡ one ++ at_kid 2 es →
    three ≡ two ++ note_if w 12 (codes "wrong number of arguments") → note_if w 12 (codes "wrong number of arguments") ≡ ws → three ≡ (at_kid 1 name ++ at_kid 2 xs) ++ ws
called-entries none one es two three name w xs ws empty first found second third last =
    third ∙ ap (λ x. two ++ x) last ∙ ap (λ x. x ++ ws) (second ∙ ap (λ x. one ++ at_kid 2 x) found ∙ ap (λ x. x ++ at_kid 2 xs) (first ∙ ap (λ x. x ++ at_kid 1 name) empty))

-- the variables that a node touches are not among its facts
pub touching : (k : Known) (f : Facts) (a : Attributes) (ts : List (Owner × List ℕ)) → ShowsNode k f a → ShowsNode k f (record a { touches = ts })
touching k f a ts h = record { kind = h.kind; hole = h.hole; value = h.value; place = h.place; target = h.target; constant = h.constant; variable = h.variable; packed_part = h.packed_part }

-- ---- required functions

pub behind-shown : {X : Type 0} (shows : X → Node → Type 0) (b : Bool) (gs : List X) (ns : List Node) → AllShow shows gs ns → AllShow shows (behind_name b gs) (behind_file b ns)
behind-shown shows false gs ns h = h
behind-shown shows true [] [] h = tt
behind-shown shows true (g ∷ gs) (n ∷ ns) h = h.1
behind-shown shows true [] (n ∷ ns) h = absurd h
behind-shown shows true (g ∷ gs) [] h = absurd h

pub first-type : (k : Known) (gs : List Argument) (g : Argument) (ns : List Node) → 0 < length gs → g ≡ get_or gs 0 g → AllShow (ShowsArgument k) gs ns → ShowsType k.table (value_of g.at.judgement).of (type_of_first ns)
first-type k [] g ns there is h = absurd (omega arith)
first-type k (x ∷ gs) g (n ∷ ns) there is h = subst (λ (y : Argument). ShowsType k.table (value_of y.at.judgement).of n.at.as_value.type) (sym is) h.0.at.value.type
first-type k (x ∷ gs) g [] there is h = absurd h

pub no-type : (k : Known) (gs : List Argument) (ns : List Node) → length gs ≡ 0 → AllShow (ShowsArgument k) gs ns → ShowsType k.table None (type_of_first ns)
no-type k [] [] none h = nothing-known k.table
no-type k [] (n ∷ ns) none h = absurd h
no-type k (g ∷ gs) ns none h = absurd (omega arith)

typed-shape : (s : Option Shape) → shape_of (option_map typed s) ≡ s
typed-shape None = refl
typed-shape (Some s) = refl

there-some : (t : Table) (o : Option Operand) → IfSome o (IsThere t) → ForSome o (IsThere t)
there-some t None h = λ x e. absurd cc
there-some t (Some y) h = λ x e. subst (λ (z : Operand). IsThere t z) (some-same e) h

pub applied-known : (t : Table) (name : List ℕ) (o : Operand) (r : Option Operand) (ty : Option Typed) → option_map (shape_at t) r ≡ function_result name (shape_at t o) → (IsThere t o → IfSome r (IsThere t)) →
    ShowsType t (Some o) ty → ShowsType t r (apply_function name ty)
applied-known t name o r (Some ty) e there h =
    record { shape = e ∙ ap (λ x. function_result name x) (some-same h.shape) ∙ sym (typed-shape (function_result name ty.shape)); there = there-some t r (there (h.there o refl)) }
applied-known t name o r None e there h = absurd (let s = h.shape in cc)

pub applied-unknown : (t : Table) (name : List ℕ) (ty : Option Typed) → ShowsType t None ty → ShowsType t None (apply_function name ty)
applied-unknown t name None h = h
applied-unknown t name (Some ty) h = absurd (let s = h.shape in cc)

-- ---- required procedures

without-same : (ns : List Node) → (length ns == 0) ≡ is_without ns
without-same [] = refl
without-same (n ∷ ns) = search (rules, tests)

none-left : (b : Bool) → note_if b 12 (codes "wrong number of arguments") ≡ (if b then wrong_number else [])
none-left true = refl
none-left false = refl

-- two pieces on an empty list, the second in another form
pub two-pieces : (none one two es xs : List Entry) (w : Bool) (ws : List Entry) → none ≡ [] → one ≡ none ++ at_kid 2 es → es ≡ xs → two ≡ one ++ note_if w 12 (codes "wrong number of arguments") →
    note_if w 12 (codes "wrong number of arguments") ≡ ws → two ≡ at_kid 2 xs ++ ws
two-pieces none one two es xs w ws empty first found second last =
    second ∙ ap (λ x. one ++ x) last ∙ ap (λ x. x ++ ws) (first ∙ ap (λ x. x ++ at_kid 2 es) empty ∙ ap (λ x. at_kid 2 x) found)

pub lacking : (needs u w : Bool) (n : ℕ) (ns : List Node) → w ≡ (needs && u) → u ≡ (n == 0) → n ≡ length ns → note_if w 12 (codes "wrong number of arguments") ≡ (if needs && is_without ns then wrong_number else [])
lacking needs u w n ns e1 e2 e3 =
    ap (λ x. note_if x 12 (codes "wrong number of arguments")) (e1 ∙ ap (λ x. needs && x) (e2 ∙ ap (λ x. x == 0) e3 ∙ without-same ns)) ∙ none-left (needs && is_without ns)

pub not-one : (u w : Bool) (n : ℕ) (ns : List Node) → w ≡ not u → u ≡ (n == 1) → n ≡ length ns → note_if w 12 (codes "wrong number of arguments") ≡ (if length ns == 1 then [] else wrong_number)
not-one u w n ns e1 e2 e3 =
    ap (λ x. note_if x 12 (codes "wrong number of arguments")) (e1 ∙ ap (λ x. not x) (e2 ∙ ap (λ x. x == 1) e3)) ∙ sym (turned (length ns == 1) wrong_number)

-- ---- arguments of required functions

unknown-same : (t : Table) (o : Option Operand) (ty : Option Typed) → ShowsType t o ty → is_none o ≡ is_none ty
unknown-same t None None h = refl
unknown-same t (Some o) (Some ty) h = refl
unknown-same t None (Some ty) h = let e = h.shape in cc
unknown-same t (Some o) None h = let e = h.shape in cc

known-same : (t : Table) (o : Option Operand) (ty : Option Typed) → ShowsType t o ty → is_some o ≡ is_some ty
known-same t None None h = refl
known-same t (Some o) (Some ty) h = refl
known-same t None (Some ty) h = let e = h.shape in cc
known-same t (Some o) None h = let e = h.shape in cc

pub known-type : (t : Table) (o : Operand) (s : Shape) → shape_at t o ≡ s → IsThere t o → ShowsType t (Some o) (some_typed s)
known-type t o s e h = record { shape = ap Some e; there = λ x q. subst (λ (y : Operand). IsThere t y) (some-same q) h }

pub fits-one : (t : Table) (fits u v : Bool) (o p : Option Operand) (ty sy : Option Typed) → fits ≡ (u || v) → u ≡ is_none o → v ≡ is_some p → ShowsType t o ty → ShowsType t p sy → fits ≡ (is_none ty || is_some sy)
fits-one t fits u v o p ty sy e1 e2 e3 h g = e1 ∙ ap (λ x. x || v) (e2 ∙ unknown-same t o ty h) ∙ ap (λ x. is_none ty || x) (e3 ∙ known-same t p sy g)

pub fits-file : (t : Table) (fits b u : Bool) (o : Option Operand) (ty : Option Typed) → fits ≡ (b || u) → u ≡ is_none o → ShowsType t o ty → fits ≡ (b || is_none ty)
fits-file t fits b u o ty e1 e2 h = e1 ∙ ap (λ x. b || x) (e2 ∙ unknown-same t o ty h)

one-fits : (single fits g : Bool) (n : ℕ) (ns : List Node) → single ≡ (n == 1) → n ≡ length ns → fits ≡ g → (if single then note_if (not fits) 11 (codes "types do not agree") else wrong_number) ≡ one_argument ns g
one-fits single fits g n ns e1 e2 e3 =
    ap (λ x. if single then note_if (not x) 11 (codes "types do not agree") else wrong_number) e3
    ∙ ap (λ x. if x then note_if (not g) 11 (codes "types do not agree") else wrong_number) (e1 ∙ ap (λ x. x == 1) e2)

pub one-entries : (es xs : List Entry) (single fits g : Bool) (n : ℕ) (ns : List Node) → es ≡ xs ++ (if single then note_if (not fits) 11 (codes "types do not agree") else wrong_number) →
    single ≡ (n == 1) → n ≡ length ns → fits ≡ g → es ≡ xs ++ one_argument ns g
one-entries es xs single fits g n ns e e1 e2 e3 = e ∙ ap (λ x. xs ++ x) (one-fits single fits g n ns e1 e2 e3)

by-file : (b g : Bool) (ns : List Node) → at_kid 2 (kid_entries (number_behind_file b) (behind_file b ns)) ++ one_argument ns (b || g)
    ≡ (if b then at_kid 2 (kid_entries 2 (tail ns)) ++ one_argument ns true else at_kid 2 (kid_entries 1 ns) ++ one_argument ns g)
by-file true g ns = refl
by-file false g ns = refl

pub end-entries : (es : List Entry) (b : Bool) (number : ℕ) (ns : List Node) → es ≡ at_kid 2 (kid_entries number (behind_file b ns)) ++ one_argument ns (b || is_none (type_of_first ns)) →
    number ≡ number_behind_file b → b ≡ has_file (codes "input") ns → es ≡ end_test_entries ns
end-entries es b number ns e counted file =
    e ∙ ap (λ x. at_kid 2 (kid_entries x (behind_file b ns)) ++ one_argument ns (b || is_none (type_of_first ns))) counted ∙ by-file b (is_none (type_of_first ns)) ns
    ∙ ap (λ x. if x then at_kid 2 (kid_entries 2 (tail ns)) ++ one_argument ns true else at_kid 2 (kid_entries 1 ns) ++ one_argument ns (is_none (type_of_first ns))) file

pub applied-to : (t : Table) (name : List ℕ) (of : Option Operand) (o : Operand) (r : Option Operand) (ty : Option Typed) → of ≡ Some o → option_map (shape_at t) r ≡ function_result name (shape_at t o) →
    (IsThere t o → IfSome r (IsThere t)) → ShowsType t of ty → ShowsType t r (apply_function name ty)
applied-to t name of o r ty is e there h = applied-known t name o r ty e there (subst (λ (x : Option Operand). ShowsType t x ty) is h)

pub applied-none : (t : Table) (name : List ℕ) (of : Option Operand) (ty : Option Typed) → of ≡ None → ShowsType t of ty → ShowsType t None (apply_function name ty)
applied-none t name of ty is h = applied-unknown t name ty (subst (λ (x : Option Operand). ShowsType t x ty) is h)
