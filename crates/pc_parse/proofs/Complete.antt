-- Each good tree of a class is read from its symbols, so no two have the same symbols, and symbols that are refused
-- are those of none.
use Rattle.std.proofs.Common.{◌≡◌, ℕ, zero, suc, ◌+◌, Bool, true, false, List, [], ◌++◌, None, refl, ap, sym, ◌∙◌, append-nil, suc-add, add_comm}
use Rattle.pc_syntax.specs.declared.kind.Kind.{Kind}
use Rattle.pc_syntax.specs.declared.kind.Kind.TheVariants as kind
use Rattle.pc_syntax.specs.declared.class.Class.{Class}
use Rattle.pc_syntax.specs.declared.class.Class.TheVariants as class
use Rattle.pc_syntax.specs.declared.sort.Sort.{Sort}
use Rattle.pc_syntax.specs.declared.sort.Sort.TheVariants as sort
use Rattle.pc_syntax.specs.Plain.{Forest, Nil, Cons, Plain, count, kinds}
use Rattle.pc_syntax.specs.Layout.{layout}
use Rattle.pc_syntax.specs.Classes.{has}
use Rattle.pc_syntax.specs.Symbols.{Sym, symbols}
use Rattle.pc_syntax.specs.WellFormed.{fits_some, breaks_else_rule}
use Rattle.pc_parse.specs.Reading.{Good, class_of, ReadsBare}
use Rattle.pc_parse.specs.Machine.{State, Opening, Holding}
use Rattle.pc_parse.specs.Runs.{Step, Go, Accept, Refuse, step, continue, exec}
use Rattle.pc_parse.proofs.Follows.{follow, corner_of, tail_after, give_after}
use Rattle.pc_parse.proofs.Leading.{Leads}
use Rattle.pc_parse.proofs.Simulates.{bare, Found, Closed, AllRead}
use Rattle.pc_parse.proofs.Nodes.{true-false}
use Rattle.pc_parse.proofs.Fronts.{front}
use Rattle.pc_parse.proofs.Statements as statements
use Rattle.pc_parse.proofs.Expressions as expressions
use Rattle.pc_parse.proofs.Declarations as declarations
use Rattle.pc_parse.proofs.Parts as parts
use Rattle.pc_parse.proofs.Routines as routines

-- each kind
node : (k : Kind) (w : List ℕ) (ks : Forest) → fits_some (layout k w (count ks)) (kinds ks) ≡ true → breaks_else_rule k ks ≡ false → AllRead ks → Found k w ks
node kind.Program w ks fit rule all = declarations.program w ks fit all
node kind.Block w ks fit rule all = declarations.block w ks fit all
node kind.Forward w ks fit rule all = declarations.forward w ks fit all
node kind.Constdef w ks fit rule all = declarations.constdef w ks fit all
node kind.Typedef w ks fit rule all = declarations.typedef w ks fit all
node kind.Vardef w ks fit rule all = declarations.vardef w ks fit all
node kind.Tname w ks fit rule all = declarations.tname w ks fit all
node kind.Enum w ks fit rule all = declarations.enum w ks fit all
node kind.Subrange w ks fit rule all = declarations.subrange w ks fit all
node kind.Array w ks fit rule all = declarations.array w ks fit all
node kind.Setof w ks fit rule all = declarations.set_of w ks fit all
node kind.Packed w ks fit rule all = declarations.packed w ks fit all
node kind.Pointer w ks fit rule all = declarations.pointer w ks fit all
node kind.Indexes w ks fit rule all = declarations.indexes w ks fit all
node kind.Cnumber w ks fit rule all = declarations.cnumber w ks fit all
node kind.Cstring w ks fit rule all = declarations.cstring w ks fit all
node kind.Cname w ks fit rule all = declarations.cname w ks fit all
node kind.Csign w ks fit rule all = declarations.csign w ks fit all
node kind.Heads w ks fit rule all = declarations.heads w ks fit all
node kind.Names w ks fit rule all = declarations.names w ks fit all
node kind.Consts w ks fit rule all = declarations.consts w ks fit all
node kind.Types w ks fit rule all = declarations.types w ks fit all
node kind.Vars w ks fit rule all = declarations.vars w ks fit all
node kind.Field w ks fit rule all = parts.field w ks fit all
node kind.Fields w ks fit rule all = parts.fields w ks fit all
node kind.Labels w ks fit rule all = parts.labels w ks fit all
node kind.Record w ks fit rule all = parts.record_type w ks fit all
node kind.Record0 w ks fit rule all = parts.empty_record w ks fit all
node kind.Case w ks fit rule all = parts.case_of w ks fit all
node kind.Arm w ks fit rule all = parts.arm w ks fit all
node kind.Arms w ks fit rule all = parts.arms w ks fit all
node kind.Valparam w ks fit rule all = routines.valparam w ks fit all
node kind.Varparam w ks fit rule all = routines.varparam w ks fit all
node kind.Params w ks fit rule all = routines.params w ks fit all
node kind.Procedure w ks fit rule all = routines.procedure w ks fit all
node kind.Function w ks fit rule all = routines.function w ks fit all
node kind.Funbody w ks fit rule all = routines.funbody w ks fit all
node kind.Routines w ks fit rule all = routines.routines w ks fit all
node kind.Empty w ks fit rule all = statements.empty w ks fit all
node kind.Assign w ks fit rule all = statements.assign w ks fit all
node kind.Proc w ks fit rule all = statements.proc w ks fit all
node kind.Compound w ks fit rule all = statements.compound w ks fit all
node kind.If w ks fit rule all = statements.if_then w ks fit all
node kind.Ifelse w ks fit rule all = statements.if_else w ks fit rule all
node kind.Repeat w ks fit rule all = statements.repeat_until w ks fit all
node kind.While w ks fit rule all = statements.while_loop w ks fit all
node kind.For w ks fit rule all = statements.for_loop w ks fit all
node kind.With w ks fit rule all = statements.with_do w ks fit all
node kind.Args w ks fit rule all = statements.args w ks fit all
node kind.Stmts w ks fit rule all = statements.stmts w ks fit all
node kind.Ref w ks fit rule all = expressions.ref w ks fit all
node kind.Index w ks fit rule all = expressions.index w ks fit all
node kind.Select w ks fit rule all = expressions.select w ks fit all
node kind.Deref w ks fit rule all = expressions.deref w ks fit all
node kind.Number w ks fit rule all = expressions.number w ks fit all
node kind.Text w ks fit rule all = expressions.text w ks fit all
node kind.Nil w ks fit rule all = expressions.nil w ks fit all
node kind.Not w ks fit rule all = expressions.negation w ks fit all
node kind.Call w ks fit rule all = expressions.call w ks fit all
node kind.Parens w ks fit rule all = expressions.parens w ks fit all
node kind.Setcon w ks fit rule all = expressions.setcon w ks fit all
node kind.Mul w ks fit rule all = expressions.mul w ks fit all
node kind.Add w ks fit rule all = expressions.add w ks fit all
node kind.Sign w ks fit rule all = expressions.sign w ks fit all
node kind.Rel w ks fit rule all = expressions.rel w ks fit all
node kind.Width w ks fit rule all = expressions.width w ks fit all
node kind.Span w ks fit rule all = expressions.span w ks fit all
node kind.Name w ks fit rule all = expressions.name w ks fit all
node kind.Exprs w ks fit rule all = expressions.exprs w ks fit all
node kind.Accesses w ks fit rule all = expressions.accesses w ks fit all
node kind.Members w ks fit rule all = expressions.members w ks fit all
node (kind.Hole r) w ks fit rule all = statements.hole r w ks fit all

-- each list with a last separator
closed : (k : Kind) (w : List ℕ) (ks : Forest) → fits_some (layout k w (count ks)) (kinds ks) ≡ true → AllRead ks → Closed k w ks
closed kind.Arms w ks fit all = parts.arms_closed w ks fit all
closed kind.Fields w ks fit all = parts.fields_closed w ks fit all
closed _ w ks fit all = λ root l j v kids m fs rest h. true-false (sym h)

-- every good tree is read
all_read : (ts : Forest) → Good ts → AllRead ts
all_read Nil h = tt
all_read (Cons k w ns ks ts) h =
    let all = all_read ks h.3 in
    (refl, h.2, front k w ks h.0 all, (node k w ks h.0 h.1 all, closed k w ks h.0 all), all_read ts h.4)

drop_nil : (root : Class) (a : State Plain) (xs : List Sym) (b : State Plain) (ys : List Sym) → Leads root a (xs ++ []) b ys → Leads root a xs b ys
drop_nil root a xs b ys h = rw (append-nil xs) at h

-- the machine comes from the symbols of a good tree to the tree
leads_whole : (c : Class) (k : Kind) (w : List ℕ) (ns : List (List ℕ)) (ks : Forest) → follow c None ≡ true → has c k ≡ true → Good (Cons k w ns ks Nil)
    → Leads c Opening (symbols k w ks) (Holding k (bare k w ks) []) []
leads_whole c k w ns ks ends member good =
    let all = all_read (Cons k w ns ks Nil) good in
    drop_nil _ _ _ _ _ (all.3.0 c c Opening [] [] [] (λ h. refl) refl (corner_of c k None member ends) (tail_after c k None member ends) (record { closed = λ e. cc }))

-- the classes of the sorts
abbrev pub is_root : Class → Bool
is_root class.Program = true
is_root class.Block = true
is_root class.Constdef = true
is_root class.Typedef = true
is_root class.Vardef = true
is_root class.Routine = true
is_root class.Parameter = true
is_root class.Denoter = true
is_root class.Field = true
is_root class.Constant = true
is_root class.Statement = true
is_root class.Arm = true
is_root class.Operand = true
is_root class.Name = true
is_root _ = false

root_follow : (c : Class) → is_root c ≡ true → follow c None ≡ true
root_follow class.Program h = cc
root_follow _ h = cc

-- each good tree is read from its symbols
pub complete : (c : Class) (t : Plain) (ys : List Sym) → is_root c ≡ true → ReadsBare c t ys → (n : ℕ) × (exec c n Opening ys ≡ Accept t)
complete c t ys sort h =
    let ends = root_follow c sort in
    let given : step c (Holding t.kind (bare t.kind t.word t.kids) []) [] ≡ Accept (bare t.kind t.word t.kids) = rw (give_after c t.kind None h.member ends, h.member) refl in
    let run = (leads_whole c t.kind t.word t.notes t.kids ends h.member h.good).go 1 in
    let last : exec c 1 (Holding t.kind (bare t.kind t.word t.kids) []) [] ≡ Accept (bare t.kind t.word t.kids) = ap (λ r. continue r (exec c 0)) given in
    let noted : bare t.kind t.word t.kids ≡ t = ap (λ ns. record { kind = t.kind; word = t.word; notes = ns; kids = t.kids }) (sym h.good.2) in
    (run.0, ap (exec c run.0 Opening) h.spelled ∙ run.1 ∙ last ∙ ap Accept noted)

-- the end of a run
abbrev is_end : Step → Bool
is_end (Go st ys) = false
is_end (Accept t) = true
is_end (Refuse ys) = true

continue_more : (r : Step) (go go2 : State Plain → List Sym → Step) (e : Step) → is_end e ≡ true
    → ((st : State Plain) (ys : List Sym) → go st ys ≡ e → go2 st ys ≡ e) → continue r go ≡ e → continue r go2 ≡ e
continue_more (Go st ys) go go2 e ends more h = more st ys h
continue_more (Accept t) go go2 e ends more h = h
continue_more (Refuse ys) go go2 e ends more h = h

-- a run that has ended stays so
exec-more : (c : Class) (m n : ℕ) (st : State Plain) (ys : List Sym) (e : Step) → is_end e ≡ true → exec c m st ys ≡ e → exec c (m + n) st ys ≡ e
exec-more c zero n st ys e ends h = true-false (sym ends ∙ ap is_end (sym h))
exec-more c (suc m) n st ys e ends h = rw (suc-add m n) (continue_more (step c st ys) (exec c m) (exec c (m + n)) e ends (λ st2 zs i. exec-more c m n st2 zs e ends i) h)

-- two runs that end end alike
pub ends_alike : (c : Class) (m n : ℕ) (st : State Plain) (ys : List Sym) (d e : Step) → is_end d ≡ true → is_end e ≡ true → exec c m st ys ≡ d → exec c n st ys ≡ e → d ≡ e
ends_alike c m n st ys d e first second h i =
    sym (exec-more c m n st ys d first h) ∙ ap (λ j. exec c j st ys) (add_comm m n) ∙ exec-more c n m st ys e second i

accepted : (t u : Plain) → Accept t ≡ Accept u → t ≡ u
accepted t u h = cc

refused : (t : Plain) (zs : List Sym) → Accept t ≡ Refuse zs → ⊥
refused t zs h = cc

-- no two good trees of a class have the same symbols
pub unique : (c : Class) (t u : Plain) (ys : List Sym) → is_root c ≡ true → ReadsBare c t ys → ReadsBare c u ys → t ≡ u
unique c t u ys sort h i =
    let a = complete c t ys sort h in
    let b = complete c u ys sort i in
    accepted t u (ends_alike c a.0 b.0 Opening ys (Accept t) (Accept u) refl refl a.1 b.1)

-- symbols that are refused are those of no good tree
pub unfit : (c : Class) (n : ℕ) (t : Plain) (ys zs : List Sym) → is_root c ≡ true → exec c n Opening ys ≡ Refuse zs → ReadsBare c t ys → ⊥
unfit c n t ys zs sort h i =
    let a = complete c t ys sort i in
    refused t zs (ends_alike c a.0 n Opening ys (Accept t) (Refuse zs) refl refl a.1 h)

-- the class of each sort
pub root_of_sort : (s : Sort) → is_root (class_of s) ≡ true
root_of_sort sort.Program = refl
root_of_sort _ = refl

-- the same for sorts
pub complete_sort : (s : Sort) (t : Plain) (ys : List Sym) → ReadsBare (class_of s) t ys → (n : ℕ) × (exec (class_of s) n Opening ys ≡ Accept t)
complete_sort s t ys h = complete (class_of s) t ys (root_of_sort s) h

pub unique_sort : (s : Sort) (t u : Plain) (ys : List Sym) → ReadsBare (class_of s) t ys → ReadsBare (class_of s) u ys → t ≡ u
unique_sort s t u ys h i = unique (class_of s) t u ys (root_of_sort s) h i

pub unfit_sort : (s : Sort) (n : ℕ) (t : Plain) (ys zs : List Sym) → exec (class_of s) n Opening ys ≡ Refuse zs → ReadsBare (class_of s) t ys → ⊥
unfit_sort s n t ys zs h i = unfit (class_of s) n t ys zs (root_of_sort s) h i
