-- The nodes of a heading where they stand: lemmas.
use Rattle.std.proofs.Common.{◌≡◌, ℕ, true, List, [], ◌∷◌, get_or, refl, ap, sym, ◌∙◌}
use Rattle.pc_syntax.specs.Classes.{has, is_name}
use Rattle.pc_syntax.specs.Plain.{Forest, Cons, Plain, forest_of, kids_of}
use Rattle.pc_syntax.specs.PartsLaws.{forest_of-kids_of}
use Rattle.pc_syntax.specs.declared.class.Class.TheVariants as class
use Rattle.pc_syntax.specs.declared.kind.Kind.{Kind}
use Rattle.pc_syntax.specs.declared.kind.Kind.TheVariants as kind
use Rattle.pc_types.specs.Shapes.{Owner}
use Rattle.pc_rules.specs.Attributes.{Attributes, Node, nodes, missing}
use Rattle.pc_rules.specs.Decorated.{seen, rule, decorate}
use Rattle.pc_rules.specs.Headings.{signature_in}
use Rattle.pc_rules.specs.Meanings.{Found, Local, Outside, define_all}
use Rattle.pc_rules.specs.OwnBlock.{heading_part}
use Rattle.pc_rules.specs.Places.{beside}
use Rattle.pc_rules.specs.Routines.{Routine, bare, heading_start, heading_marks, params_in, result_in}
use Rattle.pc_environment.specs.Decorating.{attributes_at, below_at, place_behind}
use Rattle.pc_environment.specs.DecoratingLaws.{at-node}
use Rattle.pc_places.specs.Places.{node_at}
use Rattle.pc_headings.specs.Headed.{marks_in, signature_of}
use Rattle.pc_headings.specs.Parts.{HasParameters, HasResultType}

-- ---- the routine that a heading belongs to

-- what is found at the heading of a routine
pub heading_marks-is : (r : Routine) (t : Plain) → r.heading ≡ heading_part t.kids → heading_marks r ≡ marks_in r.means r.owner t
unfolding heading_marks
heading_marks-is r t e = ap (decorate (bare r.means) (heading_start r.owner)) e

-- its parameters and result
pub signature_in-is : (r : Routine) → signature_in r ≡ signature_of r.kind r.is_later (heading_marks r)
signature_in-is r = refl

-- ---- the kids of a heading

-- what stays of a node that is no block
abbrev Stays : Kind → Type 0
Stays k = (w : List ℕ) (ns : List (List ℕ)) (ks ts : Forest) → heading_part (Cons k w ns ks ts) ≡ Cons k w ns ks (heading_part ts)

pub name-stays : (k : Kind) → is_name k ≡ true → Stays k
name-stays kind.Name is w ns ks ts = refl
name-stays (kind.Hole s) is w ns ks ts = refl
name-stays k is w ns ks ts = cc

params-stay : (k : Kind) → has class.Params k ≡ true → Stays k
params-stay kind.Params is w ns ks ts = refl
params-stay k is w ns ks ts = cc

heads-stay : (k : Kind) → has class.Heads k ≡ true → Stays k
heads-stay kind.Heads is w ns ks ts = refl
heads-stay k is w ns ks ts = cc

pub part-of : (t : Plain) (ks : List Plain) → kids_of t ≡ ks → t.kids ≡ forest_of ks
part-of t ks e = sym (forest_of-kids_of t) ∙ ap forest_of e

two-stay : (a b : Plain) (rest : List Plain) → Stays a.kind → Stays b.kind →
    heading_part (forest_of (a ∷ b ∷ rest)) ≡ Cons a.kind a.word a.notes a.kids (Cons b.kind b.word b.notes b.kids (heading_part (forest_of rest)))
two-stay a b rest x y = x a.word a.notes a.kids (forest_of (b ∷ rest)) ∙ ap (Cons a.kind a.word a.notes a.kids) (y b.word b.notes b.kids (forest_of rest))

-- ---- the nodes of a heading

nodes-two : (out : Outside) (l : Local) (a b : Plain) (f : Forest) →
    nodes (decorate out l (Cons a.kind a.word a.notes a.kids (Cons b.kind b.word b.notes b.kids f))) ≡
    node_at out l a ∷ node_at out (place_behind out l a) b ∷ nodes (decorate out (place_behind out (place_behind out l a) b) f)
unfolding decorate
nodes-two out l a b f = refl

pub nodes-one : (out : Outside) (l : Local) (a : Plain) (f : Forest) → nodes (decorate out l (Cons a.kind a.word a.notes a.kids f)) ≡ node_at out l a ∷ nodes (decorate out (place_behind out l a) f)
unfolding decorate
nodes-one out l a f = refl

marks-two : (means : List ℕ → Found) (o : Owner) (t a b : Plain) (rest : List Plain) → kids_of t ≡ a ∷ b ∷ rest → Stays a.kind → Stays b.kind →
    nodes (marks_in means o t) ≡
    node_at (bare means) (heading_start o) a ∷ node_at (bare means) (place_behind (bare means) (heading_start o) a) b
    ∷ nodes (decorate (bare means) (place_behind (bare means) (place_behind (bare means) (heading_start o) a) b) (heading_part (forest_of rest)))
marks-two means o t a b rest kids x y =
    ap (λ (f : Forest). nodes (decorate (bare means) (heading_start o) f)) (ap heading_part (part-of t (a ∷ b ∷ rest) kids) ∙ two-stay a b rest x y)
    ∙ nodes-two (bare means) (heading_start o) a b (heading_part (forest_of rest))

-- the second kid
second-at : (means : List ℕ → Found) (o : Owner) (t a b : Plain) (rest : List Plain) → kids_of t ≡ a ∷ b ∷ rest → Stays a.kind → Stays b.kind →
    params_in (marks_in means o t) ≡ node_at (bare means) (place_behind (bare means) (heading_start o) a) b
second-at means o t a b rest kids x y = ap (λ (ns : List Node). get_or ns 1 missing) (marks-two means o t a b rest kids x y)

-- the parameters
pub params-at : (means : List ℕ → Found) (o : Owner) (t params : Plain) (h : HasParameters t params) → params_in (marks_in means o t) ≡ node_at (bare means) (place_behind (bare means) (heading_start o) h.name) params
params-at means o t params h = second-at means o t h.name params h.rest h.kids (name-stays h.name.kind h.name_is) (params-stay params.kind h.params_are)

pub function-params-at : (means : List ℕ → Found) (o : Owner) (t params result : Plain) (h : HasResultType t params result) →
    params_in (marks_in means o t) ≡ node_at (bare means) (place_behind (bare means) (heading_start o) h.name) params
function-params-at means o t params result h = second-at means o t h.name params (result ∷ h.rest) h.kids (name-stays h.name.kind h.name_is) (params-stay params.kind h.params_are)

-- the result type
pub result-at : (means : List ℕ → Found) (o : Owner) (t params result : Plain) (h : HasResultType t params result) →
    result_in (marks_in means o t) ≡ node_at (bare means) (place_behind (bare means) (place_behind (bare means) (heading_start o) h.name) params) result
result-at means o t params result h =
    let out = bare means in
    let l = place_behind out (place_behind out (heading_start o) h.name) params in
    ap (λ (ns : List Node). get_or ns 2 missing) (marks-two means o t h.name params (result ∷ h.rest) h.kids (name-stays h.name.kind h.name_is) (params-stay params.kind h.params_are))
    ∙ ap (λ (f : Forest). get_or (nodes (decorate out l f)) 0 missing) (name-stays result.kind h.result_is result.word result.notes result.kids (forest_of h.rest))
    ∙ ap (λ (ns : List Node). get_or ns 0 missing) (nodes-one out l result (heading_part (forest_of h.rest)))

-- the names of the files of a program
pub heads-at : (means : List ℕ → Found) (o : Owner) (t a heads : Plain) (rest : List Plain) → kids_of t ≡ a ∷ heads ∷ rest → has class.Name a.kind ≡ true → has class.Heads heads.kind ≡ true →
    params_in (marks_in means o t) ≡ node_at (bare means) (place_behind (bare means) (heading_start o) a) heads
heads-at means o t a heads rest kids is are = second-at means o t a heads rest kids (name-stays a.kind is) (heads-stay heads.kind are)

-- ---- behind the name

name-defines : (out : Outside) (l : Local) (t : Plain) → t.kind ≡ kind.Name → (attributes_at out l t).defines ≡ []
unfolding rule
name-defines out l t e = ap (λ (a : Attributes). a.defines) (at-node out l t) ∙ (λ i. (rule l (e i) t.word (seen out l (e i) t.word) (below_at out l t)).defines)

passed-by : (out : Outside) (l : Local) (t : Plain) (k : Kind) → t.kind ≡ k → is_name k ≡ true → (beside l k (attributes_at out l t)).passed ≡ l.passed
passed-by out l t kind.Name e is = ap (λ (ds : List (List ℕ × _)). (define_all l ds).passed) (name-defines out l t e)
passed-by out l t (kind.Hole s) e is = refl
passed-by out l t k e is = cc

-- no name more stands before
pub name-passed : (out : Outside) (l : Local) (t : Plain) → has class.Name t.kind ≡ true → (place_behind out l t).passed ≡ l.passed
name-passed out l t is = passed-by out l t t.kind refl is
