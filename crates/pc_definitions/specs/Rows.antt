-- What is made of the definitions of a part, one after the other: laws.
use Rattle.std.specs.Prelude.{◌≡◌, ◌<◌, ◌+◌, ◌++◌, ℕ, Bool, true, false, List, [], ◌∷◌, Some, zero, suc, length, take, slice_get}
use Rattle.std.proofs.Common.{refl, ap, sym, ◌∙◌, subst}
use Rattle.pc_syntax.specs.Classes.{has}
use Rattle.pc_syntax.specs.Plain.{Plain, kids_of}
use Rattle.pc_syntax.specs.WellFormed.{IsProper}
use Rattle.pc_syntax.specs.declared.class.Class.{Class}
use Rattle.pc_syntax.specs.declared.class.Class.TheVariants as class
use Rattle.pc_syntax.specs.declared.kind.Kind.{Kind}
use Rattle.pc_syntax.specs.declared.kind.Kind.TheVariants as kind
use Rattle.pc_syntax.specs.declared.sort.Sort.{Sort}
use Rattle.pc_forms.specs.Form.{form_of}
use Rattle.pc_forms.specs.FormClasses.{Every, HasKids}
use Rattle.pc_forms.specs.FormKids.{kids_in}
use Rattle.pc_forms.specs.FormLaws.{kind_in-form_of, kids_in-form_of, classes-form_of}
use Rattle.pc_forms.specs.declared.form.Form.TheVariants as form
use Rattle.pc_rules.specs.Attributes.{Attributes, Node, nodes}
use Rattle.pc_rules.specs.Declarations.{declarations_rule}
use Rattle.pc_rules.specs.Decorated.{with_kind, hole_rule}
use Rattle.pc_rules.specs.HandedOn.{all_defines, handed_on}
use Rattle.pc_rules.specs.Meanings.{Meaning, Local, Outside, define_all}
use Rattle.pc_environment.specs.Decorating.{attributes_at, place_behind, place_after, marks_of}
use Rattle.pc_facts.specs.Known.{Known}
use Rattle.pc_facts.specs.Shows.{ShowsNode, AllShow}
use Rattle.pc_facts.specs.declared.facts.Facts.{Facts}
use Rattle.pc_growth.specs.GrowsLaws.{ShowsNode-grows}
use Rattle.pc_places.specs.MovesLaws.{Moves-same}
use Rattle.pc_places.specs.Places.{known, IsPlace, Moves, Makes}
use Rattle.pc_places.specs.declared.tables.Tables.{Tables}
use Rattle.pc_denoters.specs.Cores.{core, IsPlace-core, core-defined}
use Rattle.pc_denoters.specs.FormsAt.{first_place, found_at, at-form, at-kind-of, kind-form}
use Rattle.pc_denoters.specs.Goings.{ShowsFacts, MakesRow, MakesForm}
use Rattle.pc_denoters.specs.MakesLaws.{row-one-more}
use Rattle.pc_definitions.specs.DefiningKinds.{is_defining, is_part, core-behind, core-after, core-part}

-- ---- a hole in place of a definition

-- the same is known behind it, and nothing is found at it
pub makes-hole : (At : Tables → Local → Type 0) (block owner : ℕ) (t0 : Tables) (s : Sort) (r : Facts) → ((k : Known) (w : List ℕ) → ShowsNode k r (with_kind (kind.Hole s) w hole_rule)) →
    MakesForm At block owner t0 t0 (form.Hole s) r
makes-hole At block owner t0 s r rule = λ t proper e.
    let at = λ (out : Outside) (l : Local). at-form out l t (form.Hole s) proper e in
    record {
      moves = Moves-same block t0;
      shows = λ out l place at_l. subst (ShowsNode (known t0) r) (sym (at out l)) (rule (known t0) t.word);
      behind = λ out l place at_l.
          IsPlace-core t0 block owner out l (place_behind out l t)
          (ap (λ (ds : List (List ℕ × Meaning)). core (define_all l ds)) (sym (ap (λ (a : Attributes). a.defines) (at out l)))
          ∙ sym (core-behind out l t (ap is_defining (kind-form t (form.Hole s) e)))) place;
    }

-- ---- lists

-- what is found at a node that hands on what its kids have is found at one that also hands on what they declare
pub shows-declarations : (k : Known) (r : Facts) (j : Kind) (w : List ℕ) (ns : List Node) → ShowsNode k r (with_kind j w (handed_on ns)) → ShowsNode k r (with_kind j w (declarations_rule ns))
shows-declarations k r j w ns h = record {
  kind = h.kind;
  hole = h.hole;
  value = h.value;
  place = h.place;
  target = h.target;
  constant = h.constant;
  variable = h.variable;
  packed_part = h.packed_part;
}

listed : (out : Outside) (l : Local) (k : Kind) (w : List ℕ) (ks : List Plain) → is_part k ≡ true → found_at out l k w ks ≡ with_kind k w (declarations_rule (nodes (marks_of out (first_place l k ks) ks)))
listed out l kind.Consts w ks e = refl
listed out l kind.Types w ks e = refl
listed out l kind.Vars w ks e = refl
listed out l k w ks e = cc

-- the list of a part where it stands
pub part-at : (out : Outside) (l : Local) (t : Plain) (k : Kind) → t.kind ≡ k → is_part k ≡ true →
    attributes_at out l t ≡ with_kind k t.word (declarations_rule (nodes (marks_of out (first_place l k (kids_of t)) (kids_of t))))
part-at out l t k e is = at-kind-of out l t k e ∙ listed out l k t.word (kids_of t) is

-- what was made of the list of a part, whose definitions are declared behind it, though its types may not be closed yet
pub record MakesPart (At : Tables → Local → Type 0) (block owner : ℕ) (old new : Tables) (t : Plain) (r : Facts) : Type 0 where
  pub moves : Moves block old new
  pub shows : (out : Outside) (l : Local) → IsPlace old block owner out l → At old l → ShowsNode (known new) r (attributes_at out l t)
  pub declared : (out : Outside) (l : Local) → IsPlace old block owner out l → At old l → IsPlace new block owner out (define_all l (attributes_at out l t).defines)

-- given what was made of its definitions
pub makes-part : (At Each : Tables → Local → Type 0) (block owner : ℕ) (t0 t1 : Tables) (t : Plain) (k : Kind) (xs : List Facts) (r : Facts) → t.kind ≡ k → is_part k ≡ true →
    Every (λ u. is_defining u.kind ≡ true) (kids_of t) → ((l : Local) → At t0 l → Each t0 (first_place l k (kids_of t))) → MakesRow ShowsFacts Each block owner t0 t1 (kids_of t) xs →
    ((n : Known) (w : List ℕ) (ns : List Node) → AllShow (ShowsFacts n) xs ns → ShowsNode n r (with_kind k w (handed_on ns))) → MakesPart At block owner t0 t1 t r
makes-part At Each block owner t0 t1 t k xs r e is all each row rule =
    let ks = kids_of t in
    let place1 = λ (out : Outside) (l : Local) (place : IsPlace t0 block owner out l). IsPlace-core t0 block owner out l (first_place l k ks) (sym (core-part l k _ is)) place in
    record {
      moves = row.moves;
      shows = λ out l place at_l.
          let l1 = first_place l k ks in
          let ns = nodes (marks_of out l1 ks) in
          subst (ShowsNode (known t1) r) (sym (part-at out l t k e is))
          (shows-declarations (known t1) r k t.word ns (rule (known t1) t.word ns (row.shows out l1 (place1 out l place) (each l at_l))));
      declared = λ out l place at_l.
          let l1 = first_place l k ks in
          let ds = all_defines (nodes (marks_of out l1 ks)) in
          IsPlace-core t1 block owner out (place_after out l1 ks) (define_all l (attributes_at out l t).defines)
          (core-after out l1 ks all ∙ core-defined l1 l ds (core-part l k _ is) ∙ ap (λ (xs : List (List ℕ × Meaning)). core (define_all l xs)) (sym (ap (λ (a : Attributes). a.defines) (part-at out l t k e is))))
          (row.behind out l1 (place1 out l place) (each l at_l));
    }

-- behind constants and variables the tables stand for the next place
pub makes-whole : (At : Tables → Local → Type 0) (block owner : ℕ) (t0 t1 : Tables) (t : Plain) (r : Facts) → is_defining t.kind ≡ true → MakesPart At block owner t0 t1 t r →
    Makes ShowsFacts At block owner t0 t1 t r
makes-whole At block owner t0 t1 t r is part = record {
  moves = part.moves;
  shows = part.shows;
  behind = λ out l place at_l.
      IsPlace-core t1 block owner out (define_all l (attributes_at out l t).defines) (place_behind out l t) (sym (core-behind out l t is)) (part.declared out l place at_l);
}

-- ---- the kinds of lists and of what stands in them

-- the classes of definitions
abbrev pub is_defining_class : Class → Bool
is_defining_class class.Constdef = true
is_defining_class class.Typedef = true
is_defining_class class.Vardef = true
is_defining_class _ = false

pub class-defining : (c : Class) (k : Kind) → is_defining_class c ≡ true → has c k ≡ true → is_defining k ≡ true
class-defining c kind.Constdef b e = refl
class-defining c kind.Typedef b e = refl
class-defining c kind.Vardef b e = refl
class-defining c kind.Consts b e = refl
class-defining c kind.Vars b e = refl
class-defining c (kind.Hole s) b e = refl
class-defining class.Constdef k b e = cc
class-defining class.Typedef k b e = cc
class-defining class.Vardef k b e = cc
class-defining c k b e = cc

pub every-defining : (c : Class) (ks : List Plain) → is_defining_class c ≡ true → Every (λ k. has c k.kind ≡ true) ks → Every (λ k. is_defining k.kind ≡ true) ks
every-defining c [] b h = tt
every-defining c (k ∷ ks) b h = (class-defining c k.kind b h.0, every-defining c ks b h.1)

pub consts-kind : (k : Kind) → has class.Consts k ≡ true → k ≡ kind.Consts
consts-kind kind.Consts e = refl
consts-kind k e = cc

pub types-kind : (k : Kind) → has class.Types k ≡ true → k ≡ kind.Types
types-kind kind.Types e = refl
types-kind k e = cc

pub vars-kind : (k : Kind) → has class.Vars k ≡ true → k ≡ kind.Vars
vars-kind kind.Vars e = refl
vars-kind k e = cc

-- the kids of a list have the class of its elements
pub kids-classes : (t : Plain) (k : Kind) → IsProper t → t.kind ≡ k → HasKids k (kids_of t)
kids-classes t k proper e =
    subst (λ (ks : List Plain). HasKids k ks) (kids_in-form_of t proper) (subst (λ (j : Kind). HasKids j (kids_in (form_of t))) (kind_in-form_of t ∙ e) (classes-form_of t proper))

every-at : (P : Plain → Type 0) (ts : List Plain) (i : ℕ) (t : Plain) → Every P ts → slice_get ts i ≡ Some t → P t
every-at P [] i t h e = cc
every-at P (u ∷ ts) zero t h e = let same : u ≡ t = cc in subst P same h.0
every-at P (u ∷ ts) (suc i) t h e = every-at P ts i t h.1 e

-- what stands in a list of constants, of types, and of variables
pub consts-kid : (t u : Plain) (i : ℕ) → IsProper t → has class.Consts t.kind ≡ true → slice_get (kids_of t) i ≡ Some u → has class.Constdef u.kind ≡ true
consts-kid t u i proper is at = every-at (λ k. has class.Constdef k.kind ≡ true) (kids_of t) i u (kids-classes t kind.Consts proper (consts-kind t.kind is)) at

pub types-kid : (t u : Plain) (i : ℕ) → IsProper t → has class.Types t.kind ≡ true → slice_get (kids_of t) i ≡ Some u → has class.Typedef u.kind ≡ true
types-kid t u i proper is at = every-at (λ k. has class.Typedef k.kind ≡ true) (kids_of t) i u (kids-classes t kind.Types proper (types-kind t.kind is)) at

pub vars-kid : (t u : Plain) (i : ℕ) → IsProper t → has class.Vars t.kind ≡ true → slice_get (kids_of t) i ≡ Some u → has class.Vardef u.kind ≡ true
vars-kid t u i proper is at = every-at (λ k. has class.Vardef k.kind ≡ true) (kids_of t) i u (kids-classes t kind.Vars proper (vars-kind t.kind is)) at

names-kind : (k : Kind) → has class.Names k ≡ true → k ≡ kind.Names
names-kind kind.Names e = refl
names-kind k e = cc

-- and of names
pub names-kid : (t u : Plain) (i : ℕ) → IsProper t → has class.Names t.kind ≡ true → slice_get (kids_of t) i ≡ Some u → has class.Name u.kind ≡ true
names-kid t u i proper is at = every-at (λ k. has class.Name k.kind ≡ true) (kids_of t) i u (kids-classes t kind.Names proper (names-kind t.kind is)) at

-- ---- one more of them

-- no definitions
pub row-start : (At : Tables → Local → Type 0) (block owner : ℕ) (t : Tables) (xs : List Facts) → xs ≡ [] → MakesRow ShowsFacts At block owner t t [] xs
row-start At block owner t xs none =
    subst (λ (fs : List Facts). MakesRow ShowsFacts At block owner t t [] fs) (sym none)
    (record { moves = Moves-same block t; shows = λ out l place at. tt; behind = λ out l place at. place })

-- one more behind those so far
pub row-next : (At Next : Tables → Local → Type 0) (block owner : ℕ) (t0 t1 t2 : Tables) (kids : List Plain) (i : ℕ) (kid read : Plain) (xs ys : List Facts) (x : Facts) → i < length kids → kid ≡ read →
    take (i + 1) kids ≡ take i kids ++ read ∷ [] → ys ≡ xs ++ x ∷ [] → ((out : Outside) (l : Local) → At t0 l → Next t1 (place_after out l (take i kids))) →
    MakesRow ShowsFacts At block owner t0 t1 (take i kids) xs → Makes ShowsFacts Next block owner t1 t2 kid x → MakesRow ShowsFacts At block owner t0 t2 (take (i + 1) kids) ys
row-next At Next block owner t0 t1 t2 kids i kid read xs ys x less same taken grown next row one =
    let whole : take (i + 1) kids ≡ take i kids ++ kid ∷ [] = taken ∙ ap (λ k. take i kids ++ k ∷ []) (sym same) in
    subst (λ (ts : List Plain). MakesRow ShowsFacts At block owner t0 t2 ts ys) (sym whole)
    (subst (λ (fs : List Facts). MakesRow ShowsFacts At block owner t0 t2 (take i kids ++ kid ∷ []) fs) (sym grown)
    (row-one-more ShowsFacts At Next block owner t0 t1 t2 (take i kids) kid xs x (λ a b f n g h. ShowsNode-grows a b f n.at g h) next row one))
