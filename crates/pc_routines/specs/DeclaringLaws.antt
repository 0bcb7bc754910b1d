-- Behind a routine that its block declares: lemmas.
use Rattle.std.proofs.Common.{◌≡◌, ℕ, Bool, true, false, ◌==◌, List, [], ◌∷◌, ◌++◌, length, slice_get, Option, Some, refl, ap, sym, ◌∙◌, subst, if◌then◌else◌}
use Rattle.pc_syntax.specs.Plain.{Plain}
use Rattle.pc_syntax.specs.WellFormed.{IsProper}
use Rattle.pc_syntax.specs.declared.kind.Kind.{Kind}
use Rattle.pc_types.specs.declared.form.OwnerId.{OwnerId}
use Rattle.pc_names.specs.Bindings.{slot_in, declared}
use Rattle.pc_names.specs.Numbers.{number_of}
use Rattle.pc_names.specs.Standing.{meant}
use Rattle.pc_names.specs.TableLaws.{slice_get-number_of}
use Rattle.pc_names.specs.declared.id.DeclarationId.{DeclarationId}
use Rattle.pc_names.specs.declared.id.NameId.{NameId}
use Rattle.pc_scope.specs.Headings.{Heading, heading_of, first_name, is_function_kind, is_routine_kind}
use Rattle.pc_rules.specs.Declarations.{heading_here, is_later_declaration, routine_class}
use Rattle.pc_rules.specs.Meanings.{Meaning, Local, Outside, declared_as, define_all}
use Rattle.pc_rules.specs.Places.{behind}
use Rattle.pc_environment.specs.Decorating.{attributes_at}
use Rattle.pc_facts.specs.declared.sighting.Declared.{Declared}
use Rattle.pc_places.specs.declared.tables.Tables.{Tables}
use Rattle.pc_places.specs.Places.{known, IsPlace, Rebound}
use Rattle.pc_places.specs.ReboundLaws.{IsPlace-define}
use Rattle.pc_places.specs.Scenes.{Declares}
use Rattle.pc_places.specs.SceneLaws.{Declares-plain}
use Rattle.pc_routines.specs.Bare.{bare_routine, class_of, declared_routine}
use Rattle.pc_routines.specs.Heads.{ShowsHeadName, ShowsHead}
use Rattle.pc_routines.specs.HeadsLaws.{number-shown}
use Rattle.pc_routines.specs.PairsLaws.{some-letter}
use Rattle.pc_routines.specs.RoutineLaws.{defines-at}
use Rattle.pc_routines.specs.BesideLaws.{IsPlace-routine}
use Rattle.pc_routines.specs.declared.head.RoutineHead.{RoutineHead}

abbrev none : List (List ℕ × Meaning)
none = []

abbrev one : List ℕ → Meaning → List (List ℕ × Meaning)
one n m = (n, m) ∷ []

class-is : (k : Kind) (b : Bool) → b ≡ is_function_kind k → meant (class_of b) ≡ routine_class k
class-is k b e = ap (λ (f : Bool). meant (class_of f)) e ∙ by (is_function_kind k) refl
  where
    by : (f : Bool) → is_function_kind k ≡ f → meant (class_of f) ≡ routine_class k
    by true p = sym (ap (λ (f : Bool). if f then meant (class_of true) else meant (class_of false)) p)
    by false p = sym (ap (λ (f : Bool). if f then meant (class_of true) else meant (class_of false)) p)

-- its declaration shows what the rules say of it
routine-declares : (t : Tables) (block : ℕ) (owner : OwnerId) (out : Outside) (l : Local) (k : Kind) (name : NameId) (b : Bool) (n : List ℕ) → IsPlace t block owner.0 out l → b ≡ is_function_kind k →
    number_of t.names.texts n ≡ Some name.0 → Declares (known t) n (declared_routine owner name b) (declared_as (routine_class k) l.owner)
routine-declares t block owner out l k name b n at e number = Declares-plain (known t) n (declared_routine owner name b) (declared_as (routine_class k) l.owner) refl refl (record {
  class = class-is k b e;
  owner = at.owner_is;
  owner_there = at.there;
  name = slice_get-number_of t.names.texts n name.0 number;
  value = tt;
  type = record { shape = refl; there = λ x none. cc };
  signature = tt;
})

-- a routine behind which the block declares what it declared before it
same-behind : (t : Tables) (block owner : ℕ) (out : Outside) (l : Local) (node : Plain) → is_routine_kind node.kind ≡ true → (attributes_at out l (bare_routine node)).defines ≡ [] → IsPlace t block owner out l →
    IsPlace t block owner out (behind l node.kind (attributes_at out l (bare_routine node)))
same-behind t block owner out l node r none at =
    IsPlace-routine t block owner out l node.kind (attributes_at out l (bare_routine node)) r (subst (λ (ds : List (List ℕ × Meaning)). IsPlace t block owner out (define_all l ds)) (sym none) at)

later-none : (later : Bool) (ds : List (List ℕ × Meaning)) → later ≡ true → (if later then [] else ds) ≡ none
later-none true ds e = refl
later-none false ds e = cc

-- behind a later declaration
pub behind-later : (t : Tables) (block owner : ℕ) (out : Outside) (l : Local) (node : Plain) → is_routine_kind node.kind ≡ true → IsProper node → true ≡ is_later_declaration l → IsPlace t block owner out l →
    IsPlace t block owner out (behind l node.kind (attributes_at out l (bare_routine node)))
behind-later t block owner out l node r p late at = same-behind t block owner out l node r (defines-at out l node r p ∙ later-none (is_later_declaration l) _ (sym late)) at

unnamed-none : (later : Bool) (n : List ℕ) (m : Meaning) → n ≡ [] → (if later then [] else (if length n == 0 then [] else one n m)) ≡ none
unnamed-none true n m e = refl
unnamed-none false n m e = ap (λ (q : List ℕ). let ds : List (List ℕ × Meaning) = (if length q == 0 then [] else one q m) in ds) e

-- behind a hole in the place of a name
pub behind-unnamed : (t : Tables) (block owner : ℕ) (out : Outside) (l : Local) (node : Plain) → is_routine_kind node.kind ≡ true → IsProper node → first_name node.kids ≡ [] → IsPlace t block owner out l →
    IsPlace t block owner out (behind l node.kind (attributes_at out l (bare_routine node)))
behind-unnamed t block owner out l node r p e at =
    same-behind t block owner out l node r (defines-at out l node r p ∙ unnamed-none (is_later_declaration l) (first_name node.kids) (declared_as (routine_class node.kind) l.owner) e) at

one-defined : (later : Bool) (n : List ℕ) (m : Meaning) → later ≡ false → (length n == 0) ≡ false → (if later then [] else (if length n == 0 then [] else one n m)) ≡ one n m
one-defined true n m e f = cc
one-defined false n m e f = ap (λ (z : Bool). let ds : List (List ℕ × Meaning) = (if z then [] else one n m) in ds) f

some-name : (names : List (List ℕ)) (i : NameId) (n : List ℕ) → ShowsHeadName names (Some i) n → (length n == 0) ≡ false
some-name names i [] e = absurd e
some-name names i (c ∷ cs) e = some-letter c cs

-- behind a routine that is declared
pub behind-declared : (old new : Tables) (block : ℕ) (owner : OwnerId) (out : Outside) (l : Local) (node : Plain) (x : RoutineHead) (name : NameId) (d : DeclarationId) →
    is_routine_kind node.kind ≡ true → IsProper node → heading_here l ≡ heading_of node.kind node.kids → ShowsHead old.names.texts x (heading_here l) → x.name ≡ Some name → false ≡ is_later_declaration l →
    Rebound block name.0 (declared (slot_in old.names.slots block name.0) d) (declared_routine owner name x.is_function ∷ []) old new → d.0 ≡ length old.declarations.items → IsPlace old block owner.0 out l →
    IsPlace new block owner.0 out (behind l node.kind (attributes_at out l (bare_routine node)))
behind-declared old new block owner out l node x name d r p is shows named late rebound last at =
    let names = old.names.texts in
    let n = first_name node.kids in
    let m = declared_as (routine_class node.kind) l.owner in
    let named_here : ShowsHeadName names (Some name) (heading_here l).name = subst (λ (o : Option NameId). ShowsHeadName names o (heading_here l).name) named shows.name in
    let shown : ShowsHeadName names (Some name) n = subst (λ (h : Heading). ShowsHeadName names (Some name) h.name) is named_here in
    let number : number_of names n ≡ Some name.0 = number-shown names name n shown in
    let one_side : x.is_function ≡ is_function_kind node.kind = shows.side ∙ ap (λ (h : Heading). h.is_function) is in
    IsPlace-routine new block owner.0 out l node.kind (attributes_at out l (bare_routine node)) r
    (subst (λ (ds : List (List ℕ × Meaning)). IsPlace new block owner.0 out (define_all l ds))
    (sym (defines-at out l node r p ∙ one-defined (is_later_declaration l) n m (sym late) (some-name names name n shown)))
    (IsPlace-define block name.0 owner.0 d (declared_routine owner name x.is_function) old new out l n m rebound last number (routine-declares old block owner out l node.kind name x.is_function n at one_side number) at))

-- the declaration that was added stands at its number
pub added-last : {X : Type 0} (xs ys : List X) (x : X) (i : ℕ) → ys ≡ xs ++ x ∷ [] → i ≡ length xs → slice_get ys i ≡ Some x
added-last {X} xs ys x i e is = (λ k. slice_get (e k) (is k)) ∙ last xs
  where
    last : (zs : List X) → slice_get (zs ++ x ∷ []) (length zs) ≡ Some x
    last [] = refl
    last (z ∷ zs) = last zs

pub added-named : (xs ys : List Declared) (owner : OwnerId) (name other : NameId) (d i : DeclarationId) (b : Bool) (o : Option NameId) → ys ≡ xs ++ declared_routine owner name b ∷ [] → d.0 ≡ length xs →
    o ≡ Some name → o ≡ Some other → Some d ≡ Some i → slice_get ys i.0 ≡ Some (declared_routine owner other b)
added-named xs ys owner name other d i b o e is named others same =
    let one_name : name ≡ other = cc in
    let one_number : d ≡ i = cc in
    added-last xs ys (declared_routine owner other b) i.0 (subst (λ (n : NameId). ys ≡ xs ++ declared_routine owner n b ∷ []) one_name e) (subst (λ (j : DeclarationId). j.0 ≡ length xs) one_number is)
