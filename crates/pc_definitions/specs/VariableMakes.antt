-- What is made of a variable declaration, from what is made of its names and of its denoter: laws.
use Rattle.std.specs.Prelude.{◌≡◌, ℕ, Bool, true, List, [], ◌∷◌, ◌++◌, get_or, Option, if◌then◌else◌}
use Rattle.std.proofs.Common.{refl, ap, sym, ◌∙◌, subst}
use Rattle.pc_syntax.specs.Classes.{has}
use Rattle.pc_syntax.specs.Plain.{Forest, Nil, Cons, Plain}
use Rattle.pc_syntax.specs.Sorts.{is_hole}
use Rattle.pc_syntax.specs.Words.{lowered}
use Rattle.pc_syntax.specs.declared.class.Class.TheVariants as class
use Rattle.pc_syntax.specs.declared.kind.Kind.TheVariants as kind
use Rattle.pc_types.specs.Table.{nobody}
use Rattle.pc_types.specs.declared.form.OwnerId.{OwnerId}
use Rattle.pc_types.specs.declared.operand.Operand.{Operand}
use Rattle.pc_forms.specs.declared.form.Form.TheVariants as form
use Rattle.pc_scope.specs.Headings.{names_of}
use Rattle.pc_names.specs.declared.id.NameId.{NameId}
use Rattle.pc_rules.specs.Attributes.{Attributes, nodes}
use Rattle.pc_rules.specs.Declarations.{completed}
use Rattle.pc_rules.specs.DeclaringNames.{names_in, all_as}
use Rattle.pc_rules.specs.Decorated.{seen, rule, decorate}
use Rattle.pc_rules.specs.ListRuleLaws.{rule-kind, rule-word}
use Rattle.pc_rules.specs.Meanings.{Meaning, Local, Outside, define_all}
use Rattle.pc_rules.specs.Places.{inner, beside}
use Rattle.pc_environment.specs.Decorating.{attributes_at, place_behind}
use Rattle.pc_facts.specs.Shows.{ShowsNode, ShowsType}
use Rattle.pc_facts.specs.declared.facts.Facts.{Facts}
use Rattle.pc_growth.specs.Grows.{Begins}
use Rattle.pc_growth.specs.GrowsLaws.{ShowsNode-grows}
use Rattle.pc_places.specs.MovesLaws.{Moves-then}
use Rattle.pc_places.specs.NumberingLaws.{number_of-begins}
use Rattle.pc_places.specs.PlacesLaws.{IsPlace-alike}
use Rattle.pc_places.specs.Places.{known, IsPlace, Makes}
use Rattle.pc_places.specs.TellingLaws.{telling}
use Rattle.pc_places.specs.declared.tables.Tables.{Tables}
use Rattle.pc_denoters.specs.Cores.{core, IsPlace-core, core-defined, fields-defined}
use Rattle.pc_denoters.specs.FormsAt.{first_place, found_at, at-form, kind-form}
use Rattle.pc_denoters.specs.Goings.{ShowsFacts, MakesForm}
use Rattle.pc_denoters.specs.Kinds as denoting
use Rattle.pc_denoters.specs.Kinds.{class-denoting}
use Rattle.pc_denoters.specs.Quiet.{class-quiet, quiet-behind}
use Rattle.pc_definitions.specs.DefineLaws.{new_names, telling_all}
use Rattle.pc_definitions.specs.DefiningKinds.{is_defining, core-behind}
use Rattle.pc_definitions.specs.DefinitionMakes.{quiet-core}
use Rattle.pc_definitions.specs.NamingLaws.{owner-defined}
use Rattle.pc_definitions.specs.Parts.{part_place}
use Rattle.pc_definitions.specs.ToldLaws.{told-again}
use Rattle.pc_definitions.specs.Variables.{untyped, variable_meaning, AreNames, EntersVariables, TellsVariables}

-- ---- names

named-by : (b c : Bool) (v w : List ℕ) (xs ys : List (List ℕ)) → b ≡ c → v ≡ w → xs ≡ ys → (if b then xs else lowered v ∷ xs) ≡ (if c then ys else lowered w ∷ ys)
named-by b c v w xs ys e f g = λ i. if e i then g i else lowered (f i) ∷ g i

-- the names of a list where it stands
pub names-found : (out : Outside) (l : Local) (ks : Forest) → names_in (nodes (decorate out l ks)) ≡ names_of ks
unfolding decorate
names-found out l Nil = refl
names-found out l (Cons k w ns ks ts) =
    let below = decorate out (inner l k ks) ks in
    let a = rule l k w (seen out l k w) below in
    named-by (is_hole a.kind) (is_hole k) a.word w (names_in (nodes (decorate out (beside l k a) ts))) (names_of ts) (ap is_hole (rule-kind l k w (seen out l k w) below)) (rule-word l k w (seen out l k w) below)
    (names-found out (beside l k a) ts)

-- more names have got numbers
pub names-grow : (a b : List (List ℕ)) (is : List NameId) (ns : List (List ℕ)) → Begins a b → AreNames a is ns → AreNames b is ns
names-grow a b [] [] g h = tt
names-grow a b (i ∷ is) (n ∷ ns) g h = (number_of-begins a b n i.0 g h.0, names-grow a b is ns g h.1)
names-grow a b [] (n ∷ ns) g h = absurd h
names-grow a b (i ∷ is) [] g h = absurd h

pub telling-fields : (l : Local) (ns : List (List ℕ)) (m : Meaning) → (telling_all l ns m).fields ≡ l.fields
telling-fields l [] m = refl
telling-fields l (n ∷ ns) m = telling-fields (telling l n m) ns m

pub telling-owner : (l : Local) (ns : List (List ℕ)) (m : Meaning) → (telling_all l ns m).owner ≡ l.owner
telling-owner l [] m = refl
telling-owner l (n ∷ ns) m = telling-owner (telling l n m) ns m

-- ---- the declaration

-- a variable declaration, given that the type with which its variables were told again is the completed one of the denoter
pub makes-variables : (At AtPart : Tables → Local → Type 0) (t0 t1 t2 t3 : Tables) (block : ℕ) (o : OwnerId) (names den : Plain) (news : List NameId) (ty : Option Operand) (p r : Facts) →
    has class.Names names.kind ≡ true → has class.Denoter den.kind ≡ true → EntersVariables block o.0 t0 t1 names news → Makes ShowsFacts AtPart block o.0 t1 t2 den p → TellsVariables block o ty news t2 t3 →
    ((out : Outside) (l : Local) → IsPlace t0 block o.0 out l → get_or (known t1).table.owners o.0 nobody ≡ l.owner → At t0 l → AtPart t1 (part_place out l kind.Vardef names den)) →
    ((out : Outside) (l : Local) → IsPlace t0 block o.0 out l → At t0 l → ShowsType (known t2).table ty (completed (attributes_at out (part_place out l kind.Vardef names den) den).as_value.type)) →
    ((out : Outside) (l : Local) (w : List ℕ) → IsPlace t0 block o.0 out l → ShowsNode (known t3) p (attributes_at out (part_place out l kind.Vardef names den) den) →
    ShowsNode (known t3) r (found_at out l kind.Vardef w (names ∷ den ∷ []))) → MakesForm At block o.0 t0 t3 (form.Vardef names den) r
makes-variables At AtPart t0 t1 t2 t3 block o names den news ty p r isnames isden enters made tells at_part typed rule_of = λ t proper e.
    let ks = names ∷ den ∷ [] in
    let ns = names_of names.kids in
    let quiet = class-quiet class.Names names.kind refl isnames in
    let at = λ (out : Outside) (l : Local). at-form out l t (form.Vardef names den) proper e in
    let inside = λ (l : Local). define_all l (all_as (untyped l) ns) in
    let core1 = λ (l : Local). let same : core (first_place l kind.Vardef ks) ≡ core (define_all l (all_as (untyped l) ns)) = refl in same in
    let place2 = λ (out : Outside) (l : Local) (place : IsPlace t0 block o.0 out l).
    quiet-behind t1 block o.0 out (first_place l kind.Vardef ks) names quiet
    (IsPlace-core t1 block o.0 out (define_all l (all_as (untyped l) ns)) (first_place l kind.Vardef ks) (sym (core1 l)) (enters.place out l place)) in
    let here = λ (out : Outside) (l : Local) (place : IsPlace t0 block o.0 out l) (at_l : At t0 l).
    at_part out l place ((enters.place out l place).owner_is ∙ owner-defined l (all_as (untyped l) ns)) at_l in
    record {
      moves = Moves-then block t0 t2 t3 (Moves-then block t0 t1 t2 enters.moves made.moves) tells.moves;
      shows = λ out l place at_l.
          let l2 = part_place out l kind.Vardef names den in
          subst (ShowsNode (known t3) r) (sym (at out l))
          (rule_of out l t.word place (ShowsNode-grows (known t2) (known t3) p (attributes_at out l2 den) tells.moves.grows (made.shows out l2 (place2 out l place) (here out l place at_l))));
      behind = λ out l place at_l.
          let l1 = first_place l kind.Vardef ks in
          let l2 = part_place out l kind.Vardef names den in
          let first = define_all l (all_as (untyped l) ns) in
          let ds = (attributes_at out l2 den).defines in
          let m = variable_meaning l (completed (attributes_at out l2 den).as_value.type) in
          let news_l = new_names l (untyped l) ns in
          let core3 : core (place_behind out l2 den) ≡ core (define_all first ds) =
          denoting.core-behind out l2 den (class-denoting class.Denoter den.kind refl isden) ∙ core-defined l2 first ds (quiet-core out l1 names quiet ∙ core1 l) in
          let place3 : IsPlace t2 block o.0 out (define_all first ds) =
          IsPlace-core t2 block o.0 out (place_behind out l2 den) (define_all first ds) core3 (made.behind out l2 (place2 out l place) (here out l place at_l)) in
          let owned = owner-defined first ds ∙ owner-defined l (all_as (untyped l) ns) in
          let told = tells.place o.0 out (define_all first ds) news_l m (names-grow t1.names.texts t2.names.texts news news_l made.moves.grows.names (enters.first out l place))
          (record { class = refl; owner = place3.owner_is ∙ owned; owner_there = place3.there; value = tt; type = typed out l place at_l; bare = refl }) place3 in
          let alike = told-again l (untyped l) m ns ds in
          let all = all_as m ns ++ ds in
          let last : IsPlace t3 block o.0 out (define_all l all) =
          IsPlace-alike t3 block o.0 out (telling_all (define_all first ds) news_l m) (define_all l all)
          (fields-defined l all ∙ sym (telling-fields (define_all first ds) news_l m ∙ fields-defined first ds ∙ fields-defined l (all_as (untyped l) ns)))
          (owner-defined l all ∙ sym (telling-owner (define_all first ds) news_l m ∙ owned)) alike.names alike.passed alike.known told in
          let defines : (attributes_at out l t).defines ≡ all =
          ap (λ (a : Attributes). a.defines) (at out l) ∙ ap (λ (xs : List (List ℕ)). all_as m xs ++ ds) (names-found out (inner l1 names.kind names.kids) names.kids) in
          IsPlace-core t3 block o.0 out (define_all l all) (place_behind out l t)
          (ap (λ (xs : List (List ℕ × Meaning)). core (define_all l xs)) (sym defines) ∙ sym (core-behind out l t (ap is_defining (kind-form t (form.Vardef names den) e)))) last;
    }
