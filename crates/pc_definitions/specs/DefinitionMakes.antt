-- What is made of a definition, from what is made of its name and of its part: laws.
use Rattle.std.specs.Prelude.{◌≡◌, ◌<◌, ℕ, true, List, [], ◌∷◌, ◌++◌, length, get_or, Option, if◌then◌else◌}
use Rattle.std.proofs.Common.{refl, ap, sym, ◌∙◌, subst}
use Rattle.pc_syntax.specs.Classes.{has}
use Rattle.pc_syntax.specs.Plain.{Plain}
use Rattle.pc_syntax.specs.Sorts.{is_hole}
use Rattle.pc_syntax.specs.WellFormed.{IsProper}
use Rattle.pc_syntax.specs.Words.{lowered}
use Rattle.pc_syntax.specs.declared.class.Class.TheVariants as class
use Rattle.pc_syntax.specs.declared.kind.Kind.{Kind}
use Rattle.pc_types.specs.Table.{nobody}
use Rattle.pc_types.specs.declared.form.OwnerId.{OwnerId}
use Rattle.pc_types.specs.declared.operand.Operand.{Operand}
use Rattle.pc_forms.specs.Form.{PlainForm, form_of}
use Rattle.pc_forms.specs.FormClasses.{Every}
use Rattle.pc_forms.specs.FormKids.{kids_in}
use Rattle.pc_forms.specs.FormKind.{kind_in}
use Rattle.pc_forms.specs.FormLaws.{proper-form_of}
use Rattle.pc_names.specs.declared.name_class.NameClass.{NameClass}
use Rattle.pc_rules.specs.Attributes.{Attributes, Node}
use Rattle.pc_rules.specs.DeclaringNames.{declares}
use Rattle.pc_rules.specs.Meanings.{Meaning, Local, Outside, define_all}
use Rattle.pc_rules.specs.Places.{pass}
use Rattle.pc_environment.specs.Decorating.{attributes_at, place_behind}
use Rattle.pc_facts.specs.Known.{Known}
use Rattle.pc_facts.specs.Shows.{ShowsNode}
use Rattle.pc_facts.specs.declared.facts.Facts.{Facts}
use Rattle.pc_facts.specs.declared.sighting.Value.{Value}
use Rattle.pc_growth.specs.GrowsLaws.{ShowsNode-grows}
use Rattle.pc_places.specs.MovesLaws.{Moves-then}
use Rattle.pc_places.specs.PlacesLaws.{IsPlace-alike}
use Rattle.pc_places.specs.Places.{known, IsPlace, Makes, node_at}
use Rattle.pc_places.specs.declared.tables.Tables.{Tables}
use Rattle.pc_denoters.specs.Cores.{core, IsPlace-core, core-defined, fields-defined}
use Rattle.pc_denoters.specs.FormsAt.{first_place, found_at, at-form, kind-form, word-at, kind-at}
use Rattle.pc_denoters.specs.Goings.{ShowsFacts, MakesForm}
use Rattle.pc_denoters.specs.Kinds as denoting
use Rattle.pc_denoters.specs.Kinds.{is_denoting}
use Rattle.pc_denoters.specs.Quiet.{is_quiet, class-quiet, quiet-denoting, quiet-defines, quiet-behind}
use Rattle.pc_definitions.specs.DefiningKinds.{is_defining, core-behind}
use Rattle.pc_definitions.specs.Namings.{FitsNaming, ShowsParts, entering, leaving}
use Rattle.pc_definitions.specs.NamingLaws.{naming-grows, entered-named, left-behind, left-fields, left-owner, entered-fields, entered-owner, owner-defined}
use Rattle.pc_definitions.specs.Parts.{EntersName, LeavesName, part_place}
use Rattle.pc_definitions.specs.declared.naming.Naming.{Naming}

-- behind a node that declares nothing the same is known
pub quiet-core : (out : Outside) (l : Local) (u : Plain) → is_quiet u.kind ≡ true → core (place_behind out l u) ≡ core l
quiet-core out l u e = denoting.core-behind out l u (quiet-denoting u.kind e) ∙ ap (λ (ds : List (List ℕ × Meaning)). core (define_all l ds)) (quiet-defines out l u e)

-- the kids of a node of known form are proper
pub proper-kids : (t : Plain) (f : PlainForm) (ks : List Plain) → IsProper t → f ≡ form_of t → kids_in f ≡ ks → Every IsProper ks
proper-kids t f ks proper e kids =
    subst (λ (xs : List Plain). Every IsProper xs) kids (subst (λ (g : PlainForm). Every IsProper (kids_in g)) (sym e) (proper-form_of t proper))

-- the name of a definition declares this
abbrev pub declared_at : Plain → Meaning → List (List ℕ × Meaning)
declared_at t m = if is_hole t.kind then [] else (lowered t.word, m) ∷ []

declares-at : (out : Outside) (l : Local) (t : Plain) (m : Meaning) → declares (node_at out l t) m ≡ declared_at t m
declares-at out l t m = λ i. if is_hole (kind-at out l t i) then [] else (lowered (word-at out l t i), m) ∷ []

-- a definition whose form is known
pub makes-definition : (At AtPart : Tables → Local → Type 0) (k : Kind) (t0 t1 t2 t3 : Tables) (block : ℕ) (o : OwnerId) (c : NameClass) (v : Option Value) (ty : Option Operand) (f : PlainForm)
    (name part : Plain) (n : Naming) (p r : Facts) (meaning : Local → Node → Meaning) → kind_in f ≡ k → kids_in f ≡ name ∷ part ∷ [] → is_defining k ≡ true →
    ((l : Local) → core (first_place l k (name ∷ part ∷ [])) ≡ core (pass l (if is_hole name.kind then [] else lowered name.word))) → has class.Name name.kind ≡ true → is_denoting part.kind ≡ true →
    ((out : Outside) (l : Local) (w : List ℕ) → (found_at out l k w (name ∷ part ∷ [])).defines ≡
    declares (node_at out (first_place l k (name ∷ part ∷ [])) name) (meaning l (node_at out (part_place out l k name part) part)) ++ (attributes_at out (part_place out l k name part) part).defines) →
    EntersName block t0 t1 name n → Makes ShowsFacts AtPart block o.0 t1 t2 part p → LeavesName block o c v ty n t2 t3 →
    ((out : Outside) (l : Local) → IsPlace t0 block o.0 out l → FitsNaming l name n → get_or (known t1).table.owners o.0 nobody ≡ l.owner → At t0 l → AtPart t1 (part_place out l k name part)) →
    ((kn : Known) (l : Local) (b : Node) → get_or kn.table.owners o.0 nobody ≡ l.owner → o.0 < length kn.table.owners → ShowsNode kn p b.at → ShowsParts kn c o v ty (meaning l b)) →
    ((out : Outside) (l : Local) (w : List ℕ) → FitsNaming l name n → ShowsNode (known t3) p (attributes_at out (part_place out l k name part) part) →
    ShowsNode (known t3) r (found_at out l k w (name ∷ part ∷ []))) → MakesForm At block o.0 t0 t3 f r
makes-definition At AtPart k t0 t1 t2 t3 block o c v ty f name part n p r meaning is kids one first isname denotes defines enters made leaves at_part parts rule = λ t proper e.
    let ks = name ∷ part ∷ [] in
    let texts = t1.names.texts in
    let proper_name = (proper-kids t f ks proper e kids).0 in
    let quiet = class-quiet class.Name name.kind refl isname in
    let at = λ (out : Outside) (l : Local). at-form out l t f proper e ∙ ap (λ (j : Kind). found_at out l j t.word (kids_in f)) is ∙ ap (λ (xs : List Plain). found_at out l k t.word xs) kids in
    let core1 = λ (l : Local). first l ∙ ap core (entered-named texts l name n proper_name isname enters.shows) in
    let place2 = λ (out : Outside) (l : Local) (place : IsPlace t0 block o.0 out l).
    quiet-behind t1 block o.0 out (first_place l k ks) name quiet (IsPlace-core t1 block o.0 out (entering l name n) (first_place l k ks) (sym (core1 l)) (enters.place o.0 out l place).1) in
    let here = λ (out : Outside) (l : Local) (place : IsPlace t0 block o.0 out l) (at_l : At t0 l).
    let entered = enters.place o.0 out l place in at_part out l place entered.0 (entered.1.owner_is ∙ entered-owner l name n) at_l in
    record {
      moves = Moves-then block t0 t2 t3 (Moves-then block t0 t1 t2 enters.moves made.moves) leaves.moves;
      shows = λ out l place at_l.
          let l2 = part_place out l k name part in
          subst (ShowsNode (known t3) r) (sym (at out l))
          (rule out l t.word (enters.place o.0 out l place).0
          (ShowsNode-grows (known t2) (known t3) p (attributes_at out l2 part) leaves.moves.grows (made.shows out l2 (place2 out l place) (here out l place at_l))));
      behind = λ out l place at_l.
          let l1 = first_place l k ks in
          let l2 = part_place out l k name part in
          let b = node_at out l2 part in
          let m = meaning l b in
          let ds = (attributes_at out l2 part).defines in
          let inside = entering l name n in
          let fits = (enters.place o.0 out l place).0 in
          let core3 : core (place_behind out l2 part) ≡ core (define_all inside ds) =
          denoting.core-behind out l2 part denotes ∙ core-defined l2 inside ds (quiet-core out l1 name quiet ∙ core1 l) in
          let place3 : IsPlace t2 block o.0 out (define_all inside ds) =
          IsPlace-core t2 block o.0 out (place_behind out l2 part) (define_all inside ds) core3 (made.behind out l2 (place2 out l place) (here out l place at_l)) in
          let whole = parts (known t2) l b (place3.owner_is ∙ owner-defined inside ds ∙ entered-owner l name n) place3.there (made.shows out l2 (place2 out l place) (here out l place at_l)) in
          let left = leaves.place o.0 out (define_all inside ds) name m (naming-grows texts t2.names.texts name n made.moves.grows.names enters.shows) whole place3 in
          let alike = left-behind texts l name n m ds enters.shows fits in
          let all = declared_at name m ++ ds in
          let last : IsPlace t3 block o.0 out (define_all l all) =
          IsPlace-alike t3 block o.0 out (leaving (define_all inside ds) name n m) (define_all l all)
          (fields-defined l all ∙ sym (left-fields (define_all inside ds) name n m ∙ fields-defined inside ds ∙ entered-fields l name n))
          (owner-defined l all ∙ sym (left-owner (define_all inside ds) name n m ∙ owner-defined inside ds ∙ entered-owner l name n)) alike.names alike.passed alike.known left in
          let told : (attributes_at out l t).defines ≡ all =
          ap (λ (a : Attributes). a.defines) (at out l) ∙ defines out l t.word ∙ ap (λ (xs : List (List ℕ × Meaning)). xs ++ ds) (declares-at out l1 name m) in
          IsPlace-core t3 block o.0 out (define_all l all) (place_behind out l t)
          (ap (λ (xs : List (List ℕ × Meaning)). core (define_all l xs)) (sym told) ∙ sym (core-behind out l t (ap is_defining (kind-form t f e ∙ is) ∙ one))) last;
    }
