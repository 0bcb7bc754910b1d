-- The parameters of a heading so far, as more is numbered, and with one more: lemmas.
use Rattle.std.proofs.Common.{◌≡◌, ℕ, ◌<◌, Bool, true, false, if◌then◌else◌, List, [], ◌∷◌, ◌++◌, length, Option, Some, None, option_map, refl, ap, sym, subst, ◌∙◌, append-nil, slice_get}
use Rattle.std.specs.Option.{ForSome}
use Rattle.pc_syntax.specs.Words.{is_among}
use Rattle.pc_types.specs.Shapes.{Typed}
use Rattle.pc_types.specs.Table.{Table, numbered, nobody}
use Rattle.pc_types.specs.declared.form.TypeId.{TypeId}
use Rattle.pc_names.specs.declared.id.NameId.{NameId}
use Rattle.pc_rules.specs.Headings.{formals_in}
use Rattle.pc_rules.specs.Meanings.{Meaning, Formal, Signature as Known_as, Value as Meant}
use Rattle.pc_rules.specs.NameClasses.{is_reference_class}
use Rattle.pc_rules.specs.Routines.{firsts}
use Rattle.pc_facts.specs.Known.{Known}
use Rattle.pc_facts.specs.Shows.{ShowsFormals, ShowsSignatures, ShowsValues, shape_of}
use Rattle.pc_facts.specs.declared.sighting.Declared.{Declared}
use Rattle.pc_facts.specs.declared.sighting.Formal.{Formal as Numbered}
use Rattle.pc_growth.specs.Grows.{Begins, Grows}
use Rattle.pc_growth.specs.GrowsLaws.{Begins-append, Grows-same, slice_get-begins, get_or-begins, less-begins, numbered-begins, ShowsType-grows, ShowsFormals-grows}
use Rattle.pc_type_rules.specs.Denoted.{IsNumber}
use Rattle.pc_places.specs.Scenes.{Declares}
use Rattle.pc_places.specs.SceneLaws.{Declares-plain, ShowsUnsigned-grows}
use Rattle.pc_headings.specs.declared.listed.Group.{Group}
use Rattle.pc_headings.specs.declared.listed.Listed.{Listed}
use Rattle.pc_places.specs.declared.parameter.Parameter.{Parameter}
use Rattle.pc_places.specs.Parameters.{ShowsParameters}
use Rattle.pc_places.specs.ParametersLaws.{ShowsParameters-grows}
use Rattle.pc_headings.specs.Listing.{names_of, HasPassed, ShowsFormalsOf, with_formal, ShowsListed, ShowsGroup}
use Rattle.pc_headings.specs.ListLaws.{firsts-more, formals-more, names_of-append}
use Rattle.pc_headings.specs.NameListLaws.{slice_get-last}

-- ---- as more is numbered

pub ShowsFormalsOf-grows : (a b : Known) (w : Bool) (fs : List Numbered) (gs : Option (List Formal)) → Grows a b → ShowsFormalsOf a w fs gs → ShowsFormalsOf b w fs gs
ShowsFormalsOf-grows a b true fs (Some gs) g s = ShowsFormals-grows a b fs gs g s
ShowsFormalsOf-grows a b false fs None g s = tt
ShowsFormalsOf-grows a b true fs None g s = absurd s
ShowsFormalsOf-grows a b false fs (Some gs) g s = absurd s

pub ShowsListed-grows : (a b : Known) (ds es : List Declared) (l : Listed) (qs : List (List ℕ × Meaning)) → Grows a b → Begins ds es → ShowsListed a ds l qs → ShowsListed b es l qs
ShowsListed-grows a b ds es l qs g h s = record {
  parameters = ShowsParameters-grows a b ds es l.parameters.items (firsts [] qs) g h s.parameters;
  formals = ShowsFormalsOf-grows a b l.is_whole l.formals.items (formals_in qs) g s.formals;
  passed = s.passed;
}

number-grows : (a b : Table) (i : Option TypeId) (ty : Option Typed) → Begins a.shapes b.shapes → ForSome i (λ x. x.0 < length a.shapes) → option_map (numbered a.shapes) i ≡ shape_of ty →
    option_map (numbered b.shapes) i ≡ shape_of ty
number-grows a b None ty g there e = e
number-grows a b (Some x) ty g there e = ap Some (numbered-begins a.shapes b.shapes x g (there x refl)) ∙ e

pub IsNumber-grows : (a b : Table) (i : Option TypeId) (ty : Option Typed) → Begins a.shapes b.shapes → IsNumber a i ty → IsNumber b i ty
IsNumber-grows a b i ty g h = record {
  shape = number-grows a b i ty g h.there h.shape;
  there = λ x e. less-begins a.shapes b.shapes x.0 g (h.there x e);
}

pub ShowsGroup-grows : (a b : Known) (g : Group) (m : Meaning) → Grows a b → ShowsGroup a g m → ShowsGroup b g m
ShowsGroup-grows a b g m grows h = record {
  class = h.class;
  owner = get_or-begins a.table.owners b.table.owners g.owner.0 nobody grows.owners h.owner_there ∙ h.owner;
  owner_there = less-begins a.table.owners b.table.owners g.owner.0 grows.owners h.owner_there;
  value = h.value;
  type = ShowsType-grows a.table b.table g.of m.type grows.shapes grows.owners h.type;
  number = IsNumber-grows a.table b.table g.number m.type grows.shapes h.number;
  signature = h.signature;
}

-- ---- one more declaration

-- a name of a group
pub group-declares : (k : Known) (g : Group) (name : NameId) (n : List ℕ) (m : Meaning) → ShowsGroup k g m → slice_get k.names name.0 ≡ Some n →
    Declares k n (record { class = g.class; owner = g.owner; name = name; value = None; of = g.of; signature = None }) m
group-declares k g name n m h at =
    Declares-plain k n (record { class = g.class; owner = g.owner; name = name; value = None; of = g.of; signature = None }) m refl h.signature
    (record {
      class = h.class;
      owner = h.owner;
      owner_there = h.owner_there;
      name = at;
      value = subst (λ (v : Option Meant). ShowsValues k None v) (sym h.value) tt;
      type = h.type;
      signature = subst (λ (s : Option Known_as). ShowsSignatures k None s) (sym h.signature) tt;
    })

pub ShowsParameters-more : (k : Known) (ds : List Declared) (x : Declared) (ps : List Parameter) (qs : List (List ℕ × Meaning)) (p : Parameter) (n : List ℕ) (m : Meaning) → ShowsParameters k ds ps qs →
    p.declaration.0 ≡ length ds → slice_get k.names p.name.0 ≡ Some n → Declares k n x m → ShowsParameters k (ds ++ x ∷ []) (ps ++ p ∷ []) (qs ++ (n, m) ∷ [])
ShowsParameters-more k ds x [] [] p n m s at name d = (name, record { declared = x; is = ap (slice_get (ds ++ x ∷ [])) at ∙ slice_get-last ds x; name = n; shows = d }, tt)
ShowsParameters-more k ds x (r ∷ ps) (q ∷ qs) p n m s at name d =
    (s.0, ShowsUnsigned-grows k k ds (ds ++ x ∷ []) r.declaration.0 q.1 (Grows-same k) (Begins-append ds (x ∷ [])) s.1, ShowsParameters-more k ds x ps qs p n m s.2 at name d)
ShowsParameters-more k ds x [] (q ∷ qs) p n m s at name d = absurd s
ShowsParameters-more k ds x (r ∷ ps) [] p n m s at name d = absurd s

-- a second one of its name is none
pub ShowsParameters-second : (k : Known) (ds : List Declared) (ps : List Parameter) (qs : List (List ℕ × Meaning)) (b : Bool) (d : List ℕ × Meaning) → b ≡ true → ShowsParameters k ds ps qs →
    ShowsParameters k ds ps (qs ++ (if b then [] else d ∷ []))
ShowsParameters-second k ds ps qs true d e s = subst (λ (es : List (List ℕ × Meaning)). ShowsParameters k ds ps es) (sym (append-nil qs)) s
ShowsParameters-second k ds ps qs false d e s = cc

-- a first one
pub ShowsParameters-first : (k : Known) (ds : List Declared) (ps : List Parameter) (qs : List (List ℕ × Meaning)) (b : Bool) (d : List ℕ × Meaning) → b ≡ false → ShowsParameters k ds ps (qs ++ d ∷ []) →
    ShowsParameters k ds ps (qs ++ (if b then [] else d ∷ []))
ShowsParameters-first k ds ps qs true d e s = cc
ShowsParameters-first k ds ps qs false d e s = s

-- ---- one more formal parameter

formal-more : (k : Known) (fs : List Numbered) (gs : List Formal) (f : Numbered) (r : Formal) → ShowsFormals k fs gs → slice_get k.names f.name.0 ≡ Some r.name → f.by_place ≡ r.by_place →
    numbered k.table.shapes f.of ≡ r.type.shape → f.of.0 < length k.table.shapes → ShowsFormals k (fs ++ f ∷ []) (gs ++ r ∷ [])
formal-more k [] [] f r s name by_place shape there = (name, by_place, shape, there, tt)
formal-more k (e ∷ fs) (g ∷ gs) f r s name by_place shape there = (s.0, s.1, s.2, s.3, formal-more k fs gs f r s.4 name by_place shape there)
formal-more k [] (g ∷ gs) f r s name by_place shape there = absurd s
formal-more k (e ∷ fs) [] f r s name by_place shape there = absurd s

-- of a type that has a number
pub formals-known : (k : Known) (w : Bool) (fs : List Numbered) (gs : Option (List Formal)) (f : Numbered) (n : List ℕ) (b : Bool) (ty : Option Typed) → ShowsFormalsOf k w fs gs →
    slice_get k.names f.name.0 ≡ Some n → f.by_place ≡ b → IsNumber k.table (Some f.of) ty → ShowsFormalsOf k w (fs ++ f ∷ []) (with_formal gs n b ty)
formals-known k true fs (Some gs) f n b (Some t) s name by_place is =
    let e = is.shape in
    formal-more k fs gs f (record { name = n; by_place = b; type = t }) s name by_place (let x : numbered k.table.shapes f.of ≡ t.shape = cc in x) (is.there f.of refl)
formals-known k true fs (Some gs) f n b None s name by_place is = let e = is.shape in cc
formals-known k false fs None f n b (Some t) s name by_place is = tt
formals-known k false fs None f n b None s name by_place is = tt
formals-known k true fs None f n b ty s name by_place is = absurd s
formals-known k false fs (Some gs) f n b ty s name by_place is = absurd s

-- of a type that isn't known
pub formals-unknown : (k : Known) (fs : List Numbered) (gs : Option (List Formal)) (n : List ℕ) (b : Bool) (ty : Option Typed) → IsNumber k.table None ty → ShowsFormalsOf k false fs (with_formal gs n b ty)
formals-unknown k fs (Some gs) n b None is = tt
formals-unknown k fs None n b None is = tt
formals-unknown k fs gs n b (Some t) is = let e = is.shape in cc

-- ---- the parameters so far with one more

pub listed-with : (k : Known) (ds : List Declared) (l : Listed) (es : List (List ℕ × Meaning)) (n : List ℕ) (m : Meaning) →
    ShowsParameters k ds l.parameters.items (firsts [] es ++ (if is_among (names_of es) n then [] else (n, m) ∷ [])) →
    ShowsFormalsOf k l.is_whole l.formals.items (with_formal (formals_in es) n (is_reference_class m.class) m.type) → HasPassed l.passed.texts (names_of es ++ n ∷ []) → ShowsListed k ds l (es ++ (n, m) ∷ [])
listed-with k ds l es n m parameters formals passed = record {
  parameters = subst (λ (qs : List (List ℕ × Meaning)). ShowsParameters k ds l.parameters.items qs) (sym (firsts-more es (n, m))) parameters;
  formals = subst (λ (gs : Option (List Formal)). ShowsFormalsOf k l.is_whole l.formals.items gs) (sym (formals-more es n m)) formals;
  passed = subst (λ (ns : List (List ℕ)). HasPassed l.passed.texts ns) (sym (names_of-append es ((n, m) ∷ []))) passed;
}
