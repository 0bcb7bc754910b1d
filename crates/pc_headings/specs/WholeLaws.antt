-- The whole heading of a routine: lemmas.
use Rattle.std.proofs.Common.{◌≡◌, ℕ, true, false, List, [], ◌∷◌, length, Option, None, refl, ap, sym, subst, ◌∙◌}
use Rattle.pc_syntax.specs.Classes.{has}
use Rattle.pc_syntax.specs.Plain.{Plain, kids_of}
use Rattle.pc_syntax.specs.declared.class.Class.TheVariants as class
use Rattle.pc_syntax.specs.declared.kind.Kind.{Kind}
use Rattle.pc_syntax.specs.declared.kind.Kind.TheVariants as kind
use Rattle.pc_types.specs.Shapes.{Owner, Typed}
use Rattle.pc_rules.specs.Attributes.{Node, at_kid}
use Rattle.pc_rules.specs.Denoters.{type_of_found}
use Rattle.pc_rules.specs.Headings.{entries_of_heading, formals_in}
use Rattle.pc_rules.specs.Meanings.{Found, Local, Outside, Meaning, Signature}
use Rattle.pc_rules.specs.Places.{beside}
use Rattle.pc_rules.specs.Routines.{bare, firsts, heading_start, params_in, result_in}
use Rattle.pc_environment.specs.Decorating.{attributes_at, place_behind}
use Rattle.pc_facts.specs.Shows.{ShowsSignatures}
use Rattle.pc_facts.specs.declared.sighting.SignatureId.{SignatureId}
use Rattle.pc_places.specs.MovesLaws.{Keeps-same}
use Rattle.pc_places.specs.Places.{known, Keeps, node_at}
use Rattle.pc_places.specs.Scenes.{SeesNames}
use Rattle.pc_places.specs.declared.tables.Tables.{Tables}
use Rattle.pc_places.specs.declared.parameter.Parameter.{Parameter}
use Rattle.pc_headings.specs.declared.routine_heading.RoutineHeading.{RoutineHeading}
use Rattle.pc_headings.specs.Groups.{IsHeadingPlace}
use Rattle.pc_headings.specs.HeadLaws.{params-at, function-params-at, result-at, name-passed}
use Rattle.pc_headings.specs.FunbodyLaws.{funbody-defines, funbody-signature}
use Rattle.pc_headings.specs.Headed.{IsAround, Headed, marks_in, signature_of}
use Rattle.pc_places.specs.Parameters.{ShowsParameters, AreNamed, HaveNames, AreParameters}
use Rattle.pc_headings.specs.Heads.{ShowsHeading, HeadsProcedure, HeadsFunction, function_entries}
use Rattle.pc_headings.specs.Parts.{HasParameters, HasResultType}
use Rattle.pc_headings.specs.PlaceLaws.{place-start, place-name, place-beside, place-pass_all}
use Rattle.pc_headings.specs.Signatures.{signature_from}

-- where the parameters stand
abbrev pub behind_name : (List ℕ → Found) → Owner → Plain → Local
behind_name means o name = place_behind (bare means) (heading_start o) name

pub place-of : (means : List ℕ → Found) (o : Owner) (name : Plain) → has class.Name name.kind ≡ true → IsHeadingPlace o (behind_name means o name)
place-of means o name is = place-name (bare means) o (heading_start o) name is (place-start o)

list-by : (out : Outside) (o : Owner) (l : Local) (t : Plain) (k : Kind) → t.kind ≡ k → has class.Params k ≡ true → IsHeadingPlace o l → IsHeadingPlace o (beside l k (attributes_at out l t))
list-by out o l t kind.Params e is h = place-beside o l kind.Params (attributes_at out l t) h (place-pass_all o l (attributes_at out l t).defines h)
list-by out o l t k e is h = cc

-- behind a list of parameters
pub place-list : (out : Outside) (o : Owner) (l : Local) (t : Plain) → has class.Params t.kind ≡ true → IsHeadingPlace o l → IsHeadingPlace o (place_behind out l t)
place-list out o l t is h = list-by out o l t t.kind refl is h

procedure-signature : (k : Kind) (n m : Node) (t : Option Typed) → k ≡ kind.Procedure → n ≡ m →
    signature_from n.at.hole (at_kid 2 n.at.as_value.entries) k t (formals_in n.at.defines) ≡ signature_from m.at.hole (at_kid 2 m.at.as_value.entries) kind.Procedure t (formals_in m.at.defines)
procedure-signature k n m t e f = λ i. signature_from (f i).at.hole (at_kid 2 (f i).at.as_value.entries) (e i) t (formals_in (f i).at.defines)

shown-procedure : (a b : Tables) (block owner : ℕ) (t params : Plain) (r : RoutineHeading) (parts : HasParameters t params) → HeadsProcedure a b block owner params r →
    (means : List ℕ → Found) (o : Owner) (ty : Option Typed) → IsAround a block owner means o →
    let n = node_at (bare means) (behind_name means o parts.name) params in
    ShowsHeading b r n (at_kid 2 n.at.as_value.entries) (signature_from n.at.hole (at_kid 2 n.at.as_value.entries) kind.Procedure ty (formals_in n.at.defines))
shown-procedure a b block owner t params r parts h means o ty around =
    h.shows means o (behind_name means o parts.name) ty around (place-of means o parts.name parts.name_is) (name-passed (bare means) (heading_start o) parts.name parts.name_is)

pub heading-procedure : (a b : Tables) (block owner : ℕ) (t params : Plain) (r : RoutineHeading) → t.kind ≡ kind.Procedure → HasParameters t params → HeadsProcedure a b block owner params r →
    Headed a b block owner false t r
heading-procedure a b block owner t params r e parts h = record {
  keeps = h.keeps;
  entries = λ means o around. (shown-procedure a b block owner t params r parts h means o None around).entries
      ∙ sym (ap (λ (k : Kind). entries_of_heading k false (marks_in means o t)) e ∙ ap (λ (n : Node). at_kid 2 n.at.as_value.entries) (params-at means o t params parts));
  parameters = λ means o f around. subst (λ (n : Node). ShowsParameters (known b) b.declarations.items r.parameters.items (firsts [] n.at.defines)) (sym (params-at means o t params parts))
      (shown-procedure a b block owner t params r parts h means o None around).parameters;
  signature = λ means o f around.
      let ty = type_of_found (result_in (marks_in means o t)).at.found in
      subst (λ (s : Option Signature). ShowsSignatures (known b) r.signature s)
      (sym (ap (λ (k : Kind). signature_of k false (marks_in means o t)) e
      ∙ procedure-signature kind.Procedure (params_in (marks_in means o t)) (node_at (bare means) (behind_name means o parts.name) params) ty refl (params-at means o t params parts)))
      (shown-procedure a b block owner t params r parts h means o ty around).signature;
  are_named = h.declared.are_named;
  have_names = h.declared.have_names;
  fresh = h.declared.fresh;
}

shown-function : (a b : Tables) (block owner : ℕ) (t params result_type : Plain) (r : RoutineHeading) (parts : HasResultType t params result_type) → HeadsFunction a b block owner params result_type r →
    (means : List ℕ → Found) (o : Owner) → IsAround a block owner means o →
    let l = behind_name means o parts.name in
    let n = node_at (bare means) l params in
    let m = node_at (bare means) (place_behind (bare means) l params) result_type in
    ShowsHeading b r n (function_entries n m) (signature_from n.at.hole (function_entries n m) kind.Function (type_of_found m.at.found) (formals_in n.at.defines))
shown-function a b block owner t params result_type r parts h means o around =
    let l = behind_name means o parts.name in
    let place = place-of means o parts.name parts.name_is in
    h.shows means o l around place (place-list (bare means) o l params parts.params_are place) refl (name-passed (bare means) (heading_start o) parts.name parts.name_is)

pub heading-function : (a b : Tables) (block owner : ℕ) (t params result_type : Plain) (r : RoutineHeading) → t.kind ≡ kind.Function → HasResultType t params result_type →
    HeadsFunction a b block owner params result_type r → Headed a b block owner false t r
heading-function a b block owner t params result_type r e parts h = record {
  keeps = h.keeps;
  entries = λ means o around.
      let shown = shown-function a b block owner t params result_type r parts h means o around in
      let n = params_in (marks_in means o t) in
      let m = result_in (marks_in means o t) in
      let p = function-params-at means o t params result_type parts in
      let q = result-at means o t params result_type parts in
      shown.entries ∙ sym (ap (λ (k : Kind). entries_of_heading k false (marks_in means o t)) e ∙ (λ i. function_entries (p i) (q i)));
  parameters = λ means o f around. subst (λ (n : Node). ShowsParameters (known b) b.declarations.items r.parameters.items (firsts [] n.at.defines)) (sym (function-params-at means o t params result_type parts))
      (shown-function a b block owner t params result_type r parts h means o around).parameters;
  signature = λ means o f around.
      let p = function-params-at means o t params result_type parts in
      let q = result-at means o t params result_type parts in
      subst (λ (s : Option Signature). ShowsSignatures (known b) r.signature s)
      (sym (ap (λ (k : Kind). signature_of k false (marks_in means o t)) e
      ∙ (λ i. signature_from (p i).at.hole (function_entries (p i) (q i)) kind.Function (type_of_found (q i).at.found) (formals_in (p i).at.defines))))
      (shown-function a b block owner t params result_type r parts h means o around).signature;
  are_named = h.declared.are_named;
  have_names = h.declared.have_names;
  fresh = h.declared.fresh;
}

-- a function whose heading was given before
pub heading-funbody : (a : Tables) (block owner : ℕ) (t name body : Plain) (r : RoutineHeading) → t.kind ≡ kind.Funbody → kids_of t ≡ name ∷ body ∷ [] → has class.Name name.kind ≡ true →
    has class.Block body.kind ≡ true → r.entries.items ≡ [] → r.parameters.items ≡ [] → r.signature ≡ None → Headed a a block owner false t r
heading-funbody a block owner t name body r e kids is block_is es ps s = record {
  keeps = Keeps-same a;
  entries = λ means o around. es ∙ sym (ap (λ (k : Kind). entries_of_heading k false (marks_in means o t)) e);
  parameters = λ means o f around.
      subst (λ (ds : List (List ℕ × Meaning)). ShowsParameters (known a) a.declarations.items r.parameters.items (firsts [] ds)) (sym (funbody-defines means o t name body kids is block_is))
      (subst (λ (qs : List Parameter). ShowsParameters (known a) a.declarations.items qs []) (sym ps) tt);
  signature = λ means o f around.
      let marks = marks_in means o t in
      subst (λ (x : Option Signature). ShowsSignatures (known a) r.signature x)
      (sym (ap (λ (k : Kind). signature_of k false marks) e ∙ funbody-signature _ (type_of_found (result_in marks).at.found) (formals_in (params_in marks).at.defines)))
      (subst (λ (i : Option SignatureId). ShowsSignatures (known a) i None) (sym s) tt);
  are_named = subst (λ (qs : List Parameter). AreNamed (length a.names.texts) qs) (sym ps) tt;
  have_names = subst (λ (qs : List Parameter). HaveNames a.declarations.items qs) (sym ps) tt;
  fresh = subst (λ (qs : List Parameter). AreParameters a.declarations.items qs) (sym ps) tt;
}

true-false : {X : Type 0} → true ≡ false → X
true-false e = cc

-- a later declaration
pub heading-later : (a b : Tables) (block owner : ℕ) (t : Plain) (r : RoutineHeading) → Keeps a b → r.parameters.items ≡ [] →
    ((means : List ℕ → Found) (o : Owner) → SeesNames (known a) a.names a.declarations.items block [] means → r.entries.items ≡ entries_of_heading t.kind true (marks_in means o t)) → Headed a b block owner true t r
heading-later a b block owner t r keeps ps es = record {
  keeps = keeps;
  entries = λ means o around. es means o around.sees;
  parameters = λ means o e around. true-false e;
  signature = λ means o e around. true-false e;
  are_named = subst (λ (qs : List Parameter). AreNamed (length b.names.texts) qs) (sym ps) tt;
  have_names = subst (λ (qs : List Parameter). HaveNames b.declarations.items qs) (sym ps) tt;
  fresh = subst (λ (qs : List Parameter). AreParameters b.declarations.items qs) (sym ps) tt;
}
