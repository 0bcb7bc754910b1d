-- The heading of a routine, from what its parts make: lemmas.
use Rattle.std.proofs.Common.{◌≡◌, ℕ, Bool, true, List, [], ◌++◌, length, Option, None, is_some, refl, ap, sym, subst, ◌∙◌, codes}
use Rattle.pc_syntax.specs.Classes.{has}
use Rattle.pc_syntax.specs.Plain.{Plain}
use Rattle.pc_syntax.specs.declared.kind.Kind.{Kind}
use Rattle.pc_syntax.specs.declared.kind.Kind.TheVariants as kind
use Rattle.pc_types.specs.Shapes.{Typed}
use Rattle.pc_types.specs.declared.form.TypeId.{TypeId}
use Rattle.pc_rules.specs.Attributes.{Entry, at_kid}
use Rattle.pc_rules.specs.Denoters.{type_of_found, type_name_entries}
use Rattle.pc_rules.specs.Entries.{note_if, quoted}
use Rattle.pc_rules.specs.Headings.{formals_in}
use Rattle.pc_rules.specs.Meanings.{Formal, Signature}
use Rattle.pc_rules.specs.Routines.{bare, firsts}
use Rattle.pc_environment.specs.Decorating.{place_behind}
use Rattle.pc_facts.specs.Known.{Known}
use Rattle.pc_facts.specs.Shows.{ShowsType, ShowsSignatures, shape_of}
use Rattle.pc_type_rules.specs.Denoted.{IsNumber}
use Rattle.pc_places.specs.MovesLaws.{Keeps-then}
use Rattle.pc_places.specs.Places.{known, Keeps, node_at}
use Rattle.pc_places.specs.declared.tables.Tables.{Tables}
use Rattle.pc_headings.specs.declared.listed.Listed.{Listed}
use Rattle.pc_headings.specs.declared.listed.Part.{Part}
use Rattle.pc_headings.specs.declared.listed.UsedType.{UsedType}
use Rattle.pc_places.specs.declared.parameter.Parameter.{Parameter}
use Rattle.pc_headings.specs.declared.routine_heading.RoutineHeading.{RoutineHeading}
use Rattle.pc_headings.specs.AroundLaws.{IsAround-keeps}
use Rattle.pc_headings.specs.AtLaws.{at-word}
use Rattle.pc_headings.specs.DeclaredLaws.{declared-keeps}
use Rattle.pc_headings.specs.Groups.{AddsParameters, is_complex}
use Rattle.pc_headings.specs.Headed.{AreThere}
use Rattle.pc_places.specs.Parameters.{ShowsParameters}
use Rattle.pc_headings.specs.Heads.{HeadsProcedure, HeadsFunction, AddsResult, function_entries}
use Rattle.pc_headings.specs.ListedLaws.{ShowsListed-grows, IsNumber-grows}
use Rattle.pc_headings.specs.Listing.{AreDeclared, ShowsFormalsOf}
use Rattle.pc_headings.specs.PlaceLaws.{sees-there}
use Rattle.pc_headings.specs.SignatureLaws.{not_simple-complex}
use Rattle.pc_headings.specs.Signatures.{signature_from, HasResult}
use Rattle.pc_headings.specs.StepLaws.{Uses}

-- ---- the parts

-- a result type, given its name
pub result-step : (a b : Tables) (block : ℕ) (t : Plain) (u : UsedType) (i : Option TypeId) (wrong : Bool) (es : List Entry) → Keeps a b → Uses a block t u →
    ((ty : Option Typed) → ShowsType (known a).table u.of ty → wrong ≡ is_complex (shape_of ty)) → ((ty : Option Typed) → ShowsType (known a).table u.of ty → IsNumber (known b).table i ty) →
    es ≡ u.entries.items ++ note_if wrong 22 (quoted (codes "result type not simple") t.word) → AddsResult a b block t es i
result-step a b block t u i wrong es keeps uses complex numbered grown = record {
  keeps = keeps;
  shows = λ means o owner l around place using.
      let n = node_at (bare means) l t in
      let used = uses means l using (sees-there (known a) a.names a.declarations.items block means o l around.sees place) in
      let ty = type_of_found n.at.found in (
        grown
            ∙ ap (λ (xs : List Entry). xs ++ note_if wrong 22 (quoted (codes "result type not simple") t.word)) used.entries
            ∙ ap (λ (b : Bool). type_name_entries n ++ note_if b 22 (quoted (codes "result type not simple") t.word)) (complex ty used.type)
            ∙ ap (λ (w : List ℕ). type_name_entries n ++ note_if (is_complex (shape_of ty)) 22 (quoted (codes "result type not simple") w)) (sym (at-word (bare means) l t))
            ∙ ap (λ (xs : List Entry). type_name_entries n ++ xs) (sym (not_simple-complex n.at.word ty)),
        numbered ty used.type,
      );
}

-- what a call that adds a signature, where there is one, ensures
abbrev pub Signs : Tables → RoutineHeading → Bool → Listed → Bool → Option TypeId → Type 0
Signs t r hole listed has i = (k : Known) (routine : Kind) (ty : Option Typed) (gs : Option (List Formal)) → k.signatures ≡ t.signatures.items → ShowsFormalsOf k listed.is_whole listed.formals.items gs →
    HasResult k routine has i ty → ShowsSignatures k r.signature (signature_from hole r.entries.items routine ty gs)

signed-as : (k : Known) (r : RoutineHeading) (hole h : Bool) (es : List Entry) (routine : Kind) (ty : Option Typed) (gs : Option (List Formal)) → hole ≡ h → r.entries.items ≡ es →
    ShowsSignatures k r.signature (signature_from hole r.entries.items routine ty gs) → ShowsSignatures k r.signature (signature_from h es routine ty gs)
signed-as k r hole h es routine ty gs e f s =
    subst (λ (x : Option Signature). ShowsSignatures k r.signature x)
    (ap (λ (b : Bool). signature_from b r.entries.items routine ty gs) e ∙ ap (λ (xs : List Entry). signature_from h xs routine ty gs) f) s

pub procedure-step : (a b c : Tables) (block owner : ℕ) (params : Plain) (listed : Listed) (p : Part) (r : RoutineHeading) → AddsParameters a b block owner params listed p → Keeps b c →
    r.entries.items ≡ at_kid 2 p.entries.items → r.parameters.items ≡ listed.parameters.items → Signs c r p.hole listed true None → HeadsProcedure a c block owner params r
procedure-step a b c block owner params listed p r adds keeps es ps signs = record {
  keeps = Keeps-then a b c adds.keeps keeps;
  shows = λ means o l t around place passed.
      let n = node_at (bare means) l params in
      let told = adds.shows means o l around place passed in
      let lists = ShowsListed-grows (known b) (known c) b.declarations.items c.declarations.items listed n.at.defines keeps.grows keeps.declarations told.1 in
      let entries : r.entries.items ≡ at_kid 2 n.at.as_value.entries = es ∙ ap (at_kid 2) told.0.entries in
      record {
        entries = entries;
        parameters = subst (λ (qs : List Parameter). ShowsParameters (known c) c.declarations.items qs (firsts [] n.at.defines)) (sym ps) lists.parameters;
        signature = signed-as (known c) r p.hole n.at.hole (at_kid 2 n.at.as_value.entries) kind.Procedure t (formals_in n.at.defines) told.0.hole entries
            (signs (known c) kind.Procedure t (formals_in n.at.defines) refl lists.formals (refl, refl));
      };
  declared = subst (λ (qs : List Parameter). AreDeclared (length c.names.texts) c.declarations.items qs) (sym ps) (declared-keeps b c listed.parameters.items keeps adds.declared);
}

pub function-step : (a b c d : Tables) (block owner : ℕ) (params result_type : Plain) (listed : Listed) (p : Part) (own : List Entry) (i : Option TypeId) (has : Bool) (r : RoutineHeading) → AreThere a block owner →
    AddsParameters a b block owner params listed p → AddsResult b c block result_type own i → Keeps c d → r.entries.items ≡ at_kid 2 p.entries.items ++ at_kid 3 own →
    r.parameters.items ≡ listed.parameters.items → has ≡ is_some i → Signs d r p.hole listed has i → HeadsFunction a d block owner params result_type r
function-step a b c d block owner params result_type listed p own i has r there adds result keeps es ps some signs = record {
  keeps = Keeps-then a b d adds.keeps after;
  shows = λ means o l around place behind using passed.
      let lt = place_behind (bare means) l params in
      let n = node_at (bare means) l params in
      let m = node_at (bare means) lt result_type in
      let told = adds.shows means o l around place passed in
      let of = result.shows means o owner lt (IsAround-keeps a b block owner means o there adds.keeps around) behind using in
      let lists = ShowsListed-grows (known b) (known d) b.declarations.items d.declarations.items listed n.at.defines after.grows after.declarations told.1 in
      let entries : r.entries.items ≡ function_entries n m = es ∙ ap (λ (xs : List Entry). at_kid 2 xs ++ at_kid 3 own) told.0.entries ∙ ap (λ (xs : List Entry). at_kid 2 n.at.as_value.entries ++ at_kid 3 xs) of.0 in
      let ty = type_of_found m.at.found in
      record {
        entries = entries;
        parameters = subst (λ (qs : List Parameter). ShowsParameters (known d) d.declarations.items qs (firsts [] n.at.defines)) (sym ps) lists.parameters;
        signature = signed-as (known d) r p.hole n.at.hole (function_entries n m) kind.Function ty (formals_in n.at.defines) told.0.hole entries
            (signs (known d) kind.Function ty (formals_in n.at.defines) refl lists.formals (some, IsNumber-grows (known c).table (known d).table i ty keeps.grows.shapes of.1));
      };
  declared = subst (λ (qs : List Parameter). AreDeclared (length d.names.texts) d.declarations.items qs) (sym ps) (declared-keeps b d listed.parameters.items after adds.declared);
}
  where
    after : Keeps b d
    after = Keeps-then b c d result.keeps keeps

-- ---- the heading
