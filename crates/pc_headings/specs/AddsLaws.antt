-- Groups of parameters that were gone through, in a row: lemmas.
use Rattle.std.proofs.Common.{◌≡◌, ℕ, ◌+◌, suc, Bool, true, false, ◌||◌, List, [], ◌∷◌, ◌++◌, length, refl, ap, sym, subst, ◌∙◌, slice_get, take, zero, Some}
use Rattle.pc_syntax.specs.Classes.{has, is_parameter}
use Rattle.pc_syntax.specs.Plain.{Plain, forest_of, kids_of}
use Rattle.pc_syntax.specs.WellFormed.{IsProper}
use Rattle.pc_syntax.specs.declared.class.Class.TheVariants as class
use Rattle.pc_syntax.specs.declared.kind.Kind.{Kind}
use Rattle.pc_syntax.specs.declared.kind.Kind.TheVariants as kind
use Rattle.pc_forms.specs.FormClasses.{Every}
use Rattle.pc_forms.specs.FormLaws.{proper-kids_of}
use Rattle.pc_rules.specs.Attributes.{Attributes, Node, Entry, nodes, at_kid}
use Rattle.pc_rules.specs.Declarations.{declarations_rule}
use Rattle.pc_rules.specs.Decorated.{seen, rule, with_kind}
use Rattle.pc_rules.specs.HandedOn.{any_hole, all_defines, kid_entries}
use Rattle.pc_rules.specs.Meanings.{Meaning, Local, Outside}
use Rattle.pc_rules.specs.Routines.{bare}
use Rattle.pc_environment.specs.Decorating.{attributes_at, below_at, place_after, marks_of}
use Rattle.pc_environment.specs.DecoratingLaws.{at-node}
use Rattle.pc_places.specs.MovesLaws.{Keeps-same, Keeps-then}
use Rattle.pc_places.specs.Places.{known, node_at}
use Rattle.pc_places.specs.declared.tables.Tables.{Tables}
use Rattle.pc_headings.specs.declared.listed.Listed.{Listed}
use Rattle.pc_headings.specs.declared.listed.Part.{Part}
use Rattle.pc_headings.specs.AroundLaws.{IsAround-keeps}
use Rattle.pc_headings.specs.AtLaws.{first_place, kids-at, list-kids}
use Rattle.pc_headings.specs.DeclaredLaws.{declared-none}
use Rattle.pc_headings.specs.Groups.{AddsNode, AddsRow, AddsParameters, ShowsRow, IsParameter}
use Rattle.pc_headings.specs.Headed.{AreThere}
use Rattle.pc_headings.specs.Listing.{names_of, ShowsListed, ShowsPart}
use Rattle.pc_headings.specs.PlaceLaws.{place-params}
use Rattle.pc_headings.specs.RowLaws.{all_defines-more, any_hole-more, each-more, goes-on, nodes-more}

-- ---- nodes that were gone through

pub AddsRow-none : (t : Tables) (block owner : ℕ) (listed : Listed) → AddsRow t t block owner listed listed [] false []
AddsRow-none t block owner listed = record {
  keeps = Keeps-same t;
  shows = λ means o l around place passed shown. record { hole_is = refl; entries_are = refl; lists = shown };
  declared = λ before. before;
}

pub AddsRow-more : (a b c : Tables) (block owner : ℕ) (x y z : Listed) (ts : List Plain) (t : Plain) (p : Part) (i : ℕ) (hole new_hole : Bool) (had has : List Entry) → Every IsParameter ts → AreThere a block owner →
    i ≡ 1 + length ts → AddsRow a b block owner x y ts hole had → AddsNode b c block owner y z t p → new_hole ≡ (hole || p.hole) → has ≡ had ++ at_kid i p.entries.items →
    AddsRow a c block owner x z (ts ++ t ∷ []) new_hole has
AddsRow-more a b c block owner x y z ts t p i hole new_hole had has params there number row node holes grown = record {
  keeps = Keeps-then a b c row.keeps node.keeps;
  shows = λ means o l around place passed shown.
      let out = bare means in
      let ns = nodes (marks_of out l ts) in
      let m = place_after out l ts in
      let before = row.shows means o l around place passed shown in
      let on = goes-on out o l ts params place in
      let told = node.shows means o (all_defines ns) m (IsAround-keeps a b block owner means o there row.keeps around) on.place (on.passed ∙ ap (λ (ms : List (List ℕ)). ms ++ names_of (all_defines ns)) passed) before.lists in
      let more = nodes-more out l ts t in
      record {
        hole_is = holes
            ∙ ap (λ (b : Bool). b || p.hole) before.hole_is
            ∙ ap (λ (b : Bool). any_hole ns || b) told.0.hole
            ∙ sym (any_hole-more ns (node_at out m t))
            ∙ ap any_hole (sym more);
        entries_are = grown
            ∙ ap (λ (es : List Entry). es ++ at_kid i p.entries.items) before.entries_are
            ∙ ap (λ (es : List Entry). kid_entries 1 ns ++ at_kid i es) told.0.entries
            ∙ ap (λ (j : ℕ). kid_entries 1 ns ++ at_kid j (attributes_at out m t).as_value.entries) number
            ∙ sym (each-more (λ k. k.as_value.entries) out l ts t);
        lists = subst (λ (ds : List (List ℕ × Meaning)). ShowsListed (known c) c.declarations.items z ds) (sym (all_defines-more ns (node_at out m t)) ∙ ap all_defines (sym more)) told.1;
      };
  declared = λ before. node.declared (row.declared before);
}

-- ---- a list of parameters

pub every-at : (P : Plain → Type 0) (ts : List Plain) (i : ℕ) (t : Plain) → Every P ts → slice_get ts i ≡ Some t → P t
every-at P [] i t h e = cc
every-at P (u ∷ ts) zero t h e = let same : u ≡ t = cc in subst P same h.0
every-at P (u ∷ ts) (suc i) t h e = every-at P ts i t h.1 e

pub take-every : (P : Plain → Type 0) (i : ℕ) (ts : List Plain) → Every P ts → Every P (take i ts)
take-every P zero ts h = tt
take-every P (suc i) [] h = tt
take-every P (suc i) (t ∷ ts) h = (h.0, take-every P i ts h.1)

both-parameter : (ts : List Plain) → Every IsProper ts → Every (λ t. is_parameter t.kind ≡ true) ts → Every IsParameter ts
both-parameter [] h g = tt
both-parameter (t ∷ ts) h g = (record { proper = h.0; class_is = g.0 }, both-parameter ts h.1 g.1)

pub params-kind : (k : Kind) → has class.Params k ≡ true → k ≡ kind.Params
params-kind kind.Params e = refl
params-kind k e = cc

pub are-parameters : (t : Plain) → IsProper t → has class.Params t.kind ≡ true → Every IsParameter (kids_of t)
are-parameters t proper is = both-parameter (kids_of t) (proper-kids_of t proper) (list-kids t kind.Params proper (params-kind t.kind is))

list-rule : (out : Outside) (l : Local) (t : Plain) → t.kind ≡ kind.Params → attributes_at out l t ≡ with_kind kind.Params t.word (declarations_rule (nodes (below_at out l t)))
unfolding rule
list-rule out l t e = at-node out l t ∙ (λ i. rule l (e i) t.word (seen out l (e i) t.word) (below_at out l t))

pub AddsParameters-row : (old new : Tables) (block owner : ℕ) (t : Plain) (empty listed : Listed) (p : Part) → has class.Params t.kind ≡ true → ShowsListed (known old) old.declarations.items empty [] →
    AddsRow old new block owner empty listed (kids_of t) p.hole p.entries.items → AddsParameters old new block owner t listed p
AddsParameters-row old new block owner t empty listed p is none row = record {
  keeps = row.keeps;
  shows = λ means o l around place passed.
      let e = params-kind t.kind is in
      let told = subst (λ (ns : List Node). ShowsRow new listed p.hole p.entries.items ns) (sym (kids-at (bare means) l t kind.Params e))
      (row.shows means o (first_place l kind.Params (kids_of t)) around (place-params o l (forest_of (kids_of t)) place) passed none) in
      subst (λ (a : Attributes). ShowsPart p a × ShowsListed (known new) new.declarations.items listed a.defines) (sym (list-rule (bare means) l t e))
      (record { hole = told.hole_is; entries = told.entries_are }, told.lists);
  declared = row.declared (declared-none (length old.names.texts) (known old) old.declarations.items empty.parameters.items none.parameters);
}
