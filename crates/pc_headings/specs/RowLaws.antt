-- Groups of parameters in a row: lemmas.
use Rattle.std.proofs.Common.{◌≡◌, ℕ, ◌+◌, suc, Bool, true, false, ◌||◌, List, [], ◌∷◌, ◌++◌, length, refl, ap, sym, subst, ◌∙◌, append-nil, append_assoc, get_or, arith}
use Rattle.pc_syntax.specs.Classes.{is_parameter}
use Rattle.pc_syntax.specs.Plain.{Plain, kids_of}
use Rattle.pc_syntax.specs.WellFormed.{IsProper}
use Rattle.pc_syntax.specs.declared.kind.Kind.{Kind}
use Rattle.pc_syntax.specs.declared.kind.Kind.TheVariants as kind
use Rattle.pc_types.specs.Shapes.{Owner}
use Rattle.pc_forms.specs.Form.{form_from, form_of, nothing}
use Rattle.pc_forms.specs.FormClasses.{Every}
use Rattle.pc_forms.specs.FormLaws.{proper-kids_of}
use Rattle.pc_forms.specs.declared.form.Form.TheVariants as form
use Rattle.pc_rules.specs.Attributes.{Attributes, Node, Entry, nodes, at_kid, each_kid}
use Rattle.pc_rules.specs.DeclaringNames.{names_in, all_as}
use Rattle.pc_rules.specs.Denoters.{type_of_found}
use Rattle.pc_rules.specs.HandedOn.{any_hole, all_defines}
use Rattle.pc_rules.specs.Meanings.{Class, ValueName, ReferenceName, Meaning, Local, Outside, declared_as}
use Rattle.pc_rules.specs.Places.{behind, beside, pass_all}
use Rattle.pc_environment.specs.Decorating.{attributes_at, place_behind, place_after, marks_of}
use Rattle.pc_places.specs.Places.{node_at}
use Rattle.pc_headings.specs.AtLaws.{first_place, at-form, are-names, all-named, list-kids, names-kind}
use Rattle.pc_headings.specs.GroupLaws.{AreParts, value-parts, reference-parts, hole-defines}
use Rattle.pc_headings.specs.Groups.{IsHeadingPlace, IsParameter}
use Rattle.pc_headings.specs.ListLaws.{names_of-append, names_of-all_as}
use Rattle.pc_headings.specs.Listing.{names_of, named_nodes}
use Rattle.pc_headings.specs.PlaceLaws.{AllNamed, place-hole, place-beside, place-pass_all, pass_all-passed}

-- ---- lists with one more

pub nodes-more : (out : Outside) (l : Local) (ts : List Plain) (t : Plain) → nodes (marks_of out l (ts ++ t ∷ [])) ≡ nodes (marks_of out l ts) ++ node_at out (place_after out l ts) t ∷ []
nodes-more out l [] t = refl
nodes-more out l (u ∷ ts) t = ap (λ (ns : List Node). node_at out l u ∷ ns) (nodes-more out (place_behind out l u) ts t)

length-marks : (out : Outside) (l : Local) (ts : List Plain) → length (nodes (marks_of out l ts)) ≡ length ts
length-marks out l [] = refl
length-marks out l (t ∷ ts) = ap suc (length-marks out (place_behind out l t) ts)

or-end : (a b c : Bool) → (a || (b || c)) ≡ ((a || b) || c)
or-end true b c = refl
or-end false b c = refl

or-none : (a : Bool) → (a || false) ≡ a
or-none true = refl
or-none false = refl

pub any_hole-more : (ns : List Node) (n : Node) → any_hole (ns ++ n ∷ []) ≡ (any_hole ns || n.hole)
any_hole-more [] n = or-none n.hole
any_hole-more (m ∷ ns) n = ap (λ (b : Bool). m.hole || b) (any_hole-more ns n) ∙ or-end m.hole (any_hole ns) n.hole

pub all_defines-more : (ns : List Node) (n : Node) → all_defines (ns ++ n ∷ []) ≡ all_defines ns ++ n.defines
all_defines-more [] n = append-nil n.defines
all_defines-more (m ∷ ns) n = ap (λ (ds : List (List ℕ × Meaning)). m.defines ++ ds) (all_defines-more ns n) ∙ sym (append_assoc m.defines (all_defines ns) n.defines)

pub each-end : (f : Node → List Entry) (i : ℕ) (ns : List Node) (n : Node) → each_kid f i (ns ++ n ∷ []) ≡ each_kid f i ns ++ at_kid (i + length ns) (f n)
each-end f i [] n = let e : i ≡ i + 0 = omega arith in append-nil (at_kid i (f n)) ∙ ap (λ (j : ℕ). at_kid j (f n)) e
each-end f i (m ∷ ns) n =
    let e : suc i + length ns ≡ i + suc (length ns) = omega arith in
    ap (λ (es : List Entry). at_kid i (f m) ++ es) (each-end f (suc i) ns n)
    ∙ sym (append_assoc (at_kid i (f m)) (each_kid f (suc i) ns) (at_kid (suc i + length ns) (f n)))
    ∙ ap (λ (j : ℕ). (at_kid i (f m) ++ each_kid f (suc i) ns) ++ at_kid j (f n)) e

-- the entries of one node more
pub each-more : (f : Node → List Entry) (out : Outside) (l : Local) (ts : List Plain) (t : Plain) →
    each_kid f 1 (nodes (marks_of out l (ts ++ t ∷ []))) ≡ each_kid f 1 (nodes (marks_of out l ts)) ++ at_kid (1 + length ts) (f (node_at out (place_after out l ts) t))
each-more f out l ts t =
    ap (each_kid f 1) (nodes-more out l ts t)
    ∙ each-end f 1 (nodes (marks_of out l ts)) (node_at out (place_after out l ts) t)
    ∙ ap (λ (j : ℕ). each_kid f 1 (nodes (marks_of out l ts)) ++ at_kid (1 + j) (f (node_at out (place_after out l ts) t))) (length-marks out l ts)

-- ---- where the next node stands

-- a place behind another one, where these are declared meanwhile
pub record GoesOn (o : Owner) (l m : Local) (ds : List (List ℕ × Meaning)) : Type 0 where
  pub place : IsHeadingPlace o m
  pub passed : m.passed ≡ l.passed ++ names_of ds

go-on : (out : Outside) (o : Owner) (l : Local) (t : Plain) (k : Kind) (m : Meaning) (ns : List (List ℕ)) → t.kind ≡ k → ((a : Attributes) → behind l k a ≡ pass_all l a.defines) →
    (attributes_at out l t).defines ≡ all_as m ns → AllNamed ns → IsHeadingPlace o l → GoesOn o l (place_behind out l t) (attributes_at out l t).defines
go-on out o l t k m ns e is d named h = record {
  place = subst (λ (j : Kind). IsHeadingPlace o (beside l j a)) (sym e) (place-beside o l k a h (subst (λ (x : Local). IsHeadingPlace o x) (sym (is a)) (place-pass_all o l a.defines h)));
  passed = ap (λ (j : Kind). (beside l j a).passed) e
      ∙ ap (λ (x : Local). x.passed) (is a)
      ∙ ap (λ (ds : List (List ℕ × Meaning)). (pass_all l ds).passed) d
      ∙ pass_all-passed l m ns named
      ∙ ap (λ (ms : List (List ℕ)). l.passed ++ ms) (sym (names_of-all_as m ns) ∙ ap names_of (sym d));
}
  where
    a : Attributes
    a = attributes_at out l t

abbrev meaning_in : Outside → Local → Class → Kind → Plain → Plain → Meaning
meaning_in out l c k names type_name =
    let li = first_place l k (names ∷ type_name ∷ []) in
    record (declared_as c l.owner) { type = type_of_found (attributes_at out (place_behind out li names) type_name).found }

named-parts : (t names type_name : Plain) → AreParts t names type_name → AllNamed (names_in (named_nodes (kids_of names)))
named-parts t names type_name parts =
    all-named (kids_of names) (proper-kids_of names parts.names_proper) (list-kids names kind.Names parts.names_proper (names-kind names.kind parts.names_are))

go-value : (out : Outside) (o : Owner) (l : Local) (t names type_name : Plain) → IsProper t → t.kind ≡ kind.Valparam → form.Valparam names type_name ≡ form_of t → IsHeadingPlace o l →
    GoesOn o l (place_behind out l t) (attributes_at out l t).defines
go-value out o l t names type_name proper e f h =
    let parts = value-parts t names type_name proper f in
    let li = first_place l kind.Valparam (names ∷ type_name ∷ []) in
    let m = meaning_in out l ValueName kind.Valparam names type_name in
    go-on out o l t kind.Valparam m (names_in (named_nodes (kids_of names))) e (λ a. refl)
    (ap (λ (a : Attributes). a.defines) (at-form out l t (form.Valparam names type_name) proper f) ∙ ap (all_as m) (are-names out li names parts.names_proper parts.names_are).names)
    (named-parts t names type_name parts) h

go-reference : (out : Outside) (o : Owner) (l : Local) (t names type_name : Plain) → IsProper t → t.kind ≡ kind.Varparam → form.Varparam names type_name ≡ form_of t → IsHeadingPlace o l →
    GoesOn o l (place_behind out l t) (attributes_at out l t).defines
go-reference out o l t names type_name proper e f h =
    let parts = reference-parts t names type_name proper f in
    let li = first_place l kind.Varparam (names ∷ type_name ∷ []) in
    let m = meaning_in out l ReferenceName kind.Varparam names type_name in
    go-on out o l t kind.Varparam m (names_in (named_nodes (kids_of names))) e (λ a. refl)
    (ap (λ (a : Attributes). a.defines) (at-form out l t (form.Varparam names type_name) proper f) ∙ ap (all_as m) (are-names out li names parts.names_proper parts.names_are).names)
    (named-parts t names type_name parts) h

value-form : (t : Plain) → t.kind ≡ kind.Valparam → form.Valparam (get_or (kids_of t) 0 nothing) (get_or (kids_of t) 1 nothing) ≡ form_of t
unfolding form_of
value-form t e = sym (λ i. form_from (e i) t.word (kids_of t) nothing)

reference-form : (t : Plain) → t.kind ≡ kind.Varparam → form.Varparam (get_or (kids_of t) 0 nothing) (get_or (kids_of t) 1 nothing) ≡ form_of t
unfolding form_of
reference-form t e = sym (λ i. form_from (e i) t.word (kids_of t) nothing)

go-by : (out : Outside) (o : Owner) (l : Local) (t : Plain) (k : Kind) → IsProper t → t.kind ≡ k → is_parameter k ≡ true → IsHeadingPlace o l → GoesOn o l (place_behind out l t) (attributes_at out l t).defines
go-by out o l t kind.Valparam proper e is h = go-value out o l t (get_or (kids_of t) 0 nothing) (get_or (kids_of t) 1 nothing) proper e (value-form t e) h
go-by out o l t kind.Varparam proper e is h = go-reference out o l t (get_or (kids_of t) 0 nothing) (get_or (kids_of t) 1 nothing) proper e (reference-form t e) h
go-by out o l t (kind.Hole s) proper e is h = record {
  place = subst (λ (j : Kind). IsHeadingPlace o (beside l j (attributes_at out l t))) (sym e) (place-hole o l s (attributes_at out l t) h);
  passed = ap (λ (j : Kind). (beside l j (attributes_at out l t)).passed) e ∙ sym (append-nil l.passed) ∙ ap (λ (ds : List (List ℕ × Meaning)). l.passed ++ names_of ds) (sym (hole-defines out l t s e));
}
go-by out o l t k proper e is h = cc

-- behind nodes in a row
pub goes-on : (out : Outside) (o : Owner) (l : Local) (ts : List Plain) → Every IsParameter ts → IsHeadingPlace o l → GoesOn o l (place_after out l ts) (all_defines (nodes (marks_of out l ts)))
goes-on out o l [] params h = record { place = h; passed = sym (append-nil l.passed) }
goes-on out o l (t ∷ ts) params h =
    let one = go-by out o l t t.kind params.0.proper refl params.0.class_is h in
    let rest = goes-on out o (place_behind out l t) ts params.1 one.place in
    let ds = (attributes_at out l t).defines in
    let es = all_defines (nodes (marks_of out (place_behind out l t) ts)) in
    record {
      place = rest.place;
      passed = rest.passed
          ∙ ap (λ (ms : List (List ℕ)). ms ++ names_of es) one.passed
          ∙ append_assoc l.passed (names_of ds) (names_of es)
          ∙ ap (λ (ms : List (List ℕ)). l.passed ++ ms) (sym (names_of-append ds es));
    }
