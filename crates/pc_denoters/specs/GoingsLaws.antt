-- How denoters are gone through: laws.
use Rattle.std.specs.Prelude.{◌≡◌, ◌<◌, ◌+◌, ℕ, Bool, true, List, [], ◌∷◌, length, get_or, suc}
use Rattle.std.proofs.Common.{ap, sym, ◌∙◌, subst, arith, length-append}
use Rattle.std.proofs.lemmas.List.{get_or_append_left}
use Rattle.pc_syntax.specs.Plain.{Plain}
use Rattle.pc_syntax.specs.WellFormed.{IsProper}
use Rattle.pc_syntax.specs.declared.kind.Kind.{Kind}
use Rattle.pc_types.specs.Shapes.{Owner}
use Rattle.pc_types.specs.Shapes as shapes
use Rattle.pc_types.specs.Table.{definition_in, nobody}
use Rattle.pc_types.specs.declared.form.Definition.{Definition}
use Rattle.pc_forms.specs.Form.{PlainForm, form_of}
use Rattle.pc_forms.specs.FormClasses.{Every}
use Rattle.pc_forms.specs.FormKids.{kids_in}
use Rattle.pc_forms.specs.FormKind.{kind_in}
use Rattle.pc_rules.specs.Attributes.{Attributes, nodes}
use Rattle.pc_rules.specs.HandedOn.{all_defines}
use Rattle.pc_rules.specs.Meanings.{Local, Outside, Meaning, define_all}
use Rattle.pc_environment.specs.Decorating.{attributes_at, place_behind, place_after, marks_of}
use Rattle.pc_growth.specs.Grows.{Begins}
use Rattle.pc_places.specs.Places.{known, IsHere, Moves}
use Rattle.pc_places.specs.declared.tables.Tables.{Tables}
use Rattle.pc_denoters.specs.Insides.{inside_of}
use Rattle.pc_denoters.specs.FormsAt.{first_place, found_at, at-form, kind-form}
use Rattle.pc_denoters.specs.Cores.{core, core-defined}
use Rattle.pc_denoters.specs.Kinds.{is_denoting, core-behind, core-after, core-inner}
use Rattle.pc_denoters.specs.Goings.{AreThere, IsAmong}

-- ---- numbers stay

begins-longer : {X : Type 0} (a b : List X) (i : ℕ) → Begins a b → i < length a → i < length b
begins-longer a b i g h = let n : length b ≡ length a + length g.more = ap length g.is ∙ length-append a g.more in omega (arith, n, h)

pub definition-moved : (block : ℕ) (old new : Tables) (d : Definition) → Moves block old new → d.owner.0 < length (known old).table.owners →
    definition_in (known new).table.owners d ≡ definition_in (known old).table.owners d
definition-moved block old new d m h =
    ap (λ (o : Owner). let e : shapes.Definition = record { owner = o; name = d.name; number = d.number; inside = d.inside } in e)
    (ap (λ (os : List Owner). get_or os d.owner.0 nobody) m.grows.owners.is ∙ get_or_append_left (known old).table.owners m.grows.owners.more nobody d.owner.0 h)

-- what has its number has it behind a change
pub there-moved : (block owner b : ℕ) (old new : Tables) (d : Definition) → Moves b old new → AreThere old block owner d → AreThere new block owner d
there-moved block owner b old new d m h = record {
  block_there = begins-longer _ _ block m.chains h.block_there;
  owner_there = begins-longer _ _ owner m.grows.owners h.owner_there;
  here_there = begins-longer _ _ d.owner.0 m.grows.owners h.here_there;
}

-- the same of another definition by the same owner
pub there-of : (t : Tables) (block owner : ℕ) (d e : Definition) → e.owner ≡ d.owner → AreThere t block owner d → AreThere t block owner e
there-of t block owner d e same h = record {
  block_there = h.block_there;
  owner_there = h.owner_there;
  here_there = subst (λ o. o.0 < length (known t).table.owners) (sym same) h.here_there;
}

-- ---- places of kids

-- a kid is defined inside
pub here-among : (t : Tables) (here d : Definition) (i : ℕ) (p : Bool) (l : Local) → ((owners : List Owner) → definition_in owners d ≡ inside_of (definition_in owners here) i) → IsAmong here i p t l →
    IsHere t d p l
here-among t here d i p l e h = record {
  defined = e (known t).table.owners ∙ ap (λ x. inside_of x i) h.around ∙ ap (λ n. inside_of l.around n) (sym h.number);
  as_packed = h.as_packed;
}

among-moved : (block : ℕ) (old new : Tables) (here : Definition) (i : ℕ) (p : Bool) (l : Local) → Moves block old new → here.owner.0 < length (known old).table.owners → IsAmong here i p old l → IsAmong here i p new l
among-moved block old new here i p l m h a = record { around = definition-moved block old new here m h ∙ a.around; number = a.number; as_packed = a.as_packed }

pub among-next : (t : Tables) (here : Definition) (i : ℕ) (p : Bool) (out : Outside) (l : Local) (u : Plain) → IsAmong here i p t l → IsAmong here (suc i) p t (place_behind out l u)
among-next t here i p out l u a = record { around = a.around; number = ap suc a.number; as_packed = a.as_packed }

pub among-after : (t : Tables) (here : Definition) (i : ℕ) (p : Bool) (out : Outside) (l : Local) (us : List Plain) → IsAmong here i p t l → IsAmong here (i + length us) p t (place_after out l us)
among-after t here i p out l [] a = subst (λ n. IsAmong here n p t l) (omega arith) a
among-after t here i p out l (u ∷ us) a =
    subst (λ n. IsAmong here n p t (place_after out (place_behind out l u) us)) (omega arith) (among-after t here (suc i) p out (place_behind out l u) us (among-next t here i p out l u a))

-- the next kid behind those so far, where more was numbered meanwhile
pub among-more : (block : ℕ) (old new : Tables) (here : Definition) (p : Bool) (out : Outside) (l : Local) (us : List Plain) → Moves block old new → here.owner.0 < length (known old).table.owners →
    IsAmong here 1 p old l → IsAmong here (1 + length us) p new (place_after out l us)
among-more block old new here p out l us m h a = among-moved block old new here (1 + length us) p (place_after out l us) m h (among-after old here 1 p out l us a)

-- ---- a node behind its kids

-- behind a node that declares what its kids do, the same is known as behind its last kid
pub core-node : (out : Outside) (l : Local) (t : Plain) (f : PlainForm) (k : Kind) (ks : List Plain) → IsProper t → f ≡ form_of t → kind_in f ≡ k → kids_in f ≡ ks → is_denoting k ≡ true → Every (λ u. is_denoting u.kind ≡ true) ks →
    (found_at out l k t.word ks).defines ≡ all_defines (nodes (marks_of out (first_place l k ks) ks)) → core (place_after out (first_place l k ks) ks) ≡ core (place_behind out l t)
core-node out l t f k ks proper e is kids one all ds =
    let first = first_place l k ks in
    let at : attributes_at out l t ≡ found_at out l k t.word ks =
    at-form out l t f proper e ∙ ap (λ (j : Kind). found_at out l j t.word (kids_in f)) is ∙ ap (λ (xs : List Plain). found_at out l k t.word xs) kids in
    let kind : t.kind ≡ k = kind-form t f e ∙ is in
    core-after out first ks all
    ∙ core-defined first l (all_defines (nodes (marks_of out first ks))) (core-inner l k _ one)
    ∙ ap (λ (xs : List (List ℕ × Meaning)). core (define_all l xs)) (sym ds)
    ∙ ap (λ (a : Attributes). core (define_all l a.defines)) (sym at)
    ∙ sym (core-behind out l t (ap is_denoting kind ∙ one))
