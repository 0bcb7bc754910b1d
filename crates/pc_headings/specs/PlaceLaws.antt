-- Places in a heading: lemmas.
use Rattle.std.proofs.Common.{◌≡◌, ℕ, Bool, true, false, if◌then◌else◌, List, [], ◌∷◌, ◌++◌, refl, ap, sym, subst, ◌∙◌, append-nil, append_assoc}
use Rattle.pc_syntax.specs.Classes.{is_name}
use Rattle.pc_syntax.specs.Plain.{Plain, Forest}
use Rattle.pc_syntax.specs.declared.kind.Kind.{Kind}
use Rattle.pc_syntax.specs.declared.kind.Kind.TheVariants as kind
use Rattle.pc_syntax.specs.declared.sort.Sort.{Sort}
use Rattle.pc_types.specs.Shapes.{Owner}
use Rattle.pc_names.specs.Table.{Table}
use Rattle.pc_rules.specs.Attributes.{Attributes}
use Rattle.pc_rules.specs.Decorated.{seen, rule}
use Rattle.pc_rules.specs.DeclaringNames.{all_as}
use Rattle.pc_rules.specs.Meanings.{Meaning, Found, Local, Outside, entry_of, find, field_or, known_or, later_or, define_all}
use Rattle.pc_rules.specs.Places.{inner, behind, beside, pass, pass_all}
use Rattle.pc_rules.specs.Routines.{bare, heading_start}
use Rattle.pc_environment.specs.Decorating.{attributes_at, below_at, place_behind}
use Rattle.pc_environment.specs.DecoratingLaws.{at-node}
use Rattle.pc_facts.specs.Known.{Known}
use Rattle.pc_facts.specs.declared.sighting.Declared.{Declared}
use Rattle.pc_places.specs.Scenes.{SeesNames}
use Rattle.pc_headings.specs.Groups.{IsHeadingPlace}

-- where a heading begins
pub place-start : (o : Owner) → IsHeadingPlace o (heading_start o)
place-start o = record { owner_is = refl; names_are = refl; known_are = refl; fields_are = refl; closed = refl }

-- names mean what they mean around the heading
pub find-there : (means : List ℕ → Found) (o : Owner) (l : Local) (n : List ℕ) → IsHeadingPlace o l → find (bare means) l n ≡ means n
unfolding find
find-there means o l n h = λ i. field_or (entry_of (h.fields_are i) n) (known_or (bare means) n (entry_of (h.known_are i) n) (later_or (entry_of (h.names_are i) n) (means n)))

pub sees-there : (k : Known) (t : Table) (ds : List Declared) (block : ℕ) (means : List ℕ → Found) (o : Owner) (l : Local) → SeesNames k t ds block [] means → IsHeadingPlace o l →
    SeesNames k t ds block [] (find (bare means) l)
sees-there k t ds block means o l s h = record {
  outer = s.outer;
  fields = s.fields;
  along = s.along;
  opens = s.opens;
  means_are = λ n. find-there means o l n h ∙ s.means_are n;
  named = s.named;
  distinct = s.distinct;
}

-- ---- below a node

pub place-params : (o : Owner) (l : Local) (ks : Forest) → IsHeadingPlace o l → IsHeadingPlace o (inner l kind.Params ks)
place-params o l ks h = record { owner_is = h.owner_is; names_are = h.names_are; known_are = h.known_are; fields_are = h.fields_are; closed = refl }

pub place-valparam : (o : Owner) (l : Local) (ks : Forest) → IsHeadingPlace o l → IsHeadingPlace o (inner l kind.Valparam ks)
place-valparam o l ks h = record { owner_is = h.owner_is; names_are = h.names_are; known_are = h.known_are; fields_are = h.fields_are; closed = refl }

pub place-varparam : (o : Owner) (l : Local) (ks : Forest) → IsHeadingPlace o l → IsHeadingPlace o (inner l kind.Varparam ks)
place-varparam o l ks h = record { owner_is = h.owner_is; names_are = h.names_are; known_are = h.known_are; fields_are = h.fields_are; closed = refl }

-- ---- behind a node

closed-fields : {X : Type 0} (b : Bool) (xs ys : List X) → b ≡ false → (if b then xs else ys) ≡ ys
closed-fields true xs ys e = cc
closed-fields false xs ys e = refl

fields-behind : (l : Local) (k : Kind) (a : Attributes) → l.opening ≡ false → (beside l k a).fields ≡ l.fields
fields-behind l k a e = closed-fields l.opening (a.opens ++ l.fields) l.fields e

pub place-beside : (o : Owner) (l : Local) (k : Kind) (a : Attributes) → IsHeadingPlace o l → IsHeadingPlace o (behind l k a) → IsHeadingPlace o (beside l k a)
place-beside o l k a h g = record {
  owner_is = g.owner_is;
  names_are = g.names_are;
  known_are = g.known_are;
  fields_are = fields-behind l k a h.closed ∙ h.fields_are;
  closed = h.closed;
}

-- behind a node that declares nothing
pub place-quiet : (o : Owner) (l : Local) (k : Kind) (a : Attributes) → behind l k a ≡ define_all l a.defines → a.defines ≡ [] → IsHeadingPlace o l → IsHeadingPlace o (beside l k a)
place-quiet o l k a is none h = place-beside o l k a h (subst (λ (m : Local). IsHeadingPlace o m) (sym (is ∙ ap (define_all l) none)) h)

pub place-hole : (o : Owner) (l : Local) (s : Sort) (a : Attributes) → IsHeadingPlace o l → IsHeadingPlace o (beside l (kind.Hole s) a)
place-hole o l s a h = place-beside o l (kind.Hole s) a h (record { owner_is = h.owner_is; names_are = h.names_are; known_are = h.known_are; fields_are = h.fields_are; closed = h.closed })

place-pass : (o : Owner) (l : Local) (n : List ℕ) → IsHeadingPlace o l → IsHeadingPlace o (pass l n)
place-pass o l [] h = h
place-pass o l (c ∷ cs) h = record { owner_is = h.owner_is; names_are = h.names_are; known_are = h.known_are; fields_are = h.fields_are; closed = h.closed }

pub place-pass_all : (o : Owner) (l : Local) (ds : List (List ℕ × Meaning)) → IsHeadingPlace o l → IsHeadingPlace o (pass_all l ds)
place-pass_all o l [] h = h
place-pass_all o l (d ∷ ds) h = place-pass_all o (pass l d.0) ds (place-pass o l d.0 h)

-- none of the names is empty
abbrev pub AllNamed : List (List ℕ) → Type 0
AllNamed [] = Unit {0}
AllNamed ([] ∷ ns) = ⊥
AllNamed ((c ∷ cs) ∷ ns) = AllNamed ns

-- the names that were passed stand before
pub pass_all-passed : (l : Local) (m : Meaning) (ns : List (List ℕ)) → AllNamed ns → (pass_all l (all_as m ns)).passed ≡ l.passed ++ ns
pass_all-passed l m [] h = sym (append-nil l.passed)
pass_all-passed l m ([] ∷ ns) h = absurd h
pass_all-passed l m ((c ∷ cs) ∷ ns) h = pass_all-passed (pass l (c ∷ cs)) m ns h ∙ append_assoc l.passed ((c ∷ cs) ∷ []) ns

-- ---- names, or holes in their places

name-defines : (out : Outside) (l : Local) (t : Plain) → t.kind ≡ kind.Name → (attributes_at out l t).defines ≡ []
unfolding rule
name-defines out l t e = ap (λ (a : Attributes). a.defines) (at-node out l t) ∙ (λ i. (rule l (e i) t.word (seen out l (e i) t.word) (below_at out l t)).defines)

names-defines : (out : Outside) (l : Local) (t : Plain) → t.kind ≡ kind.Names → (attributes_at out l t).defines ≡ []
unfolding rule
names-defines out l t e = ap (λ (a : Attributes). a.defines) (at-node out l t) ∙ (λ i. (rule l (e i) t.word (seen out l (e i) t.word) (below_at out l t)).defines)

name-by : (out : Outside) (o : Owner) (l : Local) (t : Plain) (k : Kind) → t.kind ≡ k → is_name k ≡ true → IsHeadingPlace o l → IsHeadingPlace o (beside l k (attributes_at out l t))
name-by out o l t kind.Name e is h = place-quiet o l kind.Name (attributes_at out l t) refl (name-defines out l t e) h
name-by out o l t (kind.Hole s) e is h = place-hole o l s (attributes_at out l t) h
name-by out o l t k e is h = cc

-- behind a name
pub place-name : (out : Outside) (o : Owner) (l : Local) (t : Plain) → is_name t.kind ≡ true → IsHeadingPlace o l → IsHeadingPlace o (place_behind out l t)
place-name out o l t is h = name-by out o l t t.kind refl is h

-- behind the names of a group
pub place-names : (out : Outside) (o : Owner) (l : Local) (t : Plain) → t.kind ≡ kind.Names → IsHeadingPlace o l → IsHeadingPlace o (place_behind out l t)
place-names out o l t e h =
    subst (λ (k : Kind). IsHeadingPlace o (beside l k (attributes_at out l t))) (sym e) (place-quiet o l kind.Names (attributes_at out l t) refl (names-defines out l t e) h)
