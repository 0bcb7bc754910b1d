-- What is found at a constant, from its parts: lemmas.
use Rattle.std.specs.Prelude.{◌≡◌, ℕ, true, List, [], ◌∷◌}
use Rattle.std.proofs.Common.{refl, ap, sym, ◌∙◌, subst}
use Rattle.pc_syntax.specs.Plain.{Plain, forest_of, kids_of}
use Rattle.pc_syntax.specs.Classes.{is_bare, is_constant}
use Rattle.pc_syntax.specs.declared.kind.Kind.{Kind}
use Rattle.pc_syntax.specs.declared.kind.Kind.TheVariants as kind
use Rattle.pc_syntax.specs.declared.sort.Sort.{Sort}
use Rattle.pc_types.specs.declared.operand.Operand.{Operand}
use Rattle.pc_names.specs.Table.{Table}
use Rattle.pc_forms.specs.Form.{PlainForm, form_from, form_of, nothing}
use Rattle.pc_forms.specs.Operators.{sign_of}
use Rattle.pc_forms.specs.declared.operator.Sign.{Sign}
use Rattle.pc_forms.specs.declared.form.Form.TheVariants as form
use Rattle.pc_rules.specs.Attributes.{Attributes, Node}
use Rattle.pc_rules.specs.Constants.{number_rule, string_rule, constant_name_rule, signed_constant_rule}
use Rattle.pc_rules.specs.Decorated.{seen, rule, with_kind, hole_rule}
use Rattle.pc_rules.specs.ListRuleLaws.{rule-word}
use Rattle.pc_rules.specs.Meanings.{Local, Outside, find}
use Rattle.pc_rules.specs.Places.{inner}
use Rattle.pc_environment.specs.Decorating.{attributes_at, below_at}
use Rattle.pc_environment.specs.DecoratingLaws.{at-node, at-kids}
use Rattle.pc_environment.specs.Sight.{Sight}
use Rattle.pc_environment.specs.SightLaws.{sight-inner}
use Rattle.pc_facts.specs.Known.{Known}
use Rattle.pc_facts.specs.Shows.{ShowsName, ShowsNode}
use Rattle.pc_facts.specs.declared.facts.Facts.{Facts}
use Rattle.pc_facts.specs.declared.sighting.Declared.{Declared}
use Rattle.pc_facts.specs.declared.sighting.Named.{Named}
use Rattle.pc_places.specs.Places.{node_at}
use Rattle.pc_places.specs.Scenes.{SeesNames, unsigned_at}
use Rattle.pc_places.specs.UnsignedLaws.{unsigned_node, constant_name_rule-unsigned}

-- ---- kinds

-- a constant that is no text and has no sign
pub bare-constant : (k : Kind) → is_constant k ≡ true → (k ≡ kind.Cstring → ⊥) → (k ≡ kind.Csign → ⊥) → is_bare k ≡ true
bare-constant kind.Cstring e text sign = absurd (text refl)
bare-constant kind.Csign e text sign = absurd (sign refl)
bare-constant k e text sign = e

-- nothing else is one
pub bare-kind : (k : Kind) → is_bare k ≡ true → (k ≡ kind.Cnumber → ⊥) → (k ≡ kind.Cname → ⊥) → ((s : Sort) → k ≡ kind.Hole s → ⊥) → ⊥
bare-kind kind.Cnumber e number name hole = number refl
bare-kind kind.Cname e number name hole = name refl
bare-kind (kind.Hole s) e number name hole = hole s refl
bare-kind k e number name hole = cc

abbrev sign_in : PlainForm → Sign → Sign
sign_in (form.Csign o a) d = o
sign_in _ d = d

-- the sign of a constant that has one
pub constant-sign : (t a : Plain) (o : Sign) → t.kind ≡ kind.Csign → form.Csign o a ≡ form_of t → sign_of t.word ≡ o
unfolding form_of
constant-sign t a o k e = sym (ap (λ (f : PlainForm). sign_in f o) (e ∙ ap (λ (j : Kind). form_from j t.word (kids_of t) nothing) k))

-- ---- what is found

number-at : (out : Outside) (l : Local) (t : Plain) → t.kind ≡ kind.Cnumber → attributes_at out l t ≡ with_kind kind.Cnumber t.word (number_rule t.word)
unfolding rule
number-at out l t e = at-node out l t ∙ (λ i. rule l (e i) t.word (seen out l (e i) t.word) (below_at out l t))

text-at : (out : Outside) (l : Local) (t : Plain) → t.kind ≡ kind.Cstring → attributes_at out l t ≡ with_kind kind.Cstring t.word (string_rule t.word)
unfolding rule
text-at out l t e = at-node out l t ∙ (λ i. rule l (e i) t.word (seen out l (e i) t.word) (below_at out l t))

hole-at : (out : Outside) (l : Local) (t : Plain) (s : Sort) → t.kind ≡ kind.Hole s → attributes_at out l t ≡ with_kind (kind.Hole s) t.word hole_rule
unfolding rule
hole-at out l t s e = at-node out l t ∙ (λ i. rule l (e i) t.word (seen out l (e i) t.word) (below_at out l t))

-- where the kid of a node with one kid stands
abbrev pub only_place : Local → Kind → Plain → Local
only_place l k x = inner l k (forest_of (x ∷ []))

name-at : (out : Outside) (l : Local) (t x : Plain) → t.kind ≡ kind.Cname → kids_of t ≡ x ∷ [] →
    attributes_at out l t ≡ with_kind kind.Cname t.word (constant_name_rule (node_at out (only_place l kind.Cname x) x))
unfolding rule
name-at out l t x e f = at-kids out l t kind.Cname (x ∷ []) e f

sign-at : (out : Outside) (l : Local) (t x : Plain) (o : Sign) → t.kind ≡ kind.Csign → kids_of t ≡ x ∷ [] → sign_of t.word ≡ o →
    attributes_at out l t ≡ with_kind kind.Csign t.word (signed_constant_rule o (node_at out (only_place l kind.Csign x) x))
unfolding rule
sign-at out l t x o e f s =
    at-kids out l t kind.Csign (x ∷ []) e f
    ∙ ap (λ (p : Sign). with_kind kind.Csign t.word (signed_constant_rule p (node_at out (only_place l kind.Csign x) x))) s

word-at : (out : Outside) (l : Local) (t : Plain) → (attributes_at out l t).word ≡ t.word
word-at out l t = ap (λ (a : Attributes). a.word) (at-node out l t) ∙ rule-word l t.kind t.word (seen out l t.kind t.word) (below_at out l t)

-- ---- what is shown

pub shows-number : (k : Known) (f : Facts) (out : Outside) (l : Local) (t : Plain) → t.kind ≡ kind.Cnumber → ShowsNode k f (with_kind kind.Cnumber t.word (number_rule t.word)) →
    ShowsNode k f (attributes_at out l t)
shows-number k f out l t e h = subst (ShowsNode k f) (sym (number-at out l t e)) h

pub shows-text : (k : Known) (f : Facts) (out : Outside) (l : Local) (t : Plain) → t.kind ≡ kind.Cstring → ShowsNode k f (with_kind kind.Cstring t.word (string_rule t.word)) →
    ShowsNode k f (attributes_at out l t)
shows-text k f out l t e h = subst (ShowsNode k f) (sym (text-at out l t e)) h

pub shows-constant-hole : (k : Known) (f : Facts) (out : Outside) (l : Local) (t : Plain) (s : Sort) → t.kind ≡ kind.Hole s → ShowsNode k f (with_kind (kind.Hole s) t.word hole_rule) →
    ShowsNode k f (attributes_at out l t)
shows-constant-hole k f out l t s e h = subst (ShowsNode k f) (sym (hole-at out l t s e)) h

-- a constant's name, given what the name means where it stands
pub shows-constant-name : (k : Known) (m : Named) (f : Facts) (out : Outside) (l : Local) (t x : Plain) → t.kind ≡ kind.Cname → kids_of t ≡ x ∷ [] →
    ((n : Node) → ShowsName k m n.at → n.at.word ≡ x.word → ShowsNode k f (with_kind kind.Cname t.word (constant_name_rule n))) →
    ShowsName k m (unsigned_at (attributes_at out (only_place l kind.Cname x) x)) → ShowsNode k f (attributes_at out l t)
shows-constant-name k m f out l t x e kids rule name =
    let p = only_place l kind.Cname x in
    let n = node_at out p x in
    subst (ShowsNode k f) (sym (name-at out l t x e kids))
    (subst (λ (a : Attributes). ShowsNode k f (with_kind kind.Cname t.word a)) (constant_name_rule-unsigned n) (rule (unsigned_node n) name (word-at out p x)))

-- a signed constant
pub shows-signed : (k : Known) (g f : Facts) (out : Outside) (l : Local) (t x : Plain) (o : Sign) → t.kind ≡ kind.Csign → kids_of t ≡ x ∷ [] → sign_of t.word ≡ o →
    ((n : Node) → ShowsNode k g n.at → ShowsNode k f (with_kind kind.Csign t.word (signed_constant_rule o n))) →
    ShowsNode k g (attributes_at out (only_place l kind.Csign x) x) → ShowsNode k f (attributes_at out l t)
shows-signed k g f out l t x o e kids s rule kid = subst (ShowsNode k f) (sym (sign-at out l t x o e kids s)) (rule (node_at out (only_place l kind.Csign x) x) kid)

-- ---- what names mean in a constant

pub sees-name : (k : Known) (t : Table) (ds : List Declared) (block : ℕ) (opened : List Operand) (out : Outside) (l : Local) (x : Plain) → SeesNames k t ds block opened (find out l) →
    SeesNames k t ds block opened (find out (only_place l kind.Cname x))
sees-name k t ds block opened out l x sees =
    subst (λ (s : Sight). SeesNames k t ds block opened s.means) (sym (sight-inner out l kind.Cname (forest_of (x ∷ [])) refl)) sees

pub sees-signed : (k : Known) (t : Table) (ds : List Declared) (block : ℕ) (opened : List Operand) (out : Outside) (l : Local) (x : Plain) → SeesNames k t ds block opened (find out l) →
    SeesNames k t ds block opened (find out (only_place l kind.Csign x))
sees-signed k t ds block opened out l x sees =
    subst (λ (s : Sight). SeesNames k t ds block opened s.means) (sym (sight-inner out l kind.Csign (forest_of (x ∷ [])) refl)) sees

-- the characters of strings that are known stay the same
pub shows-same : (k : Known) (ts : List (List ℕ)) (f : Facts) (a : Attributes) → k.texts ≡ ts → ShowsNode k f a → ShowsNode (record k { texts = ts }) f a
shows-same k ts f a e h = subst (λ (xs : List (List ℕ)). ShowsNode (record k { texts = xs }) f a) e h
