-- What is found at a constant of a statement part: lemmas.
use Rattle.std.specs.Prelude.{◌≡◌, ℕ, true, List, [], ◌∷◌}
use Rattle.std.proofs.Common.{refl, ap, sym, ◌∙◌, subst}
use Rattle.pc_syntax.specs.Classes.{is_bare, is_constant}
use Rattle.pc_syntax.specs.Plain.{Plain, kids_of}
use Rattle.pc_syntax.specs.WellFormed.{IsProper}
use Rattle.pc_syntax.specs.declared.kind.Kind.{Kind}
use Rattle.pc_syntax.specs.declared.kind.Kind.TheVariants as kind
use Rattle.pc_syntax.specs.declared.sort.Sort.{Sort}
use Rattle.pc_forms.specs.Form.{PlainForm, form_from, form_of, nothing}
use Rattle.pc_forms.specs.Operators.{sign_of}
use Rattle.pc_forms.specs.declared.operator.Sign.{Sign}
use Rattle.pc_forms.specs.declared.form.Form.TheVariants as form
use Rattle.pc_rules.specs.Attributes.{Attributes, Marked, Node}
use Rattle.pc_rules.specs.Constants.{number_rule, string_rule, constant_name_rule, signed_constant_rule}
use Rattle.pc_rules.specs.Decorated.{Seen, seen, rule, with_kind, hole_rule}
use Rattle.pc_rules.specs.Meanings.{Local, Outside}
use Rattle.pc_environment.specs.Decorating.{attributes_at, below_at}
use Rattle.pc_environment.specs.DecoratingLaws.{at-node}
use Rattle.pc_environment.specs.RowLaws.{SeesFrom}
use Rattle.pc_environment.specs.Sight.{Sight}
use Rattle.pc_facts.specs.Known.{Known}
use Rattle.pc_facts.specs.Shows.{ShowsName, ShowsNode}
use Rattle.pc_facts.specs.declared.facts.Facts.{Facts}
use Rattle.pc_facts.specs.declared.sighting.Named.{Named}
use Rattle.pc_call_rules.specs.Parameters.{Logs}
use Rattle.pc_growth.specs.Grows.{Begins}
use Rattle.pc_growth.specs.GrowsLaws.{Begins-same}
use Rattle.pc_bodies.specs.declared.body.Body.{Body}
use Rattle.pc_bodies.specs.declared.body.Going.{Going}
use Rattle.pc_bodies.specs.AtFormLaws.{at-form, kind-form}
use Rattle.pc_bodies.specs.CallLaws.{NamedAt}
use Rattle.pc_bodies.specs.NodesAt.{node_at, first_place, found_at}
use Rattle.pc_bodies.specs.Resolved.{known, Stands, Resolves}
use Rattle.pc_bodies.specs.RowsLaws.{at-word}
use Rattle.pc_bodies.specs.SeesLaws.{sees-first, logs-kept}

-- ---- kinds

-- a constant that is no text and has no sign
pub bare-constant : (k : Kind) → is_constant k ≡ true → (k ≡ kind.Cstring → ⊥) → (k ≡ kind.Csign → ⊥) → is_bare k ≡ true
bare-constant kind.Cstring e text sign = absurd (text refl)
bare-constant kind.Csign e text sign = absurd (sign refl)
bare-constant k e text sign = e

-- nothing else is one
pub bare-kind : (k : Kind) → is_bare k ≡ true → (k ≡ kind.Cnumber → ⊥) → (k ≡ kind.Cname → ⊥) → ((s : Sort) → k ≡ kind.Hole s → ⊥) → ⊥
bare-kind kind.Cnumber e number name hole = number refl
bare-kind kind.Cname e number name hole = name refl
bare-kind (kind.Hole s) e number name hole = hole s refl
bare-kind k e number name hole = cc

-- such a one is a constant
pub bare-is : (k : Kind) → is_bare k ≡ true → is_constant k ≡ true
bare-is kind.Cnumber e = refl
bare-is kind.Cname e = refl
bare-is (kind.Hole s) e = e
bare-is k e = cc

-- ---- variables

quiet-rule : (l : Local) (k : Kind) (w : List ℕ) (s : Seen) (m : Marked) → is_constant k ≡ true → (rule l k w s m).touches ≡ []
unfolding rule
quiet-rule l kind.Cnumber w s m e = refl
quiet-rule l kind.Cstring w s m e = refl
quiet-rule l kind.Cname w s m e = refl
quiet-rule l kind.Csign w s m e = refl
quiet-rule l (kind.Hole o) w s m e = refl
quiet-rule l k w s m e = cc

-- a constant touches no variable
pub constant-touches : (out : Outside) (l : Local) (t : Plain) → is_constant t.kind ≡ true → (attributes_at out l t).touches ≡ []
constant-touches out l t e = ap (λ (a : Attributes). a.touches) (at-node out l t) ∙ quiet-rule l t.kind t.word (seen out l t.kind t.word) (below_at out l t) e

-- ---- what is found

-- a constant that was gone through, given what is found there
pub constant-resolves : (b : Body) (g0 g1 : Going) (t : Plain) (f : Facts) (a : Outside → Local → Attributes) → is_constant t.kind ≡ true → ((out : Outside) (l : Local) → attributes_at out l t ≡ a out l) →
    g1.opened.items ≡ g0.opened.items → Begins g0.texts.items g1.texts.items → g1.touched.items ≡ g0.touched.items →
    ((out : Outside) (l : Local) (s : Sight) → SeesFrom out l s → Stands b (known b g0) g0.opened.items s → ShowsNode (known b g1) f (a out l)) → Resolves b g0 g1 t f
constant-resolves b g0 g1 t f a is at opened texts touched shown = record {
  shows = λ out l s sees stands. subst (ShowsNode (known b g1) f) (sym (at out l)) (shown out l s sees stands);
  touched = λ out l s sees stands. subst (Logs (known b g1) g0.touched.items g1.touched.items) (sym (constant-touches out l t is)) (logs-kept b g0 g1 touched);
  opened = opened;
  texts = texts;
}

number-at : (out : Outside) (l : Local) (t : Plain) → t.kind ≡ kind.Cnumber → attributes_at out l t ≡ with_kind kind.Cnumber t.word (number_rule t.word)
unfolding rule
number-at out l t e = at-node out l t ∙ (λ i. rule l (e i) t.word (seen out l (e i) t.word) (below_at out l t))

text-at : (out : Outside) (l : Local) (t : Plain) → t.kind ≡ kind.Cstring → attributes_at out l t ≡ with_kind kind.Cstring t.word (string_rule t.word)
unfolding rule
text-at out l t e = at-node out l t ∙ (λ i. rule l (e i) t.word (seen out l (e i) t.word) (below_at out l t))

hole-at : (out : Outside) (l : Local) (t : Plain) (s : Sort) → t.kind ≡ kind.Hole s → attributes_at out l t ≡ with_kind (kind.Hole s) t.word hole_rule
unfolding rule
hole-at out l t s e = at-node out l t ∙ (λ i. rule l (e i) t.word (seen out l (e i) t.word) (below_at out l t))

-- a numeral
pub resolves-number : (b : Body) (g : Going) (t : Plain) (f : Facts) → t.kind ≡ kind.Cnumber → ((k : Known) (w : List ℕ) → k.table ≡ (known b g).table → ShowsNode k f (with_kind kind.Cnumber w (number_rule t.word))) →
    Resolves b g g t f
resolves-number b g t f e made = constant-resolves b g g t f (λ out l. with_kind kind.Cnumber t.word (number_rule t.word)) (ap is_constant e) (λ out l. number-at out l t e) refl (Begins-same g.texts.items) refl
    (λ out l s sees stands. made (known b g) t.word refl)

-- a hole
pub resolves-hole : (b : Body) (g : Going) (t : Plain) (f : Facts) (s : Sort) → is_constant t.kind ≡ true → t.kind ≡ kind.Hole s → ((k : Known) (w : List ℕ) → ShowsNode k f (with_kind (kind.Hole s) w hole_rule)) → Resolves b g g t f
resolves-hole b g t f s is e made = constant-resolves b g g t f (λ out l. with_kind (kind.Hole s) t.word hole_rule) is (λ out l. hole-at out l t s e) refl (Begins-same g.texts.items) refl
    (λ out l o sees stands. made (known b g) t.word)

-- a text, whose characters may have become the last ones
pub resolves-text : (b : Body) (g0 g1 : Going) (t : Plain) (f : Facts) → t.kind ≡ kind.Cstring → g1.opened.items ≡ g0.opened.items → Begins g0.texts.items g1.texts.items → g1.touched.items ≡ g0.touched.items →
    ((w : List ℕ) → ShowsNode (known b g1) f (with_kind kind.Cstring w (string_rule t.word))) → Resolves b g0 g1 t f
resolves-text b g0 g1 t f e opened texts touched made = constant-resolves b g0 g1 t f (λ out l. with_kind kind.Cstring t.word (string_rule t.word)) (ap is_constant e) (λ out l. text-at out l t e) opened texts touched
    (λ out l s sees stands. made t.word)

-- a name
pub resolves-name : (b : Body) (g0 g1 : Going) (t x : Plain) (m : Named) (f : Facts) → IsProper t → form.Cname x ≡ form_of t → g1.opened.items ≡ g0.opened.items → Begins g0.texts.items g1.texts.items →
    g1.touched.items ≡ g0.touched.items → NamedAt b g0 g1 x m →
    ((w : List ℕ) (n : Node) → ShowsName (known b g1) m n.at → n.at.word ≡ x.word → ShowsNode (known b g1) f (with_kind kind.Cname w (constant_name_rule n))) → Resolves b g0 g1 t f
resolves-name b g0 g1 t x m f proper e opened texts touched named made =
    constant-resolves b g0 g1 t f (λ out l. found_at out l kind.Cname t.word (x ∷ [])) (ap is_constant (kind-form t (form.Cname x) e)) (λ out l. at-form out l t (form.Cname x) proper e) opened texts touched
    (λ out l s sees stands.
    let l1 = first_place l kind.Cname (x ∷ []) in
    made t.word (node_at out l1 x) (named out l1 s (sees-first out l s kind.Cname (x ∷ []) refl refl sees) refl stands) (at-word out l1 x))

abbrev sign_in : PlainForm → Sign → Sign
sign_in (form.Csign o a) d = o
sign_in _ d = d

constant-sign : (t a : Plain) (o : Sign) → t.kind ≡ kind.Csign → form.Csign o a ≡ form_of t → sign_of t.word ≡ o
unfolding form_of
constant-sign t a o k e = sym (ap (λ (f : PlainForm). sign_in f o) (e ∙ ap (λ (j : Kind). form_from j t.word (kids_of t) nothing) k))

-- a constant with a sign
pub resolves-signed : (b : Body) (g0 g1 : Going) (t x : Plain) (o : Sign) (f r : Facts) → IsProper t → form.Csign o x ≡ form_of t → is_constant x.kind ≡ true → Resolves b g0 g1 x f →
    ((w : List ℕ) (n : Node) → ShowsNode (known b g1) f n.at → ShowsNode (known b g1) r (with_kind kind.Csign w (signed_constant_rule o n))) → Resolves b g0 g1 t r
resolves-signed b g0 g1 t x o f r proper e isx one made =
    let is = kind-form t (form.Csign o x) e in
    record {
      shows = λ out l s sees stands.
          let l1 = first_place l kind.Csign (x ∷ []) in
          let n = node_at out l1 x in
          let at : attributes_at out l t ≡ with_kind kind.Csign t.word (signed_constant_rule o n) =
          at-form out l t (form.Csign o x) proper e ∙ ap (λ (p : Sign). with_kind kind.Csign t.word (signed_constant_rule p n)) (constant-sign t x o is e) in
          subst (ShowsNode (known b g1) r) (sym at) (made t.word n (one.shows out l1 s (sees-first out l s kind.Csign (x ∷ []) refl refl sees) stands));
      touched = λ out l s sees stands.
          let l1 = first_place l kind.Csign (x ∷ []) in
          subst (Logs (known b g1) g0.touched.items g1.touched.items) (constant-touches out l1 x isx ∙ sym (constant-touches out l t (ap is_constant is)))
          (one.touched out l1 s (sees-first out l s kind.Csign (x ∷ []) refl refl sees) stands);
      opened = one.opened;
      texts = one.texts;
    }
