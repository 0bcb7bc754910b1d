-- What the kids of a node of a statement part see, and what is found at them.
use Rattle.std.specs.Prelude.{◌≡◌, ℕ, List, [], ◌∷◌, ◌++◌, true, false}
use Rattle.std.proofs.Common.{refl, ap, sym, ◌∙◌, subst, append-nil}
use Rattle.pc_syntax.specs.Plain.{Plain, forest_of}
use Rattle.pc_syntax.specs.WellFormed.{IsProper}
use Rattle.pc_syntax.specs.declared.kind.Kind.{Kind}
use Rattle.pc_types.specs.Shapes.{Owner}
use Rattle.pc_types.specs.declared.operand.Operand.{Operand}
use Rattle.pc_names.specs.Chains.{chain_of}
use Rattle.pc_names.specs.Table.{found_named}
use Rattle.pc_forms.specs.Form.{PlainForm, form_of}
use Rattle.pc_forms.specs.FormClasses.{Every, HasKids}
use Rattle.pc_forms.specs.FormKids.{kids_in}
use Rattle.pc_forms.specs.FormKind.{kind_in}
use Rattle.pc_forms.specs.FormLaws.{classes-form_of, proper-form_of}
use Rattle.pc_rules.specs.Attributes.{Attributes}
use Rattle.pc_rules.specs.HandedOn.{all_touches}
use Rattle.pc_rules.specs.Meanings.{Local, Outside}
use Rattle.pc_rules.specs.Places.{opens_records}
use Rattle.pc_rules.specs.RequiredMeanings.{required_or_missing}
use Rattle.pc_environment.specs.Sight.{Sight, is_body}
use Rattle.pc_environment.specs.SightLaws.{sight-inner}
use Rattle.pc_environment.specs.RowLaws.{SeesFrom, sees-behind}
use Rattle.pc_environment.specs.Decorating.{attributes_at, place_behind}
use Rattle.pc_facts.specs.Known.{Known}
use Rattle.pc_facts.specs.Shows.{ShowsNode}
use Rattle.pc_facts.specs.declared.facts.Facts.{Facts}
use Rattle.pc_facts.specs.declared.sighting.Variable.{Variable}
use Rattle.pc_call_rules.specs.Parameters.{Logs}
use Rattle.pc_growth.specs.Grows.{Begins, Grows}
use Rattle.pc_growth.specs.GrowsLaws.{Begins-same, Begins-then, ShowsNode-grows, Logs-none, Logs-then, Logs-grows}
use Rattle.pc_bodies.specs.declared.body.Body.{Body}
use Rattle.pc_bodies.specs.declared.body.Going.{Going}
use Rattle.pc_bodies.specs.AtFormLaws.{at-form}
use Rattle.pc_bodies.specs.DeclarationLaws.{FindsAs-with, ShowsDeclaration-grows, ShowsSelf-grows}
use Rattle.pc_bodies.specs.NodesAt.{node_at, first_place, found_at}
use Rattle.pc_bodies.specs.Resolved.{known, ShowsDeclaration, Stands, Resolves}

-- the first kid sees what its node sees
pub sees-first : (out : Outside) (l : Local) (s : Sight) (k : Kind) (ks : List Plain) → is_body k ≡ true → opens_records k ≡ false → SeesFrom out l s → SeesFrom out (first_place l k ks) s
sees-first out l s k ks b o sees = record { sight = sight-inner out l k (forest_of ks) b ∙ sees.sight; closed = o }

-- more is numbered behind a part that was gone through
pub known-grows : (b : Body) (old new : Going) → Begins old.texts.items new.texts.items → Grows (known b old) (known b new)
known-grows b old new t = record {
  shapes = Begins-same (known b old).table.shapes;
  owners = Begins-same (known b old).table.owners;
  names = Begins-same (known b old).names;
  texts = t;
  signatures = Begins-same (known b old).signatures;
}

pub begins-kept : (old new : List (List ℕ)) → new ≡ old → Begins old new
begins-kept old new e = subst (Begins old) (sym e) (Begins-same old)

-- a statement part stands for the same where more is numbered
pub Stands-grows : (b : Body) (a c : Known) (os : List Operand) (s : Sight) → Grows a c → a.names ≡ c.names → Stands b a os s → Stands b c os s
Stands-grows b a c os s g same h = record {
  outer = h.outer;
  fields = h.fields;
  along = λ n. FindsAs-with (ShowsDeclaration a b.declarations.now) (ShowsDeclaration c b.declarations.now) (λ d m. ShowsDeclaration-grows a c b.declarations.now d m g same) (required_or_missing n)
      (found_named b.names.now (chain_of b.names.now.chains b.block.0) n) (h.outer n) (h.along n);
  opens = h.opens;
  means = h.means;
  owner = h.owner;
  there = h.there;
  own = ShowsSelf-grows a c b.own_function s.self g h.own;
  distinct = h.distinct;
  apart = h.apart;
  targets = h.targets;
  told = h.told;
  good = h.good;
  inside = h.inside;
}

-- it stands for the same after a part was gone through
pub stands-kept : (b : Body) (old new : Going) (s : Sight) → new.opened.items ≡ old.opened.items → Begins old.texts.items new.texts.items → Stands b (known b old) old.opened.items s → Stands b (known b new) new.opened.items s
stands-kept b old new s o t stands =
    subst (λ (os : List Operand). Stands b (known b new) os s) (sym o) (Stands-grows b (known b old) (known b new) old.opened.items s (known-grows b old new t) refl stands)

-- the classes of the kids of a node whose form is known
pub classes-at : (t : Plain) (f : PlainForm) → IsProper t → f ≡ form_of t → HasKids (kind_in f) (kids_in f)
classes-at t f proper e = subst (λ (g : PlainForm). HasKids (kind_in g) (kids_in g)) (sym e) (classes-form_of t proper)

-- the kids of a node whose form is known are proper
pub proper-kid : (t : Plain) (f : PlainForm) → IsProper t → f ≡ form_of t → Every IsProper (kids_in f)
proper-kid t f proper e = subst (λ (g : PlainForm). Every IsProper (kids_in g)) (sym e) (proper-form_of t proper)

-- two parts were gone through one after the other
pub logs-two : (b : Body) (g0 g1 g2 : Going) (ws vs : List (Owner × List ℕ)) → Begins g1.texts.items g2.texts.items → Logs (known b g1) g0.touched.items g1.touched.items ws →
    Logs (known b g2) g1.touched.items g2.touched.items vs → Logs (known b g2) g0.touched.items g2.touched.items (ws ++ vs)
logs-two b g0 g1 g2 ws vs t one two =
    Logs-then (known b g2) g0.touched.items g1.touched.items g2.touched.items ws vs (Logs-grows (known b g1) (known b g2) g0.touched.items g1.touched.items ws (known-grows b g1 g2 t) one) two

-- the log stayed
pub logs-kept : (b : Body) (g0 g1 : Going) → g1.touched.items ≡ g0.touched.items → Logs (known b g1) g0.touched.items g1.touched.items []
logs-kept b g0 g1 same = subst (λ (vs : List Variable). Logs (known b g1) g0.touched.items vs []) (sym same) (Logs-none (known b g1) g0.touched.items)

-- the log has grown by what a node touches, wherever it stands
abbrev pub LogsAt : Body → Going → Going → Plain → Type 0
LogsAt b old new t =
    (out : Outside) (l : Local) (s : Sight) → SeesFrom out l s → Stands b (known b old) old.opened.items s → Logs (known b new) old.touched.items new.touched.items (attributes_at out l t).touches

-- the one kid of a node was gone through
pub logs-kid : (b : Body) (g0 g1 : Going) (x : Plain) (k : Kind) → is_body k ≡ true → opens_records k ≡ false → LogsAt b g0 g1 x →
    (out : Outside) (l : Local) (s : Sight) → SeesFrom out l s → Stands b (known b g0) g0.opened.items s →
    Logs (known b g1) g0.touched.items g1.touched.items (all_touches (node_at out (first_place l k (x ∷ [])) x ∷ []))
logs-kid b g0 g1 x k body opens one out l s sees stands =
    let l1 = first_place l k (x ∷ []) in
    subst (Logs (known b g1) g0.touched.items g1.touched.items) (sym (append-nil (attributes_at out l1 x).touches)) (one out l1 s (sees-first out l s k (x ∷ []) body opens sees) stands)

-- the two kids of a node were gone through
pub logs-kids : (b : Body) (g0 g1 g2 : Going) (x y : Plain) (k : Kind) → is_body k ≡ true → opens_records k ≡ false → is_body x.kind ≡ true →
    g1.opened.items ≡ g0.opened.items → Begins g0.texts.items g1.texts.items → Begins g1.texts.items g2.texts.items → LogsAt b g0 g1 x → LogsAt b g1 g2 y →
    (out : Outside) (l : Local) (s : Sight) → SeesFrom out l s → Stands b (known b g0) g0.opened.items s → Logs (known b g2) g0.touched.items g2.touched.items
    (all_touches (node_at out (first_place l k (x ∷ y ∷ [])) x ∷ node_at out (place_behind out (first_place l k (x ∷ y ∷ [])) x) y ∷ []))
logs-kids b g0 g1 g2 x y k body opens isx o t1 t2 one two out l s sees stands =
    let first = sees-first out l s k (x ∷ y ∷ []) body opens sees in
    let l1 = first_place l k (x ∷ y ∷ []) in
    let l2 = place_behind out l1 x in
    subst (Logs (known b g2) g0.touched.items g2.touched.items) (ap (λ (vs : List (Owner × List ℕ)). (attributes_at out l1 x).touches ++ vs) (sym (append-nil (attributes_at out l2 y).touches)))
    (logs-two b g0 g1 g2 (attributes_at out l1 x).touches (attributes_at out l2 y).touches t2 (one out l1 s first stands)
    (two out l2 s (sees-behind out l1 s x isx first) (stands-kept b g0 g1 s o t1 stands)))

-- a node whose form is known, given what the rule makes of it, and which variables are touched
pub shows-form : (b : Body) (g0 g1 : Going) (t : Plain) (f : PlainForm) (r : Facts) → IsProper t → f ≡ form_of t → g1.opened.items ≡ g0.opened.items → Begins g0.texts.items g1.texts.items →
    ((out : Outside) (l : Local) (s : Sight) → SeesFrom out l s → Stands b (known b g0) g0.opened.items s → ShowsNode (known b g1) r (found_at out l (kind_in f) t.word (kids_in f))) →
    ((out : Outside) (l : Local) (s : Sight) → SeesFrom out l s → Stands b (known b g0) g0.opened.items s → Logs (known b g1) g0.touched.items g1.touched.items (found_at out l (kind_in f) t.word (kids_in f)).touches) →
    Resolves b g0 g1 t r
shows-form b g0 g1 t f r proper e o x rule logs = record {
  shows = λ out l s sees stands. subst (ShowsNode (known b g1) r) (sym (at-form out l t f proper e)) (rule out l s sees stands);
  touched = λ out l s sees stands. subst (λ (a : Attributes). Logs (known b g1) g0.touched.items g1.touched.items a.touches) (sym (at-form out l t f proper e)) (logs out l s sees stands);
  opened = o;
  texts = x;
}

-- a node without kids, which touches no variable
pub shows-none : (b : Body) (g : Going) (t : Plain) (f : PlainForm) (r : Facts) → IsProper t → f ≡ form_of t →
    ((out : Outside) (l : Local) → ShowsNode (known b g) r (found_at out l (kind_in f) t.word (kids_in f))) →
    ((out : Outside) (l : Local) → (found_at out l (kind_in f) t.word (kids_in f)).touches ≡ []) → Resolves b g g t r
shows-none b g t f r proper e rule quiet = shows-form b g g t f r proper e refl (Begins-same g.texts.items) (λ out l s sees stands. rule out l)
    (λ out l s sees stands. subst (Logs (known b g) g.touched.items g.touched.items) (sym (quiet out l)) (Logs-none (known b g) g.touched.items))

-- a node with one kid, given what the rule makes of it, if it touches what the kid does
pub shows-one : (b : Body) (g0 g1 : Going) (t x : Plain) (f : PlainForm) (k : Kind) (f1 r : Facts) → IsProper t → f ≡ form_of t → kind_in f ≡ k → kids_in f ≡ x ∷ [] →
    is_body k ≡ true → opens_records k ≡ false → Resolves b g0 g1 x f1 →
    ((out : Outside) (l : Local) → ShowsNode (known b g1) f1 (attributes_at out (first_place l k (x ∷ [])) x) → ShowsNode (known b g1) r (found_at out l k t.word (x ∷ []))) →
    ((out : Outside) (l : Local) → (found_at out l k t.word (x ∷ [])).touches ≡ all_touches (node_at out (first_place l k (x ∷ [])) x ∷ [])) → Resolves b g0 g1 t r
shows-one b g0 g1 t x f k f1 r proper e is kids body opens r1 rule touches =
    let at : (out : Outside) (l : Local) → found_at out l (kind_in f) t.word (kids_in f) ≡ found_at out l k t.word (x ∷ []) =
    λ out l. ap (λ (j : Kind). found_at out l j t.word (kids_in f)) is ∙ ap (λ (ks : List Plain). found_at out l k t.word ks) kids in
    shows-form b g0 g1 t f r proper e r1.opened r1.texts
    (λ out l s sees stands. subst (ShowsNode (known b g1) r) (sym (at out l)) (rule out l (r1.shows out (first_place l k (x ∷ [])) s (sees-first out l s k (x ∷ []) body opens sees) stands)))
    (λ out l s sees stands.
    subst (Logs (known b g1) g0.touched.items g1.touched.items) (sym (ap (λ (a : Attributes). a.touches) (at out l) ∙ touches out l)) (logs-kid b g0 g1 x k body opens r1.touched out l s sees stands))

-- a node with two kids, likewise
pub shows-two : (b : Body) (g0 g1 g2 : Going) (t x y : Plain) (f : PlainForm) (k : Kind) (f1 f2 r : Facts) → IsProper t → f ≡ form_of t → kind_in f ≡ k → kids_in f ≡ x ∷ y ∷ [] →
    is_body k ≡ true → opens_records k ≡ false → is_body x.kind ≡ true → Resolves b g0 g1 x f1 → Resolves b g1 g2 y f2 →
    ((out : Outside) (l : Local) → ShowsNode (known b g2) f1 (attributes_at out (first_place l k (x ∷ y ∷ [])) x) →
    ShowsNode (known b g2) f2 (attributes_at out (place_behind out (first_place l k (x ∷ y ∷ [])) x) y) → ShowsNode (known b g2) r (found_at out l k t.word (x ∷ y ∷ []))) →
    ((out : Outside) (l : Local) → (found_at out l k t.word (x ∷ y ∷ [])).touches ≡
    all_touches (node_at out (first_place l k (x ∷ y ∷ [])) x ∷ node_at out (place_behind out (first_place l k (x ∷ y ∷ [])) x) y ∷ [])) → Resolves b g0 g2 t r
shows-two b g0 g1 g2 t x y f k f1 f2 r proper e is kids body opens isx r1 r2 rule touches =
    let at : (out : Outside) (l : Local) → found_at out l (kind_in f) t.word (kids_in f) ≡ found_at out l k t.word (x ∷ y ∷ []) =
    λ out l. ap (λ (j : Kind). found_at out l j t.word (kids_in f)) is ∙ ap (λ (ks : List Plain). found_at out l k t.word ks) kids in
    shows-form b g0 g2 t f r proper e (r2.opened ∙ r1.opened) (Begins-then g0.texts.items g1.texts.items g2.texts.items r1.texts r2.texts)
    (λ out l s sees stands.
    let first = sees-first out l s k (x ∷ y ∷ []) body opens sees in
    let l1 = first_place l k (x ∷ y ∷ []) in
    subst (ShowsNode (known b g2) r) (sym (at out l))
    (rule out l
    (ShowsNode-grows (known b g1) (known b g2) f1 (attributes_at out l1 x) (known-grows b g1 g2 r2.texts) (r1.shows out l1 s first stands))
    (r2.shows out (place_behind out l1 x) s (sees-behind out l1 s x isx first) (stands-kept b g0 g1 s r1.opened r1.texts stands))))
    (λ out l s sees stands.
    subst (Logs (known b g2) g0.touched.items g2.touched.items) (sym (ap (λ (a : Attributes). a.touches) (at out l) ∙ touches out l))
    (logs-kids b g0 g1 g2 x y k body opens isx r1.opened r1.texts r2.texts r1.touched r2.touched out l s sees stands))
