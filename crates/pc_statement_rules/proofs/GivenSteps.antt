-- Values of labels: lemmas.
use Rattle.std.specs.Prelude.{◌≡◌, option_map, ℕ, ℤ, pos, negsuc, Bool, true, false, if◌then◌else◌, ◌&&◌, ◌||◌, List, [], ◌∷◌, ◌++◌, slice_get, get_or}
use Rattle.std.specs.Ordering.{int_eq}
use Rattle.std.specs.HashMap.{get}
use Rattle.pc_types.specs.Shapes.{Shape}
use Rattle.pc_types.specs.declared.operand.Operand.{Operand}
use Rattle.pc_facts.specs.declared.sighting.TextId.{TextId}
use Rattle.pc_statement_rules.specs.declared.given.Given.{Given}
use Rattle.pc_statement_rules.proofs.HandedSteps.{or-false}
use Rattle.pc_statement_rules.proofs.SamenessSteps.{same_integer-equal, given-again}
use Rattle.std.proofs.Common.{refl, ap, subst, sym, ◌∙◌, Some}
use Rattle.std.proofs.Common.{arith}
use Rattle.std.proofs.lemmas.Grind.{common_steps}
use Rattle.std.proofs.lemmas.Option.{get_or_from_slice_get}
use Rattle.pc_types.specs.Table.{Table, shape_at}
use Rattle.pc_rules.specs.CaseStatements.{same_integer, same_value, is_given}
use Rattle.pc_rules.specs.Meanings as rules
use Rattle.pc_facts.specs.Known.{Known}
use Rattle.pc_facts.specs.Shows.{ShowsConstant, ShowsValue}
use Rattle.pc_facts.specs.declared.sighting.Constant.{Constant}
use Rattle.pc_facts.specs.declared.sighting.Constant.TheVariants as constant
use Rattle.pc_facts.specs.declared.sighting.Value.{Value}
use Rattle.pc_statement_rules.specs.Given.{is_one_type, same_constant_at, is_given_at, is_type_among, is_text, is_text_among, types_at, types_of, types_with, ShowsGiven}

some-got : (xs : List (List ℕ)) (i : ℕ) (x : List ℕ) → slice_get xs i ≡ Some x → get_or xs i [] ≡ x
some-got xs i x e = get_or_from_slice_get xs i x [] e

or-assoc : (a b c : Bool) → (a || (b || c)) ≡ ((a || b) || c)
or-assoc true b c = refl
or-assoc false b c = refl

and-false : (a : Bool) → (a && false) ≡ false
and-false true = refl
and-false false = refl

is_given-more : (ws : List rules.Value) (w x : rules.Value) → is_given (ws ++ w ∷ []) x ≡ (is_given ws x || same_value w x)
is_given-more [] w x = or-false (same_value w x)
is_given-more (v ∷ ws) w x = ap (λ b. same_value v x || b) (is_given-more ws w x) ∙ or-assoc (same_value v x) (is_given ws x) (same_value w x)

among-more : (t : Table) (os : List Operand) (o : Operand) (s : Shape) → is_type_among t (os ++ o ∷ []) s ≡ (is_type_among t os s || is_one_type (shape_at t o) s)
among-more t [] o s = or-false (is_one_type (shape_at t o) s)
among-more t (p ∷ os) o s = ap (λ b. is_one_type (shape_at t p) s || b) (among-more t os o s) ∙ or-assoc (is_one_type (shape_at t p) s) (is_type_among t os s) (is_one_type (shape_at t o) s)

text-more : (t : Table) (ts : List (List ℕ)) (vs : List Value) (v : Value) (s : Shape) (cs : List ℕ) →
    is_text_among t ts (vs ++ v ∷ []) s cs ≡ (is_text_among t ts vs s cs || (is_one_type (shape_at t v.of) s && is_text ts v.constant cs))
text-more t ts [] v s cs = or-false (is_one_type (shape_at t v.of) s && is_text ts v.constant cs)
text-more t ts (u ∷ vs) v s cs =
    ap (λ b. (is_one_type (shape_at t u.of) s && is_text ts u.constant cs) || b) (text-more t ts vs v s cs)
    ∙ or-assoc (is_one_type (shape_at t u.of) s && is_text ts u.constant cs) (is_text_among t ts vs s cs) (is_one_type (shape_at t v.of) s && is_text ts v.constant cs)

-- an or that adds nothing where the first holds whenever the second does
or-absorbs : (a b : Bool) → (b ≡ true → a ≡ true) → a ≡ (a || b)
or-absorbs true b h = refl
or-absorbs false true h = h refl
or-absorbs false false h = refl

int-same : (i j : ℤ) → int_eq i j ≡ same_integer i j
int-same (pos m) (pos n) = grind (arith, common_steps)
int-same (pos m) (negsuc n) = refl
int-same (negsuc m) (pos n) = refl
int-same (negsuc m) (negsuc n) = grind (arith, common_steps)

abbrev ordinal : Shape → ℤ → rules.Value
ordinal s i = record { type = s; constant = rules.Ordinal i }

-- at one constant and another, with the types of the first with one more
put-at : (k : Known) (os ps : List Operand) (ws : List rules.Value) (i j : ℤ) (of : Operand) (s : Shape) (b twice : Bool) → b ≡ same_integer i j →
    ((s : Shape) → is_type_among k.table os s ≡ is_given ws (ordinal s i)) → ((s : Shape) → is_type_among k.table ps s ≡ is_given ws (ordinal s j)) →
    twice ≡ is_given ws (ordinal (shape_at k.table of) i) →
    is_type_among k.table (if b then types_with twice os of else ps) s ≡ (is_given ws (ordinal s j) || (is_one_type (shape_at k.table of) s && same_integer i j))
put-at k os ps ws i j of s false twice e f g t = g s ∙ sym (or-false (is_given ws (ordinal s j))) ∙ ap (λ b. is_given ws (ordinal s j) || b) (sym (and-false (is_one_type (shape_at k.table of) s)) ∙ ap (λ b. is_one_type (shape_at k.table of) s && b) e)
put-at k os ps ws i j of s true false e f g t =
    among-more k.table os of s ∙ ap (λ b. b || is_one_type (shape_at k.table of) s) (f s ∙ ap (λ n. is_given ws (ordinal s n)) (same_integer-equal i j (sym e)))
    ∙ ap (λ b. is_given ws (ordinal s j) || b) (sym (and-true (is_one_type (shape_at k.table of) s)) ∙ ap (λ b. is_one_type (shape_at k.table of) s && b) e)
  where
    and-true : (a : Bool) → (a && true) ≡ a
    and-true true = refl
    and-true false = refl
put-at k os ps ws i j of s true true e f g t =
    f s ∙ ap (λ n. is_given ws (ordinal s n)) (same_integer-equal i j (sym e))
    ∙ or-absorbs (is_given ws (ordinal s j)) (is_one_type (shape_at k.table of) s && same_integer i j) (λ h. given-again ws (ordinal (shape_at k.table of) i) (ordinal s j) (sym t) h)

ordinal-value : (k : Known) (v : Value) (w : rules.Value) (i : ℤ) → v.constant ≡ constant.Ordinal i → ShowsValue k v w → ordinal (shape_at k.table v.of) i ≡ w
ordinal-value k v w i e h =
    let P : Constant → Type 0 = λ c. ShowsConstant k c w.constant in
    let c : rules.Ordinal i ≡ w.constant = at w.constant (subst P e h.constant) in
    let s : shape_at k.table v.of ≡ w.type = h.shape in
    λ z. record { type = s z; constant = c z }
  where
    at : (c : rules.Constant) → ShowsConstant k (constant.Ordinal i) c → rules.Ordinal i ≡ c
    at (rules.Ordinal j) g = ap rules.Ordinal g
    at (rules.Chars cs) g = absurd g

pub ordinal-given : (k : Known) (s : Table) (old : Given) (ws : List rules.Value) (v : Value) (w : rules.Value) (i : ℤ) (twice : Bool) → k.table ≡ s → v.constant ≡ constant.Ordinal i → ShowsValue k v w → ShowsGiven k old ws →
    twice ≡ is_type_among s (types_of old i) (shape_at s v.of) → twice ≡ is_given ws w
ordinal-given k s old ws v w i twice same e h g t =
    t ∙ ap (λ (u : Table). is_type_among u (types_of old i) (shape_at u v.of)) (sym same) ∙ g.ordinals i (shape_at k.table v.of) ∙ ap (is_given ws) (ordinal-value k v w i e h)

pub ordinal-put : (k : Known) (s : Table) (old new : Given) (ws : List rules.Value) (v : Value) (w : rules.Value) (i : ℤ) (twice : Bool) → k.table ≡ s → v.constant ≡ constant.Ordinal i → ShowsValue k v w → ShowsGiven k old ws →
    twice ≡ is_type_among s (types_of old i) (shape_at s v.of) → ((j : ℤ) → types_of new j ≡ (if int_eq i j then types_with twice (types_of old i) v.of else types_of old j)) → new.texts.items ≡ old.texts.items →
    ShowsGiven k new (ws ++ w ∷ [])
ordinal-put k s old new ws v w i twice same e h g t put texts =
    let P : rules.Value → Type 0 = λ x. ShowsGiven k new (ws ++ x ∷ []) in
    subst P (ordinal-value k v w i e h) (record {
      ordinals = λ j u. ap (λ os. is_type_among k.table os u) (put j)
          ∙ put-at k (types_of old i) (types_of old j) ws i j v.of u (int_eq i j) twice (int-same i j) (g.ordinals i) (g.ordinals j)
          (ordinal-given k s old ws v w i twice same e h g t ∙ ap (is_given ws) (sym (ordinal-value k v w i e h)))
          ∙ sym (is_given-more ws (ordinal (shape_at k.table v.of) i) (ordinal u j));
      texts = λ cs u. ap (λ vs. is_text_among k.table k.texts vs u cs) texts ∙ g.texts cs u
          ∙ sym (is_given-more ws (ordinal (shape_at k.table v.of) i) (record { type = u; constant = rules.Chars cs }) ∙ ap (λ b. is_given ws (record { type = u; constant = rules.Chars cs }) || b) (and-false (is_one_type (shape_at k.table v.of) u)) ∙ or-false (is_given ws (record { type = u; constant = rules.Chars cs })));
    })

-- ---- texts

text-value : (k : Known) (v : Value) (w : rules.Value) (c : TextId) → v.constant ≡ constant.Chars c → ShowsValue k v w → (let t : rules.Value = record { type = shape_at k.table v.of; constant = rules.Chars (get_or k.texts c.0 []) } in t) ≡ w
text-value k v w c e h =
    let P : Constant → Type 0 = λ x. ShowsConstant k x w.constant in
    let d : rules.Chars (get_or k.texts c.0 []) ≡ w.constant = at w.constant (subst P e h.constant) in
    let s : shape_at k.table v.of ≡ w.type = h.shape in
    λ z. record { type = s z; constant = d z }
  where
    at : (x : rules.Constant) → ShowsConstant k (constant.Chars c) x → rules.Chars (get_or k.texts c.0 []) ≡ x
    at (rules.Ordinal j) g = absurd g
    at (rules.Chars cs) g = ap rules.Chars (some-got k.texts c.0 cs g)

text-same : (ts : List (List ℕ)) (d : Constant) (c : TextId) → same_constant_at ts d (constant.Chars c) ≡ is_text ts d (get_or ts c.0 [])
text-same ts (constant.Ordinal i) c = refl
text-same ts (constant.Chars d) c = refl

texts-same : (t : Table) (ts : List (List ℕ)) (vs : List Value) (v : Value) (c : TextId) → v.constant ≡ constant.Chars c → is_given_at t ts vs v ≡ is_text_among t ts vs (shape_at t v.of) (get_or ts c.0 [])
texts-same t ts [] v c e = refl
texts-same t ts (u ∷ vs) v c e =
    ap (λ d. (is_one_type (shape_at t u.of) (shape_at t v.of) && same_constant_at ts u.constant d) || is_given_at t ts vs v) e
    ∙ ap (λ b. (is_one_type (shape_at t u.of) (shape_at t v.of) && b) || is_given_at t ts vs v) (text-same ts u.constant c)
    ∙ ap (λ b. (is_one_type (shape_at t u.of) (shape_at t v.of) && is_text ts u.constant (get_or ts c.0 [])) || b) (texts-same t ts vs v c e)

pub text-given : (k : Known) (s : Table) (ts : List (List ℕ)) (old : Given) (ws : List rules.Value) (v : Value) (w : rules.Value) (c : TextId) (twice : Bool) → k.table ≡ s → k.texts ≡ ts → v.constant ≡ constant.Chars c → ShowsValue k v w →
    ShowsGiven k old ws → twice ≡ is_given_at s ts old.texts.items v → twice ≡ is_given ws w
text-given k s ts old ws v w c twice same texts e h g t =
    t ∙ ap (λ (u : Table). is_given_at u ts old.texts.items v) (sym same) ∙ ap (λ us. is_given_at k.table us old.texts.items v) (sym texts) ∙ texts-same k.table k.texts old.texts.items v c e
    ∙ g.texts (get_or k.texts c.0 []) (shape_at k.table v.of) ∙ ap (is_given ws) (text-value k v w c e h)

pub text-put : (k : Known) (old new : Given) (ws : List rules.Value) (v : Value) (w : rules.Value) (c : TextId) → v.constant ≡ constant.Chars c → ShowsValue k v w → ShowsGiven k old ws →
    new.texts.items ≡ old.texts.items ++ v ∷ [] → ((j : ℤ) → types_of new j ≡ types_of old j) → ShowsGiven k new (ws ++ w ∷ [])
text-put k old new ws v w c e h g put kept =
    let x : rules.Value = record { type = shape_at k.table v.of; constant = rules.Chars (get_or k.texts c.0 []) } in
    let P : rules.Value → Type 0 = λ y. ShowsGiven k new (ws ++ y ∷ []) in
    subst P (text-value k v w c e h) (record {
      ordinals = λ j u. ap (λ os. is_type_among k.table os u) (kept j) ∙ g.ordinals j u
          ∙ sym (is_given-more ws x (ordinal u j) ∙ ap (λ b. is_given ws (ordinal u j) || b) (and-false (is_one_type (shape_at k.table v.of) u)) ∙ or-false (is_given ws (ordinal u j)));
      texts = λ cs u. ap (λ vs. is_text_among k.table k.texts vs u cs) put ∙ text-more k.table k.texts old.texts.items v u cs
          ∙ ap (λ b. b || (is_one_type (shape_at k.table v.of) u && is_text k.texts v.constant cs)) (g.texts cs u)
          ∙ ap (λ d. is_given ws (record { type = u; constant = rules.Chars cs }) || (is_one_type (shape_at k.table v.of) u && is_text k.texts d cs)) e
          ∙ sym (is_given-more ws x (record { type = u; constant = rules.Chars cs }));
    })

pub kept-types : (old new : Given) → new.ordinals ≡ old.ordinals → (j : ℤ) → types_of new j ≡ types_of old j
kept-types old new e j = ap (λ m. types_at (option_map (λ v. v.items) (get int_eq m j))) e
