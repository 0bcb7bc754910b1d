-- Labels and arms one after the other: lemmas.
use Rattle.std.specs.Prelude.{◌≡◌, ℕ, ◌+◌, Bool, true, false, if◌then◌else◌, List, [], ◌∷◌, ◌++◌, length, Option, option_map, codes, suc}
use Rattle.std.proofs.Common.{refl, ap, subst, sym, ◌∙◌, append-nil, append_assoc, arith, length-append, Some, None}
use Rattle.pc_types.specs.Shapes.{Shape, Typed}
use Rattle.pc_types.specs.Table.{Table, shape_at}
use Rattle.pc_types.specs.declared.operand.Operand.{Operand}
use Rattle.pc_judgements.specs.Judged as judged
use Rattle.pc_rules.specs.Attributes.{Entry, Node, at_kid}
use Rattle.pc_rules.specs.CaseStatements.{label_entries, labels_entries, arms_entries, given_by, all_given, labels_of, label_differs, is_given, selector_type}
use Rattle.pc_rules.specs.Entries.{note_if, disagree}
use Rattle.pc_rules.specs.HandedOn.{kid_entries}
use Rattle.pc_rules.specs.Meanings as rules
use Rattle.pc_facts.specs.Known.{Known}
use Rattle.pc_facts.specs.Shows.{ShowsType, ShowsValue, ShowsValues, ShowsLabels, AllShow, shape_of}
use Rattle.pc_facts.specs.declared.facts.Arm.{Arm}
use Rattle.pc_facts.specs.declared.sighting.Value.{Value}
use Rattle.pc_statement_rules.specs.declared.given.Given.{Given}
use Rattle.pc_statement_rules.specs.Cases.{Gives, IsSelected, arms_given}
use Rattle.pc_statement_rules.specs.Given.{ShowsGiven, ShowsArmLabels, label_differs_at}
use Rattle.pc_statement_rules.proofs.HandedSteps.{AllShow-more}
use Rattle.pc_statement_rules.proofs.OwnSteps.{shown-shape}

-- ---- one label

pub differs-shown : (k : Known) (s : Table) (o : Option Operand) (v : Value) (t : Option Shape) (w : rules.Value) → k.table ≡ s → option_map (shape_at s) o ≡ t → ShowsValue k v w →
    label_differs_at (option_map (shape_at s) o) (shape_at s v.of) ≡ label_differs t w
differs-shown k s o v t w same e h =
    ap (λ x. label_differs_at x (shape_at s v.of)) e ∙ ap (λ (u : Table). label_differs_at t (shape_at u v.of)) (sym same) ∙ ap (λ x. label_differs_at t x) h.shape ∙ at t
  where
    at : (t : Option Shape) → label_differs_at t w.type ≡ label_differs t w
    at None = refl
    at (Some u) = refl

pub differing : (k : Known) (es : List Entry) (g : Given) (t : Option Shape) (ws : List rules.Value) (w : rules.Value) (b : Bool) → b ≡ true → b ≡ label_differs t w → es ≡ disagree → ShowsGiven k g ws →
    Gives k es g (label_entries t ws (Some w)) (ws ++ given_by t (Some w))
differing k es g t ws w b is same e given = record {
  entries = e ∙ ap (λ x. if x then disagree else note_if (is_given ws w) 16 (codes "constant given twice")) (sym is ∙ same);
  given = let P : List rules.Value → Type 0 = λ vs. ShowsGiven k g vs in subst P (sym (append-nil ws) ∙ ap (λ x. ws ++ (if x then [] else w ∷ [])) (sym is ∙ same)) given;
}

pub agreeing : (k : Known) (es old : List Entry) (g : Given) (t : Option Shape) (ws : List rules.Value) (w : rules.Value) (b twice : Bool) → b ≡ false → b ≡ label_differs t w → old ≡ [] → twice ≡ is_given ws w →
    es ≡ old ++ note_if twice 16 (codes "constant given twice") → ShowsGiven k g (ws ++ w ∷ []) → Gives k es g (label_entries t ws (Some w)) (ws ++ given_by t (Some w))
agreeing k es old g t ws w b twice is same none e added given = record {
  entries = added ∙ ap (λ xs. xs ++ note_if twice 16 (codes "constant given twice")) none ∙ ap (λ x. note_if x 16 (codes "constant given twice")) e
      ∙ ap (λ x. if x then disagree else note_if (is_given ws w) 16 (codes "constant given twice")) (sym is ∙ same);
  given = let P : List rules.Value → Type 0 = λ vs. ShowsGiven k g vs in subst P (ap (λ x. ws ++ (if x then [] else w ∷ [])) (sym is ∙ same)) given;
}

pub valueless : (k : Known) (es : List Entry) (g : Given) (t : Option Shape) (ws : List rules.Value) (v : Option rules.Value) → es ≡ [] → ShowsGiven k g ws → ShowsValues k None v →
    Gives k es g (label_entries t ws v) (ws ++ given_by t v)
valueless k es g t ws None e given h = record { entries = e; given = let P : List rules.Value → Type 0 = λ vs. ShowsGiven k g vs in subst P (sym (append-nil ws)) given }
valueless k es g t ws (Some v) e given h = absurd h

pub valued : (k : Known) (es : List Entry) (g : Given) (t : Option Shape) (ws : List rules.Value) (x : Value) (v : Option rules.Value) → ShowsValues k (Some x) v →
    ((w : rules.Value) → ShowsValue k x w → Gives k es g (label_entries t ws (Some w)) (ws ++ given_by t (Some w))) → Gives k es g (label_entries t ws v) (ws ++ given_by t v)
valued k es g t ws x None h step = absurd h
valued k es g t ws x (Some v) h step = step v h

-- ---- labels in a row

pub labels-row : (k : Known) (vs : List (Option Value)) (ns : List Node) → ShowsLabels k vs ns → AllShow (λ v n. ShowsValues k v n.at.constant) vs ns
labels-row k [] [] h = tt
labels-row k [] (n ∷ ns) h = absurd h
labels-row k (v ∷ vs) [] h = absurd h
labels-row k (v ∷ vs) (n ∷ ns) h = (h.0, labels-row k vs ns h.1)

labels_entries-more : (t : Option Shape) (ws : List rules.Value) (i j : ℕ) (ns : List Node) (n : Node) → j ≡ i + length ns →
    labels_entries t ws i (ns ++ n ∷ []) ≡ labels_entries t ws i ns ++ at_kid j (label_entries t (ws ++ all_given t ns) n.at.constant)
labels_entries-more t ws i j [] n e =
    append-nil (at_kid i (label_entries t ws n.at.constant)) ∙ ap (λ x. at_kid x (label_entries t ws n.at.constant)) (let same : i ≡ j = omega arith in same)
    ∙ ap (λ vs. at_kid j (label_entries t vs n.at.constant)) (sym (append-nil ws))
labels_entries-more t ws i j (x ∷ ns) n e =
    ap (λ es. at_kid i (label_entries t ws x.at.constant) ++ es) (labels_entries-more t (ws ++ given_by t x.at.constant) (suc i) j ns n (omega arith))
    ∙ sym (append_assoc (at_kid i (label_entries t ws x.at.constant)) (labels_entries t (ws ++ given_by t x.at.constant) (suc i) ns) _)
    ∙ ap (λ vs. labels_entries t ws i (x ∷ ns) ++ at_kid j (label_entries t vs n.at.constant)) (append_assoc ws (given_by t x.at.constant) (all_given t ns))

all_given-more : (t : Option Shape) (ns : List Node) (n : Node) → all_given t (ns ++ n ∷ []) ≡ all_given t ns ++ given_by t n.at.constant
all_given-more t [] n = append-nil (given_by t n.at.constant)
all_given-more t (x ∷ ns) n = ap (λ vs. given_by t x.at.constant ++ vs) (all_given-more t ns n) ∙ sym (append_assoc (given_by t x.at.constant) (all_given t ns) (given_by t n.at.constant))

-- labels so far: their entries, what they gave, and how many they are
pub record LabelsSoFar (k : Known) (es : List Entry) (g : Given) (count : ℕ) (t : Option Shape) (ws : List rules.Value) (ns : List Node) : Type 0 where
  pub entries : es ≡ labels_entries t ws 1 ns
  pub given : ShowsGiven k g (ws ++ all_given t ns)
  pub counted : count ≡ length ns

pub labels-none : (k : Known) (es : List Entry) (g : Given) (t : Option Shape) (ws : List rules.Value) (ns : List Node) → es ≡ [] → ShowsGiven k g ws →
    AllShow {X = Option Value} (λ v n. ShowsValues k v n.at.constant) [] ns → LabelsSoFar k es g 0 t ws ns
labels-none k es g t ws [] e given h = record { entries = e; given = let P : List rules.Value → Type 0 = λ vs. ShowsGiven k g vs in subst P (sym (append-nil ws)) given; counted = refl }
labels-none k es g t ws (n ∷ ns) e given h = absurd h

pub labels-more : (k : Known) (xs : List (Option Value)) (x : Option Value) (es own fs : List Entry) (g h : Given) (count i : ℕ) (t : Option Shape) (ws : List rules.Value) (ns : List Node) →
    ((ms : List Node) → AllShow (λ v n. ShowsValues k v n.at.constant) xs ms → LabelsSoFar k es g count t ws ms) →
    ((vs : List rules.Value) (v : Option rules.Value) → ShowsGiven k g vs → ShowsValues k x v → Gives k own h (label_entries t vs v) (vs ++ given_by t v)) →
    i ≡ count + 1 → fs ≡ es ++ at_kid i own → AllShow (λ v n. ShowsValues k v n.at.constant) (xs ++ x ∷ []) ns → LabelsSoFar k fs h i t ws ns
labels-more k xs x es own fs g h count i t ws ns so_far step next added all =
    let r = AllShow-more (λ v n. ShowsValues k v n.at.constant) xs x ns all in
    let before = so_far r.front r.before in
    let here = step (ws ++ all_given t r.front) r.last.at.constant before.given r.here in
    let P : List Node → Type 0 = λ ms. LabelsSoFar k fs h i t ws ms in
    let Q : List rules.Value → Type 0 = λ vs. ShowsGiven k h vs in
    subst P (sym r.are) (record {
      entries = added ∙ ap (λ xs. xs ++ at_kid i own) before.entries ∙ ap (λ xs. labels_entries t ws 1 r.front ++ at_kid i xs) here.entries
          ∙ sym (labels_entries-more t ws 1 i r.front r.last (let counted = before.counted in omega arith));
      given = subst Q (append_assoc ws (all_given t r.front) (given_by t r.last.at.constant) ∙ ap (λ vs. ws ++ vs) (sym (all_given-more t r.front r.last))) here.given;
      counted = let counted = before.counted in omega (arith, length-append r.front (r.last ∷ []));
    })

-- ---- arms in a row

arms_entries-more : (t : Option Shape) (ws : List rules.Value) (i j : ℕ) (ns : List Node) (n : Node) → j ≡ i + length ns →
    arms_entries t ws i (ns ++ n ∷ []) ≡ arms_entries t ws i ns ++ at_kid j (at_kid 1 (labels_entries t (ws ++ arms_given t ns) 1 (labels_of n)))
arms_entries-more t ws i j [] n e =
    append-nil (at_kid i (at_kid 1 (labels_entries t ws 1 (labels_of n)))) ∙ ap (λ x. at_kid x (at_kid 1 (labels_entries t ws 1 (labels_of n)))) (let same : i ≡ j = omega arith in same)
    ∙ ap (λ vs. at_kid j (at_kid 1 (labels_entries t vs 1 (labels_of n)))) (sym (append-nil ws))
arms_entries-more t ws i j (x ∷ ns) n e =
    ap (λ es. at_kid i (at_kid 1 (labels_entries t ws 1 (labels_of x))) ++ es) (arms_entries-more t (ws ++ all_given t (labels_of x)) (suc i) j ns n (omega arith))
    ∙ sym (append_assoc (at_kid i (at_kid 1 (labels_entries t ws 1 (labels_of x)))) (arms_entries t (ws ++ all_given t (labels_of x)) (suc i) ns) _)
    ∙ ap (λ vs. arms_entries t ws i (x ∷ ns) ++ at_kid j (at_kid 1 (labels_entries t vs 1 (labels_of n)))) (append_assoc ws (all_given t (labels_of x)) (arms_given t ns))

arms_given-more : (t : Option Shape) (ns : List Node) (n : Node) → arms_given t (ns ++ n ∷ []) ≡ arms_given t ns ++ all_given t (labels_of n)
arms_given-more t [] n = append-nil (all_given t (labels_of n))
arms_given-more t (x ∷ ns) n = ap (λ vs. all_given t (labels_of x) ++ vs) (arms_given-more t ns n) ∙ sym (append_assoc (all_given t (labels_of x)) (arms_given t ns) (all_given t (labels_of n)))

-- arms so far
pub record ArmsSoFar (k : Known) (es : List Entry) (g : Given) (count : ℕ) (t : Option Shape) (ns : List Node) : Type 0 where
  pub entries : es ≡ arms_entries t [] 1 ns
  pub given : ShowsGiven k g (arms_given t ns)
  pub counted : count ≡ length ns

pub arms-none : (k : Known) (es : List Entry) (g : Given) (t : Option Shape) (ns : List Node) → es ≡ [] → ShowsGiven k g [] → AllShow (ShowsArmLabels k) [] ns → ArmsSoFar k es g 0 t ns
arms-none k es g t [] e given h = record { entries = e; given = given; counted = refl }
arms-none k es g t (n ∷ ns) e given h = absurd h

pub arms-more : (k : Known) (xs : List Arm) (x : Arm) (es own fs : List Entry) (g h : Given) (count i : ℕ) (t : Option Shape) (ns : List Node) →
    ((ms : List Node) → AllShow (ShowsArmLabels k) xs ms → ArmsSoFar k es g count t ms) →
    ((vs : List rules.Value) (ms : List Node) → ShowsGiven k g vs → ShowsLabels k x.labels.items ms → Gives k own h (labels_entries t vs 1 ms) (vs ++ all_given t ms)) →
    i ≡ count + 1 → fs ≡ es ++ at_kid i (at_kid 1 own) → AllShow (ShowsArmLabels k) (xs ++ x ∷ []) ns → ArmsSoFar k fs h i t ns
arms-more k xs x es own fs g h count i t ns so_far step next added all =
    let r = AllShow-more (ShowsArmLabels k) xs x ns all in
    let before = so_far r.front r.before in
    let here = step (arms_given t r.front) (labels_of r.last) before.given r.here in
    let P : List Node → Type 0 = λ ms. ArmsSoFar k fs h i t ms in
    let Q : List rules.Value → Type 0 = λ vs. ShowsGiven k h vs in
    subst P (sym r.are) (record {
      entries = added ∙ ap (λ xs. xs ++ at_kid i (at_kid 1 own)) before.entries ∙ ap (λ xs. arms_entries t [] 1 r.front ++ at_kid i (at_kid 1 xs)) here.entries
          ∙ sym (arms_entries-more t [] 1 i r.front r.last (let counted = before.counted in omega arith));
      given = subst Q (sym (arms_given-more t r.front r.last)) here.given;
      counted = let counted = before.counted in omega (arith, length-append r.front (r.last ∷ []));
    })

-- ---- the statement

selected : (ty : Option Typed) → judged.member_type (shape_of ty) ≡ selector_type ty
selected None = refl
selected (Some t) = refl

pub is_selected : (k : Known) (s : Table) (ts : List (List ℕ)) (o p : Option Operand) (ty : Option Typed) → k.table ≡ s → k.texts ≡ ts → ShowsType k.table o ty →
    option_map (shape_at s) p ≡ judged.member_type (option_map (shape_at s) o) → IsSelected k s ts p (selector_type ty)
is_selected k s ts o p ty same t h e = record { table = same; texts = t; selector = e ∙ ap judged.member_type (shown-shape s k.table o ty same h) ∙ selected ty }

pub case-entries : (ks : List Node) (old one two xs ys us vs : List Entry) → old ≡ kid_entries 1 ks → xs ≡ us → ys ≡ vs → one ≡ old ++ at_kid 1 xs → two ≡ one ++ at_kid 2 ys →
    two ≡ kid_entries 1 ks ++ at_kid 1 us ++ at_kid 2 vs
case-entries ks old one two xs ys us vs o x y first second =
    second ∙ ap (λ es. es ++ at_kid 2 ys) (first ∙ ap (λ es. es ++ at_kid 1 xs) o ∙ ap (λ es. kid_entries 1 ks ++ at_kid 1 es) x) ∙ ap (λ es. kid_entries 1 ks ++ at_kid 1 us ++ at_kid 2 es) y
