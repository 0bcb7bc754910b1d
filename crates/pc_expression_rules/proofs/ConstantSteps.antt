-- Constants and their types: lemmas.
use Rattle.std.specs.Prelude.{◌≡◌, ℕ, Bool, true, false, not, ◌||◌, if◌then◌else◌, List, [], ◌∷◌, ◌++◌, Option, option_map, length, slice_get, pos}
use Rattle.std.proofs.Common.{refl, sym, subst, ap, ◌∙◌, Some, None}
use Rattle.pc_syntax.specs.declared.kind.Kind.{Kind}
use Rattle.pc_types.specs.Table.{Table, IsThere, shape_at}
use Rattle.pc_types.specs.declared.operand.Operand.{Operand}
use Rattle.pc_rules.specs.Attributes.{Entry, is_empty, judged, at_kid}
use Rattle.pc_rules.specs.Constants.{typed_value, constant_node, text_value}
use Rattle.pc_rules.specs.Decorated.{with_kind}
use Rattle.pc_rules.specs.Entries.{note_if}
use Rattle.pc_rules.specs.Meanings as rules
use Rattle.pc_facts.specs.Known.{Known}
use Rattle.pc_facts.specs.Shows.{ShowsNode, ShowsType, ShowsValue, ShowsValues, ShowsConstant}
use Rattle.pc_facts.specs.declared.judged.Judged.{Judged}
use Rattle.pc_facts.specs.declared.judged.Judgement.TheVariants.{ByUse}
use Rattle.pc_facts.specs.declared.sighting.Value.{Value}
use Rattle.pc_facts.specs.declared.sighting.Constant.{Constant}
use Rattle.pc_types.specs.Shapes.{Shape, CharType, TextType}
use Rattle.pc_expression_rules.specs.Texts.{only}
use Rattle.pc_expression_rules.proofs.ResultSteps.{moved}

some-same : (o p : Operand) → Some o ≡ Some p → o ≡ p
some-same o p e = cc

-- no type
pub unknown : (t : Table) → ShowsType t None None
unknown t = record { shape = refl; there = λ p e. absurd (cc) }

-- the type of a constant
of-value : (k : Known) (value : Option Value) (v : Option rules.Value) → ShowsValues k value v → ShowsType k.table (option_map (λ x. x.of) value) (option_map typed_value v)
of-value k None None h = unknown k.table
of-value k (Some x) (Some y) h = record { shape = ap (λ s. Some s) h.shape; there = λ p e. subst (IsThere k.table) (some-same x.of p e) h.there }
of-value k None (Some y) h = absurd h
of-value k (Some x) None h = absurd h

type-shown : (k : Known) (hole : Bool) (es : List Entry) (value : Option Value) (v : Option rules.Value) → (hole ≡ false → es ≡ [] → ShowsValues k value v) →
    ShowsType k.table (if hole || not (is_empty es) then None else option_map (λ x. x.of) value) (judged hole es (option_map typed_value v)).type
type-shown k true es value v h = unknown k.table
type-shown k false (e ∷ es) value v h = unknown k.table
type-shown k false [] value v h = of-value k value v (h refl refl)

value-shown : (k : Known) (hole : Bool) (es : List Entry) (value : Option Value) (v : Option rules.Value) → (hole ≡ false → es ≡ [] → ShowsValues k value v) →
    ShowsValues k (if hole || not (is_empty es) then None else value) (if hole || not (is_empty es) then None else v)
value-shown k true es value v h = tt
value-shown k false (e ∷ es) value v h = tt
value-shown k false [] value v h = h refl refl

-- facts with these parts are those of a constant
pub constant-shown : (k : Known) (kind : Kind) (w : List ℕ) (h hole : Bool) (es gs : List Entry) (value : Option Value) (v : Option rules.Value)
    (constant : Option Value) (of : Option Operand) (one two three : Judged) →
    h ≡ hole → gs ≡ es →
    (h ≡ false → es ≡ [] → ShowsValues k value v) →
    constant ≡ (if hole || not (is_empty gs) then None else value) →
    of ≡ option_map (λ x. x.of) value →
    one.entries.items ≡ gs → one.of ≡ (if hole || not (is_empty gs) then None else of) →
    two.entries.items ≡ [] → two.of ≡ None → three.entries.items ≡ [] → three.of ≡ None →
    ShowsNode k (record { kind = kind; hole = hole; judgement = ByUse one two three; constant = constant; variable = None; packed_part = false }) (with_kind kind w (constant_node h es v))
constant-shown k kind w h hole es gs value v constant of one two three is_hole same shown is_constant is_type entries type e2 t2 e3 t3 =
    let turned : (hole || not (is_empty gs)) ≡ (h || not (is_empty es)) = ap (λ x. x || not (is_empty gs)) (sym is_hole) ∙ ap (λ xs. h || not (is_empty xs)) same in
    record {
      kind = refl;
      hole = sym is_hole;
      value = record {
        entries = entries ∙ same;
        type =
            moved _ _ _ _ _ refl (sym (type ∙ ap (λ b. if b then None else of) turned ∙ ap (λ o. if h || not (is_empty es) then None else o) is_type))
            (type-shown k h es value v shown);
      };
      place = record { entries = e2; type = moved _ _ _ _ _ refl (sym t2) (unknown k.table) };
      target = record { entries = e3; type = moved _ _ _ _ _ refl (sym t3) (unknown k.table) };
      constant =
          subst (λ c. ShowsValues k c (if h || not (is_empty es) then None else v)) (sym (is_constant ∙ ap (λ b. if b then None else value) turned))
          (value-shown k h es value v shown);
      variable = tt;
      packed_part = refl;
    }

-- where a condition brings no entry, it doesn't hold
pub none-noted : (b : Bool) (row : ℕ) (text : List ℕ) → note_if b row text ≡ [] → b ≡ false
none-noted true row text e = absurd (cc)
none-noted false row text e = refl

-- a value in the same table
pub valued : (k : Known) (t : Table) (o : Operand) (s : Shape) (c : Constant) (d : rules.Constant) → k.table ≡ t → shape_at t o ≡ s → IsThere t o → ShowsConstant k c d →
    ShowsValue k (record { of = o; constant = c }) (record { type = s; constant = d })
valued k t o s c d e shape there shown = record {
  shape = ap (λ v. shape_at v o) e ∙ shape;
  there = subst (λ v. IsThere v o) (sym e) there;
  constant = shown;
}

-- the entries of a kid that are made here
pub kid-made : (i : ℕ) (none old name one fs : List Entry) → none ≡ [] → old ≡ [] → name ≡ none ++ fs → one ≡ old ++ at_kid i name → one ≡ at_kid i fs
kid-made i none old name one fs e f made more = more ∙ ap (λ es. es ++ at_kid i name) f ∙ ap (at_kid i) (made ∙ ap (λ es. es ++ fs) e)

-- the entries of a kid, and one of the node where a condition holds
pub kid-and-note : (i row : ℕ) (text : List ℕ) (old one two es fs : List Entry) (n m : Bool) → old ≡ [] → es ≡ fs → one ≡ old ++ at_kid i es → two ≡ one ++ note_if n row text → n ≡ m →
    two ≡ at_kid i fs ++ note_if m row text
kid-and-note i row text old one two es fs n m none e first second same =
    second ∙ ap (λ b. one ++ note_if b row text) same ∙ ap (λ xs. xs ++ note_if m row text) (first ∙ ap (λ xs. xs ++ at_kid i es) none ∙ ap (at_kid i) e)

last-of : (xs : List (List ℕ)) (x : List ℕ) → slice_get (xs ++ x ∷ []) (length xs) ≡ Some x
last-of [] x = refl
last-of (y ∷ xs) x = last-of xs x

-- the text that was added last
pub last-text : (texts new old : List (List ℕ)) (x y : List ℕ) (n : ℕ) → texts ≡ new → new ≡ old ++ y ∷ [] → y ≡ x → n ≡ length old → slice_get texts n ≡ Some x
last-text texts new old x y n same added is number =
    ap (λ ts. slice_get ts n) (same ∙ added ∙ ap (λ t. old ++ t ∷ []) is) ∙ ap (slice_get (old ++ x ∷ [])) number ∙ last-of old x

-- the value of a text of one character, and of any other
pub one-shown : (k : Known) (v : Value) (cs : List ℕ) (c : ℕ) → Some c ≡ only cs → ShowsValue k v (record { type = CharType; constant = rules.Ordinal (pos c) }) → ShowsValue k v (text_value cs)
one-shown k v [] c e h = absurd (cc)
one-shown k v (d ∷ []) c e h = let same : c ≡ d = cc in subst (λ b. ShowsValue k v (record { type = CharType; constant = rules.Ordinal (pos b) })) same h
one-shown k v (d ∷ b ∷ bs) c e h = absurd (cc)

pub kept-shown : (k : Known) (v : Value) (cs : List ℕ) → None ≡ only cs → ShowsValue k v (record { type = TextType (length cs); constant = rules.Chars cs }) → ShowsValue k v (text_value cs)
kept-shown k v [] e h = h
kept-shown k v (d ∷ []) e h = absurd (cc)
kept-shown k v (d ∷ b ∷ bs) e h = h
