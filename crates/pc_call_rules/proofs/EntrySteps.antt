-- The entries of one argument: lemmas.
use Rattle.std.specs.Prelude.{◌≡◌, ℕ, Bool, true, false, not, ◌&&◌, if◌then◌else◌, List, [], ◌∷◌, ◌++◌, Option, Some, None, codes, option_map}
use Rattle.std.proofs.Common.{refl, ap, sym, ◌∙◌, append_assoc, append-nil}
use Rattle.pc_types.specs.Shapes.{Shape, Typed}
use Rattle.pc_types.specs.Table.{Table, shape_at}
use Rattle.pc_types.specs.declared.operand.Operand.{Operand}
use Rattle.pc_rules.specs.Attributes.{Entry, Node}
use Rattle.pc_rules.specs.Entries.{note, note_if, disagree, unassignable, unless}
use Rattle.pc_rules.specs.Meanings as rules
use Rattle.pc_rules.specs.Arguments as rule
use Rattle.pc_rules.specs.Arguments.{formal_shape}
use Rattle.pc_judgements.specs.Judged as judged
use Rattle.pc_judgements.specs.JudgedLaws.{differs-judged, unassignable-judged}
use Rattle.pc_facts.specs.Known.{Known}
use Rattle.pc_facts.specs.Shows.{ShowsType, shape_of}
use Rattle.pc_facts.specs.declared.sighting.Formal.{Formal}
use Rattle.pc_call_rules.specs.Parameters.{ShowsFormal, is_by_place, type_in}

-- one more piece
pub two : {X : Type 0} (a b x y : List X) → a ≡ x → b ≡ a ++ y → b ≡ x ++ y
two a b x y e f = f ∙ ap (λ z. z ++ y) e

-- two more pieces
pub three : {X : Type 0} (a b c x y z : List X) → a ≡ x → b ≡ a ++ y → c ≡ b ++ z → c ≡ x ++ (y ++ z)
three a b c x y z e f g = g ∙ ap (λ q. q ++ z) (two a b x y e f) ∙ append_assoc x y z

-- a component of something packed comes before a type that differs
packed-first : (p d : Bool) (es fs : List Entry) → (if p then es else []) ++ (if not p && d then fs else []) ≡ (if p then es else (if d then fs else []))
packed-first true d es fs = rw append-nil refl
packed-first false d es fs = refl

pub differing : (p d e : Bool) (f : Bool) (t : Option Shape) (u : Option Typed) → d ≡ (not p && f) → f ≡ judged.differs t (shape_of u) → e ≡ p →
    note_if p 14 (codes "component of a packed variable") ++ note_if d 11 (codes "types do not agree") ≡ (if e then note 14 (codes "component of a packed variable") else rule.differs t u)
differing p d e f t u is judges same =
    ap (λ x. note_if p 14 (codes "component of a packed variable") ++ (if x then disagree else [])) (is ∙ ap (λ y. not p && y) judges)
    ∙ packed-first p (judged.differs t (shape_of u)) (note 14 (codes "component of a packed variable")) disagree
    ∙ rw same (ap (λ z. if p then note 14 (codes "component of a packed variable") else z) (sym (differs-judged t u)))

-- the type of a parameter
pub formal-type : (t : Table) (k : Known) (f : Option Formal) (g : Option rules.Formal) → k.table ≡ t → ShowsFormal k f g → option_map (shape_at t) (type_in f) ≡ formal_shape g
formal-type t k None None same h = refl
formal-type t k (Some f) (Some g) same h = rw (← same) (ap Some h.1)
formal-type t k None (Some g) same h = absurd h
formal-type t k (Some f) None same h = absurd h

pub by-place : (k : Known) (f : Option Formal) (g : Option rules.Formal) → ShowsFormal k f g → is_by_place f ≡ rule.is_by_place g
by-place k None None h = refl
by-place k (Some f) (Some g) h = h.0
by-place k None (Some g) h = absurd h
by-place k (Some f) None h = absurd h

pub variable-entries : (a b c x : List Entry) (p d e f : Bool) (t : Option Shape) (u : Option Typed) → a ≡ x → b ≡ a ++ note_if p 14 (codes "component of a packed variable") →
    c ≡ b ++ note_if d 11 (codes "types do not agree") → d ≡ (not p && f) → f ≡ judged.differs t (shape_of u) → e ≡ p →
    c ≡ x ++ (if e then note 14 (codes "component of a packed variable") else rule.differs t u)
variable-entries a b c x p d e f t u first second third is judges same =
    three a b c x (note_if p 14 (codes "component of a packed variable")) (note_if d 11 (codes "types do not agree")) first second third ∙ ap (λ y. x ++ y) (differing p d e f t u is judges same)

turned : (b : Bool) (e : List Entry) → (if b then [] else e) ≡ (if not b then e else [])
turned true e = refl
turned false e = refl

-- an entry stands where a type is known and unfit
pub unless-unfit : (fits : Shape → Bool) (t : Option Typed) (es : List Entry) → unless fits t es ≡ (if judged.is_unfit fits (shape_of t) then es else [])
unless-unfit fits None es = refl
unless-unfit fits (Some t) es = turned (fits t.shape) es

pub unfit-entries : (a b x : List Entry) (u : Bool) (fits : Shape → Bool) (o : Option Shape) (t : Option Typed) (row : ℕ) (text : List ℕ) → a ≡ x → b ≡ a ++ note_if u row text → u ≡ judged.is_unfit fits o →
    o ≡ shape_of t → b ≡ x ++ unless fits t (note row text)
unfit-entries a b x u fits o t row text first second judges shown =
    second ∙ ap (λ y. y ++ note_if u row text) first ∙ ap (λ y. x ++ note_if y row text) (judges ∙ ap (λ y. judged.is_unfit fits y) shown) ∙ ap (λ y. x ++ y) (sym (unless-unfit fits t (note row text)))

pub two-unfit : (a b c x : List Entry) (u v : Bool) (fits suits : Shape → Bool) (o p : Option Shape) (t s : Option Typed) (row line : ℕ) (text words : List ℕ) → a ≡ x → b ≡ a ++ note_if u row text → c ≡ b ++ note_if v line words →
    u ≡ judged.is_unfit fits o → o ≡ shape_of t → v ≡ judged.is_unfit suits p → p ≡ shape_of s → c ≡ (x ++ unless fits t (note row text)) ++ unless suits s (note line words)
two-unfit a b c x u v fits suits o p t s row line text words first second third judges shown judged_too shown_too =
    unfit-entries b c (x ++ unless fits t (note row text)) v suits p s line words (unfit-entries a b x u fits o t row text first second judges shown) third judged_too shown_too
