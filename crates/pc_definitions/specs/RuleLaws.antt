-- The rules of declarations, by what is found at their parts: laws.
use Rattle.std.specs.Prelude.{◌≡◌, ℕ, Bool, true, false, not, ◌&&◌, ◌||◌, List, [], ◌∷◌, ◌++◌, None, codes}
use Rattle.std.proofs.Common.{refl, ap, sym, ◌∙◌}
use Rattle.pc_syntax.specs.Classes.{is_name}
use Rattle.pc_syntax.specs.Plain.{Plain}
use Rattle.pc_syntax.specs.Sorts.{is_hole}
use Rattle.pc_syntax.specs.Words.{lowered, is_among}
use Rattle.pc_syntax.specs.declared.kind.Kind.{Kind}
use Rattle.pc_syntax.specs.declared.kind.Kind.TheVariants as kind
use Rattle.pc_types.specs.Shapes.{Owner}
use Rattle.pc_types.specs.Table.{Table}
use Rattle.pc_rules.specs.Attributes.{Attributes, Entry, Marked, Node, at_kid}
use Rattle.pc_rules.specs.Declarations.{declaration}
use Rattle.pc_rules.specs.DeclaringNames.{second_name}
use Rattle.pc_rules.specs.Decorated.{Seen, seen, rule, with_kind}
use Rattle.pc_rules.specs.Entries.{note_if, quoted}
use Rattle.pc_rules.specs.HandedOn.{any_hole, statement_node}
use Rattle.pc_rules.specs.Meanings.{Meaning, Local, Outside}
use Rattle.pc_environment.specs.Decorating.{attributes_at, below_at}
use Rattle.pc_environment.specs.DecoratingLaws.{at-node}
use Rattle.pc_facts.specs.Known.{Known}
use Rattle.pc_facts.specs.Shows.{ShowsNode, ShowsType}
use Rattle.pc_facts.specs.declared.facts.Facts.{Facts}
use Rattle.pc_places.specs.Places.{node_at}
use Rattle.pc_denoters.specs.FormsAt.{word-at, kind-at}
use Rattle.pc_definitions.specs.Namings.{is_nameless, is_second, ShowsNaming, FitsNaming}
use Rattle.pc_definitions.specs.NamingLaws.{second-is, nameless-is}
use Rattle.pc_definitions.specs.declared.naming.Naming.{Naming}

-- no type
pub no-type : (t : Table) → ShowsType t None None
no-type t = record { shape = refl; there = λ p e. absurd (cc) }

-- what is found at a node with these entries is found at one that also declares something
pub shows-declaration : (k : Known) (r : Facts) (j : Kind) (w : List ℕ) (kids : List Node) (es : List Entry) (ts : List (Owner × List ℕ)) (ds : List (List ℕ × Meaning)) →
    ShowsNode k r (with_kind j w (statement_node kids es ts)) → ShowsNode k r (with_kind j w (declaration kids es ds))
shows-declaration k r j w kids es ts ds h = record {
  kind = h.kind;
  hole = h.hole;
  value = h.value;
  place = h.place;
  target = h.target;
  constant = h.constant;
  variable = h.variable;
  packed_part = h.packed_part;
}

or-none : (b : Bool) → (b || false) ≡ b
or-none true = refl
or-none false = refl

-- a hole in one of two kids
pub hole-of-two : (a b : Node) (h g o : Bool) → a.at.hole ≡ h → g ≡ b.at.hole → o ≡ (h || g) → any_hole (a ∷ b ∷ []) ≡ o
hole-of-two a b h g o e f is = ap (λ (x : Bool). a.at.hole || x) (or-none b.at.hole ∙ sym f) ∙ ap (λ (x : Bool). x || g) e ∙ sym is

-- the entries of two kids
pub entries-of-two : (none one two own es part bs : List Entry) → none ≡ [] → one ≡ none ++ at_kid 1 own → two ≡ one ++ at_kid 2 part → own ≡ es → part ≡ bs → two ≡ at_kid 1 es ++ at_kid 2 bs
entries-of-two none one two own es part bs e first second f g =
    second ∙ ap (λ xs. xs ++ at_kid 2 part) (first ∙ ap (λ xs. xs ++ at_kid 1 own) e ∙ ap (at_kid 1) f) ∙ ap (λ xs. at_kid 1 es ++ at_kid 2 xs) g

-- ---- row 3 at the name of a definition

second-at : (out : Outside) (place l : Local) (t : Plain) →
    second_name l (node_at out place t) ≡ note_if (not (is_hole t.kind) && is_among l.passed (lowered t.word)) 3 (quoted (codes "declared twice") t.word)
second-at out place l t = λ i.
    note_if (not (is_hole (kind-at out place t i)) && is_among l.passed (lowered (word-at out place t i))) 3 (quoted (codes "declared twice") (word-at out place t i))

-- the entries at the name, where it stands
pub own-entries : (texts : List (List ℕ)) (out : Outside) (place l : Local) (t : Plain) (n : Naming) (own : List Entry) → ShowsNaming texts t n → FitsNaming l t n →
    own ≡ note_if (is_second n) 3 (quoted (codes "declared twice") t.word) → own ≡ second_name l (node_at out place t)
own-entries texts out place l t n own shows fits is =
    is ∙ ap (λ b. note_if b 3 (quoted (codes "declared twice") t.word)) (second-is texts l t n shows fits) ∙ sym (second-at out place l t)

rule-name : (l : Local) (k : Kind) (w : List ℕ) (s : Seen) (m : Marked) → is_name k ≡ true → (rule l k w s m).hole ≡ is_hole k
unfolding rule
rule-name l kind.Name w s m e = refl
rule-name l (kind.Hole x) w s m e = refl
rule-name l k w s m e = cc

-- a name, or a hole in its place
pub hole-at-name : (out : Outside) (l : Local) (t : Plain) → is_name t.kind ≡ true → (attributes_at out l t).hole ≡ is_hole t.kind
hole-at-name out l t e = ap (λ (a : Attributes). a.hole) (at-node out l t) ∙ rule-name l t.kind t.word (seen out l t.kind t.word) (below_at out l t) e

-- whether a hole stands in its place
pub own-hole : (texts : List (List ℕ)) (out : Outside) (place : Local) (t : Plain) (n : Naming) → is_name t.kind ≡ true → ShowsNaming texts t n → (node_at out place t).at.hole ≡ is_nameless n
own-hole texts out place t n is shows = hole-at-name out place t is ∙ sym (nameless-is texts t n shows)

-- the entries that were made at a name
pub own-made : (es : List Entry) (b c : Bool) (w v : List ℕ) → es ≡ note_if b 3 (quoted (codes "declared twice") w) → b ≡ c → w ≡ v → es ≡ note_if c 3 (quoted (codes "declared twice") v)
own-made es b c w v made same word =
    made ∙ ap (λ x. note_if x 3 (quoted (codes "declared twice") w)) same ∙ ap (λ x. note_if c 3 (quoted (codes "declared twice") x)) word
