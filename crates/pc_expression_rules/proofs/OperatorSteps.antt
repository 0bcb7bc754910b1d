-- The entries of a node of an operator: lemmas.
use Rattle.std.specs.Prelude.{◌≡◌, Bool, true, false, ◌||◌, List, [], ◌∷◌, ◌++◌, Option, codes}
use Rattle.std.specs.Option.{is_some, is_none}
use Rattle.std.proofs.Common.{refl, ap, sym, ◌∙◌, append-nil, Some, None}
use Rattle.pc_types.specs.Shapes.{Typed}
use Rattle.pc_types.specs.Table.{Table}
use Rattle.pc_types.specs.declared.operand.Operand.{Operand}
use Rattle.pc_rules.specs.Attributes.{Entry, Node, at_kid}
use Rattle.pc_rules.specs.HandedOn.{kid_entries}
use Rattle.pc_rules.specs.Entries.{note_if}
use Rattle.pc_facts.specs.Shows.{ShowsType}

-- the same types are known
pub known-same : (t : Table) (o : Option Operand) (ty : Option Typed) → ShowsType t o ty → is_some o ≡ is_some ty
known-same t None None h = refl
known-same t (Some o) (Some ty) h = refl
known-same t None (Some ty) h = let e = h.shape in cc
known-same t (Some o) None h = let e = h.shape in cc

pub unknown-same : (t : Table) (o : Option Operand) (ty : Option Typed) → ShowsType t o ty → is_none o ≡ is_none ty
unknown-same t None None h = refl
unknown-same t (Some o) (Some ty) h = refl
unknown-same t None (Some ty) h = let e = h.shape in cc
unknown-same t (Some o) None h = let e = h.shape in cc

pub or-false : (b : Bool) → (b || false) ≡ b
or-false true = refl
or-false false = refl

pub two-entries : (a b : Node) (old one two three es fs : List Entry) (n m : Bool) → old ≡ [] → es ≡ a.as_value.entries → fs ≡ b.as_value.entries → one ≡ old ++ at_kid 1 es → two ≡ one ++ at_kid 2 fs →
    three ≡ two ++ note_if n 11 (codes "types do not agree") → n ≡ m → three ≡ kid_entries 1 (a ∷ b ∷ []) ++ note_if m 11 (codes "types do not agree")
two-entries a b old one two three es fs n m none e f first second third same =
    third ∙ ap (λ x. two ++ note_if x 11 (codes "types do not agree")) same
    ∙ ap (λ xs. xs ++ note_if m 11 (codes "types do not agree"))
    (second ∙ ap (λ xs. xs ++ at_kid 2 fs) (first ∙ ap (λ xs. xs ++ at_kid 1 es) none) ∙ ap (λ xs. at_kid 1 es ++ at_kid 2 xs) f ∙ ap (λ xs. at_kid 1 xs ++ at_kid 2 b.as_value.entries) e ∙ ap (λ xs. at_kid 1 a.as_value.entries ++ xs) (sym (append-nil (at_kid 2 b.as_value.entries))))

pub one-entries : (a : Node) (old one two es : List Entry) (n m : Bool) → old ≡ [] → es ≡ a.as_value.entries → one ≡ old ++ at_kid 1 es →
    two ≡ one ++ note_if n 11 (codes "types do not agree") → n ≡ m → two ≡ kid_entries 1 (a ∷ []) ++ note_if m 11 (codes "types do not agree")
one-entries a old one two es n m none e first second same =
    second ∙ ap (λ x. one ++ note_if x 11 (codes "types do not agree")) same
    ∙ ap (λ xs. xs ++ note_if m 11 (codes "types do not agree"))
    (first ∙ ap (λ xs. xs ++ at_kid 1 es) none ∙ ap (λ xs. at_kid 1 xs) e ∙ sym (append-nil (at_kid 1 a.as_value.entries)))

-- the entries of a node with one kid and none of its own
pub kid-entries : (a : Node) (old one es : List Entry) → old ≡ [] → es ≡ a.as_value.entries → one ≡ old ++ at_kid 1 es → one ≡ kid_entries 1 (a ∷ []) ++ []
kid-entries a old one es none e first =
    first ∙ ap (λ xs. xs ++ at_kid 1 es) none ∙ ap (λ xs. at_kid 1 xs) e ∙ sym (append-nil (at_kid 1 a.as_value.entries)) ∙ sym (append-nil (kid_entries 1 (a ∷ [])))
