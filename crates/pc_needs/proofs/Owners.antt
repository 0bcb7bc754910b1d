-- Owners: that they are compared rightly, and that a node stands in the block of the nodes beside and around it.
use Rattle.std.specs.Prelude.{ℕ, ◌≡◌, true, List, [], ◌∷◌}
use Rattle.std.proofs.Common.{refl, ap, sym, ◌∙◌, true≢false}
use Rattle.std.proofs.lemmas.Bool.{and_parts, and_from}
use Rattle.std.proofs.lemmas.Slice.Eq.{bytes_eq-Decides}
use Rattle.std.specs.Str.{bytes_eq}
use Rattle.pc_syntax.specs.declared.kind.Kind.{Kind}
use Rattle.pc_syntax.specs.Plain.{Forest}
use Rattle.pc_types.specs.Shapes.{Owner, Keyed, Placed}
use Rattle.pc_types.specs.Sameness.{same_words, same_owner}
use Rattle.pc_scope.specs.Headings.{first_name, names_of_first}
use Rattle.pc_rules.specs.Attributes.{Attributes}
use Rattle.pc_rules.specs.DeclaringNames.{all_as}
use Rattle.pc_rules.specs.Meanings.{VariableName, Meaning, declared_as, Local, define, define_all}
use Rattle.pc_rules.specs.Places.{inner, pass, pass_all, beside}
use Rattle.pc_syntax.specs.declared.kind.Kind.TheVariants as kind

-- lists of words that compare as the same are equal
same_words-equal : (v w : List (List ℕ)) → same_words v w ≡ true → v ≡ w
same_words-equal [] [] e = refl
same_words-equal [] (w ∷ ws) e = absurd (true≢false (sym e))
same_words-equal (v ∷ vs) [] e = absurd (true≢false (sym e))
same_words-equal (v ∷ vs) (w ∷ ws) e =
    let both = and_parts (bytes_eq v w) (same_words vs ws) e in
    let first : v ≡ w = (bytes_eq-Decides v w).0 both.0 in
    let rest : vs ≡ ws = same_words-equal vs ws both.1 in
    λ i. first i ∷ rest i

-- so are owners
pub same_owner-equal : (a b : Owner) → same_owner a b ≡ true → a ≡ b
same_owner-equal (Keyed k) (Keyed l) e = ap Keyed (same_words-equal k l e)
same_owner-equal (Keyed k) (Placed q) e = absurd (true≢false (sym e))
same_owner-equal (Placed p) (Keyed l) e = absurd (true≢false (sym e))
same_owner-equal (Placed p) (Placed q) e = ap Placed ((bytes_eq-Decides p q).0 e)

-- ---- no node of a block changes whose block it is

pass-owner : (l : Local) (n : List ℕ) → (pass l n).owner ≡ l.owner
pass-owner l [] = refl
pass-owner l (c ∷ cs) = refl

pass_all-owner : (l : Local) (ds : List (List ℕ × Meaning)) → (pass_all l ds).owner ≡ l.owner
pass_all-owner l [] = refl
pass_all-owner l (d ∷ ds) = pass_all-owner (pass l d.0) ds ∙ pass-owner l d.0

define_all-owner : (l : Local) (ds : List (List ℕ × Meaning)) → (define_all l ds).owner ≡ l.owner
define_all-owner l [] = refl
define_all-owner l (d ∷ ds) = define_all-owner (define l d.0 d.1) ds

-- the first kid of a node stands in the same block
pub inner-owner : (l : Local) (k : Kind) (ks : Forest) → (inner l k ks).owner ≡ l.owner
inner-owner l kind.Constdef ks = pass-owner l (first_name ks)
inner-owner l kind.Typedef ks = pass-owner l (first_name ks)
inner-owner l kind.Vardef ks = define_all-owner l (all_as (declared_as VariableName l.owner) (names_of_first ks))
inner-owner l kind.Routines ks = refl
inner-owner l k ks = refl

-- so does the next one
pub beside-owner : (l : Local) (k : Kind) (a : Attributes) → (beside l k a).owner ≡ l.owner
beside-owner l kind.Types a = define_all-owner l a.defines
beside-owner l kind.Procedure a = define_all-owner l a.defines
beside-owner l kind.Function a = define_all-owner l a.defines
beside-owner l kind.Funbody a = define_all-owner l a.defines
beside-owner l (kind.Hole s) a = refl
beside-owner l kind.Valparam a = pass_all-owner l a.defines
beside-owner l kind.Varparam a = pass_all-owner l a.defines
beside-owner l kind.Params a = pass_all-owner l a.defines
beside-owner l k a = define_all-owner l a.defines

-- ---- an owner compares as the same with itself

same_words-self : (v : List (List ℕ)) → same_words v v ≡ true
same_words-self [] = refl
same_words-self (w ∷ ws) = and_from (bytes_eq w w) (same_words ws ws) ((bytes_eq-Decides w w).1 refl) (same_words-self ws)

pub same_owner-self : (o : Owner) → same_owner o o ≡ true
same_owner-self (Keyed k) = same_words-self k
same_owner-self (Placed p) = (bytes_eq-Decides p p).1 refl
