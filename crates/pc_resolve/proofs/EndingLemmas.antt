-- What names mean where the block of a routine ends is what they mean at its statement part: lemmas.
use Rattle.std.proofs.Common.{◌≡◌, ℕ, true, List, [], ◌∷◌, refl, ap, sym, ◌∙◌}
use Rattle.pc_syntax.specs.Plain.{Forest, Plain}
use Rattle.pc_syntax.specs.declared.kind.Kind.{Kind}
use Rattle.pc_rules.specs.Attributes.{Attributes}
use Rattle.pc_rules.specs.Decorated.{decorate, rule, seen}
use Rattle.pc_rules.specs.Meanings.{Local, Outside, find}
use Rattle.pc_rules.specs.Outsides.{outside_of}
use Rattle.pc_rules.specs.Places.{beside}
use Rattle.pc_rules.specs.Routines.{Routine, start_of}
use Rattle.pc_environment.specs.Decorating.{attributes_at, below_at, marks_of, place_after, place_behind}
use Rattle.pc_environment.specs.DecoratingLaws.{at-node, decorate-forest_of}
use Rattle.pc_environment.specs.RowLaws.{sees-behind}
use Rattle.pc_environment.specs.Sight.{Sight, is_body, sight_of}
use Rattle.pc_decl.specs.Annotated.{annotation_of, behind_all}
use Rattle.pc_block_laws.specs.BodyPlace.{BodyPlaceLaw}
use Rattle.pc_block_laws.specs.OwnTypes.{IsOwnBlock}

rule-kind : (out : Outside) (l : Local) (t : Plain) → (rule l t.kind t.word (seen out l t.kind t.word) (below_at out l t)).kind ≡ t.kind
unfolding rule
rule-kind out l t = refl

-- a node is of its kind
kind-found : (out : Outside) (l : Local) (t : Plain) → (attributes_at out l t).kind ≡ t.kind
kind-found out l t = ap (λ (a : Attributes). a.kind) (at-node out l t) ∙ rule-kind out l t

-- where the node behind trees in a row stands, from what is found at them
behind-marks : (out : Outside) (l : Local) (ts : List Plain) → behind_all l (marks_of out l ts) ≡ place_after out l ts
behind-marks out l [] = refl
behind-marks out l (t ∷ ts) =
    ap (λ (k : Kind). behind_all (beside l k (attributes_at out l t)) (marks_of out (place_behind out l t) ts)) (kind-found out l t) ∙ behind-marks out (place_behind out l t) ts

-- where a block of these trees ends
pub ending-is : (all : List Routine) (r : Routine) (a b c d e : Plain) → IsOwnBlock r a b c d e → (annotation_of all r).ending ≡ place_after (outside_of all r) (start_of r) (a ∷ b ∷ c ∷ d ∷ e ∷ [])
ending-is all r a b c d e own =
    let out = outside_of all r in
    let l = start_of r in
    let ts = a ∷ b ∷ c ∷ d ∷ e ∷ [] in
    ap (λ (f : Forest). behind_all l (decorate out l f)) own ∙ ap (behind_all l) (decorate-forest_of out l ts) ∙ behind-marks out l ts

-- names mean the same at the statement part
pub ending-means : BodyPlaceLaw → (all : List Routine) (r : Routine) (a b c d e : Plain) → IsOwnBlock r a b c d e → is_body e.kind ≡ true → (n : List ℕ) →
    find (outside_of all r) (place_after (outside_of all r) (start_of r) (a ∷ b ∷ c ∷ d ∷ [])) n ≡ find (outside_of all r) (annotation_of all r).ending n
ending-means law all r a b c d e own body n =
    let out = outside_of all r in
    let m = place_after out (start_of r) (a ∷ b ∷ c ∷ d ∷ []) in
    let behind = sees-behind out m (sight_of out m) e body (record { sight = refl; closed = (law.body out r a b c d).opening }) in
    sym (ap (λ (p : Local). find out p n) (ending-is all r a b c d e own) ∙ ap (λ (s : Sight). s.means n) behind.sight)
