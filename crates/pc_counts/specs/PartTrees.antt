-- Trees of definition parts: they are in order, there are no routines among them, and no name is empty: lemmas.
use Rattle.std.proofs.Common.{◌≡◌, ℕ, Bool, true, false, List, [], ◌∷◌, refl, ap, ◌∙◌, subst, if◌then◌else◌}
use Rattle.pc_syntax.specs.Classes.{is_name}
use Rattle.pc_syntax.specs.Layout.{layout}
use Rattle.pc_syntax.specs.Plain.{Forest, Nil, Cons, count, kinds}
use Rattle.pc_syntax.specs.Sorts.{is_hole}
use Rattle.pc_syntax.specs.WellFormed.{WellFormed, fits_some}
use Rattle.pc_syntax.specs.Words.{is_identifier}
use Rattle.pc_syntax.specs.declared.kind.Kind.{Kind}
use Rattle.pc_syntax.specs.declared.kind.Kind.TheVariants as kind
use Rattle.pc_scope.specs.Headings.{is_routine_kind}
use Rattle.pc_rules.specs.OwnBlock.{bare_heading, own}
use Rattle.pc_rule_laws.specs.Orderly.{Orderly}
use Rattle.pc_rule_laws.specs.OwnBlock.{FineKinds, fine-orderly}
use Rattle.pc_rule_laws.specs.Quiet.{asked}
use Rattle.pc_rule_laws.specs.Roles.{DeclaresRoutine, Role, is_routine_role, role, routine-role}
use Rattle.pc_counts.specs.PartKinds.{PartKinds, part_role}
use Rattle.pc_counts.specs.PartKindsLaws.{part-fine, part-kids, part-role}

-- a name that is no hole has a word
abbrev pub IsWorded : Kind → List ℕ → Type 0
IsWorded k w = is_name k ≡ true → is_hole k ≡ false → w ≡ [] → ⊥

-- trees without routines, whose names are not empty
abbrev pub ArePlain : Forest → Type 0
ArePlain Nil = Unit {0}
ArePlain (Cons k w ns ks ts) = (part_role (role k) ≡ true) × IsWorded k w × ArePlain ks × ArePlain ts

word-some : (w : List ℕ) (n : ℕ) (ks : List Kind) → fits_some (layout kind.Name w n) ks ≡ true → w ≡ [] → ⊥
unfolding is_identifier
word-some [] n ks e empty = cc e
word-some (b ∷ bs) n ks e empty = cc empty

worded : (k : Kind) (w : List ℕ) (n : ℕ) (ks : List Kind) → fits_some (layout k w n) ks ≡ true → IsWorded k w
worded kind.Name w n ks e is filled = word-some w n ks e
worded (kind.Hole s) w n ks e is filled = cc filled
worded k w n ks e is filled = cc is

pub part-plain : (f : Forest) → WellFormed f → PartKinds f → ArePlain f
part-plain Nil h q = tt
part-plain (Cons k w ns ks ts) h q =
    (part-role k q.0, worded k w (count ks) (kinds ks) h.0, part-plain ks h.3 (part-kids k ks q.0 (asked k w ks h.0).placed), part-plain ts h.4 q.1)

no-routine : (r : Role) → part_role r ≡ true → is_routine_role r ≡ false
no-routine (DeclaresRoutine c) p = cc p
no-routine _ p = refl

pub plain-kind : (k : Kind) → part_role (role k) ≡ true → is_routine_kind k ≡ false
plain-kind k p = routine-role k ∙ no-routine (role k) p

-- an own block leaves nothing out of them
own-same : (f : Forest) → ArePlain f → own f ≡ f
unfolding own
own-same Nil x = refl
own-same (Cons k w ns ks ts) x =
    λ i. Cons k w ns ((ap (λ (b : Bool). if b then bare_heading ks else own ks) (plain-kind k x.0) ∙ own-same ks x.2) i) (own-same ts x.3 i)

part-fines : (f : Forest) → PartKinds f → FineKinds f
part-fines Nil q = tt
part-fines (Cons k w ns ks ts) q = (part-fine k q.0, part-fines ts q.1)

pub part-orderly : (f : Forest) → WellFormed f → PartKinds f → Orderly f
part-orderly f h q = subst Orderly (own-same f (part-plain f h q)) (fine-orderly f h (part-fines f q))
