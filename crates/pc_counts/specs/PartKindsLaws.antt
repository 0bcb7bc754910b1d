-- The nodes of the definition parts of a block, and their kids: lemmas.
use Rattle.std.proofs.Common.{◌≡◌, ℕ, Bool, true, zero, suc, List, [], ◌∷◌, refl, ◌&&◌, if◌then◌else◌}
use Rattle.std.proofs.lemmas.Bool.{and_parts}
use Rattle.std.specs.Prelude.{slice_get}
use Rattle.pc_syntax.specs.Classes.{has}
use Rattle.pc_syntax.specs.Fits.{takes, takes_from}
use Rattle.pc_syntax.specs.Plain.{Forest, Nil, Cons, kinds}
use Rattle.pc_syntax.specs.Slots.{class_from, is_list, places_of}
use Rattle.pc_syntax.specs.declared.class.Class.{Class}
use Rattle.pc_syntax.specs.declared.class.Class.TheVariants as class
use Rattle.pc_syntax.specs.declared.kind.Kind.{Kind}
use Rattle.pc_syntax.specs.declared.kind.Kind.TheVariants as kind
use Rattle.pc_rule_laws.specs.OwnBlock.{fine_kind}
use Rattle.pc_rule_laws.specs.Quiet.{implies, implied, implies-true}
use Rattle.pc_rule_laws.specs.Roles.{role}
use Rattle.pc_counts.specs.PartKinds.{PartKinds, part_class, part_kind, part_role}

-- ---- a node of such a class is of such a kind

part-has : (c : Class) (j : Kind) → implies (part_class c) (implies (has c j) (part_kind j)) ≡ true
part-has class.Consts (kind.Hole s) = implies-true (has class.Consts (kind.Hole s))
part-has class.Consts _ = refl
part-has class.Types (kind.Hole s) = implies-true (has class.Types (kind.Hole s))
part-has class.Types _ = refl
part-has class.Vars (kind.Hole s) = implies-true (has class.Vars (kind.Hole s))
part-has class.Vars _ = refl
part-has class.Constdef (kind.Hole s) = implies-true (has class.Constdef (kind.Hole s))
part-has class.Constdef _ = refl
part-has class.Typedef (kind.Hole s) = implies-true (has class.Typedef (kind.Hole s))
part-has class.Typedef _ = refl
part-has class.Vardef (kind.Hole s) = implies-true (has class.Vardef (kind.Hole s))
part-has class.Vardef _ = refl
part-has class.Denoter (kind.Hole s) = implies-true (has class.Denoter (kind.Hole s))
part-has class.Denoter _ = refl
part-has class.Structured (kind.Hole s) = implies-true (has class.Structured (kind.Hole s))
part-has class.Structured _ = refl
part-has class.Ordinal (kind.Hole s) = implies-true (has class.Ordinal (kind.Hole s))
part-has class.Ordinal _ = refl
part-has class.Field (kind.Hole s) = implies-true (has class.Field (kind.Hole s))
part-has class.Field _ = refl
part-has class.Fields (kind.Hole s) = implies-true (has class.Fields (kind.Hole s))
part-has class.Fields _ = refl
part-has class.Indexes (kind.Hole s) = implies-true (has class.Indexes (kind.Hole s))
part-has class.Indexes _ = refl
part-has class.Constant (kind.Hole s) = implies-true (has class.Constant (kind.Hole s))
part-has class.Constant _ = refl
part-has class.Bare (kind.Hole s) = implies-true (has class.Bare (kind.Hole s))
part-has class.Bare _ = refl
part-has class.Name (kind.Hole s) = implies-true (has class.Name (kind.Hole s))
part-has class.Name _ = refl
part-has class.Names (kind.Hole s) = implies-true (has class.Names (kind.Hole s))
part-has class.Names _ = refl
part-has _ j = refl

-- ---- the kids of such a node are such nodes

abbrev all_part : List Class → Bool
all_part [] = true
all_part (c ∷ cs) = part_class c && all_part cs

part-places : (k : Kind) → implies (part_kind k) (all_part (places_of k)) ≡ true
part-places (kind.Hole s) = refl
part-places _ = refl

takes-part : (cs : List Class) (i : ℕ) (j : Kind) → all_part cs ≡ true → takes (slice_get cs i) j ≡ true → part_kind j ≡ true
takes-part [] i j q e = cc e
takes-part (c ∷ cs) zero j q e = implied (has c j) (part_kind j) (implied (part_class c) (implies (has c j) (part_kind j)) (part-has c j) (and_parts (part_class c) (all_part cs) q).0) e
takes-part (c ∷ cs) (suc i) j q e = takes-part cs i j (and_parts (part_class c) (all_part cs) q).1 e

taken-part : (k : Kind) (i : ℕ) (ks : Forest) → all_part (places_of k) ≡ true → takes_from k i (kinds ks) ≡ true → PartKinds ks
taken-part k i Nil q e = tt
taken-part k i (Cons j w ns ks ts) q e =
    let a = and_parts (takes (class_from k i) j) (takes_from k (suc i) (kinds ts)) e in
    (takes-part (places_of k) (if is_list k then 0 else i) j q a.0, taken-part k (suc i) ts q a.1)

pub part-kids : (k : Kind) (ks : Forest) → part_kind k ≡ true → takes_from k 0 (kinds ks) ≡ true → PartKinds ks
part-kids k ks is e = taken-part k 0 ks (implied (part_kind k) (all_part (places_of k)) (part-places k) is) e

-- ---- there are no routines and parameters among them

pub part-fine : (k : Kind) → part_kind k ≡ true → fine_kind k ≡ true
part-fine k is = implied (part_kind k) (fine_kind k) (by k) is
  where
    by : (k : Kind) → implies (part_kind k) (fine_kind k) ≡ true
    by (kind.Hole s) = refl
    by _ = refl

pub part-role : (k : Kind) → part_kind k ≡ true → part_role (role k) ≡ true
part-role k is = implied (part_kind k) (part_role (role k)) (by k) is
  where
    by : (k : Kind) → implies (part_kind k) (part_role (role k)) ≡ true
    by (kind.Hole s) = refl
    by _ = refl
