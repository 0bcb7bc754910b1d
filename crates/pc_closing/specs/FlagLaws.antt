-- What flags say of types that lead nowhere, and of types that are not there.
use Rattle.std.proofs.Common.{◌≡◌, ℕ, zero, suc, ◌+◌, ◌≤◌, Bool, true, List, [], get_or, length, refl, sym, ◌∙◌, ap, subst, inl, inr, arith}
use Rattle.std.proofs.lemmas.List.{get_or_past}
use Rattle.pc_types.specs.Shapes.{Shape, NoMembers, TextType, Domain}
use Rattle.pc_types.specs.Domains.{named_in, walk, reached, all_whole, length_of_domains, count_named}
use Rattle.pc_types.specs.Table.{Table, shape_at}
use Rattle.pc_types.specs.declared.form.TypeId.{TypeId}
use Rattle.pc_types.specs.declared.operand.Operand.{Operand}
use Rattle.pc_types.specs.declared.operand.Operand.TheVariants as operand
use Rattle.pc_closing.specs.Whole.{is_whole_in, is_whole_at, AreWhole}
use Rattle.pc_closing.specs.SpreadLaws.{less-or-not}

walk-nowhere : (visits : ℕ) (ds met : List Domain) → walk visits ds met [] ≡ met
walk-nowhere zero ds met = refl
walk-nowhere (suc visits) ds met = refl

-- a shape that names no domain is whole
pub nowhere-whole : (ds : List Domain) (s : Shape) → named_in ds s ≡ [] → true ≡ is_whole_in ds s
unfolding reached
nowhere-whole ds s e =
    subst (λ (x : List Domain). true ≡ all_whole (walk (length_of_domains x + count_named ds ds) ds [] x)) (sym e)
    (sym (ap all_whole (walk-nowhere (0 + count_named ds ds) ds [])))

-- the flag of each type, also of one that is not there, where each type that is there has one
pub flag-right : (table : Table) (flags : List Bool) (i : ℕ) → AreWhole table flags → length table.shapes ≤ length flags → get_or flags i true ≡ is_whole_at table i
flag-right table flags i right all = elim (less-or-not i (length flags)) [
  | inl h ↦ right i h
  | inr h ↦
      let none : get_or table.shapes i NoMembers ≡ NoMembers = get_or_past table.shapes i NoMembers (omega (arith, h, all)) in
      get_or_past flags i true h ∙ nowhere-whole table.domains NoMembers refl ∙ ap (is_whole_in table.domains) (sym none)
]

-- the flag of the type of an expression
pub flag-of : (table : Table) (flags : List Bool) (x : Operand) (i : TypeId) → x ≡ operand.Id i → AreWhole table flags → length table.shapes ≤ length flags →
    get_or flags i.0 true ≡ is_whole_in table.domains (shape_at table x)
flag-of table flags x i e right all = subst (λ (y : Operand). get_or flags i.0 true ≡ is_whole_in table.domains (shape_at table y)) (sym e) (flag-right table flags i.0 right all)

-- texts and set constructors lead nowhere
pub text-whole : (table : Table) (x : Operand) (n : ℕ) → x ≡ operand.Text n → true ≡ is_whole_in table.domains (shape_at table x)
text-whole table x n e = subst (λ (y : Operand). true ≡ is_whole_in table.domains (shape_at table y)) (sym e) (nowhere-whole table.domains (TextType n) refl)

pub members-whole : (table : Table) (x : Operand) (i : TypeId) → x ≡ operand.Members i → true ≡ is_whole_in table.domains (shape_at table x)
members-whole table x i e = subst (λ (y : Operand). true ≡ is_whole_in table.domains (shape_at table y)) (sym e) (nowhere-whole table.domains (shape_at table (operand.Members i)) refl)

pub no_members-whole : (table : Table) (x : Operand) → x ≡ operand.NoMembers → true ≡ is_whole_in table.domains (shape_at table x)
no_members-whole table x e = subst (λ (y : Operand). true ≡ is_whole_in table.domains (shape_at table y)) (sym e) (nowhere-whole table.domains NoMembers refl)
