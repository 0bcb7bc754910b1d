-- The bounds of a subrange: lemmas.
use Rattle.std.specs.Prelude.{◌≡◌, ℤ, Option, Some, None, option_map}
use Rattle.std.specs.Option.{option_and_then}
use Rattle.std.proofs.Common.{ap, sym, ◌∙◌, subst}
use Rattle.pc_types.specs.Shapes.{Definition, Shape, SubrangeType}
use Rattle.pc_types.specs.Table.{Table, shape_at, IsThere}
use Rattle.pc_types.specs.declared.operand.Operand.{Operand}
use Rattle.pc_rules.specs.Denoters.{typed, bounded, subrange_of}
use Rattle.pc_rules.specs.Meanings as rules
use Rattle.pc_facts.specs.Known.{Known}
use Rattle.pc_facts.specs.Shows.{ShowsType, ShowsConstant, ShowsValues}
use Rattle.pc_facts.specs.declared.sighting.Constant.{Constant}
use Rattle.pc_facts.specs.declared.sighting.Constant.TheVariants as constant
use Rattle.pc_facts.specs.declared.sighting.Value.{Value}

ordinals-shown : (k : Known) (u : Table) (o : Option Operand) (d : Definition) (t : Shape) (i j : ℤ) (a b : rules.Constant) → ShowsType u o (Some (typed (SubrangeType d t i j))) →
    ShowsConstant k (constant.Ordinal i) a → ShowsConstant k (constant.Ordinal j) b → ShowsType u o (option_map typed (bounded d t a b))
ordinals-shown k u o d t i j (rules.Ordinal p) (rules.Ordinal q) h e f =
    subst (λ (z : ℤ). ShowsType u o (Some (typed (SubrangeType d t p z)))) f (subst (λ (z : ℤ). ShowsType u o (Some (typed (SubrangeType d t z j)))) e h)
ordinals-shown k u o d t i j (rules.Ordinal p) (rules.Chars c) h e f = absurd f
ordinals-shown k u o d t i j (rules.Chars c) b h e f = absurd e

pub bounded-shown : (k : Known) (u : Table) (o : Option Operand) (d : Definition) (t : Shape) (i j : ℤ) (x y : Constant) (a b : rules.Constant) → x ≡ constant.Ordinal i → y ≡ constant.Ordinal j →
    ShowsType u o (Some (typed (SubrangeType d t i j))) → ShowsConstant k x a → ShowsConstant k y b → ShowsType u o (option_map typed (bounded d t a b))
bounded-shown k u o d t i j x y a b is same h e f =
    ordinals-shown k u o d t i j a b h (subst (λ (z : Constant). ShowsConstant k z a) is e) (subst (λ (z : Constant). ShowsConstant k z b) same f)

-- the subrange between these two constants, whatever they are, is shown
abbrev pub Between : Known → Table → Table → Option Operand → Definition → Value → Value → Type 0
Between k t u o d x y = (s : Shape) (p q : rules.Constant) → shape_at t x.of ≡ s → IsThere t x.of → ShowsConstant k x.constant p → ShowsConstant k y.constant q → ShowsType u o (option_map typed (bounded d s p q))

values-shown : (k : Known) (t u : Table) (o : Option Operand) (d : Definition) (x y : Value) (a b : Option rules.Value) → k.table ≡ t → Between k t u o d x y →
    ShowsValues k (Some x) a → ShowsValues k (Some y) b → ShowsType u o (option_map typed (option_and_then (λ (v : rules.Value). option_and_then (subrange_of d v) b) a))
values-shown k t u o d x y (Some a) (Some b) table between e f =
    between a.type a.constant b.constant (ap (λ (v : Table). shape_at v x.of) (sym table) ∙ e.shape) (subst (λ (v : Table). IsThere v x.of) table e.there) e.constant f.constant
values-shown k t u o d x y (Some a) None table between e f = absurd f
values-shown k t u o d x y None b table between e f = absurd e

pub between-shown : (k : Known) (t u : Table) (o : Option Operand) (d : Definition) (x y : Value) (first last : Option Value) (a b : Option rules.Value) → first ≡ Some x → last ≡ Some y → k.table ≡ t →
    Between k t u o d x y → ShowsValues k first a → ShowsValues k last b → ShowsType u o (option_map typed (option_and_then (λ (v : rules.Value). option_and_then (subrange_of d v) b) a))
between-shown k t u o d x y first last a b is same table between e f =
    values-shown k t u o d x y a b table between (subst (λ (z : Option Value). ShowsValues k z a) is e) (subst (λ (z : Option Value). ShowsValues k z b) same f)
