-- The kinds of definitions and declarations, and of their lists, and where the nodes behind them stand.
use Rattle.std.specs.Prelude.{◌≡◌, ℕ, Bool, true, false, List, [], ◌∷◌}
use Rattle.std.proofs.Common.{refl, ap, sym, ◌∙◌}
use Rattle.pc_syntax.specs.Plain.{Forest, Plain}
use Rattle.pc_syntax.specs.declared.kind.Kind.{Kind}
use Rattle.pc_syntax.specs.declared.kind.Kind.TheVariants as kind
use Rattle.pc_forms.specs.FormClasses.{Every}
use Rattle.pc_rules.specs.Attributes.{Attributes, Marked, nodes}
use Rattle.pc_rules.specs.Decorated.{Seen, seen, rule}
use Rattle.pc_rules.specs.HandedOn.{all_defines}
use Rattle.pc_rules.specs.Meanings.{Local, Outside, define_all}
use Rattle.pc_rules.specs.Places.{inner, behind, beside}
use Rattle.pc_environment.specs.Decorating.{attributes_at, below_at, place_behind, place_after, marks_of}
use Rattle.pc_environment.specs.DecoratingLaws.{at-node}
use Rattle.pc_denoters.specs.Cores.{core, core-defined, core-fields, define_all-append, fields-defined}

-- the kinds of definitions and declarations, of holes in their place, and of the lists behind which the types stay as they are
abbrev pub is_defining : Kind → Bool
is_defining kind.Constdef = true
is_defining kind.Typedef = true
is_defining kind.Vardef = true
is_defining kind.Consts = true
is_defining kind.Vars = true
is_defining (kind.Hole s) = true
is_defining _ = false

-- the kinds of these lists
abbrev pub is_part : Kind → Bool
is_part kind.Consts = true
is_part kind.Types = true
is_part kind.Vars = true
is_part _ = false

-- behind one of them what it declares is declared
rule-beside : (l : Local) (k : Kind) (w : List ℕ) (s : Seen) (m : Marked) → is_defining k ≡ true → core (beside l k (rule l k w s m)) ≡ core (define_all l (rule l k w s m).defines)
unfolding rule
rule-beside l kind.Constdef w s m e = let a = rule l kind.Constdef w s m in core-fields l (define_all l a.defines) a refl (fields-defined l a.defines)
rule-beside l kind.Typedef w s m e = let a = rule l kind.Typedef w s m in core-fields l (define_all l a.defines) a refl (fields-defined l a.defines)
rule-beside l kind.Vardef w s m e = let a = rule l kind.Vardef w s m in core-fields l (define_all l a.defines) a refl (fields-defined l a.defines)
rule-beside l kind.Consts w s m e = let a = rule l kind.Consts w s m in core-fields l (define_all l a.defines) a refl (fields-defined l a.defines)
rule-beside l kind.Vars w s m e = let a = rule l kind.Vars w s m in core-fields l (define_all l a.defines) a refl (fields-defined l a.defines)
rule-beside l (kind.Hole x) w s m e = let a = rule l (kind.Hole x) w s m in core-fields l (behind l (kind.Hole x) a) a refl refl
rule-beside l k w s m e = cc

-- the same of a node where it stands
pub core-behind : (out : Outside) (l : Local) (t : Plain) → is_defining t.kind ≡ true → core (place_behind out l t) ≡ core (define_all l (attributes_at out l t).defines)
core-behind out l t e =
    ap (λ (a : Attributes). core (beside l t.kind a)) (at-node out l t)
    ∙ rule-beside l t.kind t.word (seen out l t.kind t.word) (below_at out l t) e
    ∙ ap (λ (a : Attributes). core (define_all l a.defines)) (sym (at-node out l t))

-- and of nodes in a row
pub core-after : (out : Outside) (l : Local) (ts : List Plain) → Every (λ u. is_defining u.kind ≡ true) ts → core (place_after out l ts) ≡ core (define_all l (all_defines (nodes (marks_of out l ts))))
core-after out l [] e = refl
core-after out l (t ∷ ts) e =
    let d = (attributes_at out l t).defines in
    let m = place_behind out l t in
    let ds = all_defines (nodes (marks_of out m ts)) in
    core-after out m ts e.1 ∙ core-defined m (define_all l d) ds (core-behind out l t e.0) ∙ ap core (sym (define_all-append l d ds))

-- the first of some definitions sees the same names as their list
pub core-part : (l : Local) (k : Kind) (ks : Forest) → is_part k ≡ true → core (inner l k ks) ≡ core l
core-part l kind.Consts ks e = refl
core-part l kind.Types ks e = refl
core-part l kind.Vars ks e = refl
core-part l k ks e = cc
