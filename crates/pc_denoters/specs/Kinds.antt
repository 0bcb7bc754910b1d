-- The kinds of nodes at and below a denoter, and where the nodes behind them stand.
use Rattle.std.specs.Prelude.{◌≡◌, ℕ, Bool, true, false, List, [], ◌∷◌}
use Rattle.std.proofs.Common.{refl, ap, sym, ◌∙◌}
use Rattle.pc_syntax.specs.Classes.{has}
use Rattle.pc_syntax.specs.Plain.{Forest, Plain}
use Rattle.pc_syntax.specs.declared.class.Class.{Class}
use Rattle.pc_syntax.specs.declared.class.Class.TheVariants as class
use Rattle.pc_syntax.specs.declared.kind.Kind.{Kind}
use Rattle.pc_syntax.specs.declared.kind.Kind.TheVariants as kind
use Rattle.pc_forms.specs.FormClasses.{Every}
use Rattle.pc_rules.specs.Attributes.{Attributes, Marked, nodes}
use Rattle.pc_rules.specs.Decorated.{Seen, seen, rule}
use Rattle.pc_rules.specs.HandedOn.{all_defines}
use Rattle.pc_rules.specs.Meanings.{Local, Outside, define_all}
use Rattle.pc_rules.specs.Places.{inner, behind, beside}
use Rattle.pc_environment.specs.Decorating.{attributes_at, below_at, place_behind, place_after, marks_of}
use Rattle.pc_environment.specs.DecoratingLaws.{at-node}
use Rattle.pc_denoters.specs.Cores.{core, core-defined, core-fields, define_all-append, fields-defined}

-- the kinds of nodes at and below a denoter
abbrev pub is_denoting : Kind → Bool
is_denoting kind.Tname = true
is_denoting kind.Enum = true
is_denoting kind.Subrange = true
is_denoting kind.Array = true
is_denoting kind.Record = true
is_denoting kind.Record0 = true
is_denoting kind.Setof = true
is_denoting kind.Packed = true
is_denoting kind.Pointer = true
is_denoting kind.Cnumber = true
is_denoting kind.Cstring = true
is_denoting kind.Cname = true
is_denoting kind.Csign = true
is_denoting kind.Name = true
is_denoting kind.Names = true
is_denoting kind.Indexes = true
is_denoting kind.Fields = true
is_denoting kind.Field = true
is_denoting (kind.Hole s) = true
is_denoting _ = false

-- the classes whose nodes stand there alone
abbrev pub is_denoting_class : Class → Bool
is_denoting_class class.Denoter = true
is_denoting_class class.Ordinal = true
is_denoting_class class.Structured = true
is_denoting_class class.Constant = true
is_denoting_class class.Bare = true
is_denoting_class class.Name = true
is_denoting_class class.Names = true
is_denoting_class class.Indexes = true
is_denoting_class class.Fields = true
is_denoting_class class.Field = true
is_denoting_class _ = false

-- a node of such a class is one of those
pub class-denoting : (c : Class) (k : Kind) → is_denoting_class c ≡ true → has c k ≡ true → is_denoting k ≡ true
class-denoting c kind.Tname b e = refl
class-denoting c kind.Enum b e = refl
class-denoting c kind.Subrange b e = refl
class-denoting c kind.Array b e = refl
class-denoting c kind.Record b e = refl
class-denoting c kind.Record0 b e = refl
class-denoting c kind.Setof b e = refl
class-denoting c kind.Packed b e = refl
class-denoting c kind.Pointer b e = refl
class-denoting c kind.Cnumber b e = refl
class-denoting c kind.Cstring b e = refl
class-denoting c kind.Cname b e = refl
class-denoting c kind.Csign b e = refl
class-denoting c kind.Name b e = refl
class-denoting c kind.Names b e = refl
class-denoting c kind.Indexes b e = refl
class-denoting c kind.Fields b e = refl
class-denoting c kind.Field b e = refl
class-denoting c (kind.Hole s) b e = refl
class-denoting class.Denoter k b e = cc
class-denoting class.Ordinal k b e = cc
class-denoting class.Structured k b e = cc
class-denoting class.Constant k b e = cc
class-denoting class.Bare k b e = cc
class-denoting class.Name k b e = cc
class-denoting class.Names k b e = cc
class-denoting class.Indexes k b e = cc
class-denoting class.Fields k b e = cc
class-denoting class.Field k b e = cc
class-denoting c k b e = cc

-- such nodes open no fields
rule-opens : (l : Local) (k : Kind) (w : List ℕ) (s : Seen) (m : Marked) → is_denoting k ≡ true → (rule l k w s m).opens ≡ []
unfolding rule
rule-opens l kind.Tname w s m e = refl
rule-opens l kind.Enum w s m e = refl
rule-opens l kind.Subrange w s m e = refl
rule-opens l kind.Array w s m e = refl
rule-opens l kind.Record w s m e = refl
rule-opens l kind.Record0 w s m e = refl
rule-opens l kind.Setof w s m e = refl
rule-opens l kind.Packed w s m e = refl
rule-opens l kind.Pointer w s m e = refl
rule-opens l kind.Cnumber w s m e = refl
rule-opens l kind.Cstring w s m e = refl
rule-opens l kind.Cname w s m e = refl
rule-opens l kind.Csign w s m e = refl
rule-opens l kind.Name w s m e = refl
rule-opens l kind.Names w s m e = refl
rule-opens l kind.Indexes w s m e = refl
rule-opens l kind.Fields w s m e = refl
rule-opens l kind.Field w s m e = refl
rule-opens l (kind.Hole x) w s m e = refl
rule-opens l k w s m e = cc

-- behind one of them what it declares is declared
rule-beside : (l : Local) (k : Kind) (w : List ℕ) (s : Seen) (m : Marked) → is_denoting k ≡ true → core (beside l k (rule l k w s m)) ≡ core (define_all l (rule l k w s m).defines)
unfolding rule
rule-beside l kind.Tname w s m e = let a = rule l kind.Tname w s m in core-fields l (define_all l a.defines) a refl (fields-defined l a.defines)
rule-beside l kind.Enum w s m e = let a = rule l kind.Enum w s m in core-fields l (define_all l a.defines) a refl (fields-defined l a.defines)
rule-beside l kind.Subrange w s m e = let a = rule l kind.Subrange w s m in core-fields l (define_all l a.defines) a refl (fields-defined l a.defines)
rule-beside l kind.Array w s m e = let a = rule l kind.Array w s m in core-fields l (define_all l a.defines) a refl (fields-defined l a.defines)
rule-beside l kind.Record w s m e = let a = rule l kind.Record w s m in core-fields l (define_all l a.defines) a refl (fields-defined l a.defines)
rule-beside l kind.Record0 w s m e = let a = rule l kind.Record0 w s m in core-fields l (define_all l a.defines) a refl (fields-defined l a.defines)
rule-beside l kind.Setof w s m e = let a = rule l kind.Setof w s m in core-fields l (define_all l a.defines) a refl (fields-defined l a.defines)
rule-beside l kind.Packed w s m e = let a = rule l kind.Packed w s m in core-fields l (define_all l a.defines) a refl (fields-defined l a.defines)
rule-beside l kind.Pointer w s m e = let a = rule l kind.Pointer w s m in core-fields l (define_all l a.defines) a refl (fields-defined l a.defines)
rule-beside l kind.Cnumber w s m e = let a = rule l kind.Cnumber w s m in core-fields l (define_all l a.defines) a refl (fields-defined l a.defines)
rule-beside l kind.Cstring w s m e = let a = rule l kind.Cstring w s m in core-fields l (define_all l a.defines) a refl (fields-defined l a.defines)
rule-beside l kind.Cname w s m e = let a = rule l kind.Cname w s m in core-fields l (define_all l a.defines) a refl (fields-defined l a.defines)
rule-beside l kind.Csign w s m e = let a = rule l kind.Csign w s m in core-fields l (define_all l a.defines) a refl (fields-defined l a.defines)
rule-beside l kind.Name w s m e = let a = rule l kind.Name w s m in core-fields l (define_all l a.defines) a refl (fields-defined l a.defines)
rule-beside l kind.Names w s m e = let a = rule l kind.Names w s m in core-fields l (define_all l a.defines) a refl (fields-defined l a.defines)
rule-beside l kind.Indexes w s m e = let a = rule l kind.Indexes w s m in core-fields l (define_all l a.defines) a refl (fields-defined l a.defines)
rule-beside l kind.Fields w s m e = let a = rule l kind.Fields w s m in core-fields l (define_all l a.defines) a refl (fields-defined l a.defines)
rule-beside l kind.Field w s m e = let a = rule l kind.Field w s m in core-fields l (define_all l a.defines) a refl (fields-defined l a.defines)
rule-beside l (kind.Hole x) w s m e = let a = rule l (kind.Hole x) w s m in core-fields l (behind l (kind.Hole x) a) a refl refl
rule-beside l k w s m e = cc

-- the same of a node where it stands
pub core-behind : (out : Outside) (l : Local) (t : Plain) → is_denoting t.kind ≡ true → core (place_behind out l t) ≡ core (define_all l (attributes_at out l t).defines)
core-behind out l t e =
    ap (λ (a : Attributes). core (beside l t.kind a)) (at-node out l t)
    ∙ rule-beside l t.kind t.word (seen out l t.kind t.word) (below_at out l t) e
    ∙ ap (λ (a : Attributes). core (define_all l a.defines)) (sym (at-node out l t))

-- and of nodes in a row
pub core-after : (out : Outside) (l : Local) (ts : List Plain) → Every (λ u. is_denoting u.kind ≡ true) ts → core (place_after out l ts) ≡ core (define_all l (all_defines (nodes (marks_of out l ts))))
core-after out l [] e = refl
core-after out l (t ∷ ts) e =
    let d = (attributes_at out l t).defines in
    let m = place_behind out l t in
    let ds = all_defines (nodes (marks_of out m ts)) in
    core-after out m ts e.1 ∙ core-defined m (define_all l d) ds (core-behind out l t e.0) ∙ ap core (sym (define_all-append l d ds))

-- the first kid sees the same names as its node
pub core-inner : (l : Local) (k : Kind) (ks : Forest) → is_denoting k ≡ true → core (inner l k ks) ≡ core l
core-inner l kind.Tname ks e = refl
core-inner l kind.Enum ks e = refl
core-inner l kind.Subrange ks e = refl
core-inner l kind.Array ks e = refl
core-inner l kind.Record ks e = refl
core-inner l kind.Record0 ks e = refl
core-inner l kind.Setof ks e = refl
core-inner l kind.Packed ks e = refl
core-inner l kind.Pointer ks e = refl
core-inner l kind.Cnumber ks e = refl
core-inner l kind.Cstring ks e = refl
core-inner l kind.Cname ks e = refl
core-inner l kind.Csign ks e = refl
core-inner l kind.Name ks e = refl
core-inner l kind.Names ks e = refl
core-inner l kind.Indexes ks e = refl
core-inner l kind.Fields ks e = refl
core-inner l kind.Field ks e = refl
core-inner l (kind.Hole s) ks e = refl
core-inner l k ks e = cc
