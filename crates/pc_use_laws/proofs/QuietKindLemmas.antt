-- The kinds of nodes in headings and declarations: no statement is among them.
use Rattle.std.specs.Prelude.{◌≡◌, Bool, true, false, not, ◌||◌}
use Rattle.std.proofs.Common.{refl, sym, true≢false}
use Rattle.pc_syntax.specs.declared.kind.Kind.{Kind}
use Rattle.pc_syntax.specs.declared.kind.Kind.TheVariants as kind
use Rattle.pc_syntax.specs.declared.class.Class.{Class}
use Rattle.pc_syntax.specs.declared.class.Class.TheVariants as class
use Rattle.pc_syntax.specs.Classes.{has}
use Rattle.pc_syntax.specs.Slots.{places_of}
use Rattle.pc_needs.proofs.BodyKinds.{either-way, all_classes}
use Rattle.pc_use_laws.specs.OpenedSteps.{opens_nothing}

-- the kinds of nodes at and below a declaration, and in headings
abbrev pub is_quiet : Kind → Bool
is_quiet kind.Constdef = true
is_quiet kind.Typedef = true
is_quiet kind.Vardef = true
is_quiet kind.Field = true
is_quiet kind.Valparam = true
is_quiet kind.Varparam = true
is_quiet kind.Forward = true
is_quiet kind.Tname = true
is_quiet kind.Enum = true
is_quiet kind.Subrange = true
is_quiet kind.Array = true
is_quiet kind.Record = true
is_quiet kind.Record0 = true
is_quiet kind.Setof = true
is_quiet kind.Packed = true
is_quiet kind.Pointer = true
is_quiet kind.Cnumber = true
is_quiet kind.Cstring = true
is_quiet kind.Cname = true
is_quiet kind.Csign = true
is_quiet kind.Name = true
is_quiet kind.Heads = true
is_quiet kind.Params = true
is_quiet kind.Names = true
is_quiet kind.Indexes = true
is_quiet kind.Consts = true
is_quiet kind.Types = true
is_quiet kind.Vars = true
is_quiet kind.Fields = true
is_quiet (kind.Hole s) = true
is_quiet k = false

-- and their classes
abbrev pub is_quiet_class : Class → Bool
is_quiet_class class.Constdef = true
is_quiet_class class.Typedef = true
is_quiet_class class.Vardef = true
is_quiet_class class.Parameter = true
is_quiet_class class.Denoter = true
is_quiet_class class.Structured = true
is_quiet_class class.Ordinal = true
is_quiet_class class.Field = true
is_quiet_class class.Constant = true
is_quiet_class class.Bare = true
is_quiet_class class.Name = true
is_quiet_class class.Heads = true
is_quiet_class class.Params = true
is_quiet_class class.Names = true
is_quiet_class class.Indexes = true
is_quiet_class class.Consts = true
is_quiet_class class.Types = true
is_quiet_class class.Vars = true
is_quiet_class class.Fields = true
is_quiet_class c = false

pub quiet-opens : (k : Kind) → is_quiet k ≡ true → opens_nothing k ≡ true
quiet-opens kind.With e = absurd (true≢false (sym e))
quiet-opens kind.Accesses e = absurd (true≢false (sym e))
quiet-opens _ e = refl

-- ---- each class of these has such kinds alone

constdef-quiet : (k : Kind) → (is_quiet k || not (has class.Constdef k)) ≡ true
constdef-quiet (kind.Hole s) = refl
constdef-quiet _ = refl

typedef-quiet : (k : Kind) → (is_quiet k || not (has class.Typedef k)) ≡ true
typedef-quiet (kind.Hole s) = refl
typedef-quiet _ = refl

vardef-quiet : (k : Kind) → (is_quiet k || not (has class.Vardef k)) ≡ true
vardef-quiet (kind.Hole s) = refl
vardef-quiet _ = refl

parameter-quiet : (k : Kind) → (is_quiet k || not (has class.Parameter k)) ≡ true
parameter-quiet (kind.Hole s) = refl
parameter-quiet _ = refl

denoter-quiet : (k : Kind) → (is_quiet k || not (has class.Denoter k)) ≡ true
denoter-quiet (kind.Hole s) = refl
denoter-quiet _ = refl

structured-quiet : (k : Kind) → (is_quiet k || not (has class.Structured k)) ≡ true
structured-quiet (kind.Hole s) = refl
structured-quiet _ = refl

ordinal-quiet : (k : Kind) → (is_quiet k || not (has class.Ordinal k)) ≡ true
ordinal-quiet (kind.Hole s) = refl
ordinal-quiet _ = refl

field-quiet : (k : Kind) → (is_quiet k || not (has class.Field k)) ≡ true
field-quiet (kind.Hole s) = refl
field-quiet _ = refl

constant-quiet : (k : Kind) → (is_quiet k || not (has class.Constant k)) ≡ true
constant-quiet (kind.Hole s) = refl
constant-quiet _ = refl

bare-quiet : (k : Kind) → (is_quiet k || not (has class.Bare k)) ≡ true
bare-quiet (kind.Hole s) = refl
bare-quiet _ = refl

name-quiet : (k : Kind) → (is_quiet k || not (has class.Name k)) ≡ true
name-quiet (kind.Hole s) = refl
name-quiet _ = refl

heads-quiet : (k : Kind) → (is_quiet k || not (has class.Heads k)) ≡ true
heads-quiet (kind.Hole s) = refl
heads-quiet _ = refl

params-quiet : (k : Kind) → (is_quiet k || not (has class.Params k)) ≡ true
params-quiet (kind.Hole s) = refl
params-quiet _ = refl

names-quiet : (k : Kind) → (is_quiet k || not (has class.Names k)) ≡ true
names-quiet (kind.Hole s) = refl
names-quiet _ = refl

indexes-quiet : (k : Kind) → (is_quiet k || not (has class.Indexes k)) ≡ true
indexes-quiet (kind.Hole s) = refl
indexes-quiet _ = refl

consts-quiet : (k : Kind) → (is_quiet k || not (has class.Consts k)) ≡ true
consts-quiet (kind.Hole s) = refl
consts-quiet _ = refl

types-quiet : (k : Kind) → (is_quiet k || not (has class.Types k)) ≡ true
types-quiet (kind.Hole s) = refl
types-quiet _ = refl

vars-quiet : (k : Kind) → (is_quiet k || not (has class.Vars k)) ≡ true
vars-quiet (kind.Hole s) = refl
vars-quiet _ = refl

fields-quiet : (k : Kind) → (is_quiet k || not (has class.Fields k)) ≡ true
fields-quiet (kind.Hole s) = refl
fields-quiet _ = refl

pub class-quiet : (c : Class) (k : Kind) → is_quiet_class c ≡ true → has c k ≡ true → is_quiet k ≡ true
class-quiet class.Constdef k e h = either-way (is_quiet k) (has class.Constdef k) (constdef-quiet k) h
class-quiet class.Typedef k e h = either-way (is_quiet k) (has class.Typedef k) (typedef-quiet k) h
class-quiet class.Vardef k e h = either-way (is_quiet k) (has class.Vardef k) (vardef-quiet k) h
class-quiet class.Parameter k e h = either-way (is_quiet k) (has class.Parameter k) (parameter-quiet k) h
class-quiet class.Denoter k e h = either-way (is_quiet k) (has class.Denoter k) (denoter-quiet k) h
class-quiet class.Structured k e h = either-way (is_quiet k) (has class.Structured k) (structured-quiet k) h
class-quiet class.Ordinal k e h = either-way (is_quiet k) (has class.Ordinal k) (ordinal-quiet k) h
class-quiet class.Field k e h = either-way (is_quiet k) (has class.Field k) (field-quiet k) h
class-quiet class.Constant k e h = either-way (is_quiet k) (has class.Constant k) (constant-quiet k) h
class-quiet class.Bare k e h = either-way (is_quiet k) (has class.Bare k) (bare-quiet k) h
class-quiet class.Name k e h = either-way (is_quiet k) (has class.Name k) (name-quiet k) h
class-quiet class.Heads k e h = either-way (is_quiet k) (has class.Heads k) (heads-quiet k) h
class-quiet class.Params k e h = either-way (is_quiet k) (has class.Params k) (params-quiet k) h
class-quiet class.Names k e h = either-way (is_quiet k) (has class.Names k) (names-quiet k) h
class-quiet class.Indexes k e h = either-way (is_quiet k) (has class.Indexes k) (indexes-quiet k) h
class-quiet class.Consts k e h = either-way (is_quiet k) (has class.Consts k) (consts-quiet k) h
class-quiet class.Types k e h = either-way (is_quiet k) (has class.Types k) (types-quiet k) h
class-quiet class.Vars k e h = either-way (is_quiet k) (has class.Vars k) (vars-quiet k) h
class-quiet class.Fields k e h = either-way (is_quiet k) (has class.Fields k) (fields-quiet k) h
class-quiet c k e h = absurd (true≢false (sym e))

pub kids-quiet : (k : Kind) → (all_classes is_quiet_class (places_of k) || not (is_quiet k)) ≡ true
kids-quiet (kind.Hole s) = refl
kids-quiet _ = refl
