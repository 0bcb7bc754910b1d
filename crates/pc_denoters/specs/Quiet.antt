-- Nodes below a denoter that declare nothing: names, and constants.
use Rattle.std.specs.Prelude.{◌≡◌, ℕ, Bool, true, false, List, []}
use Rattle.std.proofs.Common.{refl, ap, sym, ◌∙◌}
use Rattle.pc_syntax.specs.Classes.{has}
use Rattle.pc_syntax.specs.Plain.{Plain}
use Rattle.pc_syntax.specs.declared.class.Class.{Class}
use Rattle.pc_syntax.specs.declared.class.Class.TheVariants as class
use Rattle.pc_syntax.specs.declared.kind.Kind.{Kind}
use Rattle.pc_syntax.specs.declared.kind.Kind.TheVariants as kind
use Rattle.pc_rules.specs.Attributes.{Attributes, Marked}
use Rattle.pc_rules.specs.Decorated.{Seen, seen, rule}
use Rattle.pc_rules.specs.Meanings.{Local, Outside, Meaning, define_all}
use Rattle.pc_environment.specs.Decorating.{attributes_at, below_at, place_behind}
use Rattle.pc_environment.specs.DecoratingLaws.{at-node}
use Rattle.pc_places.specs.Places.{IsPlace}
use Rattle.pc_places.specs.declared.tables.Tables.{Tables}
use Rattle.pc_denoters.specs.Cores.{core, IsPlace-core}
use Rattle.pc_denoters.specs.Kinds.{is_denoting, core-behind}

-- the kinds of names and constants
abbrev pub is_quiet : Kind → Bool
is_quiet kind.Name = true
is_quiet kind.Names = true
is_quiet kind.Cnumber = true
is_quiet kind.Cstring = true
is_quiet kind.Cname = true
is_quiet kind.Csign = true
is_quiet (kind.Hole s) = true
is_quiet _ = false

-- their classes
abbrev pub is_quiet_class : Class → Bool
is_quiet_class class.Name = true
is_quiet_class class.Names = true
is_quiet_class class.Constant = true
is_quiet_class class.Bare = true
is_quiet_class _ = false

pub class-quiet : (c : Class) (k : Kind) → is_quiet_class c ≡ true → has c k ≡ true → is_quiet k ≡ true
class-quiet c kind.Name b e = refl
class-quiet c kind.Names b e = refl
class-quiet c kind.Cnumber b e = refl
class-quiet c kind.Cstring b e = refl
class-quiet c kind.Cname b e = refl
class-quiet c kind.Csign b e = refl
class-quiet c (kind.Hole s) b e = refl
class-quiet class.Name k b e = cc
class-quiet class.Names k b e = cc
class-quiet class.Constant k b e = cc
class-quiet class.Bare k b e = cc
class-quiet c k b e = cc

pub quiet-denoting : (k : Kind) → is_quiet k ≡ true → is_denoting k ≡ true
quiet-denoting kind.Name e = refl
quiet-denoting kind.Names e = refl
quiet-denoting kind.Cnumber e = refl
quiet-denoting kind.Cstring e = refl
quiet-denoting kind.Cname e = refl
quiet-denoting kind.Csign e = refl
quiet-denoting (kind.Hole s) e = refl
quiet-denoting k e = cc

rule-quiet : (l : Local) (k : Kind) (w : List ℕ) (s : Seen) (m : Marked) → is_quiet k ≡ true → (rule l k w s m).defines ≡ []
unfolding rule
rule-quiet l kind.Name w s m e = refl
rule-quiet l kind.Names w s m e = refl
rule-quiet l kind.Cnumber w s m e = refl
rule-quiet l kind.Cstring w s m e = refl
rule-quiet l kind.Cname w s m e = refl
rule-quiet l kind.Csign w s m e = refl
rule-quiet l (kind.Hole x) w s m e = refl
rule-quiet l k w s m e = cc

-- what such a node declares: nothing
pub quiet-defines : (out : Outside) (l : Local) (t : Plain) → is_quiet t.kind ≡ true → (attributes_at out l t).defines ≡ []
quiet-defines out l t e = ap (λ (a : Attributes). a.defines) (at-node out l t) ∙ rule-quiet l t.kind t.word (seen out l t.kind t.word) (below_at out l t) e

-- the block stands for the place behind it too
pub quiet-behind : (t : Tables) (block owner : ℕ) (out : Outside) (l : Local) (u : Plain) → is_quiet u.kind ≡ true → IsPlace t block owner out l → IsPlace t block owner out (place_behind out l u)
quiet-behind t block owner out l u e h =
    IsPlace-core t block owner out l (place_behind out l u)
    (sym (core-behind out l u (quiet-denoting u.kind e) ∙ ap (λ (ds : List (List ℕ × Meaning)). core (define_all l ds)) (quiet-defines out l u e))) h
