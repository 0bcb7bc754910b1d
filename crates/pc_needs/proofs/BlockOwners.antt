-- The variables that a block touches are its own, or those of a block that its names mean from outside.
use Rattle.std.specs.Prelude.{ℕ, Bool, true, false, if◌then◌else◌, List, [], ◌∷◌, map, option_map, Option, Some, None, ◌++◌}
use Rattle.std.proofs.Common.{sym, subst}
use Rattle.std.specs.Str.{bytes_eq}
use Rattle.pc_syntax.specs.declared.kind.Kind.{Kind}
use Rattle.pc_syntax.specs.declared.kind.Kind.TheVariants as kind
use Rattle.pc_syntax.specs.Plain.{Forest, Nil, Cons}
use Rattle.pc_syntax.specs.Words.{lowered, is_among}
use Rattle.pc_types.specs.Domains.{closed}
use Rattle.pc_types.specs.Shapes.{Owner, Domain, Typed}
use Rattle.pc_scope.specs.Headings.{first_name, names_of_first}
use Rattle.pc_rules.specs.Attributes.{Attributes, nodes}
use Rattle.pc_rules.specs.ClosedTypes.{own_domains, carried, close_type}
use Rattle.pc_rules.specs.DeclaringNames.{all_as}
use Rattle.pc_rules.specs.Decorated.{seen, unseen, rule, decorate}
use Rattle.pc_rules.specs.HandedOn.{all_touches}
use Rattle.pc_rules.specs.Meanings.{Class, VariableName, Meaning, declared_as, Found, Local, Outside, entry_of, is_routine_class, known_or, later_or, field_or, find, define, define_all}
use Rattle.pc_rules.specs.NameClasses.{is_type_class}
use Rattle.pc_rules.specs.Places.{inner, pass, pass_all, beside}
use Rattle.pc_needs.proofs.Lists.{each-append}
use Rattle.pc_needs.proofs.Owners.{inner-owner, beside-owner}
use Rattle.pc_needs.proofs.VariableOwners.{OfMeaning, OfFound, OfVariables, OfDefines, OfNodeItself, OfMarked, of-nodes, of-rule, touches-all, declared-all}

-- ---- complete declarations

-- what holds of the declarations of a place
abbrev pub OfKnown : (Owner → Type 0) → Local → Type 0
OfKnown P l = OfDefines P l.known

define-known : (P : Owner → Type 0) (l : Local) (n : List ℕ) (m : Meaning) → OfKnown P l → OfMeaning P m → OfKnown P (define l n m)
define-known P l n m h g = which (is_among l.passed n) where
  which : (b : Bool) → OfDefines P (if b then l.known else l.known ++ (n, m) ∷ [])
  which true = h
  which false = each-append (λ (d : List ℕ × Meaning). OfMeaning P d.1) l.known ((n, m) ∷ []) h (g, tt)

define_all-known : (P : Owner → Type 0) (l : Local) (ds : List (List ℕ × Meaning)) → OfKnown P l → OfDefines P ds → OfKnown P (define_all l ds)
define_all-known P l [] h g = h
define_all-known P l (d ∷ ds) h g = define_all-known P (define l d.0 d.1) ds (define-known P l d.0 d.1 h g.0) g.1

pass-known : (P : Owner → Type 0) (l : Local) (n : List ℕ) → OfKnown P l → OfKnown P (pass l n)
pass-known P l [] h = h
pass-known P l (c ∷ cs) h = h

pass_all-known : (P : Owner → Type 0) (l : Local) (ds : List (List ℕ × Meaning)) → OfKnown P l → OfKnown P (pass_all l ds)
pass_all-known P l [] h = h
pass_all-known P l (d ∷ ds) h = pass_all-known P (pass l d.0) ds (pass-known P l d.0 h)

close-one : (P : Owner → Type 0) (table : List Domain) (d : List ℕ × Meaning) → OfMeaning P d.1 → OfMeaning P (close_type table d).1
close-one P table d h = which (is_type_class d.1.class) where
  which : (b : Bool) → OfMeaning P (if b then (d.0, record d.1 { type = closed table (option_map (λ (t : Typed). t.shape) d.1.type) }) else d).1
  which true = h
  which false = h

close-all : (P : Owner → Type 0) (table : List Domain) (ds : List (List ℕ × Meaning)) → OfDefines P ds → OfDefines P (map (close_type table) ds)
close-all P table [] h = tt
close-all P table (d ∷ ds) h = (close-one P table d h.0, close-all P table ds h.1)

-- where the first kid stands
pub inner-known : (P : Owner → Type 0) (l : Local) (k : Kind) (ks : Forest) → P l.owner → OfKnown P l → OfKnown P (inner l k ks)
inner-known P l kind.Constdef ks o h = pass-known P l (first_name ks) h
inner-known P l kind.Typedef ks o h = pass-known P l (first_name ks) h
inner-known P l kind.Vardef ks o h =
    define_all-known P l (all_as (declared_as VariableName l.owner) (names_of_first ks)) h (declared-all P (declared_as VariableName l.owner) (names_of_first ks) (λ e. o))
inner-known P l kind.Routines ks o h = h
inner-known P l k ks o h = h

-- where the next node stands
pub beside-known : (P : Owner → Type 0) (l : Local) (k : Kind) (a : Attributes) → OfKnown P l → OfDefines P a.defines → OfKnown P (beside l k a)
beside-known P l kind.Types a h g =
    let all : OfKnown P (define_all l a.defines) = define_all-known P l a.defines h g in
    close-all P (own_domains (define_all l a.defines).known ++ carried (define_all l a.defines).known) (define_all l a.defines).known all
beside-known P l kind.Procedure a h g = define_all-known P l a.defines h g
beside-known P l kind.Function a h g = define_all-known P l a.defines h g
beside-known P l kind.Funbody a h g = define_all-known P l a.defines h g
beside-known P l (kind.Hole s) a h g = h
beside-known P l kind.Valparam a h g = pass_all-known P l a.defines h
beside-known P l kind.Varparam a h g = pass_all-known P l a.defines h
beside-known P l kind.Params a h g = pass_all-known P l a.defines h
beside-known P l k a h g = define_all-known P l a.defines h g

-- ---- what a name means

signed-one : (P : Owner → Type 0) (b : Bool) (out : Outside) (n : List ℕ) (m : Meaning) → OfMeaning P m → OfMeaning P (if b then record m { signature = out.heading n } else m)
signed-one P true out n m h = h
signed-one P false out n m h = h

later-one : (P : Owner → Type 0) (c : Option Class) (f : Found) → OfFound P f → OfFound P (later_or c f)
later-one P (Some c) f h = tt
later-one P None f h = h

known-one : (P : Owner → Type 0) (out : Outside) (n : List ℕ) (ds : List (List ℕ × Meaning)) (f : Found) → OfDefines P ds → OfFound P f → OfFound P (known_or out n (entry_of ds n) f)
known-one P out n [] f h g = g
known-one P out n (d ∷ ds) f h g = which (known-one P out n ds f h.1 g) (bytes_eq d.0 n) where
  which : OfFound P (known_or out n (entry_of ds n) f) → (b : Bool) → OfFound P (known_or out n (if b then Some d.1 else entry_of ds n) f)
  which rest true = signed-one P (is_routine_class d.1.class) out n d.1 h.0
  which rest false = rest

field-one : (P : Owner → Type 0) (o : Option (Typed × Bool)) (f : Found) → OfFound P f → OfFound P (field_or o f)
field-one P (Some t) f h = tt
field-one P None f h = h

pub find-one : (P : Owner → Type 0) (out : Outside) (l : Local) (n : List ℕ) → OfKnown P l → OfFound P (out.means n) → OfFound P (find out l n)
unfolding find
find-one P out l n h g =
    field-one P (entry_of l.fields n) _ (known-one P out n l.known _ h (later-one P (entry_of l.names n) (out.means n) g))

seen-one : (P : Owner → Type 0) (out : Outside) (l : Local) (k : Kind) (w : List ℕ) → OfKnown P l → ((n : List ℕ) → OfFound P (out.means n)) → OfFound P (seen out l k w).found
seen-one P out l kind.Name w h g = which l.using where
  which : (b : Bool) → OfFound P (if b then record { found = find out l (lowered w); changed = out.touched (lowered w) } else unseen).found
  which true = find-one P out l (lowered w) h (g (lowered w))
  which false = tt
seen-one P out l k w h g = tt

-- ---- a block
pub of-decorated : (P : Owner → Type 0) (out : Outside) (l : Local) (f : Forest) → P l.owner → OfKnown P l → ((n : List ℕ) → OfFound P (out.means n)) → OfMarked P (decorate out l f)
unfolding decorate
of-decorated P out l Nil o h g = tt
of-decorated P out l (Cons k w ns ks ts) o h g =
    let below : OfMarked P (decorate out (inner l k ks) ks) = of-decorated P out (inner l k ks) ks (subst P (sym (inner-owner l k ks)) o) (inner-known P l k ks o h) g in
    let a : Attributes = rule l k w (seen out l k w) (decorate out (inner l k ks) ks) in
    let here : OfNodeItself P a = of-rule P l k w (seen out l k w) (decorate out (inner l k ks) ks) o (seen-one P out l k w h g) below in
    (here, below, of-decorated P out (beside l k a) ts (subst P (sym (beside-owner l k a)) o) (beside-known P l k a h here.3) g)

-- the variables that it touches
pub of-touches : (P : Owner → Type 0) (out : Outside) (l : Local) (f : Forest) → P l.owner → OfKnown P l → ((n : List ℕ) → OfFound P (out.means n)) →
    OfVariables P (all_touches (nodes (decorate out l f)))
of-touches P out l f o h g = touches-all P (nodes (decorate out l f)) (of-nodes P (decorate out l f) (of-decorated P out l f o h g))
