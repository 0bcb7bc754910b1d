-- No rule of a declaration reads the parameters or the result of a name that is used in it: lemmas.
use Rattle.std.proofs.Common.{◌≡◌, ℕ, Bool, List, refl}
use Rattle.pc_rules.specs.Attributes.{Node}
use Rattle.pc_rules.specs.Constants.{value_of_found, constant_name_rule}
use Rattle.pc_rules.specs.Denoters.{type_of_found, type_name_entries, type_name_rule, is_later_type, domain_entries, pointer_to, pointer_rule}
use Rattle.pc_rules.specs.Meanings.{Class, Found, Here, Local}
use Rattle.pc_rules.specs.UsedNames.{missed, is_used_as, name_entries}
use Rattle.pc_places.specs.Scenes.{unsigned_found, unsigned_at}

-- a used name, likewise
abbrev pub unsigned_node : Node → Node
unsigned_node n = record n { at = unsigned_at n.at }

-- a node that means this
abbrev with_found : Node → Found → Node
with_found n f = record n { at = record n.at { found = f } }

-- ---- what is read of a meaning

pub missed-unsigned : (w : List ℕ) (f : Found) → missed w (unsigned_found f) ≡ missed w f
missed-unsigned w (Here m) = refl
missed-unsigned w f = refl

pub is_used_as-unsigned : (c : Class → Bool) (r : List ℕ → Bool) (f : Found) → is_used_as c r (unsigned_found f) ≡ is_used_as c r f
is_used_as-unsigned c r (Here m) = refl
is_used_as-unsigned c r f = refl

pub value_of_found-unsigned : (f : Found) → value_of_found (unsigned_found f) ≡ value_of_found f
value_of_found-unsigned (Here m) = refl
value_of_found-unsigned f = refl

pub type_of_found-unsigned : (f : Found) → type_of_found (unsigned_found f) ≡ type_of_found f
type_of_found-unsigned (Here m) = refl
type_of_found-unsigned f = refl

pub is_later_type-unsigned : (f : Found) → is_later_type (unsigned_found f) ≡ is_later_type f
is_later_type-unsigned (Here m) = refl
is_later_type-unsigned f = refl

pub pointer_to-unsigned : (l : Local) (n : List ℕ) (f : Found) → pointer_to l n (unsigned_found f) ≡ pointer_to l n f
pointer_to-unsigned l n (Here m) = refl
pointer_to-unsigned l n f = refl

-- ---- rules of a name

name-entries-by : (n : Node) (c : Class → Bool) (r : List ℕ → Bool) (what : List ℕ) (f : Found) → name_entries (with_found n (unsigned_found f)) c r what ≡ name_entries (with_found n f) c r what
name-entries-by n c r what (Here m) = refl
name-entries-by n c r what f = refl

pub name_entries-unsigned : (n : Node) (c : Class → Bool) (r : List ℕ → Bool) (what : List ℕ) → name_entries (unsigned_node n) c r what ≡ name_entries n c r what
name_entries-unsigned n c r what = name-entries-by n c r what n.at.found

constant-name-by : (n : Node) (f : Found) → constant_name_rule (with_found n (unsigned_found f)) ≡ constant_name_rule (with_found n f)
constant-name-by n (Here m) = refl
constant-name-by n f = refl

pub constant_name_rule-unsigned : (n : Node) → constant_name_rule (unsigned_node n) ≡ constant_name_rule n
constant_name_rule-unsigned n = constant-name-by n n.at.found

type-entries-by : (n : Node) (f : Found) → type_name_entries (with_found n (unsigned_found f)) ≡ type_name_entries (with_found n f)
type-entries-by n (Here m) = refl
type-entries-by n f = refl

pub type_name_entries-unsigned : (n : Node) → type_name_entries (unsigned_node n) ≡ type_name_entries n
type_name_entries-unsigned n = type-entries-by n n.at.found

type-name-by : (n : Node) (f : Found) → type_name_rule (with_found n (unsigned_found f)) ≡ type_name_rule (with_found n f)
type-name-by n (Here m) = refl
type-name-by n f = refl

pub type_name_rule-unsigned : (n : Node) → type_name_rule (unsigned_node n) ≡ type_name_rule n
type_name_rule-unsigned n = type-name-by n n.at.found

domain-entries-by : (n : Node) (f : Found) → domain_entries (with_found n (unsigned_found f)) ≡ domain_entries (with_found n f)
domain-entries-by n (Here m) = refl
domain-entries-by n f = refl

pub domain_entries-unsigned : (n : Node) → domain_entries (unsigned_node n) ≡ domain_entries n
domain_entries-unsigned n = domain-entries-by n n.at.found

pointer-by : (l : Local) (n : Node) (f : Found) → pointer_rule l (with_found n (unsigned_found f)) ≡ pointer_rule l (with_found n f)
pointer-by l n (Here m) = refl
pointer-by l n f = refl

pub pointer_rule-unsigned : (l : Local) (n : Node) → pointer_rule l (unsigned_node n) ≡ pointer_rule l n
pointer_rule-unsigned l n = pointer-by l n n.at.found
