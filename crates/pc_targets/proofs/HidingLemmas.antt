-- A block finds the same where the names that it declares mean nothing around it.
use Rattle.std.proofs.Common.{◌≡◌, ℕ, if◌then◌else◌, List, [], ◌∷◌, Option, Some, None, refl, sym, ◌∙◌, ap, subst}
use Rattle.std.specs.Option.{is_some}
use Rattle.pc_syntax.specs.Plain.{Forest, Nil, Cons, Plain}
use Rattle.pc_rules.specs.Attributes.{Marked, first}
use Rattle.pc_rules.specs.Decorated.{decorate}
use Rattle.pc_rules.specs.Law.{AgreeOn, names_used}
use Rattle.pc_rules.specs.Meanings.{Class, Meaning, Found, Missing, Local, Outside, entry_of, known_or, later_or, field_or, find}
use Rattle.pc_rules.specs.Places.{inner, beside}
use Rattle.pc_rules.specs.UnaffectedLaws.{decorate-same}
use Rattle.pc_environment.specs.Decorating.{attributes_at, below_at, place_behind, place_after}
use Rattle.pc_rule_laws.specs.Within.{inner-names, beside-names}
use Rattle.pc_targets.specs.Blocks.{HidingLaw}
use Rattle.pc_targets.specs.Program.{hiding}

-- ---- one name

means-same : (names : List (List ℕ × Class)) (out : Outside) (n : List ℕ) → entry_of names n ≡ None → (hiding names out).means n ≡ out.means n
means-same names out n e = ap (λ (o : Option Class). if is_some o then Missing else out.means n) e

later-same : (o : Option Class) (f : Found) → later_or o (if is_some o then Missing else f) ≡ later_or o f
later-same None f = refl
later-same (Some c) f = refl

known-same : (names : List (List ℕ × Class)) (out : Outside) (n : List ℕ) (o : Option Meaning) (f g : Found) → f ≡ g → known_or (hiding names out) n o f ≡ known_or out n o g
known-same names out n None f g e = e
known-same names out n (Some m) f g e = refl

pub hidden-found : (names : List (List ℕ × Class)) (out : Outside) (l : Local) (n : List ℕ) → l.names ≡ names → find (hiding names out) l n ≡ find out l n
unfolding find
hidden-found names out l n e =
    let later = ap (λ (ns : List (List ℕ × Class)). later_or (entry_of l.names n) (if is_some (entry_of ns n) then Missing else out.means n)) (sym e) ∙ later-same (entry_of l.names n) (out.means n) in
    ap (field_or (entry_of l.fields n)) (known-same names out n (entry_of l.known n) _ _ later)

-- ---- nodes

all-agree : (names : List (List ℕ × Class)) (out : Outside) (ns : List (List ℕ)) → AgreeOn names ns (hiding names out) out
all-agree names out [] = tt
all-agree names out (n ∷ ns) = (record { means = means-same names out n; heading = refl; touched = refl }, all-agree names out ns)

pub hidden-marks : (names : List (List ℕ × Class)) (out : Outside) (l : Local) (f : Forest) → l.names ≡ names → decorate (hiding names out) l f ≡ decorate out l f
hidden-marks names out l f e =
    let used = names_used l.using l.using_next f in
    decorate-same (hiding names out) out l f (subst (λ (ms : List (List ℕ × Class)). AgreeOn ms used (hiding names out) out) (sym e) (all-agree names out used))

pub hidden-attributes : (names : List (List ℕ × Class)) (out : Outside) (l : Local) (t : Plain) → l.names ≡ names → attributes_at (hiding names out) l t ≡ attributes_at out l t
hidden-attributes names out l t e = ap (λ (m : Marked). first m) (hidden-marks names out l (Cons t.kind t.word t.notes t.kids Nil) e)

pub hidden-below : (names : List (List ℕ × Class)) (out : Outside) (l : Local) (t : Plain) → l.names ≡ names → below_at (hiding names out) l t ≡ below_at out l t
hidden-below names out l t e = hidden-marks names out (inner l t.kind t.kids) t.kids (inner-names l t.kind t.kids ∙ e)

-- ---- places

pub names-behind : (out : Outside) (l : Local) (t : Plain) → (place_behind out l t).names ≡ l.names
names-behind out l t = beside-names l t.kind (attributes_at out l t)

pub names-after : (out : Outside) (l : Local) (ts : List Plain) → (place_after out l ts).names ≡ l.names
names-after out l [] = refl
names-after out l (t ∷ ts) = names-after out (place_behind out l t) ts ∙ names-behind out l t

pub hidden-behind : (names : List (List ℕ × Class)) (out : Outside) (l : Local) (t : Plain) → l.names ≡ names → place_behind (hiding names out) l t ≡ place_behind out l t
hidden-behind names out l t e = ap (beside l t.kind) (hidden-attributes names out l t e)

pub hidden-after : (names : List (List ℕ × Class)) (out : Outside) (l : Local) (ts : List Plain) → l.names ≡ names → place_after (hiding names out) l ts ≡ place_after out l ts
hidden-after names out l [] e = refl
hidden-after names out l (t ∷ ts) e =
    hidden-after names out (place_behind (hiding names out) l t) ts (names-behind (hiding names out) l t ∙ e) ∙ ap (λ (m : Local). place_after out m ts) (hidden-behind names out l t e)

-- these hold
pub hiding-law : HidingLaw
hiding-law = record {
  found = hidden-found;
  node = hidden-attributes;
  below = hidden-below;
  behind = hidden-behind;
  after = hidden-after;
  names_behind = names-behind;
  names_inner = inner-names;
  names_after = names-after;
}
