-- A used name of a heading means what it means around the heading.
use Rattle.std.proofs.Common.{List, None, Option, Some, [], ap, false, if◌then◌else◌, option_map, refl, subst, suc, sym, ℕ, ◌++◌, ◌∙◌, ◌∷◌, ◌≡◌}
use Rattle.pc_rule_laws.specs.Agreement.{Spot, spot}
use Rattle.pc_rule_laws.specs.Reached.{BehindIt, IntoIt, ToIt, leads}
use Rattle.pc_rule_laws.specs.Roles.{DeclaresParameters, Gap, Gathers, ParameterPart, Quiet, Role, behind-role, behind_by, defines-role, defines_by, entered-role, entered_by, keys, role}
use Rattle.pc_rule_laws.specs.Standing.{all-known, entry_of-keys, known_after, known_after-none}
use Rattle.pc_rule_laws.specs.Within.{beside-names}
use Rattle.pc_rules.specs.Attributes.{Attributes, Marked, first}
use Rattle.pc_rules.specs.Places.{beside, entered, inner, opens_records, pass, pass_all}
use Rattle.pc_rules.specs.Decorated.{decorate, rule, seen}
use Rattle.pc_rules.specs.Meanings.{Found, Local, Meaning, Outside, entry_of, field_or, find, known_or, later_or}
use Rattle.pc_rules.specs.Routines.{bare, heading_start}
use Rattle.pc_syntax.specs.Plain.{Cons, Forest, Nil}
use Rattle.pc_syntax.specs.Words.{is_among}
use Rattle.pc_syntax.specs.declared.kind.Kind.{Kind}
use Rattle.pc_types.specs.Sameness.{same}
use Rattle.pc_types.specs.Shapes.{Owner}

-- nothing is known or declared of a name, and no fields are open
pub record Blank (n : List ℕ) (l : Local) : Type 0 where
  pub known : entry_of (keys l.known) n ≡ None
  pub names : l.names ≡ []
  pub fields : l.fields ≡ []
  pub opening : l.opening ≡ false

none-back : (o : Option Meaning) → option_map (λ (m : Meaning). m.class) o ≡ None → o ≡ None
none-back None e = refl
none-back (Some m) e = cc e

pub blank-find : (m : List ℕ → Found) (n : List ℕ) (l : Local) → Blank n l → find (bare m) l n ≡ m n
unfolding find
blank-find m n l h =
    λ i. field_or (entry_of (h.fields i) n) (known_or (bare m) n (none-back (entry_of l.known n) (sym (entry_of-keys l.known n) ∙ h.known) i) (later_or (entry_of (h.names i) n) (m n)))

-- where a heading begins
pub blank-start : (n : List ℕ) (o : Owner) → Blank n (heading_start o)
blank-start n o = record { known = refl; names = refl; fields = refl; opening = refl }

-- what stands in headings
abbrev pub InHeading : Role → Type 0
InHeading Quiet = Unit {0}
InHeading Gap = Unit {0}
InHeading ParameterPart = Unit {0}
InHeading (DeclaresParameters c) = Unit {0}
InHeading _ = ⊥

abbrev pub HeadingTrees : Forest → Type 0
HeadingTrees Nil = Unit {0}
HeadingTrees (Cons k w ns ks ts) = InHeading (role k) × (opens_records k ≡ false) × HeadingTrees ks × HeadingTrees ts

entered-heading : (r : Role) (l : Local) (ks : Forest) → InHeading r → entered_by r l ks ≡ l
entered-heading Quiet l ks h = refl
entered-heading Gap l ks h = refl
entered-heading ParameterPart l ks h = refl
entered-heading (DeclaresParameters c) l ks h = refl
entered-heading Gathers l ks h = absurd h
entered-heading _ l ks h = absurd h

blank-inner : (n : List ℕ) (l : Local) (k : Kind) (ks : Forest) → InHeading (role k) → opens_records k ≡ false → Blank n l → Blank n (inner l k ks)
blank-inner n l k ks r o h =
    let e : entered l k ks ≡ l = entered-role l k ks ∙ entered-heading (role k) l ks r in
    record { known = ap (λ (x : Local). entry_of (keys x.known) n) e ∙ h.known; names = ap (λ (x : Local). x.names) e ∙ h.names; fields = ap (λ (x : Local). x.fields) e ∙ h.fields; opening = o }

pass-known : (l : Local) (x : List ℕ) → (pass l x).known ≡ l.known
pass-known l [] = refl
pass-known l (c ∷ cs) = refl

pass_all-known : (l : Local) (ds : List (List ℕ × Meaning)) → (pass_all l ds).known ≡ l.known
pass_all-known l [] = refl
pass_all-known l (d ∷ ds) = pass_all-known (pass l d.0) ds ∙ pass-known l d.0

behind-heading : (n : List ℕ) (r : Role) (l : Local) (m : Marked) (ds : List (List ℕ × Meaning)) → InHeading r → keys ds ≡ defines_by r l m →
    entry_of (keys (behind_by r l ds).known) n ≡ entry_of (keys l.known) n
behind-heading n Quiet l m ds h made = all-known l ds n ∙ ap (λ cs. known_after (is_among l.passed n) (entry_of (keys l.known) n) (entry_of cs n)) made ∙ known_after-none (is_among l.passed n) (entry_of (keys l.known) n)
behind-heading n Gap l m ds h made = refl
behind-heading n ParameterPart l m ds h made = ap (λ cs. entry_of (keys cs) n) (pass_all-known l ds)
behind-heading n (DeclaresParameters c) l m ds h made = ap (λ cs. entry_of (keys cs) n) (pass_all-known l ds)
behind-heading n Gathers l m ds h made = absurd h
behind-heading n _ l m ds h made = absurd h

blank-beside : (out : Outside) (n : List ℕ) (l : Local) (k : Kind) (w : List ℕ) (ns : List (List ℕ)) (ks : Forest) → InHeading (role k) → Blank n l →
    Blank n (beside l k (first (decorate out l (Cons k w ns ks Nil))))
unfolding decorate
blank-beside out n l k w ns ks r h =
    let m : Marked = decorate out (inner l k ks) ks in
    let a : Attributes = rule l k w (seen out l k w) m in
    record {
      known = ap (λ (x : Local). entry_of (keys x.known) n) (behind-role l k a) ∙ behind-heading n (role k) l m a.defines r (defines-role l k w (seen out l k w) m) ∙ h.known;
      names = beside-names l k a ∙ h.names;
      fields = ap (λ t. if t then a.opens ++ l.fields else l.fields) h.opening ∙ h.fields;
      opening = h.opening;
    }

-- at each node of a heading nothing is known
pub spot-blank : (out : Outside) (n : List ℕ) (l : Local) (i : ℕ) (f : Forest) (j : ℕ) (way : List ℕ) (s : Spot) → HeadingTrees f → Blank n l → spot out l i f (j ∷ way) ≡ Some s → Blank n s.local
unfolding spot
spot-blank out n l i Nil j way s t h e = cc e
spot-blank out n l i (Cons k w ns ks ts) j way s t h e =
    elim (leads out l i k w ns ks ts j way s e) [
      | ToIt same end here kind ↦ subst (Blank n) (sym here) h
      | IntoIt same m rest is apart e ↦ spot-blank out n (inner l k ks) 1 ks m rest s t.2 (blank-inner n l k ks t.0 t.1 h) e
      | BehindIt less e ↦ spot-blank out n (beside l k (first (decorate out l (Cons k w ns ks Nil)))) (suc i) ts j way s t.3 (blank-beside out n l k w ns ks t.0 h) e
    ]

-- so what is found there is what the name means around the heading
pub heading-agrees : (m : List ℕ → Found) (n : List ℕ) (o : Owner) (f : Forest) (j : ℕ) (way : List ℕ) (s : Spot) → HeadingTrees f → spot (bare m) (heading_start o) 1 f (j ∷ way) ≡ Some s →
    find (bare m) s.local n ≡ m n
heading-agrees m n o f j way s t e = blank-find m n s.local (spot-blank (bare m) n (heading_start o) 1 f j way s t (blank-start n o) e)
