-- Which names stand before behind the nodes of definition parts: laws.
use Rattle.std.proofs.Common.{◌≡◌, ℕ, true, List, [], ◌∷◌, ◌++◌, zero, suc, take, refl, ap, sym, ◌∙◌, append-nil, append_assoc, if◌then◌else◌}
use Rattle.std.proofs.lemmas.List.{map-append}
use Rattle.pc_syntax.specs.Classes.{has}
use Rattle.pc_syntax.specs.Plain.{Forest, Nil, Cons, Plain, kids_of, trees_of}
use Rattle.pc_syntax.specs.PartsLaws.{kids_of-is}
use Rattle.pc_syntax.specs.WellFormed.{IsProper}
use Rattle.pc_syntax.specs.declared.class.Class.TheVariants as class
use Rattle.pc_syntax.specs.declared.kind.Kind.{Kind}
use Rattle.pc_syntax.specs.declared.kind.Kind.TheVariants as kind
use Rattle.pc_scope.specs.Headings.{is_routine_kind}
use Rattle.pc_rules.specs.Meanings.{Class, Local, Meaning, Outside, define, define_all}
use Rattle.pc_rules.specs.OwnBlock.{declared_by, declared_in}
use Rattle.pc_environment.specs.Decorating.{attributes_at, below_at, place_behind, place_after}
use Rattle.pc_environment.specs.DecoratingLaws.{at-node}
use Rattle.pc_rule_laws.specs.Quiet.{asked}
use Rattle.pc_rule_laws.specs.Roles.{DeclaresParameters, DeclaresRoutine, Gap, ParameterPart, Role, RoutinePart, TypePart, behind-role, behind_by, defines_by, defines-role, keys, role}
use Rattle.pc_rules.specs.Attributes.{Attributes}
use Rattle.pc_rules.specs.Decorated.{seen}
use Rattle.pc_forms.specs.FormClasses.{Every}
use Rattle.pc_forms.specs.FormLaws.{proper-kids_of}
use Rattle.pc_openings.specs.Declaring.{declared_at, declared_below, all_declared}
use Rattle.pc_openings.specs.DeclaringLaws.{all_declared-kids}
use Rattle.pc_counts.specs.Counting.{all_names}
use Rattle.pc_counts.specs.PartKinds.{PartKinds, part_kind, part_list, part_role}
use Rattle.pc_counts.specs.PartKindsLaws.{part-kids, part-role}
use Rattle.pc_counts.specs.PartLaws.{part-declares}

-- ---- one node

names-keys : (ds : List (List ℕ × Meaning)) → all_names (keys ds) ≡ all_names ds
names-keys [] = refl
names-keys (d ∷ ds) = ap (λ (ns : List (List ℕ)). d.0 ∷ ns) (names-keys ds)

define-passed : (l : Local) (ds : List (List ℕ × Meaning)) → (define_all l ds).passed ≡ l.passed ++ all_names ds
define-passed l [] = sym (append-nil l.passed)
define-passed l (d ∷ ds) = define-passed (define l d.0 d.1) ds ∙ append_assoc l.passed (d.0 ∷ []) (all_names ds)

behind-passed : (r : Role) (l : Local) (ds : List (List ℕ × Meaning)) → part_role r ≡ true → (r ≡ Gap → all_names ds ≡ []) → (behind_by r l ds).passed ≡ l.passed ++ all_names ds
behind-passed Gap l ds p none = sym (append-nil l.passed) ∙ ap (λ (ns : List (List ℕ)). l.passed ++ ns) (sym (none refl))
behind-passed TypePart l ds p none = define-passed l ds
behind-passed RoutinePart l ds p none = cc p
behind-passed ParameterPart l ds p none = cc p
behind-passed (DeclaresRoutine c) l ds p none = cc p
behind-passed (DeclaresParameters c) l ds p none = cc p
behind-passed _ l ds p none = define-passed l ds

-- a proper node of a definition part
pub record IsPart (t : Plain) : Type 0 where
  pub proper : IsProper t
  pub kind : part_kind t.kind ≡ true

-- what it declares stands before behind it
pub passed-behind : (out : Outside) (l : Local) (t : Plain) → IsPart t → (place_behind out l t).passed ≡ l.passed ++ all_names (declared_at t)
passed-behind out l t h =
    let a : Attributes = attributes_at out l t in
    let found : keys a.defines ≡ declared_at t = ap (λ (x : Attributes). keys x.defines) (at-node out l t) ∙ part-declares out l t.kind t.word t.notes t.kids h.proper.sound h.kind in
    let names : all_names a.defines ≡ all_names (declared_at t) = sym (names-keys a.defines) ∙ ap all_names found in
    let none : role t.kind ≡ Gap → all_names a.defines ≡ [] = λ e.
    sym (names-keys a.defines)
    ∙ ap all_names (ap (λ (x : Attributes). keys x.defines) (at-node out l t) ∙ defines-role l t.kind t.word (seen out l t.kind t.word) (below_at out l t) ∙ ap (λ (r : Role). defines_by r l (below_at out l t)) e) in
    ap (λ (x : Local). x.passed) (behind-role l t.kind a) ∙ behind-passed (role t.kind) l a.defines (part-role t.kind h.kind) none
    ∙ ap (λ (ns : List (List ℕ)). l.passed ++ ns) names

-- ---- nodes in a row

pub passed-after : (out : Outside) (l : Local) (ts : List Plain) → Every IsPart ts → (place_after out l ts).passed ≡ l.passed ++ all_names (all_declared ts)
passed-after out l [] h = sym (append-nil l.passed)
passed-after out l (t ∷ ts) h =
    let ns : List (List ℕ) = all_names (declared_at t) in
    let ms : List (List ℕ) = all_names (all_declared ts) in
    passed-after out (place_behind out l t) ts h.1 ∙ ap (λ (ps : List (List ℕ)). ps ++ ms) (passed-behind out l t h.0) ∙ append_assoc l.passed ns ms
    ∙ ap (λ (qs : List (List ℕ)). l.passed ++ qs) (sym (map-append (λ (d : List ℕ × Class). d.0) (declared_at t) (all_declared ts)))

-- ---- the kids of a node of a definition part

parts-from : (f : Forest) → Every IsProper (trees_of f) → PartKinds f → Every IsPart (trees_of f)
parts-from Nil h q = tt
parts-from (Cons k w ns ks ts) h q = (record { proper = h.0; kind = q.0 }, parts-from ts h.1 q.1)

pub part-nodes : (t : Plain) → IsPart t → Every IsPart (kids_of t)
part-nodes t h =
    rw (kids_of-is t) (parts-from t.kids (rw (sym (kids_of-is t)) (proper-kids_of t h.proper)) (part-kids t.kind t.kids h.kind (asked t.kind t.word t.kids h.proper.sound.0).placed))

pub every-taken : (i : ℕ) (ts : List Plain) → Every IsPart ts → Every IsPart (take i ts)
every-taken zero ts h = tt
every-taken (suc i) [] h = tt
every-taken (suc i) (t ∷ ts) h = (h.0, every-taken i ts h.1)

-- ---- the list of a part

list-kind : (k : Kind) → part_list k ≡ true → part_kind k ≡ true
list-kind kind.Consts is = refl
list-kind kind.Types is = refl
list-kind kind.Vars is = refl
list-kind k is = cc

pub list-part : (t : Plain) → IsProper t → part_list t.kind ≡ true → IsPart t
list-part t proper is = record { proper = proper; kind = list-kind t.kind is }

list-own : (k : Kind) (ks : Forest) (ds : List (List ℕ × Class)) → part_list k ≡ true → declared_by k ks ++ ds ≡ ds
list-own kind.Consts ks ds is = refl
list-own kind.Types ks ds is = refl
list-own kind.Vars ks ds is = refl
list-own k ks ds is = cc

list-below : (k : Kind) (ds : List (List ℕ × Class)) → part_list k ≡ true → (if is_routine_kind k then [] else ds) ≡ ds
list-below kind.Consts ds is = refl
list-below kind.Types ds is = refl
list-below kind.Vars ds is = refl
list-below k ds is = cc

-- what stands below it stands before behind it
pub passed-list : (out : Outside) (l : Local) (t : Plain) → IsProper t → part_list t.kind ≡ true → (place_behind out l t).passed ≡ l.passed ++ all_names (declared_below t)
passed-list out l t proper is =
    passed-behind out l t (list-part t proper is) ∙ ap (λ (ds : List (List ℕ × Class)). l.passed ++ all_names ds) (list-own t.kind t.kids (declared_below t) is)

-- and so do its kids
pub passed-kids : (out : Outside) (l : Local) (t : Plain) → IsProper t → part_list t.kind ≡ true → (place_behind out l t).passed ≡ l.passed ++ all_names (all_declared (kids_of t))
passed-kids out l t proper is =
    passed-list out l t proper is ∙ ap (λ (ds : List (List ℕ × Class)). l.passed ++ all_names ds) (list-below t.kind (declared_in t.kids) is ∙ all_declared-kids t)

pub consts-list : (k : Kind) → has class.Consts k ≡ true → part_list k ≡ true
consts-list kind.Consts is = refl
consts-list k is = cc

pub types-list : (k : Kind) → has class.Types k ≡ true → part_list k ≡ true
types-list kind.Types is = refl
types-list k is = cc

pub vars-list : (k : Kind) → has class.Vars k ≡ true → part_list k ≡ true
vars-list kind.Vars is = refl
vars-list k is = cc
