-- The definitions of constants and types: what they declare is carried, and what names mean behind them.
use Rattle.std.proofs.Common.{◌≡◌, ℕ, Bool, true, false, if◌then◌else◌, List, [], ◌∷◌, refl, sym, subst}
use Rattle.std.proofs.lemmas.Bool.{true≢false, false≢true}
use Rattle.std.specs.Prelude.{get_or}
use Rattle.pc_syntax.specs.declared.kind.Kind.{Kind}
use Rattle.pc_syntax.specs.declared.kind.Kind.TheVariants as kind
use Rattle.pc_syntax.specs.Plain.{Forest, Nil, Cons, Plain}
use Rattle.pc_syntax.specs.Sorts.{is_hole}
use Rattle.pc_syntax.specs.Words.{lowered}
use Rattle.pc_types.specs.Shapes.{Domain}
use Rattle.pc_scope.specs.Headings.{first_name}
use Rattle.pc_rules.specs.Attributes.{Marked, Node, nodes, missing}
use Rattle.pc_rules.specs.ClosedTypes.{own_domains}
use Rattle.pc_rules.specs.DeclaringNames.{declares}
use Rattle.pc_rules.specs.Decorated.{Seen, seen, rule, decorate}
use Rattle.pc_rules.specs.HandedOn.{all_defines}
use Rattle.pc_rules.specs.Meanings.{Meaning, Local, Outside, define_all}
use Rattle.pc_rules.specs.Places.{pass, inner, beside}
use Rattle.pc_environment.specs.Decorating.{attributes_at, place_behind}
use Rattle.pc_pointers.specs.Good.{Targets}
use Rattle.pc_closed.specs.Reached.{Covers}
use Rattle.pc_carrying.specs.Carrying.{CarriedPlace, KnownCarried, CarriedMarks, AllDenoting, is_defining, AllDefining}
use Rattle.pc_carrying.specs.Parts.{IsSound, AllSound}
use Rattle.pc_carrying.specs.KnownLaws.{own_types, sound-both, plain-sound, sound-carried, all-cover, append-defined, SameNames, same-defined}
use Rattle.pc_carrying.specs.LaterLaws.{StaysLater, inner-later, beside-later}
use Rattle.pc_carrying.specs.ConfinedLaws.{moved-place}
use Rattle.pc_carrying.specs.NodeLaws.{nodes-carried, kid-carried}
use Rattle.pc_carrying.specs.DenoterLaws.{same-place, marks-carried}

-- ---- one definition

passed-known : (l : Local) (n : List ℕ) → (pass l n).known ≡ l.known
passed-known l [] = refl
passed-known l (c ∷ cs) = refl

-- its first kid
inner-known : (l : Local) (k : Kind) (ks : Forest) → is_defining k ≡ true → (inner l k ks).known ≡ l.known
inner-known l kind.Constdef ks e = passed-known l (first_name ks)
inner-known l kind.Typedef ks e = passed-known l (first_name ks)
inner-known l (kind.Hole s) ks e = refl
inner-known l k ks e = absurd (false≢true e)

-- behind it what it declares is declared
beside-names : (l : Local) (k : Kind) (w : List ℕ) (s : Seen) (m : Marked) → is_defining k ≡ true → SameNames (beside l k (rule l k w s m)) (define_all l (rule l k w s m).defines)
unfolding rule
beside-names l kind.Constdef w s m e = record { known = refl; passed = refl }
beside-names l kind.Typedef w s m e = record { known = refl; passed = refl }
beside-names l (kind.Hole x) w s m e = record { known = refl; passed = refl }
beside-names l k w s m e = absurd (false≢true e)

declares-sound : (targets : Targets) (own : List Domain) (a : Node) (m : Meaning) → IsSound targets own m → AllSound targets own (declares a m)
declares-sound targets own a m h = by (is_hole a.kind) where
  by : (b : Bool) → AllSound targets own (if b then [] else (lowered a.word, m) ∷ [])
  by true = tt
  by false = (h, tt)

-- what it declares
rule-sound : (targets : Targets) (own : List Domain) (l : Local) (k : Kind) (w : List ℕ) (s : Seen) (m : Marked) → is_defining k ≡ true → CarriedMarks targets own m →
    AllSound targets own (rule l k w s m).defines
unfolding rule
rule-sound targets own l kind.Constdef w s m e g =
    let ns = nodes-carried targets own m g in
    declares-sound targets own (get_or (nodes m) 0 missing) _ (record { type = tt; value = (kid-carried targets own (nodes m) 1 ns).here.fixed; untyped = λ c. refl; unsigned = refl })
rule-sound targets own l kind.Typedef w s m e g =
    let ns = nodes-carried targets own m g in
    let denoter = kid-carried targets own (nodes m) 1 ns in
    sound-both targets own (declares (get_or (nodes m) 0 missing) _) (get_or (nodes m) 1 missing).defines (declares-sound targets own (get_or (nodes m) 0 missing) _ (record { type = denoter.here.type; value = tt; untyped = λ c. absurd (true≢false c); unsigned = refl }))
    (plain-sound targets own (get_or (nodes m) 1 missing).defines denoter.here.declared)
rule-sound targets own l (kind.Hole x) w s m e g = tt
rule-sound targets own l k w s m e g = absurd (false≢true e)

-- a definition where it stands
definition-sound : (targets : Targets) (own : List Domain) (out : Outside) (l : Local) (k : Kind) (w : List ℕ) (ks : Forest) → is_defining k ≡ true → AllDenoting ks → CarriedPlace targets own out l →
    AllSound targets own (rule l k w (seen out l k w) (decorate out (inner l k ks) ks)).defines
definition-sound targets own out l k w ks e a g =
    rule-sound targets own l k w (seen out l k w) (decorate out (inner l k ks) ks) e
    (marks-carried targets own out (inner l k ks) ks a (same-place targets own out l (inner l k ks) (inner-later l k ks) (inner-known l k ks e) g))

-- a place behind which declarations are known
known-place : (targets : Targets) (own : List Domain) (out : Outside) (l m : Local) (ds : List (List ℕ × Meaning)) → StaysLater l m → m.known ≡ (define_all l ds).known →
    Covers own (own_types (define_all l ds)) → AllSound targets own ds → CarriedPlace targets own out l → CarriedPlace targets own out m
known-place targets own out l m ds k q c h g =
    moved-place targets own out l m k (subst (KnownCarried targets own) (sym q) (sound-carried targets own l ds c h g.known)) g

covers-same : (own : List Domain) (l m : Local) → l.known ≡ m.known → Covers own (own_types l) → Covers own (own_types m)
covers-same own l m q c = subst (λ (ds : List (List ℕ × Meaning)). Covers own (own_domains ds)) q c

-- ---- definitions in a row

pub definitions-sound : (targets : Targets) (own : List Domain) (out : Outside) (l : Local) (f : Forest) → AllDefining f → Covers own (own_types (define_all l (all_defines (nodes (decorate out l f))))) →
    CarriedPlace targets own out l → AllSound targets own (all_defines (nodes (decorate out l f)))
unfolding decorate
definitions-sound targets own out l Nil a c g = tt
definitions-sound targets own out l (Cons k w ns ks ts) a c g =
    let m = decorate out (inner l k ks) ks in
    let r = rule l k w (seen out l k w) m in
    let next = beside l k r in
    let ds = all_defines (nodes (decorate out next ts)) in
    let both = subst (λ (x : Local). Covers own (own_types x)) (append-defined l r.defines ds) c in
    let first : Covers own (own_types (define_all l r.defines)) = λ o n e. both o n (all-cover (define_all l r.defines) ds o n e) in
    let names = beside-names l k w (seen out l k w) m a.0 in
    let here = definition-sound targets own out l k w ks a.0 a.1 g in
    let rest = covers-same own (define_all (define_all l r.defines) ds) (define_all next ds) (sym (same-defined next (define_all l r.defines) ds names).known) both in
    sound-both targets own r.defines ds here
    (definitions-sound targets own out next ts a.2 rest (known-place targets own out l next r.defines (beside-later l k r) names.known first here g))

-- ---- where they stand

-- a definition: its types are carried, and names behind it
pub definition-carried : (targets : Targets) (own : List Domain) (out : Outside) (l : Local) (t : Plain) → is_defining t.kind ≡ true → AllDenoting t.kids →
    Covers own (own_domains (place_behind out l t).known) → CarriedPlace targets own out l →
    AllSound targets own (attributes_at out l t).defines × CarriedPlace targets own out (place_behind out l t)
unfolding decorate
definition-carried targets own out l t e a c g =
    let m = decorate out (inner l t.kind t.kids) t.kids in
    let names = beside-names l t.kind t.word (seen out l t.kind t.word) m e in
    let ds = (attributes_at out l t).defines in
    let here = definition-sound targets own out l t.kind t.word t.kids e a g in
    (here, known-place targets own out l (place_behind out l t) ds (beside-later l t.kind (attributes_at out l t)) names.known (covers-same own (place_behind out l t) (define_all l ds) names.known c) here g)

-- a list of definitions
pub record IsCarriedPart (targets : Targets) (own : List Domain) (l : Local) (ds : List (List ℕ × Meaning)) : Type 0 where
  pub sound : AllSound targets own ds
  pub known : KnownCarried targets own (define_all l ds).known

-- whether a node is a list of constant or type definitions
abbrev pub is_part : Kind → Bool
is_part kind.Consts = true
is_part kind.Types = true
is_part _ = false

part-inner : (l : Local) (k : Kind) (ks : Forest) → is_part k ≡ true → SameNames (inner l k ks) l
part-inner l kind.Consts ks e = record { known = refl; passed = refl }
part-inner l kind.Types ks e = record { known = refl; passed = refl }
part-inner l k ks e = absurd (false≢true e)

part-defines : (l : Local) (k : Kind) (w : List ℕ) (s : Seen) (m : Marked) → is_part k ≡ true → (rule l k w s m).defines ≡ all_defines (nodes m)
unfolding rule
part-defines l kind.Consts w s m e = refl
part-defines l kind.Types w s m e = refl
part-defines l k w s m e = absurd (false≢true e)

pub part-carried : (targets : Targets) (own : List Domain) (out : Outside) (l : Local) (t : Plain) → is_part t.kind ≡ true → AllDefining t.kids →
    Covers own (own_domains (define_all l (attributes_at out l t).defines).known) → CarriedPlace targets own out l → IsCarriedPart targets own l (attributes_at out l t).defines
unfolding decorate
part-carried targets own out l t e a c g =
    let start = inner l t.kind t.kids in
    let m = decorate out start t.kids in
    let ds = all_defines (nodes m) in
    let is : (attributes_at out l t).defines ≡ ds = part-defines l t.kind t.word (seen out l t.kind t.word) m e in
    let names = part-inner l t.kind t.kids e in
    let cover = subst (λ (x : List (List ℕ × Meaning)). Covers own (own_types (define_all l x))) is c in
    let from = covers-same own (define_all l ds) (define_all start ds) (sym (same-defined start l ds names).known) cover in
    let sound = definitions-sound targets own out start t.kids a from (same-place targets own out l start (inner-later l t.kind t.kids) names.known g) in
    subst (IsCarriedPart targets own l) (sym is) (record { sound = sound; known = sound-carried targets own l ds cover sound g.known })
